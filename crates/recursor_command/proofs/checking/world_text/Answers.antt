use Rattle.std.proofs.Common.{rules}
use Rattle.recursor_command.proofs.checking.world_text.Goals as goal

pub returns-in-Ok-clause-ok : goal.returns-in-Ok-clause-ok
returns-in-Ok-clause-ok c = search rules
