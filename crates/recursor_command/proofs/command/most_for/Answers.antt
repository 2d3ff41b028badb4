use Rattle.std.proofs.Common.{rules}
use Rattle.recursor_command.proofs.command.most_for.Goals as goal

pub returns-in-Resolve : goal.returns-in-Resolve
returns-in-Resolve c = search rules
