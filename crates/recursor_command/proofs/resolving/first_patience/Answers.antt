use Rattle.std.proofs.Common.{refl}
use Rattle.recursor_command.proofs.resolving.first_patience.Goals as goal

pub returns-clause-same : goal.returns-clause-same
returns-clause-same c = refl
