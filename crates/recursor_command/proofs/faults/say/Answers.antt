use Rattle.std.proofs.Common.{rules}
use Rattle.recursor_command.proofs.faults.say.Goals as goal

pub returns-in-Err : goal.returns-in-Err
returns-in-Err g c = search rules
