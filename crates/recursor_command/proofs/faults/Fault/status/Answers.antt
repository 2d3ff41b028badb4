use Rattle.std.proofs.Common.{rules}
use Rattle.recursor_command.proofs.faults.Fault.status.Goals as goal

pub returns-in-Memory : goal.returns-in-Memory
returns-in-Memory c = search rules
