use Rattle.std.proofs.Common.{rules}
use Rattle.recursor_command.proofs.faults.fault_of.Goals as goal

pub returns-in-Line : goal.returns-in-Line
returns-in-Line c = search rules
