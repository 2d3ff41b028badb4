use Rattle.std.proofs.Common.{rules}
use Rattle.recursor_command.proofs.checking.earlier_fault.Goals as goal

pub returns-in-Some : goal.returns-in-Some
returns-in-Some c = search rules
