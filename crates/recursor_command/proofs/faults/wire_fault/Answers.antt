use Rattle.recursor_command.proofs.DecodeSays.{wire_told}
use Rattle.recursor_command.proofs.faults.wire_fault.Goals as goal

pub returns-in_default : goal.returns-in_default
returns-in_default c = wire_told c.args.error c.in_default.not-NoMemory
