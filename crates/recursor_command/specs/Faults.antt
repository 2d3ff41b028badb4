-- Faults, their texts, and the statuses with which they end a run.
use Rattle.std.specs.Prelude.{ℕ, List, ◌++◌, codes, decimal}
use Rattle.decode_text.specs.Errors.{error_line}
use Rattle.wire_names.specs.declared.errors.WireError.{WireError}
use Rattle.wire_names.specs.declared.errors.WireError.TheVariants as wire
use Rattle.recursor_text.specs.declared.scenario.Cause.{Cause}
use Rattle.recursor_text.specs.declared.scenario.ScenarioError.{ScenarioError}
use Rattle.recursor_command.specs.declared.faults.Fault.{Fault}
use Rattle.recursor_command.specs.declared.faults.Fault.TheVariants.{Words, Line, NotBuilt, Wire, LongMessage, Read, Memory}
use Rattle.recursor_command.specs.declared.status.Status.{Status}
use Rattle.recursor_text.specs.declared.scenario.Cause.TheVariants as cause
use Rattle.recursor_command.specs.declared.status.Status.TheVariants as status

abbrev pub fault_text : Fault → List ℕ
fault_text Words = codes "error words\n"
fault_text (Line n) = codes "error line " ++ decimal n ++ codes "\n"
fault_text (NotBuilt n) = codes "error line " ++ decimal n ++ codes " not built\n"
fault_text (Wire error) = error_line error
fault_text LongMessage = codes "error wire Long\n"
fault_text Read = codes "error read\n"
fault_text Memory = codes "error memory\n"

-- the status of a run that it ends
abbrev pub status_of : Fault → Status
status_of Words = status.BadWords
status_of (Line n) = status.BadScenario
status_of (NotBuilt n) = status.BadScenario
status_of (Wire error) = status.BadScenario
status_of LongMessage = status.BadScenario
status_of Read = status.ReadFault
status_of Memory = status.NoMemory

-- how the fault of a text is told
abbrev pub fault_by : Cause → ℕ → Fault
fault_by cause.Line n = Line n
fault_by cause.Cut n = Line n
fault_by cause.Long n = Line n
fault_by cause.NotBuilt n = NotBuilt n
fault_by cause.NoMemory n = Memory

abbrev pub fault_of : ScenarioError → Fault
fault_of e = fault_by e.cause e.line

-- how the error of a message is told
abbrev pub wire_fault : WireError → Fault
wire_fault wire.Short = Wire wire.Short
wire_fault wire.BadLabel = Wire wire.BadLabel
wire_fault wire.BadPointer = Wire wire.BadPointer
wire_fault wire.BadByte = Wire wire.BadByte
wire_fault wire.LongName = Wire wire.LongName
wire_fault wire.BadData = Wire wire.BadData
wire_fault wire.BadOpt = Wire wire.BadOpt
wire_fault wire.Trailing = Wire wire.Trailing
wire_fault wire.NoMemory = Memory
