-- The status of a run, and how it follows from what was written.
use Rattle.std.specs.Prelude.{◌≡◌, ◌≢◌, ℕ, List}
use Rattle.std.specs.declared.option.Option.{Option}
use Rattle.std.specs.Io.KnownBytes.{Appends}
use Rattle.dns_core.specs.Faults.{Rose}
use Rattle.dns_core.specs.WholeStreams.{AppendsPart}
use Rattle.recursor_command.specs.declared.status.Status.{Status}
use Rattle.recursor_command.specs.declared.status.Status.TheVariants.{Done, BadWords, BadScenario, ReadFault, WriteFault, NoMemory}

-- the number with which the program exits
abbrev pub code_of : Status → ℕ
code_of Done = 0
code_of BadWords = 2
code_of BadScenario = 3
code_of ReadFault = 4
code_of WriteFault = 5
code_of NoMemory = 6

-- The text was written and the status is the wanted one, or a front of it was written and the sink
-- failed.
pub record Wrote (result wanted : Status) (old new : Option (List ℕ)) (before now : ℕ) (text : List ℕ) : Type 0 where
  pub whole : result ≢ WriteFault → (result ≡ wanted) × Appends old new text
  pub part : result ≡ WriteFault → Rose before now × AppendsPart old new text
