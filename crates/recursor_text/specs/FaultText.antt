-- What the fault of a text that is no scenario is told as.
use Rattle.std.specs.Prelude.{ℕ, List, ◌++◌, codes, decimal}
use Rattle.recursor_text.specs.declared.scenario.Cause.{Cause}
use Rattle.recursor_text.specs.declared.scenario.Cause.TheVariants.{Line, NotBuilt, Cut, Long, NoMemory}
use Rattle.recursor_text.specs.declared.scenario.ScenarioError.{ScenarioError}

abbrev pub cause_text : Cause → List ℕ
cause_text Line = codes "the line cannot stand there"
cause_text NotBuilt = codes "the line is of a form that is not built yet"
cause_text Cut = codes "the text ends before its end line"
cause_text Long = codes "the text has more than 16,777,216 bytes"
cause_text NoMemory = codes "out of memory"

-- the line, and what is wrong with it
abbrev pub scenario_error_text : ScenarioError → List ℕ
scenario_error_text e = codes "line " ++ decimal e.line ++ codes ": " ++ cause_text e.cause
