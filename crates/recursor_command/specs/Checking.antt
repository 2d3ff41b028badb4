-- What `check` tells of a scenario, and the line at which it refuses a script.
use Rattle.std.specs.Prelude.{◌≡◌, ◌≤◌, ◌+◌, ℕ, nat_lt, Bool, true, false, Contains, Option, Some, None, List, [], ◌∷◌, ◌++◌, length, codes, if◌then◌else◌}
use Rattle.std.specs.Str.{bytes_eq}
use Rattle.text_lines.specs.Pieces.{pieces}
use Rattle.text_lines.specs.Spelling.{spelled}
use Rattle.text_lines.specs.LineSpelling.{told_words}
use Rattle.zone_rules.specs.declared.world.World.{World}
use Rattle.recursor_text.specs.declared.scenario.Cause.{Cause}
use Rattle.recursor_text.specs.declared.scenario.Scenario.{Scenario}
use Rattle.recursor_text.specs.declared.scenario.ScenarioError.{ScenarioError}
use Rattle.recursor_text.specs.Spelling.{Reads}
use Rattle.recursor_text.specs.Faults.{CanStand}
use Rattle.transcript_printer.specs.Checking.{Tells as TellsOf}
use Rattle.recursor_command.specs.Faults.{fault_of}
use Rattle.recursor_command.specs.declared.faults.Fault.{Fault}
use Rattle.recursor_command.specs.declared.faults.Fault.TheVariants.{Line}
use Rattle.recursor_text.specs.declared.scenario.Cause.TheVariants as cause
use Rattle.recursor_text.specs.declared.scenario.Upstream.TheVariants as upstream

-- the scenario is over a world, and the text tells of it whether it is well served and which questions are valid
abbrev pub HasFindings : Scenario → List ℕ → Type 0
HasFindings s text = (w : World) × (s.upstream ≡ upstream.World w) × TellsOf w s.roots s.options s.patience s.questions text

-- no scenario over a world is spelled so
abbrev pub IsNoWorld : List ℕ → Type 0
IsNoWorld bytes = (s : Scenario) (w : World) → Reads bytes s → s.upstream ≡ upstream.World w → ⊥

-- The whole line of this number says that a script is told, the first that does; some scenario begins with it and all before it.
pub record TellsScript (bytes : List ℕ) (number : ℕ) : Type 0 where
  pub short : length bytes ≤ 16777216
  pub before : List (List ℕ)
  pub next : List ℕ
  pub more : List (List ℕ)
  pub cut : pieces 10 bytes ≡ before ++ spelled told_words ∷ next ∷ more
  pub place : number ≡ length before + 1
  pub stands : CanStand (before ++ spelled told_words ∷ [])
  pub first : Contains before (spelled told_words) → ⊥

-- no line does where it can stand
abbrev pub TellsNoScript : List ℕ → Type 0
TellsNoScript bytes = (number : ℕ) → TellsScript bytes number → ⊥

-- the number of the first of these lines, counted from this one, that says that a script is told; what follows the last line feed is no line
abbrev pub first_told : ℕ → List (List ℕ) → Option ℕ
first_told n [] = None
first_told n (rest ∷ []) = None
first_told n (line ∷ next ∷ more) = if bytes_eq line (codes "told script") then Some n else first_told (n + 1) (next ∷ more)

-- whether a text fails at one of its lines
abbrev pub is_at_line : Cause → Bool
is_at_line cause.Line = true
is_at_line cause.Cut = true
is_at_line cause.NotBuilt = true
is_at_line cause.Long = false
is_at_line cause.NoMemory = false

-- the fault of a text that fails so, where the first line that says that a script is told has this number
abbrev pub earlier_fault : Option ℕ → ScenarioError → Fault
earlier_fault None e = fault_of e
earlier_fault (Some n) e = if nat_lt n e.line then Line n else fault_of e
