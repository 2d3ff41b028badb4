-- A whole text, line by line, with the first fault.
use Rattle.std.specs.Prelude.{◌≡◌, ℕ, ◌+◌, List, [], ◌∷◌, length, nat_lt, ◌==◌, Option, Some, None, Result, Ok, Err, if◌then◌else◌}
use Rattle.text_lines.specs.Pieces.{pieces}
use Rattle.recursor_text.specs.declared.scenario.Scenario.{Scenario}
use Rattle.recursor_text.specs.declared.scenario.Cause.{Cause}
use Rattle.recursor_text.specs.declared.scenario.Cause.TheVariants as cause
use Rattle.recursor_text.specs.declared.scenario.ScenarioError.{ScenarioError}
use Rattle.recursor_text.specs.declared.reading.whole.WholeDraft.{WholeDraft}
use Rattle.recursor_text.specs.declared.reading.draft.Refusal.{Refusal}
use Rattle.recursor_text.specs.declared.reading.draft.Refusal.TheVariants.{Bad, NotBuilt}
use Rattle.recursor_text.specs.Steps.{is_ended}
use Rattle.recursor_text.specs.Whole.{start, taken, scenario_of, refusal_of}

abbrev pub fails_at : ℕ → Cause → Result Scenario ScenarioError
fails_at line why = Err (record { line = line; cause = why })

-- how a refused line is told
abbrev pub cause_of : Refusal → Cause
cause_of Bad = cause.Line
cause_of NotBuilt = cause.NotBuilt

abbrev pub step_by : Option WholeDraft → Refusal → Result WholeDraft Refusal
step_by (Some e) why = Ok e
step_by None why = Err why

-- what a draft becomes by a line, or why the line is refused
abbrev pub step : WholeDraft → List ℕ → Result WholeDraft Refusal
step d line = step_by (taken d line) (refusal_of d line)

abbrev pub finish : WholeDraft → ℕ → List ℕ → Result Scenario ScenarioError
finish d line rest =
    if is_ended d.draft.stage then (if length rest == 0 then Ok (scenario_of d) else fails_at line cause.Line) else fails_at line cause.Cut

-- where line n was taken, the reading goes on
abbrev pub onward : ℕ → Result WholeDraft Refusal → (WholeDraft → Result Scenario ScenarioError) → Result Scenario ScenarioError
onward n (Err why) next = fails_at n (cause_of why)
onward n (Ok e) next = next e

-- the lines from number n on; what follows the last line feed stands last
unfoldable pub read_from : WholeDraft → ℕ → List (List ℕ) → Result Scenario ScenarioError
read_from d n [] = finish d n []
read_from d n (line ∷ []) = finish d n line
read_from d n (line ∷ next ∷ more) = onward n (step d line) (λ e. read_from e (n + 1) (next ∷ more))

abbrev pub scenario_in : List ℕ → Result Scenario ScenarioError
scenario_in bytes = if nat_lt 16777216 (length bytes) then fails_at 0 cause.Long else read_from start 1 (pieces 10 bytes)

abbrev pub FailsBy : ScenarioError → Cause → Result Scenario ScenarioError → Type 0
FailsBy e cause.NoMemory read = Unit {0}
FailsBy e _ read = read ≡ Err e

-- What was returned is what reading gives, unless memory ran out.
abbrev pub GivesScenario : Result Scenario ScenarioError → Result Scenario ScenarioError → Type 0
GivesScenario (Ok x) read = read ≡ Ok x
GivesScenario (Err e) read = FailsBy e e.cause read
