-- Where a text is no scenario, and why.
use Rattle.std.specs.Prelude.{◌≡◌, ℕ, ◌+◌, ◌<◌, ◌≤◌, ◌⊎◌, List, [], ◌∷◌, ◌++◌, length}
use Rattle.text_lines.specs.declared.lines.option_form.OptionLine.{OptionLine}
use Rattle.recursor_text.specs.declared.scenario.Scenario.{Scenario}
use Rattle.recursor_text.specs.declared.scenario.Cause.{Cause}
use Rattle.recursor_text.specs.declared.scenario.Cause.TheVariants as cause
use Rattle.text_lines.specs.Pieces.{pieces}
use Rattle.recursor_text.specs.Spelling.{scenario_lines, IsScenario}

-- Some scenario begins with these lines.
abbrev pub CanStand : List (List ℕ) → Type 0
CanStand lines = (written : List OptionLine) × (s : Scenario) × (more : List (List ℕ)) × IsScenario written s × (scenario_lines written s ≡ lines ++ more)

-- These lines are a scenario.
abbrev pub IsWhole : List (List ℕ) → Type 0
IsWhole lines = (written : List OptionLine) × (s : Scenario) × IsScenario written s × (scenario_lines written s ≡ lines)

-- The whole line of this number cannot stand where it stands, and all before it can.
pub record IsFirstBad (bytes : List ℕ) (number : ℕ) : Type 0 where
  pub before : List (List ℕ)
  pub line : List ℕ
  pub next : List ℕ
  pub more : List (List ℕ)
  pub cut : pieces 10 bytes ≡ before ++ line ∷ next ∷ more
  pub place : number ≡ length before + 1
  pub stands : CanStand before
  pub fails : CanStand (before ++ line ∷ []) → ⊥

-- Bytes without a line feed stand at the end, after lines that are a scenario.
pub record IsTrailing (bytes : List ℕ) (number : ℕ) : Type 0 where
  pub before : List (List ℕ)
  pub rest : List ℕ
  pub cut : pieces 10 bytes ≡ before ++ rest ∷ []
  pub place : number ≡ length before + 1
  pub ended : IsWhole before
  pub some : rest ≡ [] → ⊥

-- All lines can stand, and are no scenario yet.
pub record IsCut (bytes : List ℕ) (number : ℕ) : Type 0 where
  pub before : List (List ℕ)
  pub rest : List ℕ
  pub cut : pieces 10 bytes ≡ before ++ rest ∷ []
  pub place : number ≡ length before + 1
  pub stands : CanStand before
  pub open_end : IsWhole before → ⊥

-- what is wrong in a text at a line
abbrev pub FaultIn : List ℕ → ℕ → Cause → Type 0
FaultIn bytes line cause.Line = IsFirstBad bytes line ⊎ IsTrailing bytes line
FaultIn bytes line cause.NotBuilt = IsFirstBad bytes line
FaultIn bytes line cause.Cut = IsCut bytes line
FaultIn bytes line cause.Long = (16777216 < length bytes) × (line ≡ 0)
FaultIn bytes line cause.NoMemory = Unit {0}

-- why a text is no scenario, and where: its length comes first
abbrev pub HasFault : List ℕ → ℕ → Cause → Type 0
HasFault bytes line cause.Line = (length bytes ≤ 16777216) × FaultIn bytes line cause.Line
HasFault bytes line cause.NotBuilt = (length bytes ≤ 16777216) × FaultIn bytes line cause.NotBuilt
HasFault bytes line cause.Cut = (length bytes ≤ 16777216) × FaultIn bytes line cause.Cut
HasFault bytes line cause.Long = FaultIn bytes line cause.Long
HasFault bytes line cause.NoMemory = Unit {0}
