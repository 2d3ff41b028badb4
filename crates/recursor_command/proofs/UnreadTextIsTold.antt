-- What a text that is not read is told as.
use Rattle.std.proofs.Common.{◌≡◌, ◌≤◌, ℕ, true, false, ltb, List, length, Option, Some, None, Ok, Err, inl, inr, refl, sym, subst, ◌∙◌, arith}
use Rattle.std.proofs.lemmas.Bool.{cases_Bool, ltb-true, ltb-false}
use Rattle.recursor_text.specs.declared.scenario.Cause.{Cause}
use Rattle.recursor_text.specs.declared.scenario.Scenario.{Scenario}
use Rattle.recursor_text.specs.declared.scenario.ScenarioError.{ScenarioError}
use Rattle.recursor_text.specs.Faults.{HasFault}
use Rattle.recursor_text.specs.Reading.{FailsBy, GivesScenario, scenario_in}
use Rattle.recursor_text.proofs.ExactLaws.{line_in}
use Rattle.recursor_text.proofs.OnlyLaws.{only_in}
use Rattle.recursor_command.specs.Faults.{fault_by, fault_of}
use Rattle.recursor_command.specs.Command.{IsUnread, IsUnchecked}
use Rattle.recursor_command.specs.Checking.{IsNoWorld, TellsNoScript, first_told, is_at_line, earlier_fault}
use Rattle.recursor_command.specs.declared.faults.Fault.{Fault}
use Rattle.recursor_command.specs.declared.faults.Fault.TheVariants.{Words, Line, NotBuilt, Wire, LongMessage, Read, Memory}
use Rattle.text_lines.specs.Pieces.{pieces}
use Rattle.text_lines.proofs.StepsThatFail.{some_is}
use Rattle.recursor_command.proofs.Scripts.{Stood, first_bad, trailing, cut_off, tells, tells_none}
use Rattle.recursor_text.specs.declared.scenario.Cause.TheVariants as cause

fits_by : (bytes : List ℕ) (n : ℕ) (why : Cause) → HasFault bytes n why → FailsBy (record { line = n; cause = why }) why (scenario_in bytes) → IsUnread bytes (fault_by why n)
fits_by bytes n cause.Line h g = inl (h, g)
fits_by bytes n cause.NotBuilt h g = (h, g)
fits_by bytes n cause.Cut h g = inr (inl h)
fits_by bytes n cause.Long h g = inr (inr h)
fits_by bytes n cause.NoMemory h g = tt

-- how a fault is told says what it is
pub fault_fits : (bytes : List ℕ) (e : ScenarioError) → HasFault bytes e.line e.cause → GivesScenario (Err e) (scenario_in bytes) → IsUnread bytes (fault_of e)
fault_fits bytes e h g = fits_by bytes e.line e.cause h g

-- ---- a text that `check` refuses

-- the text fails at its error's line, and is not too long
abbrev pub FailsAt : List ℕ → ScenarioError → Type 0
FailsAt bytes e = (length bytes ≤ 16777216) × Stood bytes e.line × IsUnread bytes (fault_of e) × IsNoWorld bytes

unread : (bytes : List ℕ) (e : ScenarioError) → GivesScenario (Err e) (scenario_in bytes) → IsUnread bytes (fault_of e)
unread bytes e g = fault_fits bytes e (line_in bytes (Err e) g) g

no_reading : (c : Cause) (s : Scenario) (e : ScenarioError) → is_at_line c ≡ true → FailsBy e c (Ok s) → ⊥
no_reading cause.Line s e is g = absurd cc
no_reading cause.Cut s e is g = absurd cc
no_reading cause.NotBuilt s e is g = absurd cc
no_reading cause.Long s e is g = absurd cc
no_reading cause.NoMemory s e is g = absurd cc

no_world : (bytes : List ℕ) (e : ScenarioError) → is_at_line e.cause ≡ true → GivesScenario (Err e) (scenario_in bytes) → IsNoWorld bytes
no_world bytes e is g = λ s w reads told. no_reading e.cause s e is (only_in bytes s (Err e) reads g)

stood_by : (bytes : List ℕ) (line : ℕ) (c : Cause) → is_at_line c ≡ true → HasFault bytes line c → (length bytes ≤ 16777216) × Stood bytes line
stood_by bytes line cause.Line is f = (f.0, elim f.1 [ inl bad ↦ first_bad bytes line bad | inr rest ↦ trailing bytes line rest ])
stood_by bytes line cause.NotBuilt is f = (f.0, first_bad bytes line f.1)
stood_by bytes line cause.Cut is f = (f.0, cut_off bytes line f.1)
stood_by bytes line cause.Long is f = absurd cc
stood_by bytes line cause.NoMemory is f = absurd cc

pub fails_at_line : (bytes : List ℕ) (e : ScenarioError) → is_at_line e.cause ≡ true → GivesScenario (Err e) (scenario_in bytes) → FailsAt bytes e
fails_at_line bytes e is g =
    let s = stood_by bytes e.line e.cause is (line_in bytes (Err e) g) in
    (s.0, s.1, unread bytes e g, no_world bytes e is g)

-- a text that tells no script is refused as reading refuses it
refused : (bytes : List ℕ) (fault : Fault) → IsUnread bytes fault → IsNoWorld bytes → TellsNoScript bytes → IsUnchecked bytes fault
refused bytes Words u w t = u
refused bytes (Line n) u w t = (w, inr (t, u))
refused bytes (NotBuilt n) u w t = (w, t, u)
refused bytes (Wire error) u w t = u
refused bytes LongMessage u w t = u
refused bytes Read u w t = u
refused bytes Memory u w t = tt

by_first : (bytes : List ℕ) (e : ScenarioError) → FailsAt bytes e → (first : Option ℕ) → first_told 1 (pieces 10 bytes) ≡ first → IsUnchecked bytes (earlier_fault first e)
by_first bytes e f None is = refused bytes (fault_of e) f.2 f.3 (tells_none bytes e.line f.1 (λ m at. absurd (let none : None ≡ Some m = sym is ∙ at in cc)))
by_first bytes e f (Some n) is = elim (cases_Bool (ltb n e.line)) [
  | inl before ↦
      let told : earlier_fault (Some n) e ≡ Line n = rw before refl in
      subst (IsUnchecked bytes) (sym told) (f.3, inl (tells bytes e.line n f.0 f.1 is (ltb-true _ _ before)))
  | inr behind ↦
      let told : earlier_fault (Some n) e ≡ fault_of e = rw behind refl in
      subst (IsUnchecked bytes) (sym told) (refused bytes (fault_of e) f.2 f.3 (tells_none bytes e.line f.1 (λ m at. subst (λ (k : ℕ). e.line ≤ k) (some_is n m (sym is ∙ at)) (ltb-false _ _ behind))))
]

pub fails_early : (bytes : List ℕ) (e : ScenarioError) → is_at_line e.cause ≡ true → GivesScenario (Err e) (scenario_in bytes) → IsUnchecked bytes (earlier_fault (first_told 1 (pieces 10 bytes)) e)
fails_early bytes e is g = by_first bytes e (fails_at_line bytes e is g) (first_told 1 (pieces 10 bytes)) refl

pub too_long : (bytes : List ℕ) (line : ℕ) → HasFault bytes line cause.Long → IsUnchecked bytes (Line line)
too_long bytes line f =
    let long = f.0 in
    refused bytes (Line line) (inr (inr f)) (λ s w r told. let short = r.short in absurd (omega (arith, long, short))) (λ m t. let short = t.short in absurd (omega (arith, long, short)))

by_length : (bytes : List ℕ) (line : ℕ) (c : Cause) → is_at_line c ≡ false → HasFault bytes line c → IsUnchecked bytes (fault_by c line)
by_length bytes line cause.Line is f = absurd cc
by_length bytes line cause.Cut is f = absurd cc
by_length bytes line cause.NotBuilt is f = absurd cc
by_length bytes line cause.Long is f = too_long bytes line f
by_length bytes line cause.NoMemory is f = tt

pub fails_elsewhere : (bytes : List ℕ) (e : ScenarioError) → is_at_line e.cause ≡ false → GivesScenario (Err e) (scenario_in bytes) → IsUnchecked bytes (fault_of e)
fails_elsewhere bytes e is g = by_length bytes e.line e.cause is (line_in bytes (Err e) g)
