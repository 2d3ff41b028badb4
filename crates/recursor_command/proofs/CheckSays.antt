-- What `check` says of a scenario that was read.
use Rattle.std.proofs.Common.{◌≡◌, ◌≤◌, ℕ, List, length, Some, None, Result, Ok, Err, inl, sym, ap, subst, ◌∙◌}
use Rattle.std.specs.Prelude.{IfOk}
use Rattle.text_lines.specs.Pieces.{pieces}
use Rattle.text_lines.proofs.StepsThatFail.{some_is}
use Rattle.zone_rules.specs.declared.world.World.{World}
use Rattle.script_upstream.specs.declared.script.script.Script.{Script}
use Rattle.recursor_text.specs.declared.scenario.Scenario.{Scenario}
use Rattle.recursor_text.specs.declared.scenario.Upstream.TheVariants.{Script as FromScript, World as FromWorld}
use Rattle.recursor_text.specs.Reading.{scenario_in}
use Rattle.recursor_text.proofs.WholeLaws.{found}
use Rattle.recursor_text.proofs.OnlyLaws.{one_reading}
use Rattle.recursor_command.specs.Checking.{HasFindings, IsNoWorld, TellsScript, first_told}
use Rattle.recursor_command.specs.Command.{HasOutput, IsUnchecked}
use Rattle.recursor_command.specs.declared.words.Command.TheVariants.{Check}
use Rattle.recursor_command.specs.declared.faults.Fault.TheVariants.{Line}
use Rattle.recursor_command.proofs.ScriptLines.{script_told}

not_both : (s t : Scenario) (script : Script) (w : World) → s ≡ t → s.upstream ≡ FromWorld w → t.upstream ≡ FromScript script → ⊥
not_both s t script w same world told = let moved = ap (λ (x : Scenario). x.upstream) same in absurd cc

no_world : (bytes : List ℕ) (s : Scenario) (script : Script) → scenario_in bytes ≡ Ok s → s.upstream ≡ FromScript script → IsNoWorld bytes
no_world bytes s script e is = λ t w reads world. not_both t s script w (one_reading bytes t s reads (found bytes s e)) world is

-- the line at which a script is told is its fault
pub script_fault : (bytes : List ℕ) (s : Scenario) (script : Script) (n : ℕ) → scenario_in bytes ≡ Ok s → s.upstream ≡ FromScript script → first_told 1 (pieces 10 bytes) ≡ Some n → IsUnchecked bytes (Line n)
script_fault bytes s script n e is at =
    let t = script_told bytes s script e is in
    (no_world bytes s script e is, inl (subst (TellsScript bytes) (some_is t.1 n (sym t.2 ∙ at)) t.3))

pub some_line : (bytes : List ℕ) (s : Scenario) (script : Script) → scenario_in bytes ≡ Ok s → s.upstream ≡ FromScript script → first_told 1 (pieces 10 bytes) ≡ None → ⊥
some_line bytes s script e is missing = let t = script_told bytes s script e is in let at = t.2 in absurd cc

pub short_script : (bytes : List ℕ) (s : Scenario) (script : Script) → scenario_in bytes ≡ Ok s → s.upstream ≡ FromScript script → length bytes ≤ 16777216
short_script bytes s script e is = (script_told bytes s script e is).0

-- what is told of the world of a scenario is the output
pub has_output : {E : Type 0} (bytes : List ℕ) (s : Scenario) {T : Type 0} (items : T → List ℕ) (result : Result T E) → scenario_in bytes ≡ Ok s → IfOk result (λ t. HasFindings s (items t)) → IfOk result (λ t. HasOutput Check bytes (items t))
has_output bytes s items (Ok t) e h = (s, found bytes s e, h)
has_output bytes s items (Err x) e h = tt
