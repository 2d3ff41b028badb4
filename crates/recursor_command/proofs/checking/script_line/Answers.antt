use Rattle.std.proofs.Common.{◌≡◌, ◌+◌, ℕ, subst, Bool, true, cond, List, Some, sym, ap, ◌∙◌}
use Rattle.std.specs.Prelude.{codes}
use Rattle.std.specs.Str.{bytes_eq}
use Rattle.text_lines.specs.Pieces.{pieces}
use Rattle.recursor_command.specs.Checking.{first_told}
use Rattle.recursor_command.proofs.Scripts.{told_step}
use Rattle.recursor_command.proofs.checking.script_line.Goals as goal

pub returns-then-eq : goal.returns-then-eq
returns-then-eq c =
    let n = c.lines.number in
    let line = c.cut.result.0.now in
    let cut = rw c.in-Some.is at c.cut.ensures.parts in
    let test = c.eq.ensures in
    let is_test = c.if-eq.true in
    let value = c.as_slice.ensures in
    let yes : bytes_eq line (codes "told script") ≡ true = subst (λ (w : List ℕ). bytes_eq line w ≡ true) value (sym test ∙ is_test) in
    let step = ap (first_told n) cut ∙ told_step n line c.in-Some.after.now ∙ ap (λ (b : Bool). cond b (Some n) (first_told (n + 1) (pieces 10 c.in-Some.after.now))) yes in
    sym step ∙ c.lines.invariant.so_far
