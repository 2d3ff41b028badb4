-- Rests of a message.
use Rattle.std.proofs.Common.{◌≡◌, ℕ, ◌+◌, ◌-◌, ◌≤◌, List, ◌++◌, length, drop, refl, sym, ap, ◌∙◌, arith, length-append, length-drop, drop_at}
use Rattle.std.proofs.lemmas.List.{drop-drop}
use Rattle.wire_names.specs.Kept.{IsRest}

pub rest_few : (message bytes : List ℕ) → IsRest message bytes → length bytes ≤ length message
rest_few message bytes is = omega (arith, length-drop (length message - length bytes) message, ap length is)

-- what stands behind a front of a rest is a rest
pub rest_on : (message bytes front rest : List ℕ) → IsRest message bytes → bytes ≡ front ++ rest → IsRest message rest
rest_on message bytes front rest is parts =
    let place = length message - length bytes in
    let whole : length bytes ≡ length front + length rest = ap length parts ∙ length-append front rest in
    let far : place + length front ≡ length message - length rest = omega (arith, rest_few message bytes is, whole) in
    let behind : drop (length front) bytes ≡ rest = ap (drop (length front)) parts ∙ drop_at front rest (length front) refl in
    sym behind ∙ ap (drop (length front)) is ∙ drop-drop (length front) place message ∙ ap (λ (k : ℕ). drop k message) far
