-- What follows a front of bytes.
use Rattle.std.proofs.Common.{◌≡◌, ℕ, ◌+◌, List, ◌++◌, length, drop, refl, sym, ap, subst, ◌∙◌, arith, append_assoc, length-append, drop_at}
use Rattle.wire_names.specs.Kept.{IsRest}
use Rattle.wire_names.proofs.Rests.{rest_on}
use Rattle.wire_names.proofs.RunLaws.{IsBytes, IsBytes-drop}

-- the rest follows a front of these bytes
pub record Follows (bytes rest : List ℕ) : Type 0 where
  pub front : List ℕ
  pub parts : bytes ≡ front ++ rest

pub following : (front rest : List ℕ) → Follows (front ++ rest) rest
following front rest = record { front = front; parts = refl }

pub further : (bytes after rest : List ℕ) → Follows bytes after → Follows after rest → Follows bytes rest
further bytes after rest first second =
    record { front = first.front ++ second.front; parts = first.parts ∙ ap (λ (b : List ℕ). first.front ++ b) second.parts ∙ sym (append_assoc first.front second.front rest) }

pub rest_after : (message bytes rest : List ℕ) → IsRest message bytes → Follows bytes rest → IsRest message rest
rest_after message bytes rest is follows = rest_on message bytes follows.front rest is follows.parts

pub bytes_after : (bytes rest : List ℕ) → IsBytes bytes → Follows bytes rest → IsBytes rest
bytes_after bytes rest fits follows =
    let behind : drop (length follows.front) bytes ≡ rest = ap (drop (length follows.front)) follows.parts ∙ drop_at follows.front rest (length follows.front) refl in
    subst IsBytes behind (IsBytes-drop (length follows.front) bytes fits)

-- of two parts as long as each other the same stands in front
pub same_rest : (bytes one other : List ℕ) → Follows bytes one → Follows bytes other → length one ≡ length other → one ≡ other
same_rest bytes one other f g same =
    let fronts : length f.front ≡ length g.front = omega (arith, ap length f.parts, ap length g.parts, length-append f.front one, length-append g.front other, same) in
    sym (drop_at f.front one (length f.front) refl) ∙ ap (drop (length f.front)) (sym f.parts ∙ g.parts) ∙ drop_at g.front other (length f.front) (sym fronts)
