-- A question that is answered is under way no more.
use Rattle.recursor_core.proofs.MachineWords.{◌≡◌, ◌<◌, ℕ, zero, suc, List, [], ◌∷◌, length, get_or, Some, arith, ap, slice_get, Box, set, sum_by-set, open_play, open_plays, Reply, QuestionState}
use Rattle.recursor_core.specs.declared.machine.plays.QuestionState.TheVariants as played

-- what a list has at a place is read there
found : (xs : List QuestionState) (q : ℕ) (p d : QuestionState) → slice_get xs q ≡ Some p → get_or xs q d ≡ p
found [] q p d h = cc
found (x ∷ xs) zero p d h = cc
found (x ∷ xs) (suc q) p d h = found xs q p d h

-- a place that has something is in the list
within : (xs : List QuestionState) (q : ℕ) (p : QuestionState) → slice_get xs q ≡ Some p → q < length xs
within [] q p h = cc
within (x ∷ xs) zero p h = omega arith
within (x ∷ xs) (suc q) p h = let inner = within xs q p h in omega arith

-- where a question that is under way is answered, one fewer is under way
pub answered_falls : (xs : List QuestionState) (q r : ℕ) (reply : Box Reply) → slice_get xs q ≡ Some (played.Begun r)
    → open_plays (set xs q (played.Answered reply)) < open_plays xs
answered_falls xs q r reply h =
    let was = found xs q (played.Begun r) (played.Begun r) h in
    let moved = sum_by-set open_play xs q (played.Answered reply) (played.Begun r) (within xs q _ h) in
    let one = ap open_play was in
    omega (arith, moved, one)

-- so it is where it stays without an answer
pub unanswered_falls : (xs : List QuestionState) (q r : ℕ) → slice_get xs q ≡ Some (played.Begun r)
    → open_plays (set xs q played.Unanswered) < open_plays xs
unanswered_falls xs q r h =
    let was = found xs q (played.Begun r) (played.Begun r) h in
    let moved = sum_by-set open_play xs q played.Unanswered (played.Begun r) (within xs q _ h) in
    let one = ap open_play was in
    omega (arith, moved, one)
