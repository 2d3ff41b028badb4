-- A list in which one place is set.
use Rattle.recursor_core.proofs.MachineWords.{◌≡◌, ◌≢◌, ◌<◌, ◌∙◌, ℕ, zero, suc, List, [], ◌∷◌, length, slice_get, get_or, Option, Some, IsSome, refl, ap, arith, set, Box, Resolution, kept_in, slice_get_read}

-- what is set at a place stands there
pub slice_get-set_same : {X : Type 0} (xs : List X) (i : ℕ) (x : X) → i < length xs → slice_get (set xs i x) i ≡ Some x
slice_get-set_same [] i x h = absurd (omega arith)
slice_get-set_same (y ∷ xs) zero x h = refl
slice_get-set_same (y ∷ xs) (suc i) x h = slice_get-set_same xs i x (omega arith)

-- and the other places stay
pub slice_get-set_other : {X : Type 0} (xs : List X) (i k : ℕ) (x : X) → k ≢ i → slice_get (set xs i x) k ≡ slice_get xs k
slice_get-set_other [] i k x h = refl
slice_get-set_other (y ∷ xs) zero zero x h = absurd (h refl)
slice_get-set_other (y ∷ xs) zero (suc k) x h = refl
slice_get-set_other (y ∷ xs) (suc i) zero x h = refl
slice_get-set_other (y ∷ xs) (suc i) (suc k) x h = slice_get-set_other xs i k x (λ e. h (ap suc e))

-- where a resolution is kept there is a place
pub kept_within : (xs : List (Option (Box Resolution))) (i : ℕ) → IsSome (kept_in (slice_get xs i)) → i < length xs
kept_within [] i h = cc
kept_within (x ∷ xs) zero h = omega arith
kept_within (x ∷ xs) (suc i) h = omega (arith, kept_within xs i h)

-- and what was read there is what is kept
pub kept_at : (xs : List (Option (Box Resolution))) (i : ℕ) (f : Option (Box Resolution)) (b : Box Resolution) → IsSome (kept_in (slice_get xs i))
    → f ≡ get_or xs i f → f ≡ Some b → slice_get xs i ≡ Some (Some b)
kept_at xs i f b h at is = slice_get_read xs (length xs) i f refl (kept_within xs i h) at ∙ ap Some is
