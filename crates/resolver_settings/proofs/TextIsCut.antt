-- A text cut at the first byte that passes a test.
use Rattle.std.proofs.Common.{◌≡◌, ℕ, suc, ◌+◌, ◌-◌, ◌≤◌, Bool, true, false, cond, not, List, [], ◌∷◌, length, take, drop, Some, None, refl, sym, ap, subst, ◌∙◌, arith, ltb}
use Rattle.std.specs.Prelude.{position}
use Rattle.std.specs.List.{slice_split, onto_first, position_or_len}
use Rattle.std.proofs.lemmas.List.Splits.{slice_split_first}
use Rattle.std.proofs.lemmas.List.{take_rest}
use Rattle.std.proofs.lemmas.Bool.{ltb-true, ltb-false}

cond_some_is : {A : Type 0} (b : Bool) (x y : A) → cond b (Some x) None ≡ Some y → (b ≡ true) × (x ≡ y)
cond_some_is true x y e = (refl, cc)
cond_some_is false x y e = absurd cc

cond_none_is : {A : Type 0} (b : Bool) (x : A) → cond b (Some x) None ≡ None → b ≡ false
cond_none_is true x e = absurd cc
cond_none_is false x e = refl

whole_step : {X : Type 0} (b : Bool) (x : X) (xs : List X) (m : ℕ) (s : List (List X)) → suc (length xs) ≤ cond (not b) (1 + m) 0 → (length xs ≤ m → s ≡ xs ∷ []) → cond b ([] ∷ s) (onto_first x s) ≡ (x ∷ xs) ∷ []
whole_step true x xs m s le ih = absurd (omega arith)
whole_step false x xs m s le ih = ap (onto_first x) (ih (omega arith))

-- where no element passes, the one part is all
whole_split : {X : Type 0} (p : X → Bool) (xs : List X) → length xs ≤ position_or_len p xs → slice_split p xs ≡ xs ∷ []
whole_split p [] le = refl
whole_split p (x ∷ xs) le = whole_step (p x) x xs (position_or_len p xs) (slice_split p xs) le (whole_split p xs)

pub split_none : {X : Type 0} (p : X → Bool) (xs : List X) → position p xs ≡ None → slice_split p xs ≡ xs ∷ []
split_none p xs e = whole_split p xs (ltb-false _ _ (cond_none_is (ltb (position_or_len p xs) (length xs)) (position_or_len p xs) e))

pub split_some : (p : ℕ → Bool) (xs : List ℕ) (i : ℕ) → position p xs ≡ Some i → slice_split p xs ≡ take i xs ∷ slice_split p (take (length xs - (i + 1)) (drop (i + 1) xs))
split_some p xs i e =
    let g = cond_some_is (ltb (position_or_len p xs) (length xs)) (position_or_len p xs) i e in
    let cut = slice_split_first p xs 0 (ltb-true _ _ g.0) in
    let at : slice_split p xs ≡ take i xs ∷ slice_split p (drop (i + 1) xs) = subst (λ (k : ℕ). slice_split p xs ≡ take k xs ∷ slice_split p (drop (k + 1) xs)) g.1 cut in
    at ∙ ap (λ (r : List ℕ). take i xs ∷ slice_split p r) (sym (take_rest xs (i + 1)))
