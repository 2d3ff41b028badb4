-- The first that passes a test, and its place.
use Rattle.std.proofs.Common.{◌≡◌, ◌∙◌, ℕ, zero, suc, ◌+◌, ◌≤◌, ◌<◌, ◌||◌, Bool, true, false, cond, nat_lt, List, [], ◌∷◌, ◌++◌, length, slice_get, get_or, find, Option, Some, None, refl, sym, ap, arith}
use Rattle.std.specs.Prelude.{count_by, slice_set}
use Rattle.std.specs.List.{list_any, position, position_or_len}
use Rattle.std.proofs.lemmas.Bool.{ltb-false}
use Rattle.std.proofs.lemmas.List.Folds.{find_at}
use Rattle.std.proofs.lemmas.List.Quantifiers.{position-Some}
use Rattle.std.proofs.lemmas.Option.{none-some, same_Some, slice_get_past}
use Rattle.pool_rules.proofs.QueueStandsOn.{count_cons}

-- the one that is found is the one at its place
pub found_there : {X : Type 0} (p : X → Bool) (xs : List X) (i : ℕ) → position p xs ≡ Some i → find p xs ≡ slice_get xs i
found_there p xs i at = find_at p xs ∙ ap (slice_get xs) (some_place _ _ _ at)
  where
    some_place : (b : Bool) (n k : ℕ) → cond b (Some n) None ≡ Some k → n ≡ k
    some_place true n k h = cc
    some_place false n k h = cc

pub found_none : {X : Type 0} (p : X → Bool) (xs : List X) → position p xs ≡ None → find p xs ≡ None
found_none p xs h = nowhere (nat_lt (position_or_len p xs) (length xs)) refl h
  where
    nowhere : (b : Bool) → nat_lt (position_or_len p xs) (length xs) ≡ b → cond b (Some (position_or_len p xs)) None ≡ None → find p xs ≡ None
    nowhere true e g = cc
    nowhere false e g = let past : length xs ≤ position_or_len p xs = ltb-false _ _ e in find_at p xs ∙ slice_get_past xs (position_or_len p xs) past

-- what is found passes
pub found_any : {X : Type 0} (p : X → Bool) (xs : List X) (x : X) → find p xs ≡ Some x → list_any p xs ≡ true
found_any p [] x is = cc
found_any p (z ∷ xs) x is = by (p z) refl is (found_any p xs x)
  where
    by : (b : Bool) → p z ≡ b → cond b (Some z) (find p xs) ≡ Some x → (find p xs ≡ Some x → list_any p xs ≡ true) → (p z || list_any p xs) ≡ true
    by true e h rest = ap (λ (b : Bool). b || list_any p xs) e
    by false e h rest = ap (λ (b : Bool). b || list_any p xs) e ∙ rest h

-- and stands at its place
pub record IsPlaced {X : Type 0} (p : X → Bool) (xs : List X) (x : X) : Type 0 where
  pub place : ℕ
  pub first : position p xs ≡ Some place
  pub at : slice_get xs place ≡ Some x

pub placed : {X : Type 0} (p : X → Bool) (xs : List X) (x : X) → find p xs ≡ Some x → IsPlaced p xs x
placed {X} p xs x is = by (position p xs) refl
  where
    by : (o : Option ℕ) → position p xs ≡ o → IsPlaced p xs x
    by None none = absurd (none-some x (sym (found_none p xs none) ∙ is))
    by (Some place) at = record { place = place; first = at; at = sym (found_there p xs place at) ∙ is }

-- ---- one takes the place of another

module _ {X : Type 0} (p : X → Bool) where
  find_before : (xs : List X) (i : ℕ) (d y : X) → i < length xs → ((k : ℕ) → k < i → p (get_or xs k d) ≡ false) → p y ≡ true → find p (slice_set xs i y) ≡ Some y
  find_before [] i d y within before passes = absurd (omega (arith, within))
  find_before (z ∷ xs) zero d y within before passes = ap (λ (b : Bool). cond b (Some y) (find p xs)) passes
  find_before (z ∷ xs) (suc i) d y within before passes =
      ap (λ (b : Bool). cond b (Some z) (find p (slice_set xs i y))) (before 0 (omega arith))
      ∙ find_before xs i d y (omega (arith, within)) (λ k less. before (suc k) (omega (arith, less))) passes

  -- the first that passes is the one that takes its place
  pub find_place : (xs : List X) (i : ℕ) (y : X) → position p xs ≡ Some i → p y ≡ true → find p (slice_set xs i y) ≡ Some y
  find_place xs i y at passes = let f = position-Some p xs i y at in find_before xs i y y f.0 f.2 passes

  -- where none passed, none passes of the rest
  pub none_counted : (x : X) (xs : List X) → count_by p (x ∷ xs) ≡ 0 → (p x ≡ false) × (count_by p xs ≡ 0)
  none_counted x xs none = by (p x) refl (count_cons p x xs)
    where
      by : (b : Bool) → p x ≡ b → count_by p (x ∷ xs) ≡ cond b 1 0 + count_by p xs → (p x ≡ false) × (count_by p xs ≡ 0)
      by true e count = absurd (omega (arith, count, none))
      by false e count = (e, omega (arith, count, none))

  -- nor is one found
  pub none_found : (xs : List X) → count_by p xs ≡ 0 → find p xs ≡ None
  none_found [] none = refl
  none_found (x ∷ xs) none = let n = none_counted x xs none in ap (λ (b : Bool). cond b (Some x) (find p xs)) n.0 ∙ none_found xs n.1

  first_found : (x : X) (xs : List X) (y : X) → count_by p xs ≡ 0 → find p (x ∷ xs) ≡ Some y → y ≡ x
  first_found x xs y none is = by (p x) refl
    where
      by : (b : Bool) → p x ≡ b → y ≡ x
      by true e = same_Some _ _ (sym is ∙ ap (λ (b : Bool). cond b (Some x) (find p xs)) e)
      by false e = let wrong : None ≡ Some y = sym (ap (λ (b : Bool). cond b (Some x) (find p xs)) e ∙ none_found xs none) ∙ is in cc

  -- so what is found is the one that is put among them, or behind them
  pub set_found : (xs : List X) (i : ℕ) (x y : X) → count_by p xs ≡ 0 → find p (slice_set xs i x) ≡ Some y → y ≡ x
  set_found [] i x y none is = cc
  set_found (z ∷ xs) zero x y none is = first_found x xs y (none_counted z xs none).1 is
  set_found (z ∷ xs) (suc i) x y none is =
      let n = none_counted z xs none in set_found xs i x y n.1 (sym (ap (λ (b : Bool). cond b (Some z) (find p (slice_set xs i x))) n.0) ∙ is)

  pub push_found : (xs : List X) (x y : X) → count_by p xs ≡ 0 → find p (xs ++ x ∷ []) ≡ Some y → y ≡ x
  push_found [] x y none is = first_found x [] y refl is
  push_found (z ∷ xs) x y none is = let n = none_counted z xs none in push_found xs x y n.1 (sym (ap (λ (b : Bool). cond b (Some z) (find p (xs ++ x ∷ []))) n.0) ∙ is)

  -- and it is found, where it passes
  pub first_set : (xs : List X) (i : ℕ) (x y : X) → count_by p xs ≡ 0 → slice_get xs i ≡ Some x → p y ≡ true → find p (slice_set xs i y) ≡ Some y
  first_set [] i x y none there passes = cc
  first_set (z ∷ xs) zero x y none there passes = ap (λ (b : Bool). cond b (Some y) (find p xs)) passes
  first_set (z ∷ xs) (suc i) x y none there passes =
      let n = none_counted z xs none in
      ap (λ (b : Bool). cond b (Some z) (find p (slice_set xs i y))) n.0 ∙ first_set xs i x y n.1 there passes

  pub first_more : (xs : List X) (y : X) → count_by p xs ≡ 0 → p y ≡ true → find p (xs ++ y ∷ []) ≡ Some y
  first_more [] y none passes = ap (λ (b : Bool). cond b (Some y) None) passes
  first_more (z ∷ xs) y none passes =
      let n = none_counted z xs none in
      ap (λ (b : Bool). cond b (Some z) (find p (xs ++ y ∷ []))) n.0 ∙ first_more xs y n.1 passes
