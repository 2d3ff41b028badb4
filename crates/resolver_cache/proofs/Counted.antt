-- How many items pass a test, where one leaves or one is added.
use Rattle.std.proofs.Common.{◌≡◌, ℕ, ◌+◌, ◌<◌, zero, suc, Bool, true, false, cond, List, [], ◌∷◌, ◌++◌, length, get_or, Option, Some, None, refl, sym, ap, ◌∙◌, arith}
use Rattle.std.specs.Prelude.{count_by, position, remove, ◌||◌}
use Rattle.std.specs.List.{list_any, position_from}
use Rattle.std.proofs.lemmas.List.Sums.{sum_by-append}
use Rattle.std.proofs.lemmas.Iterator.Adapters.{position_from-zero}

pub one_more : {X : Type 0} (p : X → Bool) (x : X) (xs : List X) → count_by p (x ∷ xs) ≡ cond (p x) 1 0 + count_by p xs
one_more p x xs = let e = sum_by-append (λ y. cond (p y) 1 0) (x ∷ []) xs in omega (arith, e)

pub one_added : {X : Type 0} (p : X → Bool) (x : X) (xs : List X) → count_by p (xs ++ x ∷ []) ≡ count_by p xs + cond (p x) 1 0
one_added p x xs = let e = sum_by-append (λ y. cond (p y) 1 0) xs (x ∷ []) in omega (arith, e)

pub one_gone : {X : Type 0} (p : X → Bool) (xs : List X) (i : ℕ) (d : X) → i < length xs → count_by p (remove xs i) + cond (p (get_or xs i d)) 1 0 ≡ count_by p xs
one_gone p [] i d h = absurd (omega arith)
one_gone p (x ∷ xs) zero d h = let e = one_more p x xs in omega (arith, e)
one_gone p (x ∷ xs) (suc i) d h =
    let before = one_more p x xs in
    let after = one_more p x (remove xs i) in
    let rest = one_gone p xs i d (omega (arith, h)) in
    omega (arith, before, after, rest)

none_first_at : (b later : Bool) (o : Option ℕ) (i : ℕ) → (o ≡ None → later ≡ false) → cond b (Some i) o ≡ None → (b || later) ≡ false
none_first_at true later o i rest e = cc
none_first_at false later o i rest e = rest e

-- no item passes where none is first
none_first : {X : Type 0} (p : X → Bool) (i : ℕ) (xs : List X) → position_from p i xs ≡ None → list_any p xs ≡ false
none_first p i [] e = refl
none_first p i (x ∷ xs) e =
    none_first_at (p x) (list_any p xs) (position_from p (i + 1) xs) i (none_first p (i + 1) xs) e

pub none_passes : {X : Type 0} (p : X → Bool) (xs : List X) → position p xs ≡ None → list_any p xs ≡ false
none_passes p xs e = none_first p 0 xs (sym (position_from-zero p xs) ∙ e)

none_counted_at : (b later : Bool) (n : ℕ) → (later ≡ false → n ≡ 0) → (b || later) ≡ false → cond b 1 0 + n ≡ 0
none_counted_at true later n rest e = cc
none_counted_at false later n rest e = let none = rest e in omega (arith, none)

pub none_counted : {X : Type 0} (p : X → Bool) (xs : List X) → list_any p xs ≡ false → count_by p xs ≡ 0
none_counted p [] e = refl
none_counted p (x ∷ xs) e =
    one_more p x xs ∙ none_counted_at (p x) (list_any p xs) (count_by p xs) (none_counted p xs) e

pub same_counted : {X : Type 0} (p q : X → Bool) → ((x : X) → p x ≡ q x) → (xs : List X) → count_by p xs ≡ count_by q xs
same_counted p q same [] = refl
same_counted p q same (x ∷ xs) =
    one_more p x xs
    ∙ ap (λ b. cond b 1 0 + count_by p xs) (same x)
    ∙ ap (λ n. cond (q x) 1 0 + n) (same_counted p q same xs)
    ∙ sym (one_more q x xs)
