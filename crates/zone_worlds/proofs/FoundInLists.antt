-- What is found in a list, and how often a test holds there.
use Rattle.std.proofs.Common.{◌≡◌, ◌<◌, ◌≤◌, Bool, true, false, cond, List, [], ◌∷◌, length, Some, inl, inr, refl, sym, ap, ◌∙◌, arith}
use Rattle.std.specs.Prelude.{filter, find}
use Rattle.resolution.proofs.ElementsFiltered.{Has}

pub find_Has : {X : Type 0} (p : X → Bool) (xs : List X) (x : X) → find p xs ≡ Some x → Has xs x
find_Has p [] x e = cc
find_Has {X} p (y ∷ xs) x e = at_head (p y) e (find_Has p xs x)
  where
    at_head : (b : Bool) → cond b (Some y) (find p xs) ≡ Some x → (find p xs ≡ Some x → Has xs x) → Has (y ∷ xs) x
    at_head true e next = let same : y ≡ x = cc in inl same
    at_head false e next = inr (next e)

pub find_passes : {X : Type 0} (p : X → Bool) (xs : List X) (x : X) → find p xs ≡ Some x → p x ≡ true
find_passes p [] x e = cc
find_passes {X} p (y ∷ xs) x e = at_head (p y) refl e (find_passes p xs x)
  where
    at_head : (b : Bool) → p y ≡ b → cond b (Some y) (find p xs) ≡ Some x → (find p xs ≡ Some x → p x ≡ true) → p x ≡ true
    at_head true h e next = let same : y ≡ x = cc in ap p (sym same) ∙ h
    at_head false h e next = next e

le_head : {X : Type 0} (x : X) (ps qs : List X) (a b : Bool) → (a ≡ true → b ≡ true) → length ps ≤ length qs → length (cond a (x ∷ ps) ps) ≤ length (cond b (x ∷ qs) qs)
le_head x ps qs true true h k = omega arith
le_head x ps qs true false h k = let e : false ≡ true = h refl in cc
le_head x ps qs false true h k = omega arith
le_head x ps qs false false h k = k

lt_head : {X : Type 0} (x : X) (ps qs : List X) (a b : Bool) → (a ≡ true → b ≡ true) → length ps < length qs → length (cond a (x ∷ ps) ps) < length (cond b (x ∷ qs) qs)
lt_head x ps qs true true h k = omega arith
lt_head x ps qs true false h k = let e : false ≡ true = h refl in cc
lt_head x ps qs false true h k = omega arith
lt_head x ps qs false false h k = k

lt_here : {X : Type 0} (x : X) (ps qs : List X) (a b : Bool) → a ≡ false → b ≡ true → length ps ≤ length qs → length (cond a (x ∷ ps) ps) < length (cond b (x ∷ qs) qs)
lt_here x ps qs true b e f k = cc
lt_here x ps qs false true e f k = omega arith
lt_here x ps qs false false e f k = cc

length_filter-le : {X : Type 0} (p q : X → Bool) → ((x : X) → p x ≡ true → q x ≡ true) → (xs : List X) → length (filter p xs) ≤ length (filter q xs)
length_filter-le p q h [] = omega arith
length_filter-le p q h (x ∷ xs) = le_head x (filter p xs) (filter q xs) (p x) (q x) (h x) (length_filter-le p q h xs)

-- a test that fewer pass, by an element at least
pub length_filter-lt : {X : Type 0} (p q : X → Bool) → ((x : X) → p x ≡ true → q x ≡ true) → (xs : List X) (x : X) → Has xs x → p x ≡ false → q x ≡ true → length (filter p xs) < length (filter q xs)
length_filter-lt p q h [] x i a b = elim i [ ]
length_filter-lt p q h (y ∷ xs) x (inl e) a b = lt_here y (filter p xs) (filter q xs) (p y) (q y) (ap p e ∙ a) (ap q e ∙ b) (length_filter-le p q h xs)
length_filter-lt p q h (y ∷ xs) x (inr i) a b = lt_head y (filter p xs) (filter q xs) (p y) (q y) (h y) (length_filter-lt p q h xs x i a b)
