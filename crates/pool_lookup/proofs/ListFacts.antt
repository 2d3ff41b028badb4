-- Small facts of lists and tests.
use Rattle.std.proofs.Common.{◌≡◌, ◌∙◌, ℕ, zero, suc, ◌+◌, ◌≤◌, ◌<◌, ◌||◌, ◌&&◌, Bool, true, false, cond, List, [], ◌∷◌, ◌++◌, map, take, length, slice_get, find, refl, ap, sym, subst, arith, Some, None, inl, inr}
use Rattle.std.specs.Prelude.{slice_set, filter, count_by}
use Rattle.std.specs.List.{list_any, remove, after_first, AllByRecursion}
use Rattle.resolution.proofs.ElementsFiltered.{Has}
use Rattle.pool_lookup.specs.Lists.{is_empty, after_firsts}
use Rattle.pool_rules.proofs.FirstThatPasses.{after_yes, after_no}
use Rattle.pool_rules.proofs.QueueStandsOn.{count_cons}

pub empty_is : {X : Type 0} (xs : List X) → is_empty xs ≡ true → xs ≡ []
empty_is [] h = refl
empty_is (x ∷ xs) h = cc

pub some_is : {X : Type 0} (xs : List X) → is_empty xs ≡ false → 1 ≤ length xs
some_is [] h = cc
some_is (x ∷ xs) h = omega arith

pub both : (a b : Bool) → (a && b) ≡ true → (a ≡ true) × (b ≡ true)
both true b h = (refl, h)
both false b h = cc

pub never_empty : {X : Type 0} (xs : List X) (x : X) → xs ++ x ∷ [] ≡ [] → ⊥
never_empty [] x h = cc
never_empty (y ∷ ys) x h = cc

-- ---- what holds of each element

pub all_push : {X : Type 0} (P : X → Type 0) (xs : List X) (x : X) → AllByRecursion P xs → P x → AllByRecursion P (xs ++ x ∷ [])
all_push P [] x a h = (h, tt)
all_push P (y ∷ xs) x a h = (a.0, all_push P xs x a.1 h)

pub all_get : {X : Type 0} (P : X → Type 0) (xs : List X) (i : ℕ) (x : X) → AllByRecursion P xs → slice_get xs i ≡ Some x → P x
all_get P [] i x a h = cc
all_get P (y ∷ xs) zero x a h = let e : y ≡ x = cc in subst P e a.0
all_get P (y ∷ xs) (suc i) x a h = all_get P xs i x a.1 h

pub all_set : {X : Type 0} (P : X → Type 0) (xs : List X) (i : ℕ) (x : X) → AllByRecursion P xs → P x → AllByRecursion P (slice_set xs i x)
all_set P [] i x a h = a
all_set P (y ∷ xs) zero x a h = (h, a.1)
all_set P (y ∷ xs) (suc i) x a h = (a.0, all_set P xs i x a.1 h)

pub all_remove : {X : Type 0} (P : X → Type 0) (xs : List X) (i : ℕ) → AllByRecursion P xs → AllByRecursion P (remove xs i)
all_remove P [] zero a = tt
all_remove P [] (suc i) a = tt
all_remove P (y ∷ xs) zero a = a.1
all_remove P (y ∷ xs) (suc i) a = (a.0, all_remove P xs i a.1)

pub all_has : {X : Type 0} (P : X → Type 0) (xs : List X) (x : X) → AllByRecursion P xs → Has xs x → P x
all_has P [] x a h = elim h [ ]
all_has P (y ∷ xs) x a (inl e) = subst P e a.0
all_has P (y ∷ xs) x a (inr h) = all_has P xs x a.1 h

-- ---- what is written, and what is removed

pub some_at : {X : Type 0} (xs : List X) (i : ℕ) → i < length xs → (x : X) × (slice_get xs i ≡ Some x)
some_at [] i h = absurd (omega (arith, h))
some_at (x ∷ xs) zero h = (x, refl)
some_at (x ∷ xs) (suc i) h = some_at xs i (omega (arith, h))

pub set_same : {X Y : Type 0} (f : X → Y) (xs : List X) (i : ℕ) (x y : X) → slice_get xs i ≡ Some x → f y ≡ f x → map f (slice_set xs i y) ≡ map f xs
set_same f [] i x y h e = cc
set_same {Y = Y} f (z ∷ xs) zero x y h e = let same : z ≡ x = cc in ap (λ (w : Y). w ∷ map f xs) (e ∙ ap f (sym same))
set_same {Y = Y} f (z ∷ xs) (suc i) x y h e = ap (λ (ws : List Y). f z ∷ ws) (set_same f xs i x y h e)

pub get_set : {X : Type 0} (xs : List X) (i : ℕ) (x y : X) → slice_get xs i ≡ Some x → slice_get (slice_set xs i y) i ≡ Some y
get_set [] i x y h = cc
get_set (z ∷ xs) zero x y h = refl
get_set (z ∷ xs) (suc i) x y h = get_set xs i x y h

pub set_set : {X : Type 0} (xs : List X) (i : ℕ) (x y : X) → slice_set (slice_set xs i x) i y ≡ slice_set xs i y
set_set [] i x y = refl
set_set (z ∷ xs) zero x y = refl
set_set {X = X} (z ∷ xs) (suc i) x y = ap (λ (l : List X). z ∷ l) (set_set xs i x y)

pub remove_set : {X : Type 0} (xs : List X) (i : ℕ) (x : X) → remove (slice_set xs i x) i ≡ remove xs i
remove_set [] i x = refl
remove_set (y ∷ xs) zero x = refl
remove_set {X = X} (y ∷ xs) (suc i) x = ap (λ (l : List X). y ∷ l) (remove_set xs i x)

pub length_remove : {X : Type 0} (xs : List X) (i : ℕ) (x : X) → slice_get xs i ≡ Some x → length xs ≡ 1 + length (remove xs i)
length_remove [] i x h = cc
length_remove (y ∷ xs) zero x h = omega arith
length_remove (y ∷ xs) (suc i) x h = let n = length_remove xs i x h in omega (arith, n)

-- ---- the first that pass

pub first_passes : {X : Type 0} (p : X → Bool) (xs : List X) (c : X) → find p xs ≡ Some c → filter p xs ≡ c ∷ filter p (after_first p xs)
first_passes p [] c h = cc
first_passes {X = X} p (x ∷ xs) c h = at_head (p x) refl h (first_passes p xs c)
  where
    at_head : (b : Bool) → p x ≡ b → cond b (Some x) (find p xs) ≡ Some c → (find p xs ≡ Some c → filter p xs ≡ c ∷ filter p (after_first p xs))
        → cond b (x ∷ filter p xs) (filter p xs) ≡ c ∷ filter p (after_first p (x ∷ xs))
    at_head true e h next =
        let same : x ≡ c = cc in
        ap (λ (y : X). y ∷ filter p xs) same ∙ ap (λ (l : List X). c ∷ filter p l) (sym (after_yes p x xs e))
    at_head false e h next = next h ∙ ap (λ (l : List X). c ∷ filter p l) (sym (after_no p x xs e))

pub none_passes : {X : Type 0} (p : X → Bool) (xs : List X) → find p xs ≡ None → filter p xs ≡ []
none_passes p [] h = refl
none_passes p (x ∷ xs) h = at_head (p x) h (none_passes p xs)
  where
    at_head : (b : Bool) → cond b (Some x) (find p xs) ≡ None → (find p xs ≡ None → filter p xs ≡ []) → cond b (x ∷ filter p xs) (filter p xs) ≡ []
    at_head true h next = cc
    at_head false h next = next h

pub none_after : {X : Type 0} (p : X → Bool) (xs : List X) → find p xs ≡ None → after_first p xs ≡ []
none_after p [] h = refl
none_after p (x ∷ xs) h = at_head (p x) refl h (none_after p xs)
  where
    at_head : (b : Bool) → p x ≡ b → cond b (Some x) (find p xs) ≡ None → (find p xs ≡ None → after_first p xs ≡ []) → after_first p (x ∷ xs) ≡ []
    at_head true e k next = cc
    at_head false e k next = after_no p x xs e ∙ next k

pub find_passes : {X : Type 0} (p : X → Bool) (xs : List X) (c : X) → find p xs ≡ Some c → p c ≡ true
find_passes p [] c h = cc
find_passes {X = X} p (x ∷ xs) c h = at_head (p x) refl h (find_passes p xs c)
  where
    at_head : (b : Bool) → p x ≡ b → cond b (Some x) (find p xs) ≡ Some c → (find p xs ≡ Some c → p c ≡ true) → p c ≡ true
    at_head true e k next = let same : x ≡ c = cc in ap p (sym same) ∙ e
    at_head false e k next = next k

pub firsts_none : {X : Type 0} (n : ℕ) (p : X → Bool) → after_firsts n p [] ≡ []
firsts_none zero p = refl
firsts_none (suc n) p = firsts_none n p

-- each of the first so many that pass does
pub taken_pass : {X : Type 0} (p : X → Bool) (n : ℕ) (xs : List X) → AllByRecursion (λ x. p x ≡ true) (take n (filter p xs))
taken_pass {X = X} p zero xs = none_taken (filter p xs)
  where
    none_taken : (ys : List X) → AllByRecursion (λ y. p y ≡ true) (take 0 ys)
    none_taken [] = tt
    none_taken (y ∷ ys) = tt
taken_pass p (suc n) [] = tt
taken_pass {X = X} p (suc n) (x ∷ xs) = at_head (p x) refl (taken_pass p n xs) (taken_pass p (suc n) xs)
  where
    at_head : (b : Bool) → p x ≡ b → AllByRecursion (λ y. p y ≡ true) (take n (filter p xs)) → AllByRecursion (λ y. p y ≡ true) (take (suc n) (filter p xs))
        → AllByRecursion (λ y. p y ≡ true) (take (suc n) (cond b (x ∷ filter p xs) (filter p xs)))
    at_head true e fewer all = (e, fewer)
    at_head false e fewer all = all

-- ---- who has a place in a list

module _ {X : Type 0} (p : X → Bool) where
  pub any_count : (xs : List X) → list_any p xs ≡ true → 1 ≤ count_by p xs
  any_count [] h = cc
  any_count (x ∷ xs) h = at_head (p x) h (count_cons p x xs) (any_count xs)
    where
      at_head : (b : Bool) → (b || list_any p xs) ≡ true → count_by p (x ∷ xs) ≡ cond b 1 0 + count_by p xs → (list_any p xs ≡ true → 1 ≤ count_by p xs) → 1 ≤ count_by p (x ∷ xs)
      at_head true h e next = omega (arith, e)
      at_head false h e next = let n : 1 ≤ count_by p xs = next h in omega (arith, e, n)

  pub count_any : (xs : List X) → 1 ≤ count_by p xs → list_any p xs ≡ true
  count_any [] h = absurd (omega (arith, h))
  count_any (x ∷ xs) h = at_head (p x) h (count_cons p x xs) (count_any xs)
    where
      at_head : (b : Bool) → 1 ≤ count_by p (x ∷ xs) → count_by p (x ∷ xs) ≡ cond b 1 0 + count_by p xs → (1 ≤ count_by p xs → list_any p xs ≡ true) → (b || list_any p xs) ≡ true
      at_head true h e next = refl
      at_head false h e next = next (omega (arith, h, e))
