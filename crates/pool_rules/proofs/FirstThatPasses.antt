-- A list with one more at its end, and the first of it that passes a test.
use Rattle.std.proofs.Common.{◌≡◌, ℕ, suc, ◌+◌, ◌∙◌, Bool, true, false, not, ◌&&◌, ◌||◌, cond, List, [], ◌∷◌, ◌++◌, find, filter, take, drop, refl, ap, sym, arith, Option, Some, None, one-add}
use Rattle.std.specs.List.{list_any, list_all, last_or, position_or_len, before_first, after_first}
use Rattle.std.specs.Option.{option_or}
use Rattle.std.proofs.lemmas.List.Folds.{list_any-append, list_all-append, find-append}
use Rattle.std.proofs.lemmas.List.Elements.{filter-append}

pub or_false : (b : Bool) → (b || false) ≡ b
or_false true = refl
or_false false = refl

pub and_true : (b : Bool) → (b && true) ≡ b
and_true true = refl
and_true false = refl

module _ {X : Type 0} (p : X → Bool) where
  -- the list without the first that passes
  abbrev pub but : List X → List X
  but xs = before_first p xs ++ after_first p xs

  pub any_more : (xs : List X) (x : X) → list_any p (xs ++ x ∷ []) ≡ (list_any p xs || p x)
  any_more xs x = list_any-append p xs (x ∷ []) ∙ ap (λ b. list_any p xs || b) (or_false (p x))

  pub all_more : (xs : List X) (x : X) → list_all p (xs ++ x ∷ []) ≡ (list_all p xs && p x)
  all_more xs x = list_all-append p xs (x ∷ []) ∙ ap (λ b. list_all p xs && b) (and_true (p x))

  -- where the first element passes
  pub before_yes : (x : X) (xs : List X) → p x ≡ true → before_first p (x ∷ xs) ≡ []
  before_yes x xs h = ap (λ (b : Bool). take (cond (not b) (1 + position_or_len p xs) 0) (x ∷ xs)) h

  pub after_yes : (x : X) (xs : List X) → p x ≡ true → after_first p (x ∷ xs) ≡ xs
  after_yes x xs h = ap (λ (b : Bool). drop (cond (not b) (1 + position_or_len p xs) 0 + 1) (x ∷ xs)) h

  -- where it does not
  pub before_no : (x : X) (xs : List X) → p x ≡ false → before_first p (x ∷ xs) ≡ x ∷ before_first p xs
  before_no x xs h =
      ap (λ (b : Bool). take (cond (not b) (1 + position_or_len p xs) 0) (x ∷ xs)) h
      ∙ ap (λ (n : ℕ). take n (x ∷ xs)) (one-add (position_or_len p xs))

  pub after_no : (x : X) (xs : List X) → p x ≡ false → after_first p (x ∷ xs) ≡ after_first p xs
  after_no x xs h =
      let e : 1 + position_or_len p xs + 1 ≡ suc (position_or_len p xs + 1) = omega arith in
      ap (λ (b : Bool). drop (cond (not b) (1 + position_or_len p xs) 0 + 1) (x ∷ xs)) h
      ∙ ap (λ (n : ℕ). drop n (x ∷ xs)) e

  pub but_yes : (x : X) (xs : List X) → p x ≡ true → but (x ∷ xs) ≡ xs
  but_yes x xs h = ap (λ (l : List X). l ++ after_first p (x ∷ xs)) (before_yes x xs h) ∙ after_yes x xs h

  pub but_no : (x : X) (xs : List X) → p x ≡ false → but (x ∷ xs) ≡ x ∷ but xs
  but_no x xs h = ap (λ (l : List X). l ++ after_first p (x ∷ xs)) (before_no x xs h) ∙ ap (λ (l : List X). (x ∷ before_first p xs) ++ l) (after_no x xs h)

  -- where none passes
  pub but_none : (xs : List X) → list_any p xs ≡ false → but xs ≡ xs
  but_none [] h = refl
  but_none (x ∷ xs) h = at_head (p x) refl h (but_none xs)
    where
      at_head : (b : Bool) → p x ≡ b → (b || list_any p xs) ≡ false → (list_any p xs ≡ false → but xs ≡ xs) → but (x ∷ xs) ≡ x ∷ xs
      at_head true e k next = cc
      at_head false e k next = but_no x xs e ∙ ap (λ (l : List X). x ∷ l) (next k)

  pub after_none : (xs : List X) → list_any p xs ≡ false → after_first p xs ≡ []
  after_none [] h = refl
  after_none (x ∷ xs) h = at_head (p x) refl h (after_none xs)
    where
      at_head : (b : Bool) → p x ≡ b → (b || list_any p xs) ≡ false → (list_any p xs ≡ false → after_first p xs ≡ []) → after_first p (x ∷ xs) ≡ []
      at_head true e k next = cc
      at_head false e k next = after_no x xs e ∙ next k

  -- one more at the end, which is the first that passes
  pub but_more_first : (xs : List X) (x : X) → list_any p xs ≡ false → p x ≡ true → but (xs ++ x ∷ []) ≡ but xs
  but_more_first [] x h k = but_yes x [] k
  but_more_first (y ∷ xs) x h k = at_head (p y) refl h (λ l. but_more_first xs x l k)
    where
      at_head : (b : Bool) → p y ≡ b → (b || list_any p xs) ≡ false → (list_any p xs ≡ false → but (xs ++ x ∷ []) ≡ but xs) → but ((y ∷ xs) ++ x ∷ []) ≡ but (y ∷ xs)
      at_head true e l next = cc
      at_head false e l next = but_no y (xs ++ x ∷ []) e ∙ ap (λ (r : List X). y ∷ r) (next l) ∙ sym (but_no y xs e)

  pub after_more_first : (xs : List X) (x : X) → list_any p xs ≡ false → p x ≡ true → after_first p (xs ++ x ∷ []) ≡ []
  after_more_first [] x h k = after_yes x [] k
  after_more_first (y ∷ xs) x h k = at_head (p y) refl h (λ l. after_more_first xs x l k)
    where
      at_head : (b : Bool) → p y ≡ b → (b || list_any p xs) ≡ false → (list_any p xs ≡ false → after_first p (xs ++ x ∷ []) ≡ []) → after_first p ((y ∷ xs) ++ x ∷ []) ≡ []
      at_head true e l next = cc
      at_head false e l next = after_no y (xs ++ x ∷ []) e ∙ next l

  -- one more at the end, which is not
  pub but_more : (xs : List X) (x : X) → p x ≡ false → but (xs ++ x ∷ []) ≡ but xs ++ x ∷ []
  but_more [] x k = but_no x [] k
  but_more (y ∷ xs) x k = at_head (p y) refl (but_more xs x k)
    where
      at_head : (b : Bool) → p y ≡ b → but (xs ++ x ∷ []) ≡ but xs ++ x ∷ [] → but ((y ∷ xs) ++ x ∷ []) ≡ but (y ∷ xs) ++ x ∷ []
      at_head true e next = but_yes y (xs ++ x ∷ []) e ∙ ap (λ (r : List X). r ++ x ∷ []) (sym (but_yes y xs e))
      at_head false e next = but_no y (xs ++ x ∷ []) e ∙ ap (λ (r : List X). y ∷ r) next ∙ ap (λ (r : List X). r ++ x ∷ []) (sym (but_no y xs e))

  pub after_more : (xs : List X) (x : X) → list_any p xs ≡ true → after_first p (xs ++ x ∷ []) ≡ after_first p xs ++ x ∷ []
  after_more [] x h = cc
  after_more (y ∷ xs) x h = at_head (p y) refl h (after_more xs x)
    where
      at_head : (b : Bool) → p y ≡ b → (b || list_any p xs) ≡ true → (list_any p xs ≡ true → after_first p (xs ++ x ∷ []) ≡ after_first p xs ++ x ∷ []) → after_first p ((y ∷ xs) ++ x ∷ []) ≡ after_first p (y ∷ xs) ++ x ∷ []
      at_head true e l next = after_yes y (xs ++ x ∷ []) e ∙ ap (λ (r : List X). r ++ x ∷ []) (sym (after_yes y xs e))
      at_head false e l next = after_no y (xs ++ x ∷ []) e ∙ next l ∙ ap (λ (r : List X). r ++ x ∷ []) (sym (after_no y xs e))

  -- the first that passes
  pub find_none : (xs : List X) → list_any p xs ≡ false → find p xs ≡ None
  find_none [] h = refl
  find_none (x ∷ xs) h = at_head (p x) h (find_none xs)
    where
      at_head : (b : Bool) → (b || list_any p xs) ≡ false → (list_any p xs ≡ false → find p xs ≡ None) → cond b (Some x) (find p xs) ≡ None
      at_head true k next = cc
      at_head false k next = next k

  pub find_some : (xs : List X) → list_any p xs ≡ true → (x : X) × (find p xs ≡ Some x) × (p x ≡ true)
  find_some [] h = cc
  find_some (x ∷ xs) h = at_head (p x) refl h (find_some xs)
    where
      at_head : (b : Bool) → p x ≡ b → (b || list_any p xs) ≡ true → (list_any p xs ≡ true → (y : X) × (find p xs ≡ Some y) × (p y ≡ true)) → (y : X) × (cond b (Some x) (find p xs) ≡ Some y) × (p y ≡ true)
      at_head true e k next = (x, refl, e)
      at_head false e k next = next k

  pub find_more_first : (xs : List X) (x : X) → list_any p xs ≡ false → p x ≡ true → find p (xs ++ x ∷ []) ≡ Some x
  find_more_first xs x h k =
      find-append p xs (x ∷ []) ∙ ap (λ (o : Option X). option_or o (find p (x ∷ []))) (find_none xs h) ∙ ap (λ (b : Bool). cond b (Some x) None) k

  pub find_more : (xs : List X) (x : X) → p x ≡ false → find p (xs ++ x ∷ []) ≡ find p xs
  find_more xs x k =
      find-append p xs (x ∷ []) ∙ ap (λ (b : Bool). option_or (find p xs) (cond b (Some x) None)) k ∙ or_none (find p xs)
    where
      or_none : (o : Option X) → option_or o None ≡ o
      or_none None = refl
      or_none (Some y) = refl

  pub filter_more : (xs : List X) (x : X) → filter p (xs ++ x ∷ []) ≡ filter p xs ++ cond (p x) (x ∷ []) []
  filter_more xs x = filter-append p xs (x ∷ [])

-- the last of a list with one more at its end
pub last_more : {X : Type 0} (o : Option X) (xs : List X) (x : X) → last_or o (xs ++ x ∷ []) ≡ Some x
last_more o [] x = refl
last_more o (y ∷ xs) x = last_more (Some y) xs x
