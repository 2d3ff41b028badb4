-- Elements of filtered and joined lists.
use Rattle.std.proofs.Common.{◌≡◌, zero, suc, ◌⊎◌, inl, inr, Bool, true, false, cond, List, [], ◌∷◌, ◌++◌, Option, Some, None, refl, arith, ◌∙◌, sym, ap}
use Rattle.std.specs.Prelude.{◌||◌, Contains, All, filter}
use Rattle.std.proofs.lemmas.List.Elements.{All-contains_itself}
use Rattle.std.specs.List.{list_any, filter_map, flat_map, cons_option}

-- by cases on the list
abbrev pub Has : {X : Type 0} → List X → X → Type 0
Has [] y = ⊥
Has (x ∷ xs) y = (x ≡ y) ⊎ Has xs y

pub Has-from_Contains : {X : Type 0} (xs : List X) (y : X) → Contains xs y → Has xs y
Has-from_Contains [] y (k, h, e) = absurd (omega arith)
Has-from_Contains (x ∷ xs) y (zero, h, e) = inl e
Has-from_Contains (x ∷ xs) y (suc k, h, e) = inr (Has-from_Contains xs y (k, omega arith, e))

pub Contains-from_Has : {X : Type 0} (xs : List X) (y : X) → Has xs y → Contains xs y
Contains-from_Has [] y h = elim h [ ]
Contains-from_Has (x ∷ xs) y (inl e) = (0, omega arith, e)
Contains-from_Has (x ∷ xs) y (inr h) = let k : Contains xs y = Contains-from_Has xs y h in (suc (k.0), omega arith, k.2)

pub Has-append_left : {X : Type 0} (xs ys : List X) (y : X) → Has xs y → Has (xs ++ ys) y
Has-append_left [] ys y h = elim h [ ]
Has-append_left (x ∷ xs) ys y (inl e) = inl e
Has-append_left (x ∷ xs) ys y (inr h) = inr (Has-append_left xs ys y h)

pub Has-append_right : {X : Type 0} (xs ys : List X) (y : X) → Has ys y → Has (xs ++ ys) y
Has-append_right [] ys y h = h
Has-append_right (x ∷ xs) ys y h = inr (Has-append_right xs ys y h)

pub Has-append_cases : {X : Type 0} (xs ys : List X) (y : X) → Has (xs ++ ys) y → Has xs y ⊎ Has ys y
Has-append_cases [] ys y h = inr h
Has-append_cases (x ∷ xs) ys y (inl e) = inl (inl e)
Has-append_cases (x ∷ xs) ys y (inr h) = elim (Has-append_cases xs ys y h) [ inl k ↦ inl (inr k) | inr k ↦ inr k ]

-- what f gives of an element
pub Has-filter_map : {X Y : Type 0} (f : X → Option Y) (xs : List X) (y : Y) → Has (filter_map f xs) y → (x : X) × Has xs x × (f x ≡ Some y)
Has-filter_map f [] y h = elim h [ ]
Has-filter_map {X} {Y} f (x ∷ xs) y h = at_head (f x) refl h (Has-filter_map f xs y)
  where
    at_head : (o : Option Y) → f x ≡ o → Has (cons_option o (filter_map f xs)) y → (Has (filter_map f xs) y → (x : X) × Has xs x × (f x ≡ Some y)) → (w : X) × Has (x ∷ xs) w × (f w ≡ Some y)
    at_head None e h next = let r : (x : X) × Has xs x × (f x ≡ Some y) = next h in (r.0, inr r.1, r.2)
    at_head (Some z) e (inl k) next = (x, inl refl, e ∙ ap Some k)
    at_head (Some z) e (inr k) next = let r : (x : X) × Has xs x × (f x ≡ Some y) = next k in (r.0, inr r.1, r.2)

pub filter_map-Has : {X Y : Type 0} (f : X → Option Y) (xs : List X) (x : X) (y : Y) → Has xs x → f x ≡ Some y → Has (filter_map f xs) y
filter_map-Has f [] w y h g = elim h [ ]
filter_map-Has f (x ∷ xs) w y (inl e) g = rw e (rw g (inl refl))
filter_map-Has {X} {Y} f (x ∷ xs) w y (inr h) g = at_head (f x) (filter_map-Has f xs w y h g)
  where
    at_head : (o : Option Y) → Has (filter_map f xs) y → Has (cons_option o (filter_map f xs)) y
    at_head None k = k
    at_head (Some z) k = inr k

pub Has-filter : {X : Type 0} (p : X → Bool) (xs : List X) (y : X) → Has (filter p xs) y → Has xs y
Has-filter p [] y h = elim h [ ]
Has-filter p (x ∷ xs) y h = at_head (p x) h (Has-filter p xs y)
  where
    at_head : (b : Bool) → Has (cond b (x ∷ filter p xs) (filter p xs)) y → (Has (filter p xs) y → Has xs y) → Has (x ∷ xs) y
    at_head true (inl e) next = inl e
    at_head true (inr k) next = inr (next k)
    at_head false k next = inr (next k)

pub flat_map-Has : {X Y : Type 0} (f : X → List Y) (xs : List X) (x : X) (y : Y) → Has xs x → Has (f x) y → Has (flat_map f xs) y
flat_map-Has f [] w y h g = elim h [ ]
flat_map-Has f (x ∷ xs) w y (inl e) g = Has-append_left (f x) (flat_map f xs) y (rw e g)
flat_map-Has f (x ∷ xs) w y (inr h) g = Has-append_right (f x) (flat_map f xs) y (flat_map-Has f xs w y h g)

pub Has-passes : {X : Type 0} (p : X → Bool) (xs : List X) (y : X) → Has (filter p xs) y → p y ≡ true
Has-passes p [] y h = elim h [ ]
Has-passes p (x ∷ xs) y h = at_head (p x) refl h (Has-passes p xs y)
  where
    at_head : (b : Bool) → p x ≡ b → Has (cond b (x ∷ filter p xs) (filter p xs)) y → (Has (filter p xs) y → p y ≡ true) → p y ≡ true
    at_head true e (inl s) next = ap p (sym s) ∙ e
    at_head true e (inr k) next = next k
    at_head false e k next = next k

pub All-from_Has : {X : Type 0} (P : X → Type 0) (xs : List X) → ((x : X) → Has xs x → P x) → All P xs
All-from_Has P xs each = λ k d h. each _ (Has-from_Contains xs _ (All-contains_itself xs k d h))

-- ---- tests and elements

pub any_Has : {X : Type 0} (p : X → Bool) (xs : List X) (x : X) → Has xs x → p x ≡ true → list_any p xs ≡ true
any_Has p [] x h e = elim h [ ]
any_Has p (y ∷ xs) x (inl s) e = or_left (p y) (list_any p xs) (ap p s ∙ e)
  where
    or_left : (a b : Bool) → a ≡ true → (a || b) ≡ true
    or_left true b h = refl
    or_left false b h = cc
any_Has p (y ∷ xs) x (inr h) e = or_right (p y) (list_any p xs) (any_Has p xs x h e)
  where
    or_right : (a b : Bool) → b ≡ true → (a || b) ≡ true
    or_right true b h = refl
    or_right false b h = h

pub Has_any : {X : Type 0} (p : X → Bool) (xs : List X) → list_any p xs ≡ true → (x : X) × Has xs x × (p x ≡ true)
Has_any p [] h = cc
Has_any {X} p (x ∷ xs) h = at_head (p x) refl h (Has_any p xs)
  where
    at_head : (b : Bool) → p x ≡ b → (b || list_any p xs) ≡ true → (list_any p xs ≡ true → (y : X) × Has xs y × (p y ≡ true)) → (y : X) × Has (x ∷ xs) y × (p y ≡ true)
    at_head true e k next = (x, inl refl, e)
    at_head false e k next = let r : (y : X) × Has xs y × (p y ≡ true) = next k in (r.0, inr r.1, r.2)
