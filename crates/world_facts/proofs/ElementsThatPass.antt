-- Elements that pass a test, and names in any case.
use Rattle.std.proofs.Common.{◌≡◌, suc, Bool, true, false, cond, List, [], ◌∷◌, ◌++◌, length, Option, Some, None, ◌⊎◌, inl, inr, refl, sym, ap, ◌∙◌, arith}
use Rattle.std.specs.Prelude.{◌&&◌, ◌==◌, filter}
use Rattle.std.specs.Option.{option_or}
use Rattle.std.specs.List.{list_all}
use Rattle.std.proofs.lemmas.Bool.Decides.{Decides-eqb}
use Rattle.dns_core.specs.Name.{DomainName, same_names}
use Rattle.dns_core.specs.NameLaws.{same_names_equiv}
use Rattle.resolution.proofs.ElementsFiltered.{Has, Has-append_cases}

-- both of a conjunction
pub halves : (a b : Bool) → (a && b) ≡ true → (a ≡ true) × (b ≡ true)
halves true b h = (refl, h)
halves false b h = cc

-- each element passes a test that all pass
pub all_Has : {X : Type 0} (p : X → Bool) (xs : List X) (x : X) → list_all p xs ≡ true → Has xs x → p x ≡ true
all_Has p [] x h k = elim k [ ]
all_Has p (y ∷ ys) x h (inl e) = ap p (sym e) ∙ (halves (p y) (list_all p ys) h).0
all_Has p (y ∷ ys) x h (inr k) = all_Has p ys x (halves (p y) (list_all p ys) h).1 k

-- by the part of three in which it stands
pub in_parts : {X : Type 0} (P : Type 0) (xs ys zs : List X) (x : X) → Has ((xs ++ ys) ++ zs) x → (Has xs x → P) → (Has ys x → P) → (Has zs x → P) → P
in_parts P xs ys zs x h f g k = elim (Has-append_cases (xs ++ ys) zs x h) [
  | inl a ↦ elim (Has-append_cases xs ys x a) [ inl b ↦ f b | inr b ↦ g b ]
  | inr a ↦ k a
]

-- names that are one name with a third
pub through : (a b c : DomainName) → same_names a b ≡ true → same_names b c ≡ true → same_names a c ≡ true
through a b c e f = same_names_equiv.congr a b c e ∙ f

-- names that are one, the other way
pub turned : (a b : DomainName) → same_names a b ≡ true → same_names b a ≡ true
turned a b e = same_names_equiv.symm b a ∙ e

-- an element that passes is left
pub filter_Has : {X : Type 0} (p : X → Bool) (xs : List X) (x : X) → Has xs x → p x ≡ true → Has (filter p xs) x
filter_Has p [] x h e = elim h [ ]
filter_Has {X} p (y ∷ xs) x (inl s) e = at_head (p y) (ap p s ∙ e)
  where
    at_head : (b : Bool) → b ≡ true → Has (cond b (y ∷ filter p xs) (filter p xs)) x
    at_head true h = inl s
    at_head false h = cc
filter_Has {X} p (y ∷ xs) x (inr h) e = at_head (p y) (filter_Has p xs x h e)
  where
    at_head : (b : Bool) → Has (filter p xs) x → Has (cond b (y ∷ filter p xs) (filter p xs)) x
    at_head true k = inr k
    at_head false k = k

-- no test gives both
pub clash : (b : Bool) → b ≡ true → b ≡ false → ⊥
clash true p q = cc
clash false p q = cc

-- a list with an element is not empty
pub some_left : {X : Type 0} (xs : List X) (x : X) → Has xs x → (length xs == 0) ≡ false
some_left [] x h = elim h [ ]
some_left (y ∷ xs) x h = grind arith

-- a list without an element
pub empty : {X : Type 0} (xs : List X) → (length xs == 0) ≡ true → xs ≡ []
empty [] e = refl
empty (x ∷ xs) e = let none : suc (length xs) ≡ 0 = (Decides-eqb (suc (length xs)) 0).0 e in absurd (omega (arith, none))

-- the first of two that is there
pub either : {X : Type 0} (o p : Option X) (x : X) → option_or o p ≡ Some x → (o ≡ Some x) ⊎ (p ≡ Some x)
either None p x e = inr e
either (Some y) p x e = inl e
