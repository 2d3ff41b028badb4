-- The entries of a provider's list under their numbers.
use Rattle.std.proofs.Common.{◌≡◌, ℕ, zero, suc, ◌<◌, ◌⊎◌, inl, inr, Bool, true, false, List, [], ◌∷◌, ◌||◌, Some, refl, ap, arith, length}
use Rattle.std.specs.Prelude.{slice_get}
use Rattle.std.specs.List.{list_any}
use Rattle.dns_core.specs.Log.{numbered, log_of}
use Rattle.dns_core.specs.declared.log.LogEntry.{LogEntry}
use Rattle.resolution.specs.Telling.{Logged}
use Rattle.resolution.proofs.ElementsFiltered.{Has}

pub Has-from_slice_get : {X : Type 0} (xs : List X) (k : ℕ) (x : X) → slice_get xs k ≡ Some x → Has xs x
Has-from_slice_get [] k x e = cc
Has-from_slice_get (y ∷ xs) zero x e = inl cc
Has-from_slice_get (y ∷ xs) (suc k) x e = inr (Has-from_slice_get xs k x e)

-- what is numbered stands in the list
pub Has-from_Logged : (es : List LogEntry) (n : ℕ) (e : LogEntry) → Logged (log_of es) n e → Has es e
Has-from_Logged es n e h = of_number n h.is
  where
    of_number : (n : ℕ) → numbered es n ≡ Some e → Has es e
    of_number zero i = cc
    of_number (suc k) i = Has-from_slice_get es k e i

slice_get-below : {X : Type 0} (xs : List X) (k : ℕ) (x : X) → slice_get xs k ≡ Some x → k < length xs
slice_get-below [] k x e = cc
slice_get-below (y ∷ xs) zero x e = omega arith
slice_get-below (y ∷ xs) (suc k) x e = let h = slice_get-below xs k x e in omega arith

-- An entry under a number is logged there.
pub Logged-from_numbered : (es : List LogEntry) (n : ℕ) (e : LogEntry) → numbered es n ≡ Some e → Logged (log_of es) n e
Logged-from_numbered es zero e i = cc
Logged-from_numbered es (suc k) e i = record { below = let h = slice_get-below es k e i in omega arith; is = i }

-- what fails a test does not stand in a list none of which passes it
pub none_passes : {X : Type 0} (p : X → Bool) (xs : List X) (y : X) → Has xs y → list_any p xs ≡ false → p y ≡ true → ⊥
none_passes p [] y h e f = h
none_passes p (x ∷ xs) y h e f = at_head (p x) refl e h (none_passes p xs y)
  where
    at_head : (b : Bool) → p x ≡ b → (b || list_any p xs) ≡ false → (x ≡ y) ⊎ Has xs y → (Has xs y → list_any p xs ≡ false → p y ≡ true → ⊥) → ⊥
    at_head true g k h next = cc
    at_head false g k (inl s) next = let t = ap p s in cc
    at_head false g k (inr s) next = next s k f
