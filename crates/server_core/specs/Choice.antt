-- The first least one of those that are allowed.
use Rattle.std.specs.Prelude.{◌≡◌, ◌<◌, ℕ, Bool, IsTrue, List, Option, Some, None, slice_get}
use Rattle.std.specs.Bool.{IsFalse}

-- it is allowed, no allowed one is less, and each earlier allowed one is greater
pub record IsFirstLeast {X : Type 0} (allowed : X → Bool) (less : X → X → Bool) (xs : List X) (place : ℕ) : Type 0 where
  pub item : X
  pub there : slice_get xs place ≡ Some item
  pub fits : IsTrue (allowed item)
  pub least : (k : ℕ) (x : X) → slice_get xs k ≡ Some x → IsTrue (allowed x) → IsFalse (less x item)
  pub first : (k : ℕ) (x : X) → k < place → slice_get xs k ≡ Some x → IsTrue (allowed x) → IsTrue (less item x)

-- its place, or none where none is allowed
abbrev pub Picks : {X : Type 0} → (X → Bool) → (X → X → Bool) → List X → Option ℕ → Type 0
Picks {X} allowed less xs None = (k : ℕ) (x : X) → slice_get xs k ≡ Some x → IsFalse (allowed x)
Picks allowed less xs (Some place) = IsFirstLeast allowed less xs place
