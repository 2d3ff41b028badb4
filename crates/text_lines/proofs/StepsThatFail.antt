-- Steps that may fail.
use Rattle.std.proofs.Common.{◌≡◌, Bool, true, false, cond, List, ◌++◌, Option, Some, None, refl, inl, inr, ◌⊎◌}
use Rattle.text_lines.specs.Numbers.{◌>>=◌}

pub bind_some : {A B : Type 0} (r : Option A) (f : A → Option B) (y : B) → (r >>= f) ≡ Some y → (x : A) × (r ≡ Some x) × (f x ≡ Some y)
bind_some (Some x) f y e = (x, refl, e)
bind_some None f y e = absurd cc

-- a step that leads to nothing from all that may be read
pub bind_none : {A B : Type 0} (r : Option A) (f : A → Option B) → ((x : A) → r ≡ Some x → f x ≡ None) → (r >>= f) ≡ None
bind_none (Some x) f h = h x refl
bind_none None f h = refl

-- a step that leaves all that may be read as it is
pub bind_same : {A : Type 0} (r : Option A) (f : A → Option A) → ((x : A) → r ≡ Some x → f x ≡ Some x) → (r >>= f) ≡ r
bind_same (Some x) f h = h x refl
bind_same None f h = refl

pub guard_some : {A : Type 0} (b : Bool) (r : Option A) (y : A) → cond b r None ≡ Some y → (b ≡ true) × (r ≡ Some y)
guard_some true r y e = (refl, e)
guard_some false r y e = absurd cc

pub guard_not : {A : Type 0} (b : Bool) (r : Option A) (y : A) → cond b None r ≡ Some y → (b ≡ false) × (r ≡ Some y)
guard_not true r y e = absurd cc
guard_not false r y e = (refl, e)

abbrev some : {A : Type 0} → A → Option A
some x = Some x

pub some_is : {A : Type 0} (x y : A) → some x ≡ some y → x ≡ y
some_is x y e = cc

-- which way a test went
pub chosen : {A : Type 0} (b : Bool) (x y z : A) → cond b x y ≡ z → ((b ≡ true) × (x ≡ z)) ⊎ ((b ≡ false) × (y ≡ z))
chosen true x y z e = inl (refl, e)
chosen false x y z e = inr (refl, e)

-- what is read, behind items that are there
abbrev pub behind : {X : Type 0} → List X → Option (List X) → Option (List X)
behind front read = read >>= λ xs. Some (front ++ xs)
