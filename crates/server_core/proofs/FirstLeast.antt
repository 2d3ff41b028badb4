-- The first least one, with one item more.
use Rattle.std.proofs.Common.{◌≡◌, ◌<◌, ◌+◌, ◌⊎◌, ⊎_elim, inl, inr, ℕ, zero, suc, List, [], ◌∷◌, length, length-take, take, get_or, Bool, true, false, ◌&&◌, ◌||◌, ◌==◌, nat_lt, Option, Some, None, refl, sym, ap, subst, arith, add-one, slice_get}
use Rattle.std.proofs.lemmas.Bool.Decides.{nat_tests}
use Rattle.std.proofs.lemmas.Option.{slice_get_within, slice_get-get_or}
use Rattle.server_core.specs.Choice.{IsFirstLeast, Picks}

-- an order: what is before one, where another is not, is before that other, and that one is not before it
pub record IsOrder {X : Type 0} (less : X → X → Bool) : Type 0 where
  pub itself : (x : X) → less x x ≡ false
  pub ahead : (x y z : X) → less x y ≡ true → less z y ≡ false → less x z ≡ true
  pub behind : (x y z : X) → less x y ≡ true → less z y ≡ false → less z x ≡ false

-- with one item more each item stands where it stood
slice_get-kept : {X : Type 0} (xs : List X) (n k : ℕ) (x : X) → slice_get (take n xs) k ≡ Some x → slice_get (take (suc n) xs) k ≡ Some x
slice_get-kept [] zero k x g = g
slice_get-kept [] (suc n) k x g = g
slice_get-kept (z ∷ xs) zero k x g = cc
slice_get-kept (z ∷ xs) (suc n) zero x g = g
slice_get-kept (z ∷ xs) (suc n) (suc k) x g = slice_get-kept xs n k x g

-- the new one is the last
slice_get-last : {X : Type 0} (xs : List X) (n : ℕ) (y : X) → slice_get xs n ≡ Some y → slice_get (take (suc n) xs) n ≡ Some y
slice_get-last [] n y h = cc
slice_get-last (z ∷ xs) zero y h = h
slice_get-last (z ∷ xs) (suc n) y h = slice_get-last xs n y h

-- what is read among the first n is what is read among all
kept_read : {X : Type 0} (xs : List X) (n k : ℕ) (x : X) → slice_get (take n xs) k ≡ Some x → slice_get xs k ≡ Some x
kept_read [] zero k x g = g
kept_read [] (suc n) k x g = g
kept_read (z ∷ xs) zero k x g = cc
kept_read (z ∷ xs) (suc n) zero x g = g
kept_read (z ∷ xs) (suc n) (suc k) x g = kept_read xs n k x g

-- and there is no other new one
slice_get-split : {X : Type 0} (xs : List X) (n k : ℕ) (x y : X) → slice_get xs n ≡ Some y → slice_get (take (suc n) xs) k ≡ Some x → (slice_get (take n xs) k ≡ Some x) ⊎ ((k ≡ n) × (x ≡ y))
slice_get-split [] n k x y h g = cc
slice_get-split (z ∷ xs) zero zero x y h g = inr (refl, cc)
slice_get-split (z ∷ xs) zero (suc k) x y h g = cc
slice_get-split (z ∷ xs) (suc n) zero x y h g = inl g
slice_get-split (z ∷ xs) (suc n) (suc k) x y h g =
    ⊎_elim (λ e. inl e) (λ p. inr (ap suc p.0, p.1)) (slice_get-split xs n k x y h g)

-- a new item is not among the first n
old_place : {X : Type 0} (xs : List X) (n k : ℕ) (x : X) → slice_get (take n xs) k ≡ Some x → k < n
old_place xs n k x g = let h : k < length (take n xs) = slice_get_within (take n xs) k x g in omega (arith, length-take n xs)

-- what holds of each of the first n and of the next one
each_more : {X : Type 0} (P : ℕ → X → Type 0) (xs : List X) (n : ℕ) (y : X) → slice_get xs n ≡ Some y → P n y → ((k : ℕ) (x : X) → slice_get (take n xs) k ≡ Some x → P k x) → (k : ℕ) (x : X) → slice_get (take (suc n) xs) k ≡ Some x → P k x
each_more P xs n y here new old k x g =
    ⊎_elim (λ e. old k x e) (λ p. subst (λ (j : ℕ). P j x) (sym p.0) (subst (P n) (sym p.1) new)) (slice_get-split xs n k x y here g)

-- an item before one of the first n is one of these
earlier_item : {X : Type 0} (xs : List X) (n b k : ℕ) (x y item : X) → slice_get xs n ≡ Some y → slice_get (take n xs) b ≡ Some item → k < b → slice_get (take (suc n) xs) k ≡ Some x → slice_get (take n xs) k ≡ Some x
earlier_item xs n b k x y item here there before g =
    let within : b < n = old_place xs n b item there in
    ⊎_elim (λ e. e) (λ p. absurd (omega arith)) (slice_get-split xs n k x y here g)

-- an item that is not allowed changes nothing
suc-skipped : {X : Type 0} (allowed : X → Bool) (less : X → X → Bool) (xs : List X) (n : ℕ) (y : X) (best : Option ℕ) → slice_get xs n ≡ Some y → allowed y ≡ false → Picks allowed less (take n xs) best → Picks allowed less (take (suc n) xs) best
suc-skipped allowed less xs n y None here not so_far =
    each_more (λ k x. allowed x ≡ false) xs n y here not so_far
suc-skipped allowed less xs n y (Some b) here not so_far = record {
  item = so_far.item;
  there = slice_get-kept xs n b so_far.item so_far.there;
  fits = so_far.fits;
  least = each_more (λ k x. allowed x ≡ true → less x so_far.item ≡ false) xs n y here (λ is. cc) so_far.least;
  first = λ k x before g. so_far.first k x before (earlier_item xs n b k x y so_far.item here so_far.there before g);
}

-- the first allowed one is the least of all so far
suc-begun : {X : Type 0} (allowed : X → Bool) (less : X → X → Bool) (xs : List X) (n : ℕ) (y : X) → IsOrder less → slice_get xs n ≡ Some y → allowed y ≡ true → Picks allowed less (take n xs) None → IsFirstLeast allowed less (take (suc n) xs) n
suc-begun allowed less xs n y order here is none = record {
  item = y;
  there = slice_get-last xs n y here;
  fits = is;
  least = each_more (λ k x. allowed x ≡ true → less x y ≡ false) xs n y here (λ _. order.itself y) (λ k x g fits. let none_is : allowed x ≡ false = none k x g in cc);
  first = λ k x before g fits. ⊎_elim (λ e. let none_is : allowed x ≡ false = none k x e in cc) (λ p. absurd (omega arith)) (slice_get-split xs n k x y here g);
}

-- an allowed one that is less takes the place
suc-won : {X : Type 0} (allowed : X → Bool) (less : X → X → Bool) (xs : List X) (n b : ℕ) (y item : X) → IsOrder less → slice_get xs n ≡ Some y → slice_get xs b ≡ Some item → allowed y ≡ true → less y item ≡ true → IsFirstLeast allowed less (take n xs) b → IsFirstLeast allowed less (take (suc n) xs) n
suc-won allowed less xs n b y item order here there is won so_far =
    let same : so_far.item ≡ item = let there_too : slice_get xs b ≡ Some so_far.item = kept_read xs n b so_far.item so_far.there in cc in
    let won : less y so_far.item ≡ true = rw same won in
    record {
      item = y;
      there = slice_get-last xs n y here;
      fits = is;
      least = each_more (λ k x. allowed x ≡ true → less x y ≡ false) xs n y here (λ _. order.itself y) (λ k x g fits. order.behind y so_far.item x won (so_far.least k x g fits));
      first = λ k x before g fits. ⊎_elim (λ e. order.ahead y so_far.item x won (so_far.least k x e fits)) (λ p. absurd (omega arith)) (slice_get-split xs n k x y here g);
    }

-- one that is not less does not
suc-lost : {X : Type 0} (allowed : X → Bool) (less : X → X → Bool) (xs : List X) (n b : ℕ) (y item : X) → slice_get xs n ≡ Some y → slice_get xs b ≡ Some item → less y item ≡ false → IsFirstLeast allowed less (take n xs) b → IsFirstLeast allowed less (take (suc n) xs) b
suc-lost allowed less xs n b y item here there lost so_far =
    let same : so_far.item ≡ item = let there_too : slice_get xs b ≡ Some so_far.item = kept_read xs n b so_far.item so_far.there in cc in
    record {
      item = so_far.item;
      there = slice_get-kept xs n b so_far.item so_far.there;
      fits = so_far.fits;
      least = each_more (λ k x. allowed x ≡ true → less x so_far.item ≡ false) xs n y here (λ _. rw same lost) so_far.least;
      first = λ k x before g. so_far.first k x before (earlier_item xs n b k x y so_far.item here so_far.there before g);
    }

-- a place among the first n is one of the list
pub place_within : {X : Type 0} (allowed : X → Bool) (less : X → X → Bool) (xs : List X) (n b : ℕ) → IsFirstLeast allowed less (take n xs) b → b < length xs
place_within allowed less xs n b so_far = slice_get_within xs b so_far.item (kept_read xs n b so_far.item so_far.there)

-- the same of what the code reads at places
pub skipped : {X : Type 0} (allowed : X → Bool) (less : X → X → Bool) (xs : List X) (n : ℕ) (d : X) (best : Option ℕ) → n < length xs → allowed (get_or xs n d) ≡ false → Picks allowed less (take n xs) best → Picks allowed less (take (n + 1) xs) best
skipped allowed less xs n d best h not so_far =
    rw add-one (suc-skipped allowed less xs n (get_or xs n d) best (slice_get-get_or xs n d h) not so_far)

pub begun : {X : Type 0} (allowed : X → Bool) (less : X → X → Bool) (xs : List X) (n : ℕ) (d : X) → IsOrder less → n < length xs → allowed (get_or xs n d) ≡ true → Picks allowed less (take n xs) None → IsFirstLeast allowed less (take (n + 1) xs) n
begun allowed less xs n d order h is none =
    rw add-one (suc-begun allowed less xs n (get_or xs n d) order (slice_get-get_or xs n d h) is none)

pub won : {X : Type 0} (allowed : X → Bool) (less : X → X → Bool) (xs : List X) (n b : ℕ) (d e : X) → IsOrder less → n < length xs → allowed (get_or xs n d) ≡ true → less (get_or xs n d) (get_or xs b e) ≡ true → IsFirstLeast allowed less (take n xs) b → IsFirstLeast allowed less (take (n + 1) xs) n
won allowed less xs n b d e order h is less_is so_far =
    rw add-one (suc-won allowed less xs n b (get_or xs n d) (get_or xs b e) order (slice_get-get_or xs n d h) (slice_get-get_or xs b e (place_within allowed less xs n b so_far)) is less_is so_far)

pub lost : {X : Type 0} (allowed : X → Bool) (less : X → X → Bool) (xs : List X) (n b : ℕ) (d e : X) → n < length xs → less (get_or xs n d) (get_or xs b e) ≡ false → IsFirstLeast allowed less (take n xs) b → IsFirstLeast allowed less (take (n + 1) xs) b
lost allowed less xs n b d e h is so_far =
    rw add-one (suc-lost allowed less xs n b (get_or xs n d) (get_or xs b e) (slice_get-get_or xs n d h) (slice_get-get_or xs b e (place_within allowed less xs n b so_far)) is so_far)

-- the order by one number
abbrev pub is_lower : ℕ → ℕ → Bool
is_lower a c = nat_lt a c

is_lower-itself : (a : ℕ) → is_lower a a ≡ false
is_lower-itself a = grind (arith, nat_tests)

is_lower-ahead : (a c e : ℕ) → is_lower a c ≡ true → is_lower e c ≡ false → is_lower a e ≡ true
is_lower-ahead a c e h i = grind (arith, nat_tests)

is_lower-behind : (a c e : ℕ) → is_lower a c ≡ true → is_lower e c ≡ false → is_lower e a ≡ false
is_lower-behind a c e h i = grind (arith, nat_tests)

pub by_one : {X : Type 0} (f : X → ℕ) → IsOrder (λ x y. is_lower (f x) (f y))
by_one f = record {
  itself = λ x. is_lower-itself (f x);
  ahead = λ x y z. is_lower-ahead (f x) (f y) (f z);
  behind = λ x y z. is_lower-behind (f x) (f y) (f z);
}

-- and that by two
abbrev pub is_lower_by : ℕ → ℕ → ℕ → ℕ → Bool
is_lower_by a b c d = nat_lt a c || (a == c && nat_lt b d)

is_lower_by-itself : (a b : ℕ) → is_lower_by a b a b ≡ false
is_lower_by-itself a b = grind (arith, nat_tests)

is_lower_by-ahead : (a b c d e f : ℕ) → is_lower_by a b c d ≡ true → is_lower_by e f c d ≡ false → is_lower_by a b e f ≡ true
is_lower_by-ahead a b c d e f h i = grind (arith, nat_tests)

is_lower_by-behind : (a b c d e f : ℕ) → is_lower_by a b c d ≡ true → is_lower_by e f c d ≡ false → is_lower_by e f a b ≡ false
is_lower_by-behind a b c d e f h i = grind (arith, nat_tests)

pub by_two : {X : Type 0} (f g : X → ℕ) → IsOrder (λ x y. is_lower_by (f x) (g x) (f y) (g y))
by_two f g = record {
  itself = λ x. is_lower_by-itself (f x) (g x);
  ahead = λ x y z. is_lower_by-ahead (f x) (g x) (f y) (g y) (f z) (g z);
  behind = λ x y z. is_lower_by-behind (f x) (g x) (f y) (g y) (f z) (g z);
}

-- two first least ones are the same
one_place : {X : Type 0} (allowed : X → Bool) (less : X → X → Bool) (xs : List X) (a b : ℕ) → IsFirstLeast allowed less xs a → IsFirstLeast allowed less xs b → a < b → ⊥
one_place allowed less xs a b p q before =
    let less_is : less q.item p.item ≡ true = q.first a p.item before p.there p.fits in
    let not_less : less q.item p.item ≡ false = p.least b q.item q.there q.fits in
    cc

pub one_choice : {X : Type 0} (allowed : X → Bool) (less : X → X → Bool) (xs : List X) (a b : Option ℕ) → Picks allowed less xs a → Picks allowed less xs b → a ≡ b
one_choice allowed less xs None None p q = refl
one_choice allowed less xs None (Some b) p q = let not_allowed : allowed q.item ≡ false = p b q.item q.there in let is : allowed q.item ≡ true = q.fits in cc
one_choice allowed less xs (Some a) None p q = let not_allowed : allowed p.item ≡ false = q a p.item p.there in let is : allowed p.item ≡ true = p.fits in cc
one_choice allowed less xs (Some a) (Some b) p q =
    let not_below : a < b → ⊥ = one_place allowed less xs a b p q in
    let not_above : b < a → ⊥ = one_place allowed less xs b a q p in
    let same : a ≡ b = omega arith in
    ap Some same
