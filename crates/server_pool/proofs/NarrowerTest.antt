-- What passes a test, and what passes a narrower one.
use Rattle.std.proofs.Common.{◌≡◌, ◌∙◌, ℕ, suc, ◌≤◌, ◌&&◌, ◌||◌, Bool, true, false, cond, List, [], ◌∷◌, filter, length, refl, ap, sym, arith, Option, Some}
use Rattle.std.specs.List.{list_any, list_all, last_or, AllByRecursion}
use Rattle.server_pool.specs.ByAddress.{Beside}
use Rattle.server_pool.specs.ByAddress.Beside.{no_more, one_more}

-- one of two, where the first is the same and the second follows
pub or_follows : (a b c d : Bool) → a ≡ c → (b ≡ true → d ≡ true) → (a || b) ≡ true → (c || d) ≡ true
or_follows true b c d e f h = ap (λ (x : Bool). x || d) (sym e)
or_follows false b c d e f h = ap (λ (x : Bool). x || d) (sym e) ∙ f h

module _ {X : Type 0} (p : X → Bool) where
  -- the last that passes
  pub last_passing : (xs : List X) (o : Option X) → ((e : X) → o ≡ Some e → p e ≡ true) → (e : X) → last_or o (filter p xs) ≡ Some e → p e ≡ true
  last_passing [] o f e h = f e h
  last_passing (x ∷ xs) o f e h = at_head (p x) refl h (λ (n : Option X) (g : (e : X) → n ≡ Some e → p e ≡ true) (k : last_or n (filter p xs) ≡ Some e). last_passing xs n g e k)
    where
      at_head : (b : Bool) → p x ≡ b → last_or o (cond b (x ∷ filter p xs) (filter p xs)) ≡ Some e
          → ((n : Option X) → ((e : X) → n ≡ Some e → p e ≡ true) → last_or n (filter p xs) ≡ Some e → p e ≡ true) → p e ≡ true
      at_head true t h next = next (Some x) (λ y k. let s : x ≡ y = cc in ap p (sym s) ∙ t) h
      at_head false t h next = next o f h

  module _ (g : X → Bool) where
    -- of these the one test is narrower than the other
    abbrev pub IsNarrower : List X → Type 0
    IsNarrower xs = AllByRecursion (λ x. p x ≡ true → g x ≡ true) xs

    no_longer : {m n : ℕ} → m ≤ n → suc m ≤ suc n
    no_longer h = omega arith

    later : {m n : ℕ} → m ≤ n → m ≤ suc n
    later h = omega arith

    pub length_narrowed : (xs : List X) → IsNarrower xs → length (filter p xs) ≤ length (filter g xs)
    length_narrowed [] a = omega arith
    length_narrowed (x ∷ xs) a = at_head (p x) (g x) refl refl (length_narrowed xs a.1)
      where
        at_head : (b c : Bool) → p x ≡ b → g x ≡ c → length (filter p xs) ≤ length (filter g xs) → length (cond b (x ∷ filter p xs) (filter p xs)) ≤ length (cond c (x ∷ filter g xs) (filter g xs))
        at_head true true t u next = no_longer next
        at_head true false t u next = let w = a.0 t in cc
        at_head false true t u next = later next
        at_head false false t u next = next

    -- the last of those that pass the wider test is the last of those that pass the narrower one, where it does
    pub last_narrowed : (xs : List X) → IsNarrower xs → (o n : Option X) → ((e : X) → o ≡ Some e → p e ≡ true → n ≡ Some e)
        → (e : X) → last_or o (filter g xs) ≡ Some e → p e ≡ true → last_or n (filter p xs) ≡ Some e
    last_narrowed [] a o n f e h k = f e h k
    last_narrowed (x ∷ xs) a o n f e h k =
        at_head (g x) (p x) refl refl h
        (λ (v w : Option X) (j : (e : X) → v ≡ Some e → p e ≡ true → w ≡ Some e) (i : last_or v (filter g xs) ≡ Some e). last_narrowed xs a.1 v w j e i k)
      where
        differ : (y : X) → Some x ≡ Some y → p y ≡ true → p x ≡ false → n ≡ Some y
        differ y s t u = let r : x ≡ y = cc in let v : p y ≡ false = ap p (sym r) ∙ u in cc

        at_head : (b c : Bool) → g x ≡ b → p x ≡ c → last_or o (cond b (x ∷ filter g xs) (filter g xs)) ≡ Some e
            → ((v w : Option X) → ((e : X) → v ≡ Some e → p e ≡ true → w ≡ Some e) → last_or v (filter g xs) ≡ Some e → last_or w (filter p xs) ≡ Some e)
            → last_or n (cond c (x ∷ filter p xs) (filter p xs)) ≡ Some e
        at_head true true t u h next = next (Some x) (Some x) (λ y s r. s) h
        at_head true false t u h next = next (Some x) n (λ y s r. differ y s r u) h
        at_head false true t u h next = let w = a.0 u in cc
        at_head false false t u h next = next o n f h

module _ {X Y : Type 0} (R : X → Y → Type 0) (q : Y → Bool) where
  -- one passes, where one beside it does
  pub any_follows : (p : X → Bool) → ((x : X) (y : Y) → R x y → p x ≡ true → q y ≡ true) → {xs : List X} {ys : List Y} → Beside R xs ys → list_any p xs ≡ true → list_any q ys ≡ true
  any_follows p f no_more h = h
  any_follows p f (one_more {x = x} {y = y} {xs = xs} {ys = ys} r b) h = at_head (p x) refl h (any_follows p f b)
    where
      at_head : (c : Bool) → p x ≡ c → (c || list_any p xs) ≡ true → (list_any p xs ≡ true → list_any q ys ≡ true) → (q y || list_any q ys) ≡ true
      at_head true t h next = ap (λ (z : Bool). z || list_any q ys) (f x y r t)
      at_head false t h next = right (q y) (list_any q ys) (next h)
        where
          right : (c d : Bool) → d ≡ true → (c || d) ≡ true
          right true d h = refl
          right false d h = h

  -- all pass, where each one beside another does
  pub all_follow : ((x : X) (y : Y) → R x y → q y ≡ true) → {xs : List X} {ys : List Y} → Beside R xs ys → list_all q ys ≡ true
  all_follow f no_more = refl
  all_follow f (one_more {x = x} {y = y} {ys = ys} r b) = and_true (q y) (list_all q ys) (f x y r) (all_follow f b)
    where
      and_true : (c d : Bool) → c ≡ true → d ≡ true → (c && d) ≡ true
      and_true true d g h = h
      and_true false d g h = g

-- what holds of the elements of the one list
pub each_beside : {X Y : Type 0} (R : X → Y → Type 0) (P : X → Type 0) → ((x : X) (y : Y) → R x y → P x) → {xs : List X} {ys : List Y} → Beside R xs ys → AllByRecursion P xs
each_beside R P f no_more = tt
each_beside R P f (one_more {x = x} {y = y} r b) = (f x y r, each_beside R P f b)
