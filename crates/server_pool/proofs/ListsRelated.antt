-- Two lists, each element of the one related to the one beside it in the other.
use Rattle.std.proofs.Common.{◌≡◌, suc, Bool, true, false, cond, List, [], ◌∷◌, ◌++◌, map, find, filter, length, refl, ap, sym, subst, ◌∙◌, Option, Some, None}
use Rattle.std.specs.Prelude.{◌&&◌, ◌||◌}
use Rattle.std.specs.List.{list_any, list_all, last_or, after_first, AllByRecursion}
use Rattle.server_pool.specs.ByAddress.{Beside}
use Rattle.server_pool.specs.ByAddress.Beside.{no_more, one_more}
use Rattle.pool_rules.proofs.FirstThatPasses.{but, but_yes, but_no, after_yes, after_no}

module _ {X Y : Type 0} (R : X → Y → Type 0) where
  -- two elements that may be missing: both are, or they are related
  pub data BesideOption : Option X → Option Y → Type 0 where
    neither : BesideOption None None
    both : {x : X} {y : Y} → R x y → BesideOption (Some x) (Some y)

  -- one more at the end
  pub beside_push : {xs : List X} {ys : List Y} {x : X} {y : Y} → Beside R xs ys → R x y → Beside R (xs ++ x ∷ []) (ys ++ y ∷ [])
  beside_push no_more r = one_more r no_more
  beside_push (one_more h b) r = one_more h (beside_push b r)

  -- a list with one more at the end is beside such a list
  pub record IsParted (xs : List X) (x : X) (ys : List Y) : Type 0 where
    pub earlier : List Y
    pub last : Y
    pub whole : ys ≡ earlier ++ last ∷ []
    pub before : Beside R xs earlier
    pub at_last : R x last

  pub beside_parted : (xs : List X) (x : X) {ys : List Y} → Beside R (xs ++ x ∷ []) ys → IsParted xs x ys
  beside_parted [] x (one_more {y = y} r no_more) = record { earlier = []; last = y; whole = refl; before = no_more; at_last = r }
  beside_parted (w ∷ xs) x (one_more {y = y} r b) =
      let p = beside_parted xs x b in
      record { earlier = y ∷ p.earlier; last = p.last; whole = ap (λ (l : List Y). y ∷ l) p.whole; before = one_more r p.before; at_last = p.at_last }

  pub beside_length : {xs : List X} {ys : List Y} → Beside R xs ys → length xs ≡ length ys
  beside_length no_more = refl
  beside_length (one_more r b) = ap suc (beside_length b)

  pub beside_map : {Z : Type 0} (g : X → Z) (h : Y → Z) → ((x : X) (y : Y) → R x y → g x ≡ h y) → {xs : List X} {ys : List Y} → Beside R xs ys → map g xs ≡ map h ys
  beside_map g h agree no_more = refl
  beside_map {Z} g h agree (one_more {x = x} {y = y} {xs = xs} r b) = ap (λ (z : Z). z ∷ map g xs) (agree x y r) ∙ ap (λ (l : List Z). h y ∷ l) (beside_map g h agree b)

  pub beside_last : {xs : List X} {ys : List Y} → Beside R xs ys → {o : Option X} {p : Option Y} → BesideOption o p → BesideOption (last_or o xs) (last_or p ys)
  beside_last no_more h = h
  beside_last (one_more r b) h = beside_last b (both r)

  -- lists that are equal to them are beside each other too
  beside_equal : {xs us : List X} {ys vs : List Y} → us ≡ xs → vs ≡ ys → Beside R xs ys → Beside R us vs
  beside_equal {xs = xs} {vs = vs} e g b = subst (λ (l : List X). Beside R l vs) (sym e) (subst (λ (l : List Y). Beside R xs l) (sym g) b)

  -- one more where the tests of the two elements agree
  beside_pick : (a b : Bool) → a ≡ b → {x : X} {y : Y} {xs : List X} {ys : List Y} → R x y → Beside R xs ys → Beside R (cond a (x ∷ xs) xs) (cond b (y ∷ ys) ys)
  beside_pick true true e r h = one_more r h
  beside_pick true false e r h = cc
  beside_pick false true e r h = cc
  beside_pick false false e r h = h

  beside_first : (a b : Bool) → a ≡ b → {x : X} {y : Y} {o : Option X} {p : Option Y} → R x y → BesideOption o p → BesideOption (cond a (Some x) o) (cond b (Some y) p)
  beside_first true true e r h = both r
  beside_first true false e r h = cc
  beside_first false true e r h = cc
  beside_first false false e r h = h

  module _ (p : X → Bool) (q : Y → Bool) (agree : (x : X) (y : Y) → R x y → p x ≡ q y) where
    pub beside_any : {xs : List X} {ys : List Y} → Beside R xs ys → list_any p xs ≡ list_any q ys
    beside_any no_more = refl
    beside_any (one_more {x = x} {y = y} {xs = xs} r b) = ap (λ (t : Bool). t || list_any p xs) (agree x y r) ∙ ap (λ (t : Bool). q y || t) (beside_any b)

    pub beside_all : {xs : List X} {ys : List Y} → Beside R xs ys → list_all p xs ≡ list_all q ys
    beside_all no_more = refl
    beside_all (one_more {x = x} {y = y} {xs = xs} r b) = ap (λ (t : Bool). t && list_all p xs) (agree x y r) ∙ ap (λ (t : Bool). q y && t) (beside_all b)

    pub beside_filter : {xs : List X} {ys : List Y} → Beside R xs ys → Beside R (filter p xs) (filter q ys)
    beside_filter no_more = no_more
    beside_filter (one_more {x = x} {y = y} r b) = beside_pick (p x) (q y) (agree x y r) r (beside_filter b)

    pub beside_find : {xs : List X} {ys : List Y} → Beside R xs ys → BesideOption (find p xs) (find q ys)
    beside_find no_more = neither
    beside_find (one_more {x = x} {y = y} r b) = beside_first (p x) (q y) (agree x y r) r (beside_find b)

    pub beside_after : {xs : List X} {ys : List Y} → Beside R xs ys → Beside R (after_first p xs) (after_first q ys)
    beside_after no_more = no_more
    beside_after (one_more {x = x} {y = y} {xs = xs} {ys = ys} r b) = at_head (p x) refl (beside_after b)
      where
        at_head : (a : Bool) → p x ≡ a → Beside R (after_first p xs) (after_first q ys) → Beside R (after_first p (x ∷ xs)) (after_first q (y ∷ ys))
        at_head true e next = beside_equal (after_yes p x xs e) (after_yes q y ys (sym (agree x y r) ∙ e)) b
        at_head false e next = beside_equal (after_no p x xs e) (after_no q y ys (sym (agree x y r) ∙ e)) next

    pub beside_but : {xs : List X} {ys : List Y} → Beside R xs ys → Beside R (but p xs) (but q ys)
    beside_but no_more = no_more
    beside_but (one_more {x = x} {y = y} {xs = xs} {ys = ys} r b) = at_head (p x) refl (beside_but b)
      where
        at_head : (a : Bool) → p x ≡ a → Beside R (but p xs) (but q ys) → Beside R (but p (x ∷ xs)) (but q (y ∷ ys))
        at_head true e next = beside_equal (but_yes p x xs e) (but_yes q y ys (sym (agree x y r) ∙ e)) b
        at_head false e next = beside_equal (but_no p x xs e) (but_no q y ys (sym (agree x y r) ∙ e)) (one_more r next)

-- a list beside its image
pub beside_image : {X Y : Type 0} (f : X → Y) (P : X → Type 0) (xs : List X) → AllByRecursion P xs → Beside (λ x y. (y ≡ f x) × P x) xs (map f xs)
beside_image f P [] h = no_more
beside_image f P (x ∷ xs) h = one_more (refl, h.0) (beside_image f P xs h.1)

-- two facts of the same elements
pub beside_and : {X Y : Type 0} (R : X → Y → Type 0) (P : X → Type 0) {xs : List X} {ys : List Y} → Beside R xs ys → AllByRecursion P xs → Beside (λ x y. R x y × P x) xs ys
beside_and R P no_more h = no_more
beside_and R P (one_more r b) h = one_more (r, h.0) (beside_and R P b h.1)
