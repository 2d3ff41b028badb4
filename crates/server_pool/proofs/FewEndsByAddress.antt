-- A server has few ends at each address where each of its candidates has, whatever the order of the addresses.
use Rattle.std.proofs.Common.{◌≡◌, ℕ, ◌+◌, ◌*◌, ◌≤◌, inl, inr, Bool, true, false, cond, ◌&&◌, not, List, [], ◌∷◌, map, Contains, Option, Some, None, refl, ap, sym, subst, ◌∙◌, arith}
use Rattle.std.specs.Prelude.{count_by, if◌then◌else◌}
use Rattle.std.specs.List.{AllByRecursion}
use Rattle.std.specs.List.Sorted.{IsPermutation}
use Rattle.std.proofs.lemmas.Bool.{and_parts}
use Rattle.std.proofs.lemmas.List.Elements.{All-contains, All-from_recursion}
use Rattle.std.proofs.lemmas.List.Sorted.{sum_by-IsPermutation}
use Rattle.std.proofs.lemmas.List.Sums.{sum_by-cons}
use Rattle.resolution.specs.Lookups.{Answered, End, Rules, is_tcp_fallback, falls_back, the_fallback, is_at, is_fallback_at, IsBounded}
use Rattle.resolution.specs.declared.class.Class.{Class}
use Rattle.resolution.proofs.ElementsFiltered.{Has, Has-from_Contains, Contains-from_Has}
use Rattle.server_pool.specs.ByAddress.{IsSameEnd, SameEnds}
use Rattle.server_pool.specs.ByAddress.Beside.{no_more, one_more}
use Rattle.server_pool.proofs.ListsRelated.{BesideOption, beside_find}
use Rattle.server_pool.proofs.ListsRelated.BesideOption.{neither, both}

-- ---- how many pass

abbrev bit : Bool → ℕ
bit b = cond b 1 0

abbrev times : {X : Type 0} → (X → Bool) → List X → ℕ
times p [] = 0
times p (x ∷ xs) = bit (p x) + times p xs

counted : {X : Type 0} (p : X → Bool) (xs : List X) → count_by p xs ≡ times p xs
counted p [] = refl
counted p (x ∷ xs) = sum_by-cons (λ y. cond (p y) 1 0) x xs ∙ ap (λ (n : ℕ). bit (p x) + n) (counted p xs)

none_here : (a b : ℕ) → a ≡ 0 → b ≡ 0 → a + b ≡ 0
none_here a b h k = omega (arith, h, k)

none_pass : {X : Type 0} (p : X → Bool) (xs : List X) → ((x : X) → Has xs x → p x ≡ true → ⊥) → times p xs ≡ 0
none_pass p [] none = refl
none_pass {X} p (x ∷ xs) none = by (p x) refl (none_pass p xs (λ y there. none y (inr there)))
  where
    by : (b : Bool) → p x ≡ b → times p xs ≡ 0 → times p (x ∷ xs) ≡ 0
    by true is rest = absurd (none x (inl refl) is)
    by false is rest = none_here (bit (p x)) (times p xs) (ap bit is) rest

two_parts : (a b c x y z : ℕ) → a ≡ b + c → x ≡ y + z → a + x ≡ (b + y) + (c + z)
two_parts a b c x y z h k = omega (arith, h, k)

joined : (a b c x y z t u v : ℕ) → a ≡ b + c → x ≡ y + z → t ≡ u + v → b ≤ 5 * y + u → c ≤ 5 * z + v → a ≤ 5 * x + t
joined a b c x y z t u v h k l first second = omega (arith, h, k, l, first, second)

-- ---- with one taken out

module _ {S E : Type 0} (same : S → S → Bool) (same_self : (s : S) → same s s ≡ true) (same_is : (a b : S) → same a b ≡ true → a ≡ b) (at : E → S) where
  -- those that pass and are another one
  abbrev but : (S → Bool) → S → S → Bool
  but p k s = p s && not (same k s)

  one_or : (passes is : Bool) → (is ≡ true → passes ≡ true) → bit passes ≡ bit (passes && not is) + bit is
  one_or true true h = refl
  one_or true false h = refl
  one_or false true h = let wrong = h refl in cc
  one_or false false h = refl

  one_of : (p : S → Bool) (k s : S) → p k ≡ true → bit (p s) ≡ bit (but p k s) + bit (same k s)
  one_of p k s passes = one_or (p s) (same k s) (λ is. subst (λ (x : S). p x ≡ true) (same_is k s is) passes)

  parted : (p : S → Bool) (k : S) → p k ≡ true → (es : List E) → times (λ e. p (at e)) es ≡ times (λ e. but p k (at e)) es + times (λ e. same k (at e)) es
  parted p k passes [] = refl
  parted p k passes (e ∷ es) =
      two_parts (bit (p (at e))) (bit (but p k (at e))) (bit (same k (at e))) (times (λ e. p (at e)) es) (times (λ e. but p k (at e)) es) (times (λ e. same k (at e)) es)
      (one_of p k (at e) passes) (parted p k passes es)

  -- the element that may be missing passes
  abbrev passes_at : (S → Bool) → Option E → Bool
  passes_at p o = elim o [ None ↦ false | Some e ↦ p (at e) ]

  parted_at : (p : S → Bool) (k : S) → p k ≡ true → (o : Option E) → bit (passes_at p o) ≡ bit (passes_at (but p k) o) + bit (passes_at (same k) o)
  parted_at p k passes None = refl
  parted_at p k passes (Some e) = one_of p k (at e) passes

  parted_pool : (p : S → Bool) (k : S) → p k ≡ true → (xs : List S) → times p xs ≡ times (but p k) xs + times (same k) xs
  parted_pool p k passes [] = refl
  parted_pool p k passes (x ∷ xs) =
      two_parts (bit (p x)) (bit (but p k x)) (bit (same k x)) (times p xs) (times (but p k) xs) (times (same k) xs) (one_of p k x passes) (parted_pool p k passes xs)

  module _ (pool : List S) (es : List E) (one : Option E) (each : (s : S) → times (λ e. same s (at e)) es ≤ 5 * times (same s) pool + bit (passes_at (same s) one)) where
    -- those that pass are among these
    abbrev Among : List S → (S → Bool) → Type 0
    Among ks p = (e : E) → Has es e → p (at e) ≡ true → Has ks (at e)

    abbrev IsFew : (S → Bool) → Type 0
    IsFew p = times (λ e. p (at e)) es ≤ 5 * times p pool + bit (passes_at p one)

    -- those that pass are few, as those of each one are
    together : (ks : List S) (p : S → Bool) → Among ks p → IsFew p
    together [] p among = let none = none_pass (λ e. p (at e)) es among in omega (arith, none)
    together (k ∷ ks) p among = by (p k) refl (together ks p) (together ks (but p k))
      where
        among_but : Among ks (but p k)
        among_but e there passes =
            let parts = and_parts (p (at e)) (not (same k (at e))) passes in
            elim (among e there parts.0) [
              | inl is ↦ absurd (other (same k (at e)) (subst (λ (s : S). same k s ≡ true) is (same_self k)) parts.1)
              | inr h ↦ h
            ]
          where
            other : (b : Bool) → b ≡ true → not b ≡ true → ⊥
            other true h n = cc
            other false h n = cc

        among_still : p k ≡ false → Among ks p
        among_still fails e there passes = elim (among e there passes) [
          | inl is ↦ let wrong : true ≡ false = sym passes ∙ ap p (sym is) ∙ fails in cc
          | inr h ↦ h
        ]

        by : (b : Bool) → p k ≡ b → (Among ks p → IsFew p) → (Among ks (but p k) → IsFew (but p k)) → IsFew p
        by true passes still rest =
            joined (times (λ e. p (at e)) es) (times (λ e. but p k (at e)) es) (times (λ e. same k (at e)) es) (times p pool) (times (but p k) pool) (times (same k) pool)
            (bit (passes_at p one)) (bit (passes_at (but p k) one)) (bit (passes_at (same k) one))
            (parted p k passes es) (parted_pool p k passes pool) (parted_at p k passes one) (rest among_but) (each k)
        by false fails still rest = still (among_still fails)

-- ---- by the images of the servers

within : (a b c x y z : ℕ) → a ≡ x → b ≡ y → c ≡ z → a ≤ 5 * b + c → x ≤ 5 * y + z
within a b c x y z h k l le = omega (arith, h, k, l, le)

module _ {S T : Type 0} (rules : Rules S) (rules' : Rules T) (class class' : Answered → Class) (f : S → T)
    (same_self : (s : S) → rules.same s s ≡ true) (same_is : (a b : S) → rules.same a b ≡ true → a ≡ b) where
  abbrev server_of : End S → S
  server_of e = e.server

  -- the image of a server is at this one
  abbrev at_image : T → S → Bool
  at_image u s = rules'.same u (f s)

  image_ends : (u : T) {ends : List (End S)} {ends' : List (End T)} → SameEnds f class class' ends ends' → times (λ e. at_image u (server_of e)) ends ≡ times (is_at rules' class' u) ends'
  image_ends u no_more = refl
  image_ends u (one_more {x = e} {y = e'} {ys = ys} r rest) =
      ap (λ (n : ℕ). bit (rules'.same u (f e.server)) + n) (image_ends u rest)
      ∙ ap (λ (t : T). bit (rules'.same u t) + times (is_at rules' class' u) ys) (sym r.server)

  image_pool : (u : T) (servers : List S) → times (at_image u) servers ≡ times (rules'.same u) (map f servers)
  image_pool u [] = refl
  image_pool u (s ∷ servers) = ap (λ (n : ℕ). bit (rules'.same u (f s)) + n) (image_pool u servers)

  image_turn : (u : T) {o : Option (End S)} {o' : Option (End T)} → BesideOption (IsSameEnd f class class') o o'
      → passes_at rules.same same_self same_is server_of (at_image u) o ≡ elim o' [ None ↦ false | Some e ↦ is_at rules' class' u e ]
  image_turn u neither = refl
  image_turn u (both r) = ap (rules'.same u) (sym r.server)

  -- The bound holds at the images of the servers.
  pub bounded_images : (servers : List S) {ends : List (End S)} {ends' : List (End T)} → AllByRecursion (λ e. Contains servers e.server) ends → SameEnds f class class' ends ends'
      → IsBounded rules class servers ends → IsBounded rules' class' (map f servers) ends'
  bounded_images servers {ends} {ends'} from beside each u =
      let turn = the_fallback rules class ends in
      let few = together rules.same same_self same_is server_of servers ends turn each_counted servers (at_image u) from_servers in
      within (times (λ e. at_image u (server_of e)) ends) (times (at_image u) servers) (bit (passes_at rules.same same_self same_is server_of (at_image u) turn))
      (count_by (is_at rules' class' u) ends') (count_by (rules'.same u) (map f servers)) (if is_fallback_at rules' class' ends' u then 1 else 0)
      (image_ends u beside ∙ sym (counted (is_at rules' class' u) ends')) (image_pool u servers ∙ sym (counted (rules'.same u) (map f servers)))
      (ap bit (image_turn u (beside_find (IsSameEnd f class class') (falls_back rules class) (falls_back rules' class') (λ e e' r. ap is_tcp_fallback r.outcome) beside))) few
    where
      each_counted : (s : S) → times (λ e. rules.same s (server_of e)) ends ≤ 5 * times (rules.same s) servers + bit (passes_at rules.same same_self same_is server_of (rules.same s) (the_fallback rules class ends))
      each_counted s =
          within (count_by (is_at rules class s) ends) (count_by (rules.same s) servers) (if is_fallback_at rules class ends s then 1 else 0)
          (times (λ e. rules.same s (server_of e)) ends) (times (rules.same s) servers) (bit (passes_at rules.same same_self same_is server_of (rules.same s) (the_fallback rules class ends)))
          (counted (is_at rules class s) ends) (counted (rules.same s) servers) refl (each s)

      from_servers : (e : End S) → Has ends e → at_image u (server_of e) ≡ true → Has servers (server_of e)
      from_servers e there passes =
          Has-from_Contains servers e.server
          (All-contains (λ (e : End S). Contains servers e.server) ends e (All-from_recursion (λ (e : End S). Contains servers e.server) ends from) (Contains-from_Has ends e there))

-- ---- in another order

-- The bound holds with the servers in another order.
pub bounded_permuted : {S : Type 0} (rules : Rules S) (class : Answered → Class) (ends : List (End S)) (xs ys : List S) → IsPermutation xs ys → IsBounded rules class xs ends → IsBounded rules class ys ends
bounded_permuted rules class ends xs ys same each s =
    let places : count_by (rules.same s) ys ≡ count_by (rules.same s) xs = sum_by-IsPermutation (λ x. cond (rules.same s x) 1 0) xs ys same in
    subst (λ (n : ℕ). count_by (is_at rules class s) ends ≤ 5 * n + (if is_fallback_at rules class ends s then 1 else 0)) (sym places) (each s)
