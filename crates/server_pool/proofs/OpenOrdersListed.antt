-- Which orders are open at which lookups, and which were withdrawn.
use Rattle.std.proofs.Common.{◌≡◌, ◌∙◌, ℕ, ◌==◌, ◌++◌, ◌∷◌, [], ◌⊎◌, Bool, true, false, cond, List, arith, refl, ap, sym, subst, eqb-true, eq-eqb, Option, Some, None, IsTrue, IsSome, inl, inr, find}
use Rattle.std.specs.Prelude.{◌↔◌, option_map, is_none}
use Rattle.std.specs.List.{Contains, AllByRecursion}
use Rattle.std.specs.List.Sorted.{IsStrictlySortedBy}
use Rattle.std.specs.declared.cmp.Ordering.TheVariants.{Less}
use Rattle.std.specs.BTreeMap.{is_at}
use Rattle.std.specs.Map.{keys_of}
use Rattle.std.specs.Ordering.{nat_cmp}
use Rattle.std.proofs.lemmas.List.Elements.{Contains-push_cases, Contains-append_left, Contains-push}
use Rattle.std.proofs.lemmas.Map.Views.{Contains-keys_from_lookup}
use Rattle.pool_lookup.specs.Asked.{has_order}
use Rattle.server_pool.specs.declared.open_lookups.open_lookup.OpenLookup.{OpenLookup}
use Rattle.server_pool.specs.OpenLookups.{is_open_in, under}
use Rattle.server_pool.proofs.UnderNumbers.{same_number}
use Rattle.server_pool.specs.Orders.{IsOpenOrder, open_at, is_withdrawn, first_withdrawn}
use Rattle.server_pool.specs.Shared.{Shared, lookup_of}

pub some_same : {X : Type 0} {x y : X} → Some x ≡ Some y → x ≡ y
some_same e = cc

-- ---- where an order is open

abbrev open_by : ℕ → Shared → Option ℕ → Option ℕ
open_by number s o = elim o [ None ↦ None | Some n ↦ cond (is_open_in number s.lookups n) (Some n) None ]

-- at the lookup that is told
pub opened : (number n : ℕ) (s : Shared) → open_at number s ≡ Some n → (l : OpenLookup) × IsOpenOrder number n l s
opened number n s h = at_order (lookup_of s number) refl h
  where
    at_lookup : (m : ℕ) (x : Option OpenLookup) → under m s.lookups ≡ x → lookup_of s number ≡ Some m → elim x [ None ↦ false | Some l ↦ has_order number l.lookup ] ≡ true → (l : OpenLookup) × IsOpenOrder number m l s
    at_lookup m None none order e = cc
    at_lookup m (Some l) some order e = (l, record { order = order; there = some; waits = e })

    at_open : (m : ℕ) (b : Bool) → is_open_in number s.lookups m ≡ b → lookup_of s number ≡ Some m → cond b (Some m) None ≡ Some n → (l : OpenLookup) × IsOpenOrder number n l s
    at_open m true e order is = subst (λ (k : ℕ). (l : OpenLookup) × IsOpenOrder number k l s) (some_same is) (at_lookup m (under m s.lookups) refl order e)
    at_open m false e order is = cc

    at_order : (o : Option ℕ) → lookup_of s number ≡ o → open_by number s o ≡ Some n → (l : OpenLookup) × IsOpenOrder number n l s
    at_order None none e = cc
    at_order (Some m) some e = at_open m (is_open_in number s.lookups m) refl some e

-- and there alone
pub open_is : (number n : ℕ) (l : OpenLookup) (s : Shared) → IsOpenOrder number n l s → open_at number s ≡ Some n
open_is number n l s o =
    let at : is_open_in number s.lookups n ≡ true = ap (λ (x : Option OpenLookup). elim x as (λ y. Bool) [ None ↦ false | Some l ↦ has_order number l.lookup ]) o.there ∙ o.waits in
    ap (open_by number s) o.order ∙ ap (λ (b : Bool). cond b (Some n) None) at

-- whether it is that of a lookup
pub open_of : (number of n : ℕ) (s : Shared) → Some of ≡ open_at number s → (IsTrue (of == n) ↔ ((l : OpenLookup) × IsOpenOrder number n l s))
open_of number of n s is = (
  λ t. subst (λ (k : ℕ). (l : OpenLookup) × IsOpenOrder number k l s) (eqb-true of n t) (opened number of s (sym is)),
  λ o. eq-eqb of n (some_same (is ∙ open_is number n o.0 s o.1)),
)

pub open_nowhere : (number n : ℕ) (s : Shared) → None ≡ open_at number s → (IsTrue false ↔ ((l : OpenLookup) × IsOpenOrder number n l s))
open_nowhere number n s is = (λ t. absurd (let e : false ≡ true = t in cc), λ o. absurd (let e : None ≡ Some n = is ∙ open_is number n o.0 s o.1 in cc))

-- one that is open nowhere is not open at its lookup
pub withdrawn_shut : (number : ℕ) (s : Shared) → open_at number s ≡ None → (n : ℕ) (l : OpenLookup) → lookup_of s number ≡ Some n → under n s.lookups ≡ Some l → has_order number l.lookup ≡ false
withdrawn_shut number s none n l order there = by (has_order number l.lookup) refl
  where
    by : (b : Bool) → has_order number l.lookup ≡ b → has_order number l.lookup ≡ false
    by true e = let wrong : None ≡ Some n = sym none ∙ open_is number n l s (record { order = order; there = there; waits = e }) in cc
    by false e = e

-- the first that was withdrawn is open nowhere
pub first_shut : (number : ℕ) (s : Shared) → first_withdrawn s ≡ Some number → open_at number s ≡ None
first_shut number s h = at_found (find (λ e. is_withdrawn s e.0) s.orders) (found_passes (λ e. is_withdrawn s e.0) s.orders) h
  where
    found_passes : (p : ℕ × ℕ → Bool) (es : List (ℕ × ℕ)) (x : ℕ × ℕ) → find p es ≡ Some x → p x ≡ true
    found_passes p [] x e = cc
    found_passes p (y ∷ ys) x e = at_head (p y) refl e (found_passes p ys x)
      where
        at_head : (b : Bool) → p y ≡ b → cond b (Some y) (find p ys) ≡ Some x → (find p ys ≡ Some x → p x ≡ true) → p x ≡ true
        at_head true t k next = ap p (sym (some_same k)) ∙ t
        at_head false t k next = next k

    is_none_is : (o : Option ℕ) → is_none o ≡ true → o ≡ None
    is_none_is None e = refl
    is_none_is (Some n) e = cc

    at_found : (o : Option (ℕ × ℕ)) → ((x : ℕ × ℕ) → o ≡ Some x → is_withdrawn s x.0 ≡ true) → option_map (λ e. e.0) o ≡ Some number → open_at number s ≡ None
    at_found None passes e = cc
    at_found (Some x) passes e = is_none_is (open_at number s) (subst (λ (k : ℕ). is_withdrawn s k ≡ true) (some_same e) (passes x refl))

-- an order that stands there is among the keys
pub among_keys : {X : Type 0} (n : ℕ) (x : X) (es : List (ℕ × X)) → under n es ≡ Some x → Contains (keys_of es) n
among_keys {X} n x es h = Contains-keys_from_lookup {eq = λ k. is_at (nat_cmp k)} same_number n es (subst IsSome (sym h) refl)

-- ---- those of a list that are open

-- among the ones so far, just those of which it is true
abbrev pub AreThose : List ℕ → List ℕ → (ℕ → Type 0) → Type 0
AreThose all some P = (n : ℕ) → Contains some n ↔ (Contains all n × P n)

pub none_those : (P : ℕ → Type 0) → AreThose [] [] P
none_those P n = (λ h. absurd (omega (arith, h.1)), λ h. absurd (omega (arith, h.0.1)))

pub one_more : (P : ℕ → Type 0) (all some : List ℕ) (m : ℕ) → AreThose all some P → P m → AreThose (all ++ m ∷ []) (some ++ m ∷ []) P
one_more P all some m those holds n =
    (λ h. there (Contains-push_cases some m n h), λ h. back h.1 (Contains-push_cases all m n h.0))
  where
    there : (Contains some n ⊎ (m ≡ n)) → Contains (all ++ m ∷ []) n × P n
    there (inl x) = let y = (those n).0 x in (Contains-append_left all (m ∷ []) n y.0, y.1)
    there (inr e) = (subst (λ (k : ℕ). Contains (all ++ m ∷ []) k) e (Contains-push all m), subst P e holds)

    back : P n → (Contains all n ⊎ (m ≡ n)) → Contains (some ++ m ∷ []) n
    back p (inl x) = Contains-append_left some (m ∷ []) n ((those n).1 (x, p))
    back p (inr e) = subst (λ (k : ℕ). Contains (some ++ m ∷ []) k) e (Contains-push some m)

pub no_more : (P : ℕ → Type 0) (all some : List ℕ) (m : ℕ) → AreThose all some P → (P m → ⊥) → AreThose (all ++ m ∷ []) some P
no_more P all some m those never n = (λ h. let y = (those n).0 h in (Contains-append_left all (m ∷ []) n y.0, y.1), λ h. back h.1 (Contains-push_cases all m n h.0))
  where
    back : P n → (Contains all n ⊎ (m ≡ n)) → Contains some n
    back p (inl x) = (those n).1 (x, p)
    back p (inr e) = absurd (never (subst P (sym e) p))

-- a list is what is left of another, in its order
pub data IsLeftOf : List ℕ → List ℕ → Type 0 where
  nothing : IsLeftOf [] []
  stays : {x : ℕ} {xs ys : List ℕ} → IsLeftOf xs ys → IsLeftOf (x ∷ xs) (x ∷ ys)
  goes : {y : ℕ} {xs ys : List ℕ} → IsLeftOf xs ys → IsLeftOf xs (y ∷ ys)

pub last_stays : {xs ys : List ℕ} (m : ℕ) → IsLeftOf xs ys → IsLeftOf (xs ++ m ∷ []) (ys ++ m ∷ [])
last_stays m nothing = stays nothing
last_stays m (stays h) = stays (last_stays m h)
last_stays m (goes h) = goes (last_stays m h)

pub last_goes : {xs ys : List ℕ} (m : ℕ) → IsLeftOf xs ys → IsLeftOf xs (ys ++ m ∷ [])
last_goes m nothing = goes nothing
last_goes m (stays h) = stays (last_goes m h)
last_goes m (goes h) = goes (last_goes m h)

left_all : (P : ℕ → Type 0) {xs ys : List ℕ} → IsLeftOf xs ys → AllByRecursion P ys → AllByRecursion P xs
left_all P nothing a = tt
left_all P (stays h) a = (a.0, left_all P h a.1)
left_all P (goes h) a = left_all P h a.1

-- what is left of rising numbers rises
pub left_rises : {xs ys : List ℕ} → IsLeftOf xs ys → IsStrictlySortedBy nat_cmp ys → IsStrictlySortedBy nat_cmp xs
unfolding IsStrictlySortedBy
left_rises nothing s = tt
left_rises (stays {x = x} h) s = (left_all (λ y. nat_cmp x y ≡ Less) h s.0, left_rises h s.1)
left_rises (goes h) s = left_rises h s.1
