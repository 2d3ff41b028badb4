-- What stands under a number of a map after an entry was inserted, changed or taken out.
use Rattle.std.proofs.Common.{◌≡◌, ◌∙◌, ℕ, Bool, true, false, cond, List, [], ◌∷◌, refl, ap, sym, subst, Option, Some, None}
use Rattle.std.specs.BTreeMap.{is_at, insert_entry}
use Rattle.std.specs.Map.{remove_entry, set_value}
use Rattle.std.specs.Cmp.{nat_cmp_is}
use Rattle.std.specs.FinMap.{nat_cmp-IsAntisymmetric}
use Rattle.std.specs.Ordering.{nat_cmp, is_eq, match_ordering}
use Rattle.std.specs.declared.cmp.Ordering.{Ordering}
use Rattle.std.specs.declared.cmp.Ordering.TheVariants.{Less, Equal, Greater}
use Rattle.server_pool.specs.OpenLookups.{with_at, under}
use Rattle.server_pool.specs.declared.open_lookups.open_lookup.OpenLookup.{OpenLookup}

eq_is : (o : Ordering) → is_eq o ≡ true → o ≡ Equal
eq_is Less h = cc
eq_is Equal h = refl
eq_is Greater h = cc

pub at_itself : (n : ℕ) → is_at (nat_cmp n) n ≡ true
at_itself n = ap is_eq (sym (nat_cmp_is n n Equal refl))

pub same_number : (k n : ℕ) → is_at (nat_cmp k) n ≡ true → k ≡ n
same_number k n h = nat_cmp-IsAntisymmetric k n (eq_is (nat_cmp k n) h)

pub at_other : (k n : ℕ) → (n ≡ k → ⊥) → is_at (nat_cmp k) n ≡ false
at_other k n apart = by (is_at (nat_cmp k) n) refl
  where
    by : (b : Bool) → is_at (nat_cmp k) n ≡ b → is_at (nat_cmp k) n ≡ false
    by true e = absurd (apart (sym (same_number k n e)))
    by false e = e

-- ---- an entry is inserted

module _ {X : Type 0} (k : ℕ) (v : X) where
  pub inserted : (es : List (ℕ × X)) → under k (insert_entry nat_cmp es k v) ≡ Some v
  inserted [] = ap (λ (b : Bool). cond b (Some v) None) (at_itself k)
  inserted (e ∷ es) = by_order (nat_cmp k e.0) refl (inserted es)
    where
      by_order : (o : Ordering) → nat_cmp k e.0 ≡ o → under k (insert_entry nat_cmp es k v) ≡ Some v
          → under k (match_ordering o ((k, v) ∷ e ∷ es) ((e.0, v) ∷ es) (e ∷ insert_entry nat_cmp es k v)) ≡ Some v
      by_order Less is rest = ap (λ (b : Bool). cond b (Some v) (under k (e ∷ es))) (at_itself k)
      by_order Equal is rest = ap (λ (o : Ordering). cond (is_eq o) (Some v) (under k es)) is
      by_order Greater is rest = ap (λ (o : Ordering). cond (is_eq o) (Some e.1) (under k (insert_entry nat_cmp es k v))) is ∙ rest

  pub inserted_other : (q : ℕ) (es : List (ℕ × X)) → (q ≡ k → ⊥) → under q (insert_entry nat_cmp es k v) ≡ under q es
  inserted_other q [] apart = ap (λ (b : Bool). cond b (Some v) None) (at_other q k (λ e. apart (sym e)))
  inserted_other q (e ∷ es) apart = by_order (nat_cmp k e.0) refl (inserted_other q es apart)
    where
      by_order : (o : Ordering) → nat_cmp k e.0 ≡ o → under q (insert_entry nat_cmp es k v) ≡ under q es
          → under q (match_ordering o ((k, v) ∷ e ∷ es) ((e.0, v) ∷ es) (e ∷ insert_entry nat_cmp es k v)) ≡ under q (e ∷ es)
      by_order Less is rest = ap (λ (b : Bool). cond b (Some v) (under q (e ∷ es))) (at_other q k (λ e. apart (sym e)))
      by_order Equal is rest =
          let here : k ≡ e.0 = same_number k e.0 (ap is_eq is) in
          let shut : is_at (nat_cmp q) e.0 ≡ false = at_other q e.0 (λ same. apart (sym (here ∙ same))) in
          ap (λ (b : Bool). cond b (Some v) (under q es)) shut ∙ sym (ap (λ (b : Bool). cond b (Some e.1) (under q es)) shut)
      by_order Greater is rest = ap (λ (o : Option X). cond (is_at (nat_cmp q) e.0) (Some e.1) o) rest

-- ---- an entry is removed

module _ {X : Type 0} (k : ℕ) where
  pub removed_other : (q : ℕ) (es : List (ℕ × X)) → (q ≡ k → ⊥) → under q (remove_entry (is_at (nat_cmp k)) es) ≡ under q es
  removed_other q [] apart = refl
  removed_other q (e ∷ es) apart = at_head (is_at (nat_cmp k) e.0) refl (removed_other q es apart)
    where
      at_head : (b : Bool) → is_at (nat_cmp k) e.0 ≡ b → under q (remove_entry (is_at (nat_cmp k)) es) ≡ under q es → under q (cond b es (e ∷ remove_entry (is_at (nat_cmp k)) es)) ≡ under q (e ∷ es)
      at_head true is rest = sym (ap (λ (b : Bool). cond b (Some e.1) (under q es)) (at_other q e.0 (λ same. apart (sym (same_number k e.0 is ∙ same)))))
      at_head false is rest = ap (λ (o : Option X). cond (is_at (nat_cmp q) e.0) (Some e.1) o) rest

  -- what is not there is not there after it either
  pub removed_none : (q : ℕ) (es : List (ℕ × X)) → under q es ≡ None → under q (remove_entry (is_at (nat_cmp k)) es) ≡ None
  removed_none q [] none = none
  removed_none q (e ∷ es) none = at_head (is_at (nat_cmp q) e.0) refl none (removed_none q es)
    where
      kept : (b : Bool) → is_at (nat_cmp q) e.0 ≡ false → under q es ≡ None → under q (remove_entry (is_at (nat_cmp k)) es) ≡ None → under q (cond b es (e ∷ remove_entry (is_at (nat_cmp k)) es)) ≡ None
      kept true shut rest more = rest
      kept false shut rest more = ap (λ (b : Bool). cond b (Some e.1) (under q (remove_entry (is_at (nat_cmp k)) es))) shut ∙ more

      at_head : (b : Bool) → is_at (nat_cmp q) e.0 ≡ b → cond b (Some e.1) (under q es) ≡ None → (under q es ≡ None → under q (remove_entry (is_at (nat_cmp k)) es) ≡ None)
          → under q (remove_entry (is_at (nat_cmp k)) (e ∷ es)) ≡ None
      at_head true is shut next = cc
      at_head false is shut next = kept (is_at (nat_cmp k) e.0) is shut (next shut)

-- what stands there where an entry was taken out, as the call says it
pub by_update : {X : Type 0} (k : ℕ) (w : Option X) (old new : List (ℕ × X)) → ((q : ℕ) → under q new ≡ cond (is_at (nat_cmp k) q) w (under q old)) → (n : ℕ) → (n ≡ k → ⊥) → under n new ≡ under n old
by_update k w old new changed n apart = changed n ∙ ap (λ (b : Bool). cond b w (under n old)) (at_other k n apart)

-- ---- an entry is changed

set_itself : {X : Type 0} (k : ℕ) (v w : X) (es : List (ℕ × X)) → under k es ≡ Some v → under k (set_value (is_at (nat_cmp k)) es w) ≡ Some w
set_itself k v w [] h = cc
set_itself {X} k v w (e ∷ es) h = at_head (is_at (nat_cmp k) e.0) refl h (set_itself k v w es)
  where
    at_head : (b : Bool) → is_at (nat_cmp k) e.0 ≡ b → cond b (Some e.1) (under k es) ≡ Some v → (under k es ≡ Some v → under k (set_value (is_at (nat_cmp k)) es w) ≡ Some w)
        → under k (cond b ((e.0, w) ∷ es) (e ∷ set_value (is_at (nat_cmp k)) es w)) ≡ Some w
    at_head true is h next = ap (λ (b : Bool). cond b (Some w) (under k es)) is
    at_head false is h next = ap (λ (b : Bool). cond b (Some e.1) (under k (set_value (is_at (nat_cmp k)) es w))) is ∙ next h

set_other : {X : Type 0} (k q : ℕ) (w : X) (es : List (ℕ × X)) → (q ≡ k → ⊥) → under q (set_value (is_at (nat_cmp k)) es w) ≡ under q es
set_other k q w [] apart = refl
set_other {X} k q w (e ∷ es) apart = at_head (is_at (nat_cmp k) e.0) refl (set_other k q w es apart)
  where
    at_head : (b : Bool) → is_at (nat_cmp k) e.0 ≡ b → under q (set_value (is_at (nat_cmp k)) es w) ≡ under q es
        → under q (cond b ((e.0, w) ∷ es) (e ∷ set_value (is_at (nat_cmp k)) es w)) ≡ under q (e ∷ es)
    at_head true is rest =
        let shut : is_at (nat_cmp q) e.0 ≡ false = at_other q e.0 (λ same. apart (sym (same_number k e.0 is ∙ same))) in
        ap (λ (b : Bool). cond b (Some w) (under q es)) shut ∙ sym (ap (λ (b : Bool). cond b (Some e.1) (under q es)) shut)
    at_head false is rest = ap (λ (o : Option X). cond (is_at (nat_cmp q) e.0) (Some e.1) o) rest

abbrev with_by : ℕ → (OpenLookup → OpenLookup) → List (ℕ × OpenLookup) → Option OpenLookup → List (ℕ × OpenLookup)
with_by n f ls o = elim o [ None ↦ ls | Some l ↦ set_value (is_at (nat_cmp n)) ls (f l) ]

-- the one that is changed is there
pub found_with : (n : ℕ) (f : OpenLookup → OpenLookup) (l : OpenLookup) (ls : List (ℕ × OpenLookup)) → under n ls ≡ Some l → under n (with_at n f ls) ≡ Some (f l)
found_with n f l ls there = ap (λ (o : Option OpenLookup). under n (with_by n f ls o)) there ∙ set_itself n l (f l) ls there

pub with_some : (n : ℕ) (f : OpenLookup → OpenLookup) (l : OpenLookup) (ls : List (ℕ × OpenLookup)) → under n ls ≡ Some l → with_at n f ls ≡ set_value (is_at (nat_cmp n)) ls (f l)
with_some n f l ls there = ap (with_by n f ls) there

-- where there is none, nothing is changed
pub with_none : (n : ℕ) (f : OpenLookup → OpenLookup) (ls : List (ℕ × OpenLookup)) → under n ls ≡ None → with_at n f ls ≡ ls
with_none n f ls none = ap (with_by n f ls) none

-- another is there as before
pub with_other : (n q : ℕ) (f : OpenLookup → OpenLookup) (ls : List (ℕ × OpenLookup)) → (q ≡ n → ⊥) → under q (with_at n f ls) ≡ under q ls
with_other n q f ls apart = at_found (under n ls)
  where
    at_found : (o : Option OpenLookup) → under q (with_by n f ls o) ≡ under q ls
    at_found None = refl
    at_found (Some l) = set_other n q (f l) ls apart

-- ---- which one it is

-- two numbers are the same, or are not
pub data IsSame (n q : ℕ) : Type 0 where
  is_one : q ≡ n → IsSame n q
  are_two : (q ≡ n → ⊥) → IsSame n q

pub is_same : (n q : ℕ) → IsSame n q
is_same n q = by (is_at (nat_cmp n) q) refl
  where
    by : (b : Bool) → is_at (nat_cmp n) q ≡ b → IsSame n q
    by true e = is_one (sym (same_number n q e))
    by false e = are_two (λ is. (let yes = at_itself n in let wrong : true ≡ false = sym yes ∙ ap (λ (m : ℕ). is_at (nat_cmp n) m) (sym is) ∙ e in cc))

-- what stands there after a change is the one that was changed, or another one
pub data IsFound (n q : ℕ) (f : OpenLookup → OpenLookup) (ls : List (ℕ × OpenLookup)) (l : OpenLookup) : Type 0 where
  is_changed : (old : OpenLookup) → q ≡ n → under n ls ≡ Some old → f old ≡ l → IsFound n q f ls l
  is_other : (q ≡ n → ⊥) → under q ls ≡ Some l → IsFound n q f ls l

pub found_in : (n q : ℕ) (f : OpenLookup → OpenLookup) (ls : List (ℕ × OpenLookup)) (l : OpenLookup) → under q (with_at n f ls) ≡ Some l → IsFound n q f ls l
found_in n q f ls l h = by (is_same n q)
  where
    some_same : {X : Type 0} {x y : X} → Some x ≡ Some y → x ≡ y
    some_same e = cc

    at_old : (o : Option OpenLookup) → under n ls ≡ o → q ≡ n → IsFound n q f ls l
    at_old None none is =
        let found : under n ls ≡ Some l = subst (λ (m : ℕ). under m ls ≡ Some l) is (ap (under q) (sym (with_none n f ls none)) ∙ h) in
        let wrong : None ≡ Some l = sym none ∙ found in cc
    at_old (Some old) some is =
        let found : under n (with_at n f ls) ≡ Some l = subst (λ (m : ℕ). under m (with_at n f ls) ≡ Some l) is h in
        is_changed old is some (some_same (sym (found_with n f old ls some) ∙ found))

    by : IsSame n q → IsFound n q f ls l
    by (is_one is) = at_old (under n ls) refl is
    by (are_two is) = is_other is (sym (with_other n q f ls is) ∙ h)

-- a new entry that is taken out again leaves the others as they were
pub remove_inserted : {X : Type 0} (k : ℕ) (v : X) (es : List (ℕ × X)) → under k es ≡ None → remove_entry (is_at (nat_cmp k)) (insert_entry nat_cmp es k v) ≡ es
remove_inserted k v [] none = ap (λ (b : Bool). cond b [] ((k, v) ∷ [])) (at_itself k)
remove_inserted {X} k v (e ∷ es) none = by_order (nat_cmp k e.0) refl (remove_inserted k v es)
  where
    by_order : (o : Ordering) → nat_cmp k e.0 ≡ o → (under k es ≡ None → remove_entry (is_at (nat_cmp k)) (insert_entry nat_cmp es k v) ≡ es)
        → remove_entry (is_at (nat_cmp k)) (match_ordering o ((k, v) ∷ e ∷ es) ((e.0, v) ∷ es) (e ∷ insert_entry nat_cmp es k v)) ≡ e ∷ es
    by_order Less is rest = ap (λ (b : Bool). cond b (e ∷ es) ((k, v) ∷ remove_entry (is_at (nat_cmp k)) (e ∷ es))) (at_itself k)
    by_order Equal is rest = absurd (let h : Some e.1 ≡ None = sym (ap (λ (o : Ordering). cond (is_eq o) (Some e.1) (under k es)) is) ∙ none in cc)
    by_order Greater is rest =
        ap (λ (o : Ordering). cond (is_eq o) (insert_entry nat_cmp es k v) (e ∷ remove_entry (is_at (nat_cmp k)) (insert_entry nat_cmp es k v))) is
        ∙ ap (λ (l : List (ℕ × X)). e ∷ l) (rest (sym (ap (λ (o : Ordering). cond (is_eq o) (Some e.1) (under k es)) is) ∙ none))
