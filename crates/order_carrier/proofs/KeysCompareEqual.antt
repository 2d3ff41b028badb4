-- Keys of orders that compare as equal, and what a map has after one was put there.
use Rattle.std.proofs.Common.{Bool, true, false, cond, ◌≡◌, ◌⊎◌, inl, inr, ◌<◌, ℕ, Option, Some, None, refl, sym, ◌∙◌, ap}
use Rattle.std.specs.BTreeMap.{BTreeMap, IsUpperBound}
use Rattle.std.specs.Cmp.{nat_cmp_is}
use Rattle.std.specs.Ordering.{nat_cmp, is_eq, is_lt, ordering_then}
use Rattle.std.specs.Prelude.{◌≢◌, is_some}
use Rattle.std.specs.FinMap.{nat_cmp-IsAntisymmetric}
use Rattle.std.specs.declared.cmp.Ordering.{Ordering}
use Rattle.std.specs.declared.cmp.Ordering.TheVariants.{Less, Equal, Greater}
use Rattle.order_carrier.specs.Key.{same_key}
use Rattle.order_carrier.specs.Stand.{slot_at, IsPutAt, IsSameElsewhere}
use Rattle.order_carrier.specs.contracts.key.FormOrd.TheImpl as form_order
use Rattle.order_carrier.specs.contracts.key.OrderKeyOrd.TheImpl as key_order
use Rattle.order_carrier.specs.declared.key.Form.{Form}
use Rattle.order_carrier.specs.declared.key.Form.TheVariants as form
use Rattle.order_carrier.specs.declared.key.OrderKey.{OrderKey}

-- two comparisons that come to equal
then_is : (o last : Ordering) → is_eq (ordering_then o last) ≡ true → (o ≡ Equal) × (last ≡ Equal)
then_is Less last h = cc
then_is Equal Less h = cc
then_is Equal Equal h = (refl, refl)
then_is Equal Greater h = cc
then_is Greater last h = cc

abbrev keyed : ℕ → Form → OrderKey
keyed n f = record { number = n; form = f }

-- keys of one form
same_form : (n m : ℕ) (f : Form) → is_eq (ordering_then (nat_cmp n m) Equal) ≡ true → keyed m f ≡ keyed n f
same_form n m f h = ap (λ (k : ℕ). keyed k f) (sym (nat_cmp-IsAntisymmetric n m (then_is (nat_cmp n m) Equal h).0))

parts_are : (n m : ℕ) (f g : Form) → same_key (keyed n f) (keyed m g) ≡ true → keyed m g ≡ keyed n f
parts_are n m form.Open form.Open h = same_form n m form.Open h
parts_are n m form.Open form.Ask h = let k = (then_is (nat_cmp n m) Less h).1 in cc
parts_are n m form.Open form.Sleep h = let k = (then_is (nat_cmp n m) Less h).1 in cc
parts_are n m form.Ask form.Open h = let k = (then_is (nat_cmp n m) Greater h).1 in cc
parts_are n m form.Ask form.Ask h = same_form n m form.Ask h
parts_are n m form.Ask form.Sleep h = let k = (then_is (nat_cmp n m) Less h).1 in cc
parts_are n m form.Sleep form.Open h = let k = (then_is (nat_cmp n m) Greater h).1 in cc
parts_are n m form.Sleep form.Ask h = let k = (then_is (nat_cmp n m) Greater h).1 in cc
parts_are n m form.Sleep form.Sleep h = same_form n m form.Sleep h

-- keys that compare as equal are so
pub key_is : (a b : OrderKey) → same_key a b ≡ true → b ≡ a
key_is a b h = parts_are a.number b.number a.form b.form h

parts_same : (n : ℕ) (f : Form) → same_key (keyed n f) (keyed n f) ≡ true
parts_same n form.Open = ap (λ (o : Ordering). is_eq (ordering_then o Equal)) (sym (nat_cmp_is n n Equal refl))
parts_same n form.Ask = ap (λ (o : Ordering). is_eq (ordering_then o Equal)) (sym (nat_cmp_is n n Equal refl))
parts_same n form.Sleep = ap (λ (o : Ordering). is_eq (ordering_then o Equal)) (sym (nat_cmp_is n n Equal refl))

-- a key is the same as itself
pub key_same : (a : OrderKey) → same_key a a ≡ true
key_same a = parts_same a.number a.form

-- a key is this one or another
pub key_cases : (a b : OrderKey) → (b ≡ a) ⊎ (b ≢ a)
key_cases a b = by (same_key a b) refl
  where
    by : (c : Bool) → same_key a b ≡ c → (b ≡ a) ⊎ (b ≢ a)
    by true is = inl (key_is a b is)
    by false is = inr (λ same. let k = key_same a in let other = ap (same_key a) same in cc)

-- and another is not the same
pub key_other : (a b : OrderKey) → b ≢ a → same_key a b ≡ false
key_other a b differ = by (same_key a b) refl
  where
    by : (c : Bool) → same_key a b ≡ c → same_key a b ≡ false
    by false is = is
    by true is = absurd (differ (key_is a b is))

-- a key of a smaller number is less than one of a greater
less_number : (a b : OrderKey) → a.number < b.number → is_lt (key_order.ghosts.cmp a b) ≡ true
less_number a b less = ap (λ (o : Ordering). is_lt (ordering_then o (form_order.ghosts.cmp a.form b.form))) (sym (nat_cmp_is a.number b.number Less less))

-- under a number that is greater than that of the last key nothing stands
pub past_last : {S : Type 0} (slots : BTreeMap OrderKey S) (last k : OrderKey) → IsUpperBound key_order.ghosts.cmp slots last → last.number < k.number → slot_at slots k ≡ None
past_last {S} slots last k bound less = by (slot_at slots k) refl
  where
    by : (o : Option S) → slot_at slots k ≡ o → slot_at slots k ≡ None
    by None is = is
    by (Some v) is = let greater = less_number last k less in let not_less = bound k (ap is_some is) in cc

module _ {S : Type 0} (key : OrderKey) (value : S) (old new : BTreeMap OrderKey S) (put : IsPutAt key value old new) where
  -- what was put stands there
  pub at-put : slot_at new key ≡ Some value
  at-put = put key ∙ ap (λ (b : Bool). cond b (Some value) (slot_at old key)) (key_same key)

  -- and what stood elsewhere stands there still
  pub elsewhere-put : IsSameElsewhere key old new
  elsewhere-put k differ = put k ∙ ap (λ (b : Bool). cond b (Some value) (slot_at old k)) (key_other key k differ)

-- what does not change is the same elsewhere
pub elsewhere-refl : {S : Type 0} (key : OrderKey) (slots : BTreeMap OrderKey S) → IsSameElsewhere key slots slots
elsewhere-refl key slots k differ = refl

-- two changes under one key are one
pub elsewhere-trans : {S : Type 0} (key : OrderKey) (a b c : BTreeMap OrderKey S) → IsSameElsewhere key a b → IsSameElsewhere key b c → IsSameElsewhere key a c
elsewhere-trans key a b c x y k differ = y k differ ∙ x k differ
