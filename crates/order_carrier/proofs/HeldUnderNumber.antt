-- What is held under a number, and which orders run.
use Rattle.std.proofs.Common.{◌≡◌, ◌≢◌, ◌⊎◌, inl, inr, ℕ, Bool, true, false, List, Option, Some, refl, sym, ap, subst, ◌∙◌}
use Rattle.std.proofs.lemmas.Option.{same_Some}
use Rattle.std.specs.BTreeMap.{is_at}
use Rattle.std.specs.Cmp.{nat_cmp_is}
use Rattle.std.specs.FinMap.{nat_cmp-IsAntisymmetric}
use Rattle.std.specs.Ordering.{nat_cmp, is_eq}
use Rattle.std.specs.declared.cmp.Ordering.{Ordering}
use Rattle.std.specs.declared.cmp.Ordering.TheVariants.{Less, Equal, Greater}
use Rattle.dns_core.specs.declared.log.LogEntry.{LogEntry}
use Rattle.order_carrier.specs.Did.{Stand}
use Rattle.order_carrier.specs.declared.key.OrderKey.{OrderKey}
use Rattle.order_carrier.specs.InFlight.{IsRunning, AllRun}
use Rattle.order_carrier.specs.declared.in_flight.runner.InFlightOrder.{InFlightOrder}

-- what compares as equal is equal
equal-is : (o : Ordering) → is_eq o ≡ true → o ≡ Equal
equal-is Less is = cc
equal-is Equal is = refl
equal-is Greater is = cc

-- a number is this one or another
number_cases : (a b : ℕ) → (a ≡ b) ⊎ (a ≢ b)
number_cases a b = by (is_eq (nat_cmp a b)) refl
  where
    by : (c : Bool) → is_eq (nat_cmp a b) ≡ c → (a ≡ b) ⊎ (a ≢ b)
    by true is = inl (nat_cmp-IsAntisymmetric a b (equal-is (nat_cmp a b) is))
    by false is = inr (λ same. let here : is_eq (nat_cmp b b) ≡ false = subst (λ (k : ℕ). is_eq (nat_cmp k b) ≡ false) same is in let there = number-same b in cc)
      where
        number-same : (k : ℕ) → is_eq (nat_cmp k k) ≡ true
        number-same k = ap is_eq (sym (nat_cmp_is k k Equal refl))

-- another number does not compare as equal
pub number-other : (a b : ℕ) → b ≢ a → is_at (nat_cmp a) b ≡ false
number-other a b differ = by (is_eq (nat_cmp a b)) refl
  where
    by : (c : Bool) → is_eq (nat_cmp a b) ≡ c → is_eq (nat_cmp a b) ≡ false
    by false is = is
    by true is = absurd (differ (sym (nat_cmp-IsAntisymmetric a b (equal-is (nat_cmp a b) is))))

-- where an order is put under a number, it and the others run
pub all-with : (stands : OrderKey → Stand) (told : Option (List LogEntry)) (held after : ℕ → Option InFlightOrder) (number : ℕ) (v : InFlightOrder)
    → ((n : ℕ) (h : InFlightOrder) → n ≢ number → held n ≡ Some h → IsRunning stands told n h) → IsRunning stands told number v
    → after number ≡ Some v → ((n : ℕ) → n ≢ number → after n ≡ held n) → AllRun stands told after
all-with stands told held after number v others here at same n h is = by (number_cases n number)
  where
    by : (n ≡ number) ⊎ (n ≢ number) → IsRunning stands told n h
    by (inl equal) =
        let value : v ≡ h = same_Some _ _ (sym at ∙ sym (ap after equal) ∙ is) in
        subst (IsRunning stands told n) value (subst (λ (k : ℕ). IsRunning stands told k v) (sym equal) here)
    by (inr differ) = others n h differ (sym (same n differ) ∙ is)
