-- An order under a number that is free may be carried.
use Rattle.std.proofs.Common.{◌≡◌, ◌&&◌, ℕ, Bool, true, false, not, List, Option, Some, None, refl, sym, subst, ap}
use Rattle.std.specs.Prelude.{is_some}
use Rattle.dns_core.specs.declared.log.LogEntry.{LogEntry}
use Rattle.server_core.specs.declared.orders.order.Order.{Order}
use Rattle.order_carrier.specs.Did.{Stand, order_in}
use Rattle.order_carrier.specs.Did.Stand.{Unseen}
use Rattle.order_carrier.specs.Sent.{is_free}
use Rattle.order_carrier.specs.declared.key.Form.{Form}
use Rattle.order_carrier.specs.declared.key.Form.TheVariants as form
use Rattle.order_carrier.specs.declared.key.OrderKey.{OrderKey}
use Rattle.order_carrier.specs.InFlight.{key_in, IsRunning}
use Rattle.order_carrier.specs.declared.in_flight.runner.InFlightOrder.{InFlightOrder}
use Rattle.order_carrier.proofs.CallCountsWaits.{order-sent}

pub is_some-none : {X : Type 0} (x : Option X) → is_some x ≡ false → x ≡ None
is_some-none None is = refl
is_some-none (Some x) is = cc

not-true : (b : Bool) → not b ≡ true → b ≡ false
not-true true is = cc
not-true false is = refl

both-true : (a b : Bool) → (a && b) ≡ true → (a ≡ true) × (b ≡ true)
both-true true b is = (refl, is)
both-true false b is = cc

-- nothing is under way under a number that is free
module _ (stands : OrderKey → Stand) (number : ℕ) (free : is_free stands number ≡ true) where
  -- what is under way in a form
  abbrev formed : Form → Option Order
  formed f = order_in (stands (record { number = number; form = f }))

  free-two : ((not (is_some (formed form.Open)) && not (is_some (formed form.Ask))) ≡ true) × (not (is_some (formed form.Sleep)) ≡ true)
  free-two = both-true (not (is_some (formed form.Open)) && not (is_some (formed form.Ask))) (not (is_some (formed form.Sleep))) free

  free-one : (not (is_some (formed form.Open)) ≡ true) × (not (is_some (formed form.Ask)) ≡ true)
  free-one = both-true (not (is_some (formed form.Open))) (not (is_some (formed form.Ask))) free-two.0

  free-form : (f : Form) → formed f ≡ None
  free-form form.Open = is_some-none (formed form.Open) (not-true (is_some (formed form.Open)) free-one.0)
  free-form form.Ask = is_some-none (formed form.Ask) (not-true (is_some (formed form.Ask)) free-one.1)
  free-form form.Sleep = is_some-none (formed form.Sleep) (not-true (is_some (formed form.Sleep)) free-two.1)

  pub free-none : (k : OrderKey) → k.number ≡ number → order_in (stands k) ≡ None
  free-none k is = subst (λ (n : ℕ). order_in (stands (record { number = n; form = k.form })) ≡ None) (sym is) (free-form k.form)

-- an order runs under a number that is free, before it was started
pub free-runs : (stands : OrderKey → Stand) (told : Option (List LogEntry)) (number : ℕ) (running : InFlightOrder) → is_free stands number ≡ true → IsRunning stands told number running
free-runs stands told number running free = record {
  polled = λ s is. absurd (order-sent (stands (key_in number running)) s (free-none stands number free (key_in number running) refl) is);
  alone = λ k at differ. free-none stands number free k at;
}

-- what is under way was started
pub under_way-seen : (stand : Stand) (order : Order) → order_in stand ≡ Some order → stand ≡ Unseen → ⊥
under_way-seen stand order is unseen = let none : order_in stand ≡ None = ap order_in unseen in cc
