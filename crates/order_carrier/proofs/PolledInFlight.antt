-- What a runner has after it carried an order that it holds.
use Rattle.std.proofs.Common.{◌≡◌, ◌≢◌, ℕ, ◌<◌, max, Option, Some, None, refl, sym, ap, subst, ◌∙◌, arith}
use Rattle.std.proofs.lemmas.Option.{same_Some}
use Rattle.std.specs.BTreeMap.{BTreeMap, WritesThrough}
use Rattle.std.specs.Option.{option_map}
use Rattle.std.specs.Ordering.{nat_cmp}
use Rattle.std.specs.Prelude.{is_some}
use Rattle.dns_core.specs.declared.provider.ConnectionProvider.{Ghosts}
use Rattle.recursor_types.specs.declared.policy.Policy.{Policy}
use Rattle.server_core.specs.declared.orders.order.Outcome.{Outcome}
use Rattle.server_core.specs.declared.orders.order.Tick.{Tick}
use Rattle.order_carrier.specs.Carrying.{CarrierHolds, Carries}
use Rattle.order_carrier.specs.Did.Stand.{Unseen}
use Rattle.order_carrier.specs.Growing.{TellsThat}
use Rattle.order_carrier.specs.Stand.{stand_at}
use Rattle.order_carrier.specs.declared.carrier.Carrier.{Carrier}
use Rattle.order_carrier.specs.InFlight.{key_in, held_at, InFlightHolds, CanRun, InFlightMoves, StartsRight, HasTold, IsCounted, Keeps, polled_again, sent_for, sent_by}
use Rattle.order_carrier.specs.declared.in_flight.runner.InFlight.{InFlight}
use Rattle.order_carrier.specs.declared.in_flight.runner.InFlightOrder.{InFlightOrder}
use Rattle.order_carrier.proofs.OrderRunsOn.{carry-moves, carry-all, carry-told}
use Rattle.order_carrier.proofs.HeldUnderNumber.{number-other}
use Rattle.order_carrier.proofs.Sums.{left-polled}

module _ {P C F E : Type 0} (p : Ghosts P C F E) (tick : Tick) (number : ℕ) (r : InFlight P C F E p) (can : CanRun p tick.patience number r) (running : InFlightOrder)
    (at : held_at r number ≡ Some running) (held : BTreeMap ℕ InFlightOrder) (written : WritesThrough nat_cmp (nat_cmp number) r.orders (polled_again running) held)
    (new : Carrier P C F E p) where
  -- the runner then
  abbrev after : InFlight P C F E p
  after = record { carrier = new; orders = held }

  -- patience allows one more poll
  run-fewer : running.polls < max 1 tick.patience
  run-fewer = subst (λ (h : InFlightOrder). h.polls < max 1 tick.patience) (same_Some _ _ (sym can.held ∙ at)) can.fewer

  -- what is written is there
  written-there : held_at after number ≡ Some (polled_again running)
  written-there = (written.3 (ap is_some at)).1

  -- and the others are there still
  written-others : (n : ℕ) → n ≢ number → held_at after n ≡ held_at r n
  written-others n differ = (written.3 (ap is_some at)).2 n (number-other number n differ)

  pub after-counted : IsCounted tick.patience number r after
  after-counted = record {
    counted = written-there ∙ sym (ap (option_map polled_again) at);
    falls = left-polled tick.patience number r after running at run-fewer written.0;
    others = written-others;
  }

  module _ (holds : CarrierHolds p new) (result : Option (Option Outcome)) (c : Carries p (key_in number running) running.order.value tick.now r.carrier new result) where
    pub after-holds : InFlightHolds p after
    after-holds = record {
      carrier = holds;
      held = carry-all p tick number running r.carrier new result can.holds.carrier c (held_at r) (held_at after) can.holds.held at written-there written-others;
    }

    pub after-moves : InFlightMoves tick.patience tick.now (StartsRight number r) (p.log r.carrier.provider) (p.log new.provider)
    after-moves =
        let m = carry-moves p tick number running r.carrier new result can.holds.carrier c (can.holds.held number running at) run-fewer in
        record { grown = m.grown; patient = m.patient; asks = λ policy right. m.asks policy (λ unseen. right running at unseen) }

  pub after-told : CarrierHolds p new → (o : Outcome) → Carries p (key_in number running) running.order.value tick.now r.carrier new (Some (Some o))
      → TellsThat (p.log new.provider) (HasTold tick.now (sent_by after number) o)
  after-told holds o c =
      subst (λ (h : Option InFlightOrder). TellsThat (p.log new.provider) (HasTold tick.now (sent_for (stand_at new.slots) number h) o)) (sym written-there)
      (carry-told p tick number running r.carrier new o can.holds.carrier holds c)

-- what is held under the number was held, and each other order
pub counted-keeps : {P C F E : Type 0} {p : Ghosts P C F E} (patience number : ℕ) (old new : InFlight P C F E p) → IsCounted patience number old new → Keeps patience number old new
counted-keeps patience number old new c =
    let falls = c.falls in
    record { fewer = omega (arith, falls); held = ap is_some c.counted ∙ by (held_at old number); others = c.others }
  where
    by : (h : Option InFlightOrder) → is_some (option_map polled_again h) ≡ is_some h
    by None = refl
    by (Some running) = refl

-- an order that was started before starts nowhere
pub seen-starts : {P C F E : Type 0} {p : Ghosts P C F E} (number : ℕ) (r : InFlight P C F E p) (running : InFlightOrder) → held_at r number ≡ Some running
    → (stand_at r.carrier.slots (key_in number running) ≡ Unseen → ⊥) → (policy : Policy) → StartsRight number r policy
seen-starts number r running at seen policy h is unseen =
    absurd (seen (subst (λ (h : InFlightOrder). stand_at r.carrier.slots (key_in number h) ≡ Unseen) (same_Some _ _ (sym is ∙ at)) unseen))
