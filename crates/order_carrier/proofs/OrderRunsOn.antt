-- The order that a runner carries runs on, and so does each other one.
use Rattle.std.proofs.Common.{◌≡◌, ◌≢◌, ℕ, ◌≤◌, ◌<◌, max, Option, Some, sym, ap, ◌∙◌}
use Rattle.std.specs.BTreeMap.{BTreeMap}
use Rattle.dns_core.specs.declared.provider.ConnectionProvider.{Ghosts}
use Rattle.resolution.specs.Ending.{waits}
use Rattle.server_core.specs.declared.orders.order.Outcome.{Outcome}
use Rattle.server_core.specs.declared.orders.order.SentBy.{SentBy}
use Rattle.server_core.specs.declared.orders.order.Tick.{Tick}
use Rattle.order_carrier.specs.Carrying.{CarrierHolds, Carries, state}
use Rattle.order_carrier.specs.Did.{order_in, sent_in}
use Rattle.order_carrier.specs.Did.Stand.{Unseen}
use Rattle.order_carrier.specs.Growing.{TellsThat}
use Rattle.order_carrier.specs.Stand.{stand_at, stand_of, IsSameElsewhere}
use Rattle.order_carrier.specs.declared.carrier.Carrier.{Carrier}
use Rattle.order_carrier.specs.declared.key.OrderKey.{OrderKey}
use Rattle.order_carrier.specs.declared.order_state.OrderState.{OrderState}
use Rattle.order_carrier.specs.InFlight.{key_in, IsRunning, AllRun, InFlightMoves, GoesRight, HasTold, polled_again}
use Rattle.order_carrier.specs.declared.in_flight.runner.InFlightOrder.{InFlightOrder}
use Rattle.order_carrier.proofs.CallCountsWaits.{run-moves, run-polled, run-told, other-polled}
use Rattle.order_carrier.proofs.HeldUnderNumber.{all-with}

-- what stands under a key that is not this one stands there as before
pub same-elsewhere : {P C F E : Type 0} {p : Ghosts P C F E} (key : OrderKey) (old new : BTreeMap OrderKey (OrderState P C F E p)) → IsSameElsewhere key old new
    → (k : OrderKey) → k ≢ key → stand_at new k ≡ stand_at old k
same-elsewhere {p = p} key old new others k differ = ap (stand_of {p = p}) (others k differ)

-- a key of another number is another key
pub other-key : (number n : ℕ) (running h : InFlightOrder) → n ≢ number → key_in n h ≢ key_in number running
other-key number n running h differ same = differ (ap (λ (k : OrderKey). k.number) same)

module _ {P C F E : Type 0} (p : Ghosts P C F E) (tick : Tick) (number : ℕ) (running : InFlightOrder) (old new : Carrier P C F E p) (result : Option (Option Outcome))
    (holds : CarrierHolds p old) (c : Carries p (key_in number running) running.order.value tick.now old new result) where
  module _ (may : IsRunning (stand_at old.slots) (p.log old.provider) number running) where
    -- the log has grown as the order may make it grow
    pub carry-moves : running.polls < max 1 tick.patience
        → InFlightMoves tick.patience tick.now (λ policy. stand_at old.slots (key_in number running) ≡ Unseen → GoesRight (p.log old.provider) running.order.value policy) (p.log old.provider) (p.log new.provider)
    carry-moves fewer = run-moves (key_in number running) running.order.value tick.now (state old) (state new) holds.holds running.polls may.polled tick.patience result c.did fewer

    -- the order runs on, polled once more
    carry-runs : IsRunning (stand_at new.slots) (p.log new.provider) number (polled_again running)
    carry-runs = record {
      polled = run-polled (key_in number running) running.order.value tick.now (state old) (state new) holds.holds running.polls may.polled result c.did;
      alone = λ k at differ. ap order_in (same-elsewhere (key_in number running) old.slots new.slots c.others k differ) ∙ may.alone k at differ;
    }

  -- so does each other order
  carry-other : (n : ℕ) (h : InFlightOrder) → n ≢ number → IsRunning (stand_at old.slots) (p.log old.provider) n h → IsRunning (stand_at new.slots) (p.log new.provider) n h
  carry-other n h differ runs = record {
    polled = λ s at. polled_of s (sym same ∙ at);
    alone = λ k at other. ap order_in (same-elsewhere key old.slots new.slots c.others k (λ is. differ (sym at ∙ ap (λ (j : OrderKey). j.number) is))) ∙ runs.alone k at other;
  }
    where
      key : OrderKey
      key = key_in number running

      same : sent_in (stand_at new.slots (key_in n h)) ≡ sent_in (stand_at old.slots (key_in n h))
      same = ap sent_in (same-elsewhere key old.slots new.slots c.others (key_in n h) (other-key number n running h differ))

      polled_of : (s : SentBy) → sent_in (stand_at old.slots (key_in n h)) ≡ Some s → TellsThat (p.log new.provider) (λ log. waits log s.of log.next ≤ h.polls)
      polled_of s at =
          other-polled key running.order.value tick.now (state old) (state new) holds.holds h.polls result c.did (key_in n h) (other-key number n running h differ) s at (runs.polled s at)

  -- so all that are held run
  pub carry-all : (held after : ℕ → Option InFlightOrder) → AllRun (stand_at old.slots) (p.log old.provider) held → held number ≡ Some running → after number ≡ Some (polled_again running)
      → ((n : ℕ) → n ≢ number → after n ≡ held n) → AllRun (stand_at new.slots) (p.log new.provider) after
  carry-all held after all was at same =
      all-with (stand_at new.slots) (p.log new.provider) held after number (polled_again running) (λ n h differ is. carry-other n h differ (all n h is)) (carry-runs (all number running was)) at same

-- the log has the outcome of the order
pub carry-told : {P C F E : Type 0} (p : Ghosts P C F E) (tick : Tick) (number : ℕ) (running : InFlightOrder) (old new : Carrier P C F E p) (o : Outcome) → CarrierHolds p old → CarrierHolds p new
    → Carries p (key_in number running) running.order.value tick.now old new (Some (Some o)) → TellsThat (p.log new.provider) (HasTold tick.now (sent_in (stand_at new.slots (key_in number running))) o)
carry-told p tick number running old new o before after c = run-told (key_in number running) running.order.value tick.now (state old) (state new) before.holds o c.did after.holds
