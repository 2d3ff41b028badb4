-- What a runner has after it started an order.
use Rattle.std.proofs.Common.{◌≡◌, ◌≢◌, ℕ, inl, inr, true, List, Option, Some, refl, sym, ap, subst, ◌∙◌, arith}
use Rattle.std.proofs.lemmas.Option.{same_Some}
use Rattle.std.specs.BTreeMap.{BTreeMap, Updates, IsOrdered, IsUnchanged, insert_entry, is_at}
use Rattle.std.specs.Global.{Box}
use Rattle.std.specs.Map.{lookup}
use Rattle.std.specs.Option.{option_map}
use Rattle.std.specs.Ordering.{nat_cmp}
use Rattle.std.specs.Prelude.{is_some}
use Rattle.dns_core.specs.declared.log.LogEntry.{LogEntry}
use Rattle.dns_core.specs.declared.provider.ConnectionProvider.{Ghosts}
use Rattle.server_core.specs.declared.orders.order.Order.{Order}
use Rattle.server_core.specs.declared.orders.order.Tick.{Tick}
use Rattle.order_carrier.specs.Sent.{is_free}
use Rattle.order_carrier.specs.Stand.{stand_at}
use Rattle.order_carrier.specs.InFlight.{held_at, polled_again, InFlightHolds, CanRun, InFlightMoves, GoesRight, StartsRight, IsCounted, Grows}
use Rattle.order_carrier.specs.declared.in_flight.runner.InFlight.{InFlight}
use Rattle.order_carrier.specs.declared.in_flight.runner.InFlightOrder.{InFlightOrder}
use Rattle.order_carrier.proofs.FreeNumberCarried.{free-runs}
use Rattle.order_carrier.proofs.HeldUnderNumber.{all-with, number-other}
use Rattle.order_carrier.proofs.Sums.{left-put, left-same}

module _ {P C F E : Type 0} (p : Ghosts P C F E) (number : ℕ) (r : InFlight P C F E p) (order : Box Order) (held : BTreeMap ℕ InFlightOrder) where
  -- the order, before it was polled
  abbrev pub first : InFlightOrder
  first = record { order = order; polls = 0 }

  -- the runner that holds it
  abbrev pub with_first : InFlight P C F E p
  with_first = record r { orders = held }

  module _ (updates : Updates nat_cmp r.orders held number (Some first)) where
    put-others : (n : ℕ) → n ≢ number → held_at with_first n ≡ held_at r n
    put-others n differ = updates.2 n (number-other number n differ)

    -- it may be carried, where its number is free
    pub start-can : (patience : ℕ) → InFlightHolds p r → is_free (stand_at r.carrier.slots) number ≡ true → CanRun p patience number with_first
    start-can patience h free = record {
      holds = record {
        carrier = h.carrier;
        held = all-with (stand_at r.carrier.slots) (p.log r.carrier.provider) (held_at r) (held_at with_first) number first (λ n v differ is. h.held n v is)
            (free-runs (stand_at r.carrier.slots) (p.log r.carrier.provider) number first free) updates.1 put-others;
      };
      running = first;
      held = updates.1;
      fewer = omega arith;
    }

    -- it goes where the order goes
    pub start-moves : (tick : Tick) (new : Option (List LogEntry)) → InFlightMoves tick.patience tick.now (StartsRight number with_first) (p.log r.carrier.provider) new
        → InFlightMoves tick.patience tick.now (GoesRight (p.log r.carrier.provider) order.value) (p.log r.carrier.provider) new
    start-moves tick new m = record {
      grown = m.grown;
      patient = m.patient;
      asks = λ policy right. m.asks policy (λ running is unseen.
          subst (λ (h : InFlightOrder). GoesRight (p.log r.carrier.provider) h.order.value policy) (same_Some _ _ (sym updates.1 ∙ is)) right);
    }

    module _ (patience : ℕ) (new : InFlight P C F E p) (c : IsCounted patience number with_first new) where
      pub start-grows : IsOrdered nat_cmp r.orders → held.entries ≡ insert_entry nat_cmp r.orders.entries number first → Grows patience number r new
      start-grows ordered is =
          let put = left-put patience number r with_first first ordered is in
          let falls = c.falls in
          record {
            most = omega (arith, put, falls);
            others = λ n differ. c.others n differ ∙ put-others n differ;
            kept = inr (ap is_some (c.counted ∙ ap (option_map polled_again) updates.1));
          }

  -- where nothing was put in all is as it was
  module _ (same : IsUnchanged r.orders held) where
    held-same : (n : ℕ) → held_at with_first n ≡ held_at r n
    held-same n = ap (λ (es : List (ℕ × InFlightOrder)). lookup (is_at (nat_cmp n)) es) same

    pub same-grows : (patience : ℕ) → Grows patience number r with_first
    same-grows patience =
        let left = left-same patience number r with_first same in
        record { most = omega (arith, left); others = λ n differ. held-same n; kept = inl refl }
