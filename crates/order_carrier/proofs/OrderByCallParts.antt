-- What a carrier did with an order, by what its parts did.
use Rattle.std.proofs.Common.{◌≡◌, ◌≤◌, ◌+◌, ℕ, true, List, [], length, Option, Some, None, refl, sym, ◌∙◌, ap, subst, arith}
use Rattle.std.proofs.lemmas.Option.{same_Some}
use Rattle.std.specs.BTreeMap.{BTreeMap}
use Rattle.dns_core.specs.Log.{log_of}
use Rattle.dns_core.specs.declared.log.LogEntry.{LogEntry}
use Rattle.dns_core.specs.declared.net_error.NetError.{NetError}
use Rattle.dns_core.specs.declared.provider.ConnectionProvider.{Ghosts}
use Rattle.resolution.specs.Ending.{waits}
use Rattle.server_core.specs.declared.orders.order.Order.{Order}
use Rattle.server_core.specs.declared.orders.order.Outcome.{Outcome}
use Rattle.server_core.specs.declared.orders.order.Outcome.TheVariants.{Failed}
use Rattle.server_core.specs.declared.orders.order.SentBy.{SentBy}
use Rattle.order_carrier.specs.Awaited.{IsSentFor, sent_of, sent_for, counted_after}
use Rattle.order_carrier.specs.Calling.{IsCalled, IsQuiet}
use Rattle.order_carrier.specs.Carrying.{state, CarrierHolds, Carries, Hears, IsRoomMade}
use Rattle.order_carrier.specs.Closing.{closings}
use Rattle.order_carrier.specs.Did.{IsHeard, IsReady, HasConnection, HasNumbers, order_in, sent_in, start_entry, poll_entry, told_by}
use Rattle.order_carrier.specs.Did.Stand.{Unseen, UnderWay, Over}
use Rattle.order_carrier.specs.GivingUp.{give_up_entry, GivesUp}
use Rattle.order_carrier.specs.Growing.{with_entries}
use Rattle.order_carrier.specs.Stand.{slot_at, stand_of, stand_at, IsPutAt, IsSameElsewhere, IsSlotNamed, IsPolled}
use Rattle.order_carrier.specs.declared.awaited.Awaited.{Awaited}
use Rattle.order_carrier.specs.declared.calling.Called.TheVariants.{Refused, Going}
use Rattle.order_carrier.specs.declared.carrier.Carrier.{Carrier}
use Rattle.order_carrier.specs.declared.key.OrderKey.{OrderKey}
use Rattle.order_carrier.specs.declared.polling.Polled.{Polled}
use Rattle.order_carrier.specs.declared.order_state.OrderState.{OrderState}
use Rattle.order_carrier.specs.declared.order_state.OrderState.TheVariants as slot
use Rattle.order_carrier.specs.declared.under_way.UnderWay.{UnderWay as Ongoing}
use Rattle.order_carrier.proofs.LogGrowsByCalls.{carried-grown, given_up-grown}
use Rattle.order_carrier.proofs.CarrierHoldsOn.{carried-holds, given_up-holds}
use Rattle.order_carrier.proofs.KeysCompareEqual.{at-put, elsewhere-put, elsewhere-refl, elsewhere-trans}
use Rattle.order_carrier.proofs.Slots.{all-named, named-unseen, named-over, stands-elsewhere}
use Rattle.order_carrier.proofs.CallByItsParts.{ready-unseen, ready-going, quiet-ready, counted-start, start-one, wanted, barred, refused, started, again, given-up}

-- a poll heard what it may, and what it left was put into its place
pub heard-there : {P C F E : Type 0} (p : Ghosts P C F E) (key : OrderKey) (order : Order) (sent : Option SentBy) (now : ℕ) (old : Carrier P C F E p) (provider : P) (put new : Carrier P C F E p)
    (polled : Polled P C F E p) (result : Option (Option Outcome)) → IsPolled now order sent (p.log old.provider) (p.log provider) polled → (sent ≡ None → provider ≡ old.provider)
    → (put.provider ≡ provider) × (put.entries ≡ old.entries) × (put.options ≡ old.options) → IsPutAt key polled.slot old.slots put.slots
    → result ≡ told_by (put.entries + 1) polled.heard → new.entries ≡ put.entries + length (poll_entry now polled.heard)
    → (new.provider ≡ put.provider) × (new.slots ≡ put.slots) × (new.options ≡ put.options)
    → Hears p key order sent now old new result
heard-there {P} {C} {F} {E} p key order sent now old provider put new polled result heard quiet was slots told entries same =
    let there = at-put key polled.slot old.slots put.slots slots in
    record {
      heard = record {
        heard = polled.heard;
        hears = heard.hears;
        options = same.2 ∙ was.2;
        quiet = λ none. same.0 ∙ was.0 ∙ quiet none;
        log = ap p.log (same.0 ∙ was.0) ∙ heard.log;
        entries = entries ∙ ap (λ (n : ℕ). n + length (poll_entry now polled.heard)) was.1;
        handed_out = told ∙ ap (λ (n : ℕ). told_by (n + 1) polled.heard) was.1;
        stand = ap (λ (slots : BTreeMap OrderKey (OrderState P C F E p)). stand_at slots key) same.1 ∙ ap stand_of there ∙ heard.stand;
      };
      named = rw (same.0, was.0, same.1, there) heard.named;
      others = rw same.1 (elsewhere-put key polled.slot old.slots put.slots slots);
    }

-- no room was made where nothing changed
pub room-same : {P C F E : Type 0} {p : Ghosts P C F E} (key : OrderKey) (c : Carrier P C F E p) → stand_at c.slots key ≡ Unseen → IsRoomMade key c c
room-same key c unseen = record { provider = refl; entries = refl; options = refl; unseen = unseen; others = elsewhere-refl key c.slots }

module _ {P C F E : Type 0} (p : Ghosts P C F E) (key : OrderKey) (order : Order) (now : ℕ) (old : Carrier P C F E p) where
  -- an order that is not ready is barred
  pub carries-barred : (IsReady (stand_at old.slots) order (stand_at old.slots key) → ⊥) → IsSlotNamed p (p.log old.provider) (slot_at old.slots key)
      → Carries p key order now old old (Some None)
  carries-barred unready named = record {
    did = barred key order now (state old) (state old) (Some None) refl refl unready refl refl refl refl;
    named = named;
    others = elsewhere-refl key old.slots;
  }

  -- ---- an order that was not started

  -- it lacks its connection
  pub carries-lacking : stand_at old.slots key ≡ Unseen → (HasConnection (stand_at old.slots) order → ⊥) → Carries p key order now old old (Some None)
  carries-lacking unseen lacks =
      carries-barred (λ ready. lacks (subst (IsReady (stand_at old.slots) order) unseen ready)) (named-unseen p (p.log old.provider) (slot_at old.slots key) unseen)

  -- memory ran out
  pub carries-wanting : (new : Carrier P C F E p) (result : Option (Option Outcome)) → stand_at old.slots key ≡ Unseen → HasConnection (stand_at old.slots) order
      → IsRoomMade key old new → result ≡ None → Carries p key order now old new result
  carries-wanting new result unseen connected room none = record {
    did = wanted key order now (state old) (state new) result room.options (λ nobody. room.provider)
        (ready-unseen (stand_at old.slots) order (stand_at old.slots key) unseen connected) (ap p.log room.provider) room.entries none (room.unseen ∙ sym unseen);
    named = named-unseen p (p.log new.provider) (slot_at new.slots key) room.unseen;
    others = room.others;
  }

  -- the order may start, and room was made for it before the provider was called
  module _ (room : Carrier P C F E p) (unseen : stand_at old.slots key ≡ Unseen) (connected : HasConnection (stand_at old.slots) order) (numbers : HasNumbers old.entries)
      (made : IsRoomMade key old room) (provider : P) (quiet : IsQuiet order room.provider provider) where
    -- it is ready
    ready : IsReady (stand_at old.slots) order (stand_at old.slots key)
    ready = ready-unseen (stand_at old.slots) order (stand_at old.slots key) unseen connected

    -- the provider ran out of memory
    pub carries-refused_memory : p.log provider ≡ p.log room.provider → Carries p key order now old (record room { provider = provider }) None
    carries-refused_memory log = record {
      did = wanted key order now (state old) (state (record room { provider = provider })) None made.options
          (quiet-ready key order (state old) old.provider provider ready (λ until is. quiet until is ∙ made.provider)) ready (log ∙ ap p.log made.provider) made.entries refl (made.unseen ∙ sym unseen);
      named = named-unseen p (p.log provider) (slot_at room.slots key) made.unseen;
      others = made.others;
    }

    -- it refused
    pub carries-refused : (new : Carrier P C F E p) (sent : SentBy) (error : NetError) → IsCalled p (room.entries + 1) now order (p.log room.provider) (p.log provider) (Refused sent error)
        → (new.provider ≡ provider) × (new.options ≡ room.options) → new.entries ≡ room.entries + 1 → IsPutAt key slot.Done room.slots new.slots
        → Carries p key order now old new (Some (Some (Failed (room.entries + 1) sent true error)))
    carries-refused new sent error called same entries slots =
        let sends : sent_for (old.entries + 1) now order ≡ Some sent = ap (λ (n : ℕ). sent_for (n + 1) now order) (sym made.entries) ∙ called.may.0 in
        let over = at-put key slot.Done room.slots new.slots slots in
        record {
          did = refused key order now (state old) (state new) (Some (Some (Failed (room.entries + 1) sent true error))) sent error (same.1 ∙ made.options)
              (quiet-ready key order (state old) old.provider new.provider ready (λ until is. same.0 ∙ quiet until is ∙ made.provider))
              (record { numbers = numbers; unseen = unseen; connected = connected }) sends called.may.1
              (ap p.log same.0 ∙ called.log ∙ ap (λ (log : Option (List LogEntry)). with_entries (start_entry now (Some error) order) log) (ap p.log made.provider))
              (omega (arith, entries, made.entries, start-one (old.entries + 1) now order sent (Some error) sends))
              (ap (λ (n : ℕ). Some (Some (Failed (n + 1) sent true error))) made.entries) (ap stand_of over);
          named = named-over p (p.log new.provider) (slot_at new.slots key) (ap stand_of over);
          others = elsewhere-trans key old.slots room.slots new.slots made.others (elsewhere-put key slot.Done room.slots new.slots slots);
        }

    -- it is polled
    pub carries-started : (mid new : Carrier P C F E p) (waits_for : Awaited F E) (result : Option (Option Outcome))
        → IsCalled p (room.entries + 1) now order (p.log room.provider) (p.log provider) (Going waits_for)
        → mid ≡ record room { provider = provider; entries = counted_after room.entries (sent_of waits_for) }
        → Hears p key order (sent_of waits_for) now mid new result → Carries p key order now old new result
    carries-started mid new waits_for result called is hears =
        let sends : sent_of waits_for ≡ sent_for (old.entries + 1) now order = sym called.may.1 ∙ ap (λ (n : ℕ). sent_for (n + 1) now order) made.entries in
        let h_is = subst (λ (s : Option SentBy). IsHeard key order s now (state mid) (state new) result) sends hears.heard in
        let count : mid.entries ≡ old.entries + length (start_entry now None order) =
        ap (λ (c : Carrier P C F E p). c.entries) is ∙ ap (counted_after room.entries) sends ∙ ap (λ (n : ℕ). counted_after n (sent_for (old.entries + 1) now order)) made.entries
        ∙ counted-start old.entries (old.entries + 1) now order numbers in
        let here = ap (λ (c : Carrier P C F E p). c.provider) is in
        record {
          did = started key order now (state old) (state new) result (state mid) (ap (λ (c : Carrier P C F E p). c.options) is ∙ made.options)
              (quiet-ready key order (state old) old.provider new.provider ready
              (λ until sleeps. h_is.quiet (ap (sent_for (old.entries + 1) now) sleeps) ∙ here ∙ quiet until sleeps ∙ made.provider))
              (record { numbers = numbers; unseen = unseen; connected = connected })
              (ap p.log here ∙ called.log ∙ ap (λ (log : Option (List LogEntry)). with_entries (start_entry now None order) log) (ap p.log made.provider)) count h_is;
          named = hears.named;
          others = elsewhere-trans key old.slots room.slots new.slots made.others
              (subst (λ (c : Carrier P C F E p). IsSameElsewhere key c.slots new.slots) is hears.others);
        }

  -- ---- one that is under way

  -- no numbers are left
  pub carries-numbers : order_in (stand_at old.slots key) ≡ Some order → IsSlotNamed p (p.log old.provider) (slot_at old.slots key) → Carries p key order now old old None
  carries-numbers going named = record {
    did = wanted key order now (state old) (state old) None refl (λ nobody. refl) (ready-going (stand_at old.slots) order (stand_at old.slots key) going) refl refl refl refl;
    named = named;
    others = elsewhere-refl key old.slots;
  }

  -- it is polled
  pub carries-polled : (mid new : Carrier P C F E p) (u : Ongoing P C F E p) (result : Option (Option Outcome)) → HasNumbers old.entries
      → order_in (stand_at old.slots key) ≡ Some order → slot_at old.slots key ≡ Some (slot.InFlight u)
      → (mid.provider ≡ old.provider) × (mid.entries ≡ old.entries) × (mid.options ≡ old.options) → IsPutAt key slot.Done old.slots mid.slots
      → Hears p key u.order.value (sent_of u.awaited) now mid new result → Carries p key order now old new result
  carries-polled mid new u result numbers going taken same slots hears =
      let stood : stand_at old.slots key ≡ UnderWay u.order.value (sent_of u.awaited) = ap stand_of taken in
      let is : u.order.value ≡ order = same_Some _ _ (sym (ap order_in stood) ∙ going) in
      record {
        did = again key order now (state old) (state new) result (state mid) (sent_of u.awaited) same.2 same.0 numbers (ap p.log same.0) same.1
            (subst (λ (o : Order). stand_at old.slots key ≡ UnderWay o (sent_of u.awaited)) is stood) (subst (λ (o : Order). IsSentFor o (sent_of u.awaited)) is u.sends)
            (subst (λ (o : Order). IsHeard key o (sent_of u.awaited) now (state mid) (state new) result) is hears.heard);
        named = hears.named;
        others = elsewhere-trans key old.slots mid.slots new.slots (elsewhere-put key slot.Done old.slots mid.slots slots) hears.others;
      }

  -- ---- what holds after it

  -- all of it
  pub carries-holds : (new : Carrier P C F E p) (result : Option (Option Outcome)) → CarrierHolds p old → Carries p key order now old new result → CarrierHolds p new
  carries-holds new result h c = record {
    holds = carried-holds key order now (state old) (state new) result h.holds c.did (stands-elsewhere p key old.slots new.slots c.others);
    named = all-named p now key (p.log old.provider) (p.log new.provider) old.slots new.slots
        (carried-grown key order now (state old) (state new) result c.did) c.others c.named h.named;
  }

-- ---- a give-up

module _ {P C F E : Type 0} (p : Ghosts P C F E) (key : OrderKey) (now : ℕ) (old : Carrier P C F E p) where
  -- what was under way was given up
  pub gives-up : (taken mid : Carrier P C F E p) (provider : P) (u : Ongoing P C F E p) → slot_at old.slots key ≡ Some (slot.InFlight u)
      → (taken.provider ≡ old.provider) × (taken.entries ≡ old.entries) × (taken.options ≡ old.options) → IsPutAt key slot.Done old.slots taken.slots
      → mid ≡ record taken { entries = counted_after taken.entries (sent_of u.awaited) }
      → p.log provider ≡ with_entries (give_up_entry now (sent_of u.awaited)) (p.log mid.provider) → (sent_of u.awaited ≡ None → provider ≡ mid.provider)
      → GivesUp key now old (record mid { provider = provider })
  gives-up taken mid provider u was same slots is log quiet =
      let here : mid.provider ≡ old.provider = ap (λ (c : Carrier P C F E p). c.provider) is ∙ same.0 in
      let over : stand_at taken.slots key ≡ Over = ap stand_of (at-put key slot.Done old.slots taken.slots slots) in
      record {
        given_up = given-up key now (state old) (state (record mid { provider = provider })) u.order.value (sent_of u.awaited)
            (ap (λ (c : Carrier P C F E p). c.options) is ∙ same.2) (λ none. quiet none ∙ here) (ap stand_of was)
            (log ∙ ap (λ (q : P). with_entries (give_up_entry now (sent_of u.awaited)) (p.log q)) here)
            (ap (λ (c : Carrier P C F E p). c.entries) is ∙ ap (λ (n : ℕ). counted_after n (sent_of u.awaited)) same.1)
            (ap (λ (c : Carrier P C F E p). stand_at c.slots key) is ∙ over);
        others = subst (λ (c : Carrier P C F E p). IsSameElsewhere key old.slots c.slots) (sym is) (elsewhere-put key slot.Done old.slots taken.slots slots);
      }

  -- all of it holds after it
  pub gives-up-holds : (new : Carrier P C F E p) → CarrierHolds p old → GivesUp key now old new → CarrierHolds p new
  gives-up-holds new h g = record {
    holds = given_up-holds key now (state old) (state new) h.holds g.given_up (stands-elsewhere p key old.slots new.slots g.others);
    named = all-named p now key (p.log old.provider) (p.log new.provider) old.slots new.slots (given_up-grown key now (state old) (state new) g.given_up) g.others
        (named-over p (p.log new.provider) (slot_at new.slots key) g.given_up.stand) h.named;
  }

-- ---- a carrier that begins

-- all of it holds where the log is empty and no order was started
pub begins-holds : {P C F E : Type 0} (p : Ghosts P C F E) (c : Carrier P C F E p) → ((es : List LogEntry) → p.log c.provider ≡ Some es → es ≡ []) → c.entries ≡ 0
    → ((k : OrderKey) → stand_at c.slots k ≡ Unseen) → CarrierHolds p c
begins-holds p c empty none unseen = record {
  holds = record {
    counted = λ room es told. ap (length {A = LogEntry}) (empty es told) ∙ sym none;
    sent = λ es told k s at. absurd (nothing k s at);
    apart = λ es told j k s t at_j at_k same. absurd (nothing j s at_j);
    unwaited = λ es told of. subst (λ (es : List LogEntry). (log_of es).next ≤ of → waits (log_of es) of (log_of es).next ≡ 0) (sym (empty es told)) (λ later. refl);
    closed = λ es told. record {
      once = λ of. subst (λ (es : List LogEntry). closings of es ≤ 1) (sym (empty es told)) (omega arith);
      under_way = λ k s at. absurd (nothing k s at);
      ahead = λ of later. ap (closings of) (empty es told);
    };
  };
  named = λ k. named-unseen p (p.log c.provider) (slot_at c.slots k) (unseen k);
}
  where
    nothing : (k : OrderKey) (s : SentBy) → sent_in (stand_at c.slots k) ≡ Some s → ⊥
    nothing k s at = let never : None ≡ Some s = ap sent_in (sym (unseen k)) ∙ at in cc
