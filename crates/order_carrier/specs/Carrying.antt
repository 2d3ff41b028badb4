-- What holds of a carrier.
use Rattle.std.specs.Prelude.{◌≡◌, ◌≤◌, ◌<◌, ◌+◌, ◌^◌, ℕ, List, Option, Some, None}
use Rattle.dns_core.specs.Log.{Log}
use Rattle.dns_core.specs.declared.log.LogEntry.{LogEntry}
use Rattle.dns_core.specs.declared.provider.ConnectionProvider.{Ghosts}
use Rattle.resolution.specs.Ending.{waits}
use Rattle.server_core.specs.declared.orders.order.Order.{Order}
use Rattle.server_core.specs.declared.orders.order.Outcome.{Outcome}
use Rattle.server_core.specs.declared.orders.order.SentBy.{SentBy}
use Rattle.order_carrier.specs.Closing.{AreClosedOnce}
use Rattle.order_carrier.specs.Did.{State, Stand, Carried, IsHeard, sent_in}
use Rattle.order_carrier.specs.Did.Stand.{Unseen}
use Rattle.order_carrier.specs.Fits.{IsSent}
use Rattle.order_carrier.specs.Growing.{TellsThat, Counted}
use Rattle.order_carrier.specs.Stand.{slot_at, stand_at, IsSameElsewhere, IsSlotNamed}
use Rattle.order_carrier.specs.declared.carrier.Carrier.{Carrier}
use Rattle.order_carrier.specs.declared.key.OrderKey.{OrderKey}

-- a carrier as its laws see it
abbrev pub state : {P C F E : Type 0} {p : Ghosts P C F E} → Carrier P C F E p → State P
state {p = p} c = record { options = c.options; provider = c.provider; log = p.log c.provider; entries = c.entries; stands = stand_at c.slots }

-- What is under way was sent by the entry that it names.
abbrev pub AllSent : (OrderKey → Stand) → Log → Type 0
AllSent stands log = (k : OrderKey) (s : SentBy) → sent_in (stands k) ≡ Some s → IsSent log s None

-- No two of what is under way were sent by one entry.
abbrev pub AreApart : (OrderKey → Stand) → Type 0
AreApart stands = (j k : OrderKey) (s t : SentBy) → sent_in (stands j) ≡ Some s → sent_in (stands k) ≡ Some t → s.of ≡ t.of → j ≡ k

-- No entry to come was waited for.
abbrev pub IsUnwaited : Log → Type 0
IsUnwaited log = (of : ℕ) → log.next ≤ of → waits log of log.next ≡ 0

-- Entries are counted as far as the count goes, what is under way was sent by the entry that it names, each by another, no entry to come
-- was waited for, and each is closed at most once.
pub record StateHolds {P : Type 0} (s : State P) : Type 0 where
  pub counted : s.entries + 1 < 2 ^ 64 → Counted s.log s.entries
  pub sent : TellsThat s.log (AllSent s.stands)
  pub apart : TellsThat s.log (λ log. AreApart s.stands)
  pub unwaited : TellsThat s.log IsUnwaited
  pub closed : AreClosedOnce s.log s.stands

-- The same of a carrier, and its provider knows what is under way by the same entries.
pub record CarrierHolds {P C F E : Type 0} (p : Ghosts P C F E) (c : Carrier P C F E p) : Type 0 where
  pub holds : StateHolds (state c)
  pub named : (k : OrderKey) → IsSlotNamed p (p.log c.provider) (slot_at c.slots k)

-- A carrier took up an order, at a moment: it did one thing with it, every other order stands where it stood, and its provider knows what is under
-- way by the entry that sent it.
pub record Carries {P C F E : Type 0} (p : Ghosts P C F E) (key : OrderKey) (order : Order) (now : ℕ) (old new : Carrier P C F E p)
    (result : Option (Option Outcome)) : Type 0 where
  pub did : Carried key order now (state old) (state new) result
  pub named : IsSlotNamed p (p.log new.provider) (slot_at new.slots key)
  pub others : IsSameElsewhere key old.slots new.slots

-- A carrier polled what was sent for an order: it heard one thing, every other order stands where it stood, and its provider knows what is under way
-- by the entry that sent it.
pub record Hears {P C F E : Type 0} (p : Ghosts P C F E) (key : OrderKey) (order : Order) (sent : Option SentBy) (now : ℕ) (old new : Carrier P C F E p)
    (result : Option (Option Outcome)) : Type 0 where
  pub heard : IsHeard key order sent now (state old) (state new) result
  pub named : IsSlotNamed p (p.log new.provider) (slot_at new.slots key)
  pub others : IsSameElsewhere key old.slots new.slots

-- Nothing but room was made for an order that was not started.
pub record IsRoomMade {P C F E : Type 0} {p : Ghosts P C F E} (key : OrderKey) (old new : Carrier P C F E p) : Type 0 where
  pub provider : new.provider ≡ old.provider
  pub entries : new.entries ≡ old.entries
  pub options : new.options ≡ old.options
  pub unseen : stand_at new.slots key ≡ Unseen
  pub others : IsSameElsewhere key old.slots new.slots

-- The provider vouches for no more than before, and connections go on being opened with the same options.
pub record CarriesOn {P C F E : Type 0} (p : Ghosts P C F E) (old new : Carrier P C F E p) : Type 0 where
  pub vouches : (es : List LogEntry) → p.vouches new.provider es → p.vouches old.provider es
  pub options : new.options ≡ old.options
