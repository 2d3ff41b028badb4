-- Where orders stand in the slots of a carrier.
use Rattle.std.specs.Prelude.{◌≡◌, ◌≢◌, ℕ, List, Option, Some, None, if◌then◌else◌}
use Rattle.std.specs.BTreeMap as tree
use Rattle.std.specs.BTreeMap.{BTreeMap}
use Rattle.dns_core.specs.declared.log.LogEntry.{LogEntry}
use Rattle.dns_core.specs.declared.provider.ConnectionProvider.{Ghosts}
use Rattle.server_core.specs.declared.orders.order.Order.{Order}
use Rattle.server_core.specs.declared.orders.order.SentBy.{SentBy}
use Rattle.order_carrier.specs.Awaited.{sent_of, IsNamed}
use Rattle.order_carrier.specs.Did.{Stand, MayHear, poll_entry, heard_stand}
use Rattle.order_carrier.specs.Did.Stand.{Unseen, UnderWay, Made, Over}
use Rattle.order_carrier.specs.Growing.{with_entries}
use Rattle.order_carrier.specs.Key.{same_key}
use Rattle.order_carrier.specs.contracts.key.OrderKeyOrd.TheImpl as key_order
use Rattle.order_carrier.specs.declared.key.OrderKey.{OrderKey}
use Rattle.order_carrier.specs.declared.polling.Polled.{Polled}
use Rattle.order_carrier.specs.declared.order_state.OrderState.{OrderState}
use Rattle.order_carrier.specs.declared.order_state.OrderState.TheVariants as slot

-- what is kept under a key
abbrev pub slot_at : {S : Type 0} → BTreeMap OrderKey S → OrderKey → Option S
slot_at slots k = tree.get key_order.ghosts.cmp slots k

-- what became of the order of a slot
abbrev pub stand_of : {P C F E : Type 0} {p : Ghosts P C F E} → Option (OrderState P C F E p) → Stand
stand_of None = Unseen
stand_of (Some slot.Reserved) = Unseen
stand_of (Some (slot.InFlight u)) = UnderWay u.order.value (sent_of u.awaited)
stand_of {p = p} (Some (slot.Connected c)) = Made (p.peer c.conn)
stand_of (Some slot.Done) = Over

-- what became of the order of a key
abbrev pub stand_at : {P C F E : Type 0} {p : Ghosts P C F E} → BTreeMap OrderKey (OrderState P C F E p) → OrderKey → Stand
stand_at slots k = stand_of (slot_at slots k)

-- The value is kept under the key, and under every other key what was there.
abbrev pub IsPutAt : {S : Type 0} → OrderKey → S → BTreeMap OrderKey S → BTreeMap OrderKey S → Type 0
IsPutAt key value old new = (k : OrderKey) → slot_at new k ≡ (if same_key key k then Some value else slot_at old k)

-- Under every other key is kept what was there.
abbrev pub IsSameElsewhere : {S : Type 0} → OrderKey → BTreeMap OrderKey S → BTreeMap OrderKey S → Type 0
IsSameElsewhere key old new = (k : OrderKey) → k ≢ key → slot_at new k ≡ slot_at old k

-- What a slot waits for has the number of the entry that sent it.
abbrev pub IsSlotNamed : {P C F E : Type 0} (p : Ghosts P C F E) → Option (List LogEntry) → Option (OrderState P C F E p) → Type 0
IsSlotNamed p told None = Unit {0}
IsSlotNamed p told (Some slot.Reserved) = Unit {0}
IsSlotNamed p told (Some (slot.InFlight u)) = IsNamed p told u.awaited
IsSlotNamed p told (Some (slot.Connected c)) = Unit {0}
IsSlotNamed p told (Some slot.Done) = Unit {0}

-- A poll of an order for which this was sent heard what it may hear, the log has its entry, and the slot that it leaves fits to that.
pub record IsPolled {P C F E : Type 0} {p : Ghosts P C F E} (now : ℕ) (order : Order) (sent : Option SentBy) (old new : Option (List LogEntry))
    (polled : Polled P C F E p) : Type 0 where
  pub hears : MayHear now order sent polled.heard
  pub log : new ≡ with_entries (poll_entry now polled.heard) old
  pub stand : stand_of (Some polled.slot) ≡ heard_stand order sent polled.heard
  pub named : IsSlotNamed p new (Some polled.slot)
