-- What a call of the provider for an order that starts comes to.
use Rattle.std.specs.Prelude.{◌≡◌, ℕ, false, List, [], Option, Some, None}
use Rattle.std.specs.Option.{option_map}
use Rattle.dns_core.specs.Connection.{Peer}
use Rattle.dns_core.specs.Log.{Numbered}
use Rattle.dns_core.specs.NetError.{is_memory}
use Rattle.dns_core.specs.declared.log.LogEntry.{LogEntry}
use Rattle.dns_core.specs.declared.provider.ConnectionProvider.{Ghosts}
use Rattle.dns_core.specs.declared.request.DnsRequest.{DnsRequest}
use Rattle.server_core.specs.declared.orders.order.Order.{Order}
use Rattle.server_core.specs.declared.orders.order.Order.TheVariants.{Open, Ask, Sleep}
use Rattle.order_carrier.specs.Awaited.{GoesFor, IsNamed, sent_of, sent_for}
use Rattle.order_carrier.specs.Did.{start_entry}
use Rattle.order_carrier.specs.Growing.{with_entries}
use Rattle.order_carrier.specs.declared.calling.Called.{Called}
use Rattle.order_carrier.specs.declared.calling.Called.TheVariants.{OutOfMemory, Refused, Going}

-- An ask goes over a connection to its address, over its protocol; the others go over any, or none.
abbrev pub IsOver : {P C F E : Type 0} (p : Ghosts P C F E) → Order → Option C → Type 0
IsOver p (Open ip config) over = Unit {0}
IsOver p (Ask conn ip protocol request) over = option_map p.peer over ≡ Some (record { ip = ip; protocol = protocol })
IsOver p (Sleep until) over = Unit {0}

-- The order asks the question of a request of this peer.
pub record AsksOver (peer : Peer) (order : Order) (request : DnsRequest) : Type 0 where
  pub conn : ℕ
  pub asks : order ≡ Ask conn peer.ip peer.protocol request

-- Of a sleep a provider hears nothing.
abbrev pub IsQuiet : {P : Type 0} → Order → P → P → Type 0
IsQuiet order old new = (until : ℕ) → order ≡ Sleep until → new ≡ old

-- the entry of a call, by what it came to; where it ran out of memory there is none
abbrev pub call_entry : {F E : Type 0} → ℕ → Order → Called F E → List LogEntry
call_entry now order OutOfMemory = []
call_entry now order (Refused sent error) = start_entry now (Some error) order
call_entry now order (Going waits_for) = start_entry now None order

-- What a call may come to by an entry of this number: what was sent for the order was refused, or it is waited for, and where the log is told
-- the provider knows it by that number.
abbrev pub MayCome : {P C F E : Type 0} (p : Ghosts P C F E) → ℕ → ℕ → Order → Option (List LogEntry) → Option (List LogEntry) → Called F E → Type 0
MayCome p of now order old new OutOfMemory = Unit {0}
MayCome p of now order old new (Refused sent error) = (sent_for of now order ≡ Some sent) × (is_memory error ≡ false)
MayCome p of now order old new (Going waits_for) =
    GoesFor p order waits_for × (sent_for of now order ≡ sent_of waits_for) × (Numbered of old → IsNamed p new waits_for)

-- A call came to what it may, and appended its entry.
pub record IsCalled {P C F E : Type 0} (p : Ghosts P C F E) (of now : ℕ) (order : Order) (old new : Option (List LogEntry)) (called : Called F E) : Type 0 where
  pub log : new ≡ with_entries (call_entry now order called) old
  pub may : MayCome p of now order old new called
