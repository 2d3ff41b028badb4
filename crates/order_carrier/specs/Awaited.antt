-- Where an order goes, what was sent for it, and what it waits for.
use Rattle.std.specs.Prelude.{◌≡◌, ◌+◌, ◌-◌, ◌^◌, ℕ, Bool, true, IsTrue, List, Option, Some, None, min}
use Rattle.std.specs.Option.{option_map}
use Rattle.std.specs.declared.net.ip_addr.IpAddr.{IpAddr}
use Rattle.dns_core.specs.Connection.{Peer, protocol_of}
use Rattle.dns_core.specs.declared.log.LogEntry.{LogEntry}
use Rattle.dns_core.specs.declared.message.Query.{Query}
use Rattle.dns_core.specs.declared.provider.ConnectionProvider.{Ghosts}
use Rattle.server_core.specs.declared.orders.order.Order.{Order}
use Rattle.server_core.specs.declared.orders.order.Order.TheVariants.{Open, Ask, Sleep}
use Rattle.server_core.specs.declared.orders.order.SentBy.{SentBy}
use Rattle.order_carrier.specs.declared.awaited.Awaited.{Awaited}
use Rattle.order_carrier.specs.declared.awaited.Awaited.TheVariants as awaited

-- A connection reaches a peer, a question is asked of an address, or nothing goes out before a moment.
pub data Aim : Type 0 where
  Reaches : Peer → Aim
  Asks : IpAddr → Query → Aim
  Rests : ℕ → Aim

-- where an order goes
abbrev pub aim_of : Order → Aim
aim_of (Open ip config) = Reaches (record { ip = ip; protocol = protocol_of config.protocol })
aim_of (Ask conn ip protocol request) = Asks ip request.query
aim_of (Sleep until) = Rests until

-- where goes what is waited for
abbrev pub aim : {F E : Type 0} → (F → Peer) → (E → Query) → Awaited F E → Aim
aim opening question (awaited.Connection future sent) = Reaches (opening future)
aim opening question (awaited.Answer exchange sent) = Asks sent.ip (question exchange)
aim opening question (awaited.Moment until) = Rests until

-- whether what is waited for may be polled
abbrev pub may_be_polled : {F E : Type 0} → (F → Bool) → (E → Bool) → Awaited F E → Bool
may_be_polled opens waits (awaited.Connection future sent) = opens future
may_be_polled opens waits (awaited.Answer exchange sent) = waits exchange
may_be_polled opens waits (awaited.Moment until) = true

-- what was sent for what is waited for; nothing was for a moment
abbrev pub sent_of : {F E : Type 0} → Awaited F E → Option SentBy
sent_of (awaited.Connection future sent) = Some sent
sent_of (awaited.Answer exchange sent) = Some sent
sent_of (awaited.Moment until) = None

-- An address, and the question for it; without one a connection to it.
pub record Target : Type 0 where
  pub ip : IpAddr
  pub query : Option Query

-- the question of an order, where it has one
abbrev pub query_of : Order → Option Query
query_of (Open ip config) = None
query_of (Ask conn ip protocol request) = Some request.query
query_of (Sleep until) = None

-- how many entries are counted after the one that sent this, or gave it up, as far as the count goes
abbrev pub counted_after : ℕ → Option SentBy → ℕ
counted_after entries None = entries
counted_after entries (Some sent) = min (entries + 1) (2 ^ 64 - 1)

-- to which address an order goes, and with which question; a sleep goes to none
abbrev pub target_of : Order → Option Target
target_of (Open ip config) = Some (record { ip = ip; query = None })
target_of (Ask conn ip protocol request) = Some (record { ip = ip; query = Some request.query })
target_of (Sleep until) = None

-- where what was sent went
abbrev pub target : SentBy → Target
target s = record { ip = s.ip; query = s.query }

-- What was sent went to the address of the order, with its question, where it has one; for a sleep nothing was sent.
abbrev pub IsSentFor : Order → Option SentBy → Type 0
IsSentFor order sent = option_map target sent ≡ target_of order

-- what an entry of this number sends for an order at a moment; for a sleep it is nothing
abbrev pub sent_for : ℕ → ℕ → Order → Option SentBy
sent_for of now (Open ip config) = Some (record { of = of; ip = ip; moment = now; query = None })
sent_for of now (Ask conn ip protocol request) = Some (record { of = of; ip = ip; moment = now; query = Some request.query })
sent_for of now (Sleep until) = None

-- What is waited for goes where the order goes, was sent for it, and may be polled.
pub record GoesFor {P C F E : Type 0} (p : Ghosts P C F E) (order : Order) (waits_for : Awaited F E) : Type 0 where
  pub polls : IsTrue (may_be_polled p.opens p.waits waits_for)
  pub goes : aim p.opening p.question waits_for ≡ aim_of order
  pub sends : IsSentFor order (sent_of waits_for)

-- Where the log is told, what is waited for has the number of the entry that sent it.
abbrev pub IsNamed : {P C F E : Type 0} (p : Ghosts P C F E) → Option (List LogEntry) → Awaited F E → Type 0
IsNamed p told (awaited.Connection future sent) = (es : List LogEntry) → told ≡ Some es → p.opened future ≡ sent.of
IsNamed p told (awaited.Answer exchange sent) = (es : List LogEntry) → told ≡ Some es → p.asked exchange ≡ sent.of
IsNamed p told (awaited.Moment until) = Unit {0}
