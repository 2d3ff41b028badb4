-- Which servers of a round record that another one answered first.
use Rattle.std.specs.Prelude.{ℕ, ◌+◌, ◌-◌, ◌^◌, ◌==◌, min, Bool, false, not, ◌||◌, if◌then◌else◌, List, filter, fold, map, slice_get, Option, Some, None, Ok, Err}
use Rattle.std.specs.List.{list_any, position}
use Rattle.std.specs.declared.net.IpAddr.{IpAddr}
use Rattle.std.specs.contracts.net.ip_addr.IpAddrPartialEq.TheImpl as address
use Rattle.resolution.specs.Lookups.{Answered}
use Rattle.server_core.specs.Delays.{recorded}
use Rattle.server_core.specs.Hearing.{changed_at}
use Rattle.server_core.specs.Servers.{Server, server_of}
use Rattle.server_core.specs.Sending.{heard_put}
use Rattle.server_core.specs.declared.orders.order.Outcome.{Outcome}
use Rattle.server_core.specs.declared.orders.order.Tick.{Tick}
use Rattle.pool_lookup.specs.declared.attempt.Attempt.{Attempt}
use Rattle.pool_lookup.specs.declared.lookup.State.TheVariants.{Asking, BackingOff, Decided}
use Rattle.pool_lookup.specs.Attempts.{is_open_at}
use Rattle.pool_lookup.specs.Hearing.{end_by, closed, closing_entry}
use Rattle.pool_lookup.specs.Lists.{distinct}
use Rattle.pool_lookup.specs.Lookup.{LookupState, under_way}

-- a message ends the lookup: one that is not cut, and where UDP is off each
abbrev pub ends_by_message : Bool → Answered → Bool
ends_by_message udp_off (Ok m) = not m.truncation || udp_off
ends_by_message udp_off (Err e) = false

-- the server counts as slower by 5,000 microseconds than one that answered in so many
abbrev pub after_cancelled : ℕ → ℕ → Server → Server
after_cancelled winner now server = record server { delay = recorded server.delay (min (winner + 5000) (2 ^ 64 - 1)) now }

-- the address of the server of a number, if it is there
abbrev pub address_of : List Server → ℕ → Option IpAddr
address_of table number = elim (server_of table number) [ None ↦ None | Some server ↦ Some server.config.ip ]

abbrev pub is_at : IpAddr → Option IpAddr → Bool
is_at ip None = false
is_at ip (Some other) = address.ghosts.eq other ip

-- it is there, and no server with its address is among these
abbrev pub is_apart : (ℕ → Option IpAddr) → List ℕ → ℕ → Bool
is_apart addresses among number = elim (addresses number) [ None ↦ false | Some ip ↦ not (list_any (λ n. is_at ip (addresses n)) among) ]

-- a server records, where it is apart from these
abbrev pub cancelled_once : List ℕ → ℕ → ℕ → List Server → ℕ → List Server
cancelled_once among winner now table number = if is_apart (address_of table) among number then changed_at (after_cancelled winner now) number table else table

-- unless it stands among those before it
abbrev pub cancelled_unless : List ℕ → List ℕ → ℕ → ℕ → List Server → ℕ → List Server
cancelled_unless before among winner now table number = if list_any (λ m. m == number) before then table else cancelled_once among winner now table number

-- the servers of the attempts of the round that have not ended
abbrev pub others_of : LookupState → List ℕ
others_of l = map (λ c. c.server) (under_way l)

-- each of them once, where its address has had no end in the round
abbrev pub cancelled : List Server → LookupState → List ℕ
cancelled table l = filter (is_apart (address_of table) l.ended) (distinct (others_of l))

-- each of them records the time since the round began
abbrev pub cancelled_table : ℕ → LookupState → List Server → List Server
cancelled_table now l table = fold (λ t n. changed_at (after_cancelled (now - l.round_start) now) n t) table (cancelled table l)

-- where an end is a message that ends the lookup, the others of the round record it
abbrev pub ended_table : Answered → ℕ → Bool → LookupState → List Server → List Server
ended_table end now udp_off closed table = if ends_by_message udp_off end then cancelled_table now closed table else table

-- what the end of the attempt at a place does to the table
abbrev pub ended_at : ℕ → ℕ → Attempt → ℕ → LookupState → Option Answered → List Server → List Server
ended_at place entry a now l None table = table
ended_at place entry a now l (Some end) table = ended_table end now l.queue.udp_off (closed place a.candidate.server entry l) table

-- the server of the attempt has heard the outcome of its order
abbrev pub heard_table : Tick → Outcome → Attempt → List Server → List Server
heard_table tick outcome a table = changed_at (heard_put tick.patience a.send.stage tick.now outcome) a.send.server table

-- what the outcome of the attempt at a place does to the table
abbrev pub table_after : Tick → ℕ → Outcome → LookupState → List Server → List Server
table_after tick place outcome l table = elim (slice_get l.attempts place) [
  | None ↦ table
  | Some a ↦ ended_at place (closing_entry outcome) a tick.now l (end_by tick.patience outcome a) (heard_table tick outcome a table)
]

abbrev pub table_put : Tick → Option ℕ → Outcome → LookupState → List Server → List Server
table_put tick None outcome l table = table
table_put tick (Some place) outcome l table = table_after tick place outcome l table

-- and that of the open order of a number: the outcome of a backoff does nothing to it, and neither does a late one
abbrev pub table_heard : Tick → ℕ → Outcome → LookupState → List Server → List Server
table_heard tick number outcome l table = elim l.state [
  | Asking ↦ table_put tick (position (is_open_at number) l.attempts) outcome l table
  | BackingOff until order polls ↦ table
  | Decided answer at ↦ table
]
