-- What is sought by a lookup that is under way, and its open order.
use Rattle.std.specs.Prelude.{◌≡◌, ◌≢◌, ℕ, ◌+◌, ◌≤◌, ◌<◌, unwrap_or, Bool, true, false, IsTrue, List, [], ◌∷◌, length, map, option_map, All, Contains, IfSome, Option, Some, None}
use Rattle.std.specs.List.Sorted.{IsPermutation}
use Rattle.std.specs.declared.net.ip_addr.IpAddr.{IpAddr}
use Rattle.dns_core.specs.Name.{DomainName}
use Rattle.dns_core.specs.declared.message.Query.{Query}
use Rattle.dns_core.specs.declared.net_error.NetError.{NetError}
use Rattle.resolver_settings.specs.Access.{denies}
use Rattle.resolver_settings.specs.NameServer.{NameServer, believed, over_udp, over_tcp}
use Rattle.resolution.specs.Names.{is_above, walk}
use Rattle.resolution.specs.Serving.{Serves}
use Rattle.resolution.specs.Lookups.{Answered, End, class_of_answer}
use Rattle.resolution.specs.Ending.{Listed, waits}
use Rattle.resolution.specs.Walking.{Walked}
use Rattle.server_core.specs.Sending.{pendings}
use Rattle.server_core.specs.Servers.{Server, server_of}
use Rattle.server_core.specs.Order.{entry_of}
use Rattle.server_core.specs.declared.orders.order.After.{After}
use Rattle.server_core.specs.declared.orders.order.SentBy.{SentBy}
use Rattle.server_core.specs.declared.orders.order.Order.{Order}
use Rattle.server_core.specs.declared.orders.order.Outcome.{Outcome}
use Rattle.server_core.specs.declared.orders.order.Outcome.TheVariants.{Pending, Connected, Told, Failed, Slept}
use Rattle.pool_lookup.specs.Holds.{HeardEnd, ends_of, entries_of, HoldsBy}
use Rattle.pool_lookup.specs.Lookup.{LookupState, question_of}
use Rattle.pool_lookup.specs.Running.{IsOpenTo, IsBackingOffUnder}
use Rattle.pool_lookup.specs.declared.lookup.State.TheVariants.{Decided}
use Rattle.pool_rules.specs.RetryQueue.{class_of_sent}
use Rattle.server_pool.specs.declared.open_lookups.open_lookup.OpenLookup.{OpenLookup}
use Rattle.server_pool.specs.ByAddress.{SameEnds, at_address}
use Rattle.server_pool.specs.Shared.{Shared, lookup_at, lookup_of}
use Rattle.pool_rules.specs.declared.pool_server.PoolServer.{PoolServer}
use Rattle.walk_lookup.specs.LogView.{LogView}
use Rattle.walk_lookup.specs.Tried.{Tried}
use Rattle.walk_lookup.specs.LookupResult.{HasCome}
use Rattle.walk_lookup.specs.declared.lookup_result.LookupResult.{LookupResult}
use Rattle.walk_lookup.specs.declared.pending_lookup.OrderTarget.{OrderTarget}
use Rattle.walk_lookup.specs.declared.pending_lookup.OpenOrder.{OpenOrder}
use Rattle.walk_lookup.specs.declared.pending_lookup.PendingLookup.{PendingLookup}
use Rattle.dns_core.specs.declared.net_error.NetError.TheVariants as net
use Rattle.dns_core.specs.declared.net_error.DnsError.TheVariants as dns
use Rattle.server_core.specs.declared.orders.order.After.TheVariants as after
use Rattle.server_core.specs.declared.orders.order.Order.TheVariants as order
use Rattle.walk_lookup.specs.declared.pending_lookup.OrderTarget.TheVariants as aim

-- how the server of a number is reached
abbrev pub config_at : List Server → ℕ → Option NameServer
config_at table n = option_map (λ server. server.config) (server_of table n)

-- the delay with which the server of a number began
abbrev pub first_delay_at : List Server → ℕ → Option ℕ
first_delay_at table n = option_map (λ server. server.first_delay) (server_of table n)

-- a server at the address, over UDP and TCP, that is believed what it denies
abbrev pub server_at : IpAddr → NameServer
server_at ip = believed ip (over_udp ∷ over_tcp ∷ [])

-- each of these serves the zone, by what was put
abbrev pub AreServers : LogView → DomainName → List IpAddr → Type 0
AreServers view zone ips = All (λ ip. Serves view.policy view.log (view.greatest + 1) ip zone) ips

-- These are the servers of a zone by the roots or by a delegation, all of them; each serves it by what was put.
pub record ZoneServers (view : LogView) (zone : DomainName) (ips : List IpAddr) : Type 0 where
  pub serve : AreServers view zone ips
  pub listed : Listed view.policy view.log zone ips
  pub some : 0 < length ips

-- They are the servers of a zone at or above the name of the question, to which a walk went down for it.
pub record ServersForQuery (view : LogView) (query : Query) (zone : DomainName) (ips : List IpAddr) : Type 0 where
  pub above : IsTrue (is_above zone (walk query))
  pub walked : Walked view.policy view.log query zone
  pub pool : ZoneServers view zone ips

-- The candidate is at the address, reached beyond UDP, and believed what it denies.
pub record IsAt (table : List Server) (ip : IpAddr) (c : PoolServer) : Type 0 where
  pub config : config_at table c.server ≡ Some (server_at ip)
  pub beyond_udp : c.beyond_udp ≡ true
  pub trusted : c.trusted ≡ true

-- The entry was waited for so often, below a number that is no later than what was put.
pub record WasWaitedFor (view : LogView) (of polls : ℕ) : Type 0 where
  pub below : ℕ
  pub early : below ≤ view.greatest + 1
  pub within : below ≤ view.log.next
  pub enough : polls ≤ waits view.log of below

-- So often the entry was waited for, where one is known; before that no poll was put.
abbrev pub IsWaitedFor : LogView → Option ℕ → ℕ → Type 0
IsWaitedFor view None polls = polls ≡ 0
IsWaitedFor view (Some of) polls = WasWaitedFor view of polls

-- An order of a send to a server of the pool is open, which serves the zone by what was put before it was given, and the log has its polls.
pub record IsSentTo (view : LogView) (shared : Shared) (n : ℕ) (zone : DomainName) (pool : List PoolServer) (l : LookupState)
    (g : OpenOrder) (asks : Bool) (ip : IpAddr) : Type 0 where
  pub of : lookup_of shared g.number ≡ Some n
  pub candidate : PoolServer
  pub from_pool : Contains pool candidate
  pub at : IsAt shared.table ip candidate
  pub open_to : IsOpenTo g.number candidate asks l
  pub past : g.since ≤ view.greatest
  pub serves : Serves view.policy view.log (g.since + 1) ip zone
  pub polled : IsWaitedFor view g.polled (pendings open_to.attempt.send.stage)

-- the order that it gave last is open
abbrev pub OpenOrderHolds : LogView → Shared → ℕ → DomainName → List PoolServer → LookupState → OpenOrder → OrderTarget → Type 0
OpenOrderHolds view shared n zone pool l g (aim.Open ip) = IsSentTo view shared n zone pool l g false ip
OpenOrderHolds view shared n zone pool l g (aim.Ask ip) = IsSentTo view shared n zone pool l g true ip
OpenOrderHolds view shared n zone pool l g aim.Sleep = (lookup_of shared g.number ≡ Some n) × IsBackingOffUnder g.number l

-- The lookup of the number asks what is sought, at all servers of its zone, to which a walk went down, by what was told; its sends ended as the log shows.
pub record PendingHolds (view : LogView) (shared : Shared) (n : ℕ) (pending : PendingLookup) : Type 0 where
  pub shared_by : OpenLookup
  pub there : lookup_at shared n ≡ Some shared_by
  pub asks : question_of shared_by.lookup ≡ pending.query
  pub starts : shared_by.lookup.start ≡ pending.start
  pub time : shared_by.lookup.timeout ≡ view.policy.timeout
  pub lasts : 0 < view.policy.timeout
  pub past : pending.start ≤ view.moment
  pub ips : List IpAddr
  pub served : ServersForQuery view pending.query pending.zone ips
  pub ip_of : ℕ → IpAddr
  pub known : All (λ c. IsAt shared.table (ip_of c.server) c) shared_by.lookup.servers
  pub whole : IsPermutation ips (map (at_address ip_of) shared_by.lookup.servers)
  pub heard : List HeardEnd
  pub stands : HoldsBy (denies view.policy.answer_filter) heard shared_by.lookup
  -- a step no later than the moment decided it, if one did
  pub decided : (answer : Answered) (at : ℕ) → shared_by.lookup.state ≡ Decided answer at → at ≤ view.moment
  pub ends : List (End IpAddr)
  pub beside : SameEnds (at_address ip_of) (class_of_sent pending.query) (class_of_answer pending.query) (ends_of heard) ends
  pub tried : Tried view pending.zone pending.query ips pending.start pending.first (entries_of heard) ends pending.at
  pub given : IfSome pending.given (λ g. OpenOrderHolds view shared n pending.zone shared_by.lookup.servers shared_by.lookup g g.aim)
  pub came : IfSome pending.came (HasCome pending.zone pending.query (lookup_at shared n))

-- It has one of so many numbers, and is at a pool of one of so many.
pub record IsNumbered (sent pools n : ℕ) (l : OpenLookup) : Type 0 where
  pub number : n ≤ sent
  pub pool : l.pool ≤ pools

-- So are all lookups.
pub record AreNumbered (shared : Shared) : Type 0 where
  pub each : (n : ℕ) (l : OpenLookup) → lookup_at shared n ≡ Some l → IsNumbered shared.sent shared.pools n l

-- a denial in place of a message
abbrev pub is_denial : NetError → Bool
is_denial (net.Dns (dns.NoRecordsFound n)) = true
is_denial _ = false

-- What was sent opens, or asks the question, and goes to the address; an ask is later than what was put before.
abbrev pub IsSentOver : Bool → IpAddr → Query → ℕ → SentBy → Type 0
IsSentOver false ip query since sent = (sent.ip ≡ ip) × (sent.query ≡ None)
IsSentOver true ip query since sent = (sent.ip ≡ ip) × (sent.query ≡ Some query) × (since < sent.of)

-- The first send of the lookup began at its start; later ones don't go elsewhere before it ended.
abbrev pub IsFirst : ℕ → Option IpAddr → Bool → SentBy → Type 0
IsFirst start None ended sent = sent.moment ≡ start
IsFirst start (Some ip) true sent = Unit {0}
IsFirst start (Some ip) false sent = sent.ip ≡ ip

-- so it was sent for an order of the lookup
pub record IsOf (start : ℕ) (query : Query) (first : Option IpAddr) (ended : Bool) (since : ℕ) (asks : Bool) (ip : IpAddr) (sent : SentBy) : Type 0 where
  pub over : IsSentOver asks ip query since sent
  pub begins : IsFirst start first ended sent

-- a poll waits for what those before it waited for
abbrev pub IsStill : Option ℕ → ℕ → Type 0
IsStill None of = Unit {0}
IsStill (Some before) of = before ≡ of

-- A poll that found nothing is one of an order to open or to ask, by what it waits for.
abbrev pub MayWait : ℕ → Query → Option IpAddr → Bool → ℕ → Option ℕ → Bool → IpAddr → Option SentBy → ℕ → Type 0
MayWait start query first ended since polled asks ip None of = ⊥
MayWait start query first ended since polled asks ip (Some s) of = (s.of ≡ of) × IsStill polled of × IsOf start query first ended since asks ip s

-- The outcome is one of an order to open or to ask; a denial is that of an ask.
abbrev pub MayTake : ℕ → Query → Option IpAddr → Bool → ℕ → Option ℕ → Bool → IpAddr → Option SentBy → Outcome → Type 0
MayTake start query first ended since polled asks ip waits (Pending entry of) = MayWait start query first ended since polled asks ip waits of
MayTake start query first ended since polled asks ip waits (Connected entry sent) = (asks ≡ false) × IsOf start query first ended since asks ip sent
MayTake start query first ended since polled asks ip waits (Told entry sent message) = (asks ≡ true) × IsOf start query first ended since asks ip sent
MayTake start query first ended since polled asks ip waits (Failed entry sent refused error) =
    (IsTrue (is_denial error) → (asks ≡ true) × (refused ≡ false)) × IsOf start query first ended since asks ip sent
MayTake start query first ended since polled asks ip waits Slept = ⊥

-- so it is with what was ordered last; a sleep may end by any outcome
abbrev pub MayTakeBy : PendingLookup → Bool → OpenOrder → OrderTarget → Option SentBy → Outcome → Type 0
MayTakeBy pending ended g (aim.Open ip) waits outcome = (entry_of outcome ≢ 0) × MayTake pending.start pending.query pending.first ended g.since g.polled false ip waits outcome
MayTakeBy pending ended g (aim.Ask ip) waits outcome = (entry_of outcome ≢ 0) × MayTake pending.start pending.query pending.first ended g.since g.polled true ip waits outcome
MayTakeBy pending ended g aim.Sleep waits outcome = Unit {0}

-- the server of the number is at the address
abbrev pub IsServerOf : List Server → IpAddr → ℕ → Type 0
IsServerOf table ip n = config_at table n ≡ Some (server_at ip)

abbrev pub either : Option IpAddr → Option IpAddr → Option IpAddr
either None other = other
either (Some ip) other = Some ip

-- with this open order, and this first address and last moment, where they are other ones; what it comes to is not known yet
abbrev pub noted : Option OpenOrder → Option IpAddr → Option ℕ → PendingLookup → PendingLookup
noted given first at pending = record pending { given = given; first = either pending.first first; at = unwrap_or at pending.at; came = None }

-- with what it came to
abbrev pub with_came : Option LookupResult → PendingLookup → PendingLookup
with_came came pending = record pending { came = came }

-- what an order does
abbrev pub aim_of : Order → OrderTarget
aim_of (order.Open ip config) = aim.Open ip
aim_of (order.Ask conn ip protocol request) = aim.Ask ip
aim_of (order.Sleep until) = aim.Sleep

-- to which address what came of an order was sent, or what it waits for, where that is known
abbrev pub sent_to : Option SentBy → Outcome → Option IpAddr
sent_to waits (Pending entry of) = option_map (λ (s : SentBy). s.ip) waits
sent_to waits (Connected entry sent) = Some sent.ip
sent_to waits (Told entry sent message) = Some sent.ip
sent_to waits (Failed entry sent refused error) = Some sent.ip
sent_to waits Slept = None

-- so it is with an order; a sleep is sent nowhere
abbrev pub first_of : OrderTarget → Option SentBy → Outcome → Option IpAddr
first_of aim.Sleep waits outcome = None
first_of (aim.Open ip) waits outcome = sent_to waits outcome
first_of (aim.Ask ip) waits outcome = sent_to waits outcome

-- the entry that sent what a poll waits for, if the outcome is one that found nothing
abbrev pub polled_by : Outcome → Option ℕ
polled_by (Pending entry of) = Some of
polled_by (Connected entry sent) = None
polled_by (Told entry sent message) = None
polled_by (Failed entry sent refused error) = None
polled_by Slept = None

-- an order stays open where it is kept
abbrev pub given_after : OpenOrder → After → Option OpenOrder
given_after g after.Kept = Some g
given_after g after.GiveUp = None
given_after g after.Ended = None
given_after g after.Late = None
