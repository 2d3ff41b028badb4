-- What is true of each lookup between its steps.
use Rattle.std.specs.Prelude.{◌≡◌, ◌≢◌, ℕ, ◌+◌, ◌*◌, ◌≤◌, ◌<◌, Bool, true, false, IsTrue, Contains, List, [], map, length, ◌⊎◌, Some, Ok, Err}
use Rattle.std.specs.List.{AllByRecursion}
use Rattle.std.specs.declared.net.ip_addr.IpAddr.{IpAddr}
use Rattle.dns_core.specs.NetError.{is_memory}
use Rattle.dns_core.specs.declared.request.DnsRequest.{DnsRequest}
use Rattle.resolution.specs.Lookups.{Answered, End, PoolRun, IsBounded}
use Rattle.server_core.specs.Policy.{allows_server}
use Rattle.server_core.specs.Servers.{Server, server_of}
use Rattle.pool_rules.specs.RetryQueue.{may_ask, may_sleep, rules_of, class_of_sent, QueueStands}
use Rattle.pool_rules.specs.declared.pool_server.PoolServer.{PoolServer}
use Rattle.pool_lookup.specs.declared.attempt.Attempt.{Attempt}
use Rattle.pool_lookup.specs.declared.lookup.State.{State}
use Rattle.pool_lookup.specs.declared.lookup.State.TheVariants.{Asking, BackingOff, Decided}
use Rattle.pool_lookup.specs.Attempts.{GoesTo}
use Rattle.pool_lookup.specs.Hearing.{left_of}
use Rattle.pool_lookup.specs.Lookup.{LookupState, question_of, deadline, under_way}

-- an end that was heard, and the log entry that closed its attempt
pub record HeardEnd : Type 0 where
  pub end : End PoolServer
  pub by : ℕ

abbrev pub ends_of : List HeardEnd → List (End PoolServer)
ends_of heard = map (λ h. h.end) heard

abbrev pub entries_of : List HeardEnd → List ℕ
entries_of heard = map (λ h. h.by) heard

-- no end decided it, and this is left to be asked
abbrev pub IsGoing : List HeardEnd → LookupState → Type 0
IsGoing heard l = QueueStands (question_of l) l.timeout l.servers (ends_of heard) (under_way l) l.queue

-- it backs off before it asks the busy ones again, until the deadline at the latest, and has nothing else to do
pub record IsResting (heard : List HeardEnd) (until : ℕ) (l : LookupState) : Type 0 where
  pub going : IsGoing heard l
  pub attempts : l.attempts ≡ []
  pub ready : l.ready ≡ []
  pub waiting : l.queue.waiting ≡ []
  pub again : may_sleep l.queue ≡ true
  pub some : heard ≢ []
  pub in_time : until ≤ deadline l

abbrev pub out_of_memory : Answered → Bool
out_of_memory (Ok m) = false
out_of_memory (Err e) = is_memory e

-- a step of this moment answered it by its ends, and this is what is left of the answer
pub record IsRun (denied : IpAddr → Bool) (heard : List HeardEnd) (answer : Answered) (at : ℕ) (l : LookupState) : Type 0 where
  pub whole : Answered
  pub run : PoolRun (rules_of l.timeout) (class_of_sent (question_of l)) l.servers (ends_of heard) whole l.start at
  pub left : answer ≡ left_of (question_of l) denied whole

-- what is true of it by what it is at
abbrev pub IsAt : (IpAddr → Bool) → List HeardEnd → State → LookupState → Type 0
IsAt denied heard Asking l = IsGoing heard l × (heard ≡ [] → 0 < length (under_way l))
IsAt denied heard (BackingOff until order polls) l = IsResting heard until l
IsAt denied heard (Decided answer at) l = IsRun denied heard answer at l ⊎ IsTrue (out_of_memory answer)

-- What was heard came from its pool, whatever it is at, and what is in flight goes to servers that may be asked.
pub record IsKept (heard : List HeardEnd) (request : DnsRequest) (timeout concurrency most : ℕ) (servers ready : List PoolServer) (attempts : List Attempt) (udp_off : Bool) (ended closed_by : List ℕ) : Type 0 where
  pub entries : closed_by ≡ entries_of heard
  pub from_pool : AllByRecursion (λ h. Contains servers h.end.server) heard
  -- five ends for each place of a server at most, and one more where UDP was turned off by it
  pub each : IsBounded (rules_of timeout) (class_of_sent request.query) servers (ends_of heard)
  pub going : AllByRecursion (GoesTo request) attempts
  pub allowed : AllByRecursion (λ c. IsTrue (may_ask udp_off c)) ready
  pub some : 1 ≤ concurrency
  pub places : most ≡ length servers
  -- there is room for what may still come
  pub round : length ended + (length attempts + length ready) ≤ length servers
  pub sends : length closed_by + (length attempts + length ready) ≤ 5 * length servers + 1

abbrev pub Keeps : List HeardEnd → LookupState → Type 0
Keeps heard l = IsKept heard l.request l.timeout l.concurrency l.queue.most l.servers l.ready l.attempts l.round_off l.ended l.closed_by

-- so it stands after these ends
pub record HoldsBy (denied : IpAddr → Bool) (heard : List HeardEnd) (l : LookupState) : Type 0 where
  pub at : IsAt denied heard l.state l
  pub keeps : Keeps heard l

-- by some ends
abbrev pub Holds : (IpAddr → Bool) → LookupState → Type 0
Holds denied l = (heard : List HeardEnd) × HoldsBy denied heard l

-- whatever addresses are denied
abbrev pub IsSound : LookupState → Type 0
IsSound l = (denied : IpAddr → Bool) × Holds denied l

-- the server of the number is there, and is reached, without UDP too where that may be asked of it
pub record IsReached (table : List Server) (c : PoolServer) : Type 0 where
  pub server : Server
  pub there : server_of table c.server ≡ Some server
  pub over : (udp_off : Bool) → IsTrue (may_ask udp_off c) → IsTrue (allows_server (record { disable_udp = udp_off }) server)

-- every server of the pool is
abbrev pub AreReached : List Server → LookupState → Type 0
AreReached table l = AllByRecursion (IsReached table) l.servers
