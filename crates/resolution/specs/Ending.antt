-- How the sends of a lookup ended, and when a lookup ended so.
use Rattle.std.specs.Prelude.{◌≡◌, ℕ, zero, suc, ◌+◌, ◌<◌, ◌≤◌, ◌⊎◌, Bool, true, false, ◌&&◌, ◌==◌, nat_le, nat_eq, IsTrue, List, [], ◌∷◌, length, if◌then◌else◌, Option, Some, None, IsSomeAnd, Contains, Ok, Err}
use Rattle.std.specs.List.{list_all, last_or, AllByRecursion}
use Rattle.std.specs.Cmp.Lexicographic.{pointwise}
use Rattle.std.specs.declared.net.ip_addr.IpAddr.{IpAddr}
use Rattle.std.specs.declared.net.ip_addr.IpAddr.TheVariants.{V4, V6}
use Rattle.dns_core.specs.Name.{DomainName}
use Rattle.dns_core.specs.Log.{Log}
use Rattle.dns_core.specs.declared.message.Query.{Query}
use Rattle.dns_core.specs.declared.message.Message.{Message}
use Rattle.dns_core.specs.declared.connection.Protocol.{Protocol}
use Rattle.dns_core.specs.declared.net_error.NetError.{NetError}
use Rattle.dns_core.specs.declared.net_error.NetError.TheVariants as net
use Rattle.dns_core.specs.declared.log.LogEntry.{LogEntry}
use Rattle.dns_core.specs.declared.log.LogEntry.TheVariants.{Opened, Asked, Waited, Told, GaveUp}
use Rattle.dns_core.specs.declared.log.ToldOutcome.TheVariants as outcome
use Rattle.resolver_settings.specs.Access.{denies}
use Rattle.resolution.specs.Names.{root, is_above, walk, same_query}
use Rattle.recursor_types.specs.declared.policy.Policy.{Policy}
use Rattle.resolution.specs.Telling.{Logged}
use Rattle.resolution.specs.Serving.{Serves, Delegates, glue, allowed}
use Rattle.resolution.specs.Lookups.{Answered, class_of_answer, End, Rules, PoolRun, IsBounded}

-- What a caller knows of the moments of a finished lookup (its question, addresses, entries, their ends and moments, its start and its answer),
-- and what it knows of counts that stand at their limit.
pub record LookupTiming : Type 1 where
  pub Timed : Query → List IpAddr → List ℕ → List (End IpAddr) → List ℕ → ℕ → ℕ → Type 0
  pub exhausted : Bool

abbrev pub same_ip : IpAddr → IpAddr → Bool
same_ip (V4 a) (V4 b) = pointwise nat_eq a.octets b.octets
same_ip (V4 a) (V6 b) = false
same_ip (V6 a) (V4 b) = false
same_ip (V6 a) (V6 b) = pointwise nat_eq a.segments b.segments

-- the servers of a recursor: known by address, with negatives that are trusted, each by TCP too
abbrev pub by_address : ℕ → Rules IpAddr
by_address timeout = record { same = same_ip; trusts = λ _. true; beyond_udp = λ _. true; timeout = timeout }

-- ---- ends of sends

-- the entry says that entry `of` was still waited for
abbrev pub is_wait_for : ℕ → Option LogEntry → Bool
is_wait_for of (Some (Waited k)) = k == of
is_wait_for of _ = false

-- how often entry `of` was still waited for, below n
abbrev pub waits : Log → ℕ → ℕ → ℕ
waits log of zero = 0
waits log of (suc n) = waits log of n + (if is_wait_for of (log.entry n) then 1 else 0)

-- an open of the address, or an ask for `query` there, that was not refused
abbrev pub is_begun : Query → IpAddr → LogEntry → Bool
is_begun query ip (Opened at protocol moment None) = same_ip at ip
is_begun query ip (Asked at protocol asked moment None) = same_ip at ip && same_query asked query
is_begun query ip _ = false

-- Entry n ends a send for `query`.
pub data EndsSend (policy : Policy) (log : Log) (query : Query) : ℕ → End IpAddr → ℕ → Type 0 where
  open_refused : {n moment : ℕ} {ip : IpAddr} {protocol : Protocol} {e : NetError}
      → Logged log n (Opened ip protocol moment (Some e)) → EndsSend policy log query n (record { server = ip; outcome = Err e }) moment
  ask_refused : {n moment : ℕ} {ip : IpAddr} {protocol : Protocol} {asked : Query} {e : NetError}
      → Logged log n (Asked ip protocol asked moment (Some e)) → IsTrue (same_query asked query) → EndsSend policy log query n (record { server = ip; outcome = Err e }) moment
  open_failed : {n k since moment : ℕ} {ip : IpAddr} {protocol : Protocol} {e : NetError}
      → Logged log n (Told k moment (outcome.Error e)) → Logged log k (Opened ip protocol since None) → EndsSend policy log query n (record { server = ip; outcome = Err e }) moment
  ask_failed : {n k since moment : ℕ} {ip : IpAddr} {protocol : Protocol} {asked : Query} {e : NetError}
      → Logged log n (Told k moment (outcome.Error e)) → Logged log k (Asked ip protocol asked since None) → IsTrue (same_query asked query)
      → EndsSend policy log query n (record { server = ip; outcome = Err e }) moment
  answered : {n k since moment : ℕ} {ip : IpAddr} {protocol : Protocol} {asked : Query} {m : Message}
      → Logged log n (Told k moment (outcome.Message m)) → Logged log k (Asked ip protocol asked since None) → IsTrue (same_query asked query)
      → EndsSend policy log query n (record { server = ip; outcome = Ok m }) moment
  given_up : {n k moment : ℕ} {ip : IpAddr} {e : LogEntry}
      → Logged log n (GaveUp k moment) → Logged log k e → IsTrue (is_begun query ip e) → policy.patience ≤ waits log k n
      → EndsSend policy log query n (record { server = ip; outcome = Err net.Timeout }) moment

-- These entries end sends for `query` to some of these addresses, each the one beside it.
pub data EndSends (policy : Policy) (log : Log) (query : Query) (ips : List IpAddr) : List ℕ → List (End IpAddr) → List ℕ → Type 0 where
  no_send : EndSends policy log query ips [] [] []
  and_send : {n moment : ℕ} {e : End IpAddr} {g moments : List ℕ} {ends : List (End IpAddr)}
      → EndsSend policy log query n e moment → Contains ips e.server → EndSends policy log query ips g ends moments
      → EndSends policy log query ips (n ∷ g) (e ∷ ends) (moment ∷ moments)

-- numbers rise
abbrev pub Rise : List ℕ → Type 0
Rise [] = Unit {0}
Rise (n ∷ []) = Unit {0}
Rise (n ∷ m ∷ ns) = (n < m) × Rise (m ∷ ns)

-- ---- whom a lookup asked

-- Some answers for the zone's NS lists only addresses among these.
pub record IsListed (policy : Policy) (log : Log) (zone : DomainName) (ips : List IpAddr) : Type 0 where
  pub below : ℕ
  pub serve : AllByRecursion (λ ip. Serves policy log below ip zone) ips
  pub some : 0 < length ips
  pub k : Message
  pub told : Delegates policy log below zone k
  pub whole : AllByRecursion (Contains ips) (allowed (denies policy.server_filter) (glue k zone))

-- the addresses of a pool for the zone: the roots, or by a delegation
pub data Listed (policy : Policy) (log : Log) : DomainName → List IpAddr → Type 0 where
  of_roots : Listed policy log root policy.roots
  of_told : {z : DomainName} {ips : List IpAddr} → IsListed policy log z ips → Listed policy log z ips

-- A lookup for `query` at servers of `zone` ended by the entries `grounds` with this result, in time for `asked_at`.
pub record FinishedLookup (policy : Policy) (timing : LookupTiming) (log : Log) (asked_at : ℕ) (query : Query) (zone : DomainName) (grounds : List ℕ) (result : Answered) : Type 0 where
  pub ips : List IpAddr
  pub ends : List (End IpAddr)
  pub moments : List ℕ
  pub start : ℕ
  pub now : ℕ
  pub above : IsTrue (is_above zone (walk query))
  pub listed : Listed policy log zone ips
  pub rises : Rise grounds
  pub logged : EndSends policy log query ips grounds ends moments
  pub run : PoolRun (by_address policy.timeout) (class_of_answer query) ips ends result start now
  -- at most five ends for each place of an address
  pub bounded : IsBounded (by_address policy.timeout) (class_of_answer query) ips ends
  pub since : IsTrue (list_all (nat_le start) moments)
  pub till : IsTrue (list_all (λ m. nat_le m now) moments)
  pub asked : asked_at ≤ now
  pub timed : timing.Timed query ips grounds ends moments start now
  -- its last entry is not before `asked_at`, or the deadline ended it
  pub fresh : IsSomeAnd (last_or None moments) (λ m. asked_at ≤ m) ⊎ ((result ≡ Err net.Timeout) × (start + policy.timeout ≤ now))

-- a lookup ended by this error
abbrev pub Ended : Policy → LookupTiming → Log → ℕ → Query → DomainName → List ℕ → NetError → Type 0
Ended policy timing log asked_at query zone grounds error = FinishedLookup policy timing log asked_at query zone grounds (Err error)

abbrev pub is_timeout : NetError → Bool
is_timeout net.Timeout = true
is_timeout _ = false
