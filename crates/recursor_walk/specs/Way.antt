-- Where a walk stands, as derived from a log.
use Rattle.std.specs.Prelude.{◌≡◌, ℕ, ◌≤◌, ◌<◌, List, length, IsTrue, Result, IfOk}
use Rattle.std.specs.declared.net.ip_addr.IpAddr.{IpAddr}
use Rattle.dns_core.specs.Name.{DomainName}
use Rattle.dns_core.specs.declared.message.Query.{Query}
use Rattle.dns_core.specs.declared.net_error.NetError.{NetError}
use Rattle.dns_core.specs.declared.request.Question.{Question}
use Rattle.dns_core.specs.declared.errors.NoMemory.{NoMemory}
use Rattle.resolution.specs.Names.{is_above, walk, last_name}
use Rattle.resolution.specs.Walking.{NoCutSeen, ReachesName}
use Rattle.resolution.specs.declared.verdict.Verdict.{Verdict}
use Rattle.resolver_settings.specs.Access.{Access}
use Rattle.recursor_types.specs.declared.policy.Policy.{Policy}
use Rattle.walk_response.specs.Candidate.{candidate_query}
use Rattle.walk_tables.specs.Lookup.{LookupHolds}
use Rattle.walk_lookup.specs.LookupResult.{FoundHolds, HasFailedBy}
use Rattle.walk_lookup.specs.PendingLookup.{ZoneServers, ServersForQuery}
use Rattle.walk_lookup.specs.LogView.{LogView}
use Rattle.walk_lookup.specs.declared.lookup_result.LookupResult.{LookupResult}
use Rattle.recursor_walk.specs.SourcedVerdict.{IsUsableFor}
use Rattle.recursor_walk.specs.Replies.{CameTo}
use Rattle.recursor_walk.specs.declared.walk.WalkOutcome.{WalkOutcome}
use Rattle.recursor_walk.specs.declared.walk.Walk.{Walk}
use Rattle.recursor_walk.specs.declared.walk.WalkOutcome.TheVariants as course

-- The log shows no cut below the zone at a candidate of fewer labels than n.
abbrev pub Passed : LogView → DomainName → DomainName → ℕ → Type 0
Passed view zone name n = (k : ℕ) → length zone.labels < k → k < n → NoCutSeen view.policy view.log (last_name k name)

-- A policy by which a recursor walks: it has a root, and a name that is denied ends a walk (RFC 8020).
pub record CanWalk (policy : Policy) : Type 0 where
  pub some : 0 < length policy.roots
  pub strict : IsTrue policy.strict

-- A walk is to the name of the question, and has come to a zone at or above it with its servers. The NS records of a candidate are looked for,
-- which is no shorter than the zone and no longer than the name; at those before it the log shows no cut below the zone.
pub record WayHolds (view : LogView) (query : Query) (w : Walk) : Type 0 where
  pub name : w.name ≡ walk query
  pub above : IsTrue (is_above w.asking.zone w.name)
  pub pool : ZoneServers view w.asking.zone w.asking.servers
  pub low : 1 ≤ w.labels
  pub high : w.labels ≤ length w.name.labels
  pub beyond : length w.asking.zone.labels ≤ w.labels
  pub asks : w.asking.lookup.query ≡ candidate_query w.name w.labels
  pub passed : Passed view w.asking.zone w.name w.labels
  pub strict : IsTrue view.policy.strict

-- The log shows no cut at the present candidate, or it is the zone.
abbrev pub LeavesBehind : LogView → Walk → Type 0
LeavesBehind view walk = length walk.asking.zone.labels < walk.labels → NoCutSeen view.policy view.log walk.asking.lookup.query.name

pub record WalkHolds (view : LogView) (asked_at : ℕ) (query : Query) (walk : Walk) : Type 0 where
  pub way : WayHolds view query walk
  pub lookup : LookupHolds view asked_at walk.asking.zone walk.asking.lookup

-- It has come to the servers of the name, and for its NS records to its own.
pub record IsAtServers (view : LogView) (query : Query) (walk : Walk) : Type 0 where
  pub site : ServersForQuery view query walk.asking.zone walk.asking.servers
  pub own : ReachesName view.policy view.log query walk.asking.zone

-- It goes further, has come to the servers for the question, or this has its reply.
abbrev pub WalkComes : LogView → ℕ → Question → Walk → WalkOutcome → Type 0
WalkComes view asked_at question walk course.Continue = WalkHolds view asked_at question.query walk
WalkComes view asked_at question walk course.ServersReached = IsAtServers view question.query walk
WalkComes view asked_at question walk (course.Reply reply) = CameTo view asked_at question reply.value

-- So it does, where memory did not run out.
abbrev pub Comes : LogView → ℕ → Question → Walk → Result WalkOutcome NoMemory → Type 0
Comes view asked_at question walk result = IfOk result (WalkComes view asked_at question walk)

-- A walk is on its way, and its lookup came to this.
pub record HasFound (view : LogView) (asked_at : ℕ) (query : Query) (walk : Walk) (found : LookupResult) : Type 0 where
  pub way : WayHolds view query walk
  pub came : FoundHolds view asked_at walk.asking.zone walk.asking.lookup.query walk.asking.lookup.ends found

-- or it failed with this error
pub record HasFailedAt (view : LogView) (asked_at : ℕ) (query : Query) (walk : Walk) (error : NetError) : Type 0 where
  pub way : WayHolds view query walk
  pub failed : HasFailedBy view asked_at walk.asking.zone walk.asking.lookup.query walk.asking.lookup.ends error

-- A walk is on its way, and the entry tells so for what it asks.
pub record HasHeard (view : LogView) (asked_at : ℕ) (query : Query) (walk : Walk) (entry : ℕ) (verdict : Verdict) : Type 0 where
  pub way : WayHolds view query walk
  pub stands : IsUsableFor view asked_at walk.asking.lookup.query entry verdict

-- The machine walks from these roots.
pub record HasRoots (view : LogView) (roots : List IpAddr) : Type 0 where
  pub are : view.policy.roots ≡ roots
  pub walks : CanWalk view.policy

-- it is set to this filter of servers
abbrev pub FiltersBy : LogView → Access → Type 0
FiltersBy view filter = view.policy.server_filter ≡ filter
