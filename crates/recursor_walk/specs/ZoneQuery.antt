-- A question at the servers of a zone, as derived from a log.
use Rattle.std.specs.Prelude.{◌≡◌, ℕ, ◌+◌, ◌<◌, Option, Some, None, IfNone}
use Rattle.std.specs.Global.{Box}
use Rattle.dns_core.specs.declared.message.Query.{Query}
use Rattle.dns_core.specs.declared.request.Question.{Question}
use Rattle.resolution.specs.Walking.{Walked, ReachesName}
use Rattle.walk_tables.specs.Lookup.{LookupHolds}
use Rattle.walk_lookup.specs.LookupResult.{FoundHolds}
use Rattle.walk_lookup.specs.PendingLookup.{ServersForQuery}
use Rattle.walk_lookup.specs.LogView.{LogView}
use Rattle.walk_lookup.specs.declared.lookup_result.LookupResult.{LookupResult}
use Rattle.recursor_walk.specs.Replies.{CameTo}
use Rattle.recursor_walk.specs.declared.zone_query.asking.ZoneQuery.{ZoneQuery}
use Rattle.recursor_types.specs.declared.reply.Reply.{Reply}
use Rattle.walk_tables.specs.Lookup as lookup

-- how many steps it has before it, beside those by which it gives orders and waits for them
abbrev pub steps : ZoneQuery → ℕ
steps a = 2 + lookup.steps a.lookup

-- It has fewer, where it is not answered.
abbrev pub LeavesFewer : ZoneQuery → ZoneQuery → Option (Box Reply) → Type 0
LeavesFewer old new reply = IfNone reply (steps new < steps old)

-- It asks the same at the same servers.
abbrev pub SameSite : ZoneQuery → ZoneQuery → Type 0
SameSite old new = (new.zone ≡ old.zone) × (new.servers ≡ old.servers) × (new.lookup.query ≡ old.lookup.query)

-- They are the servers of a zone at or above the name, to which a walk went down for what is asked.
pub record ZoneQueryHolds (view : LogView) (asked_at : ℕ) (a : ZoneQuery) : Type 0 where
  pub site : ServersForQuery view a.lookup.query a.zone a.servers
  pub lookup : LookupHolds view asked_at a.zone a.lookup

-- The question itself is asked, and for NS records the walk went down to the name's own servers.
pub record LastHolds (view : LogView) (asked_at : ℕ) (query : Query) (a : ZoneQuery) : Type 0 where
  pub asks : a.lookup.query ≡ query
  pub own : ReachesName view.policy view.log a.lookup.query a.zone
  pub holds : ZoneQueryHolds view asked_at a

-- it goes on, or has its reply
abbrev pub LastComes : LogView → ℕ → Question → ZoneQuery → Option (Box Reply) → Type 0
LastComes view asked_at question a None = LastHolds view asked_at question.query a
LastComes view asked_at question a (Some reply) = CameTo view asked_at question reply.value

-- The question itself was asked at servers of a zone to which the walk went down, and its lookup came to this.
pub record HasFound (view : LogView) (asked_at : ℕ) (query : Query) (a : ZoneQuery) (found : LookupResult) : Type 0 where
  pub asks : a.lookup.query ≡ query
  pub walked : Walked view.policy view.log a.lookup.query a.zone
  pub own : ReachesName view.policy view.log a.lookup.query a.zone
  pub came : FoundHolds view asked_at a.zone a.lookup.query a.lookup.ends found
