-- What counts for a question, whether it was told just now or is read from the cache (RFC 2308 section 5).
use Rattle.std.specs.Prelude.{◌≡◌, ℕ, ◌≤◌, Bool, true, IsTrue, if◌then◌else◌, Option, Some, None, option_and_then}
use Rattle.std.specs.Option.{option_map}
use Rattle.dns_core.specs.Name.{DomainName}
use Rattle.dns_core.specs.declared.message.Query.{Query}
use Rattle.resolver_cache.specs.Cached.{Cached}
use Rattle.resolver_cache.specs.Cache.{found_for}
use Rattle.kept_responses.specs.declared.entry.CachedResponse.{CachedResponse}
use Rattle.resolution.specs.Answering.{Base, IsOwn}
use Rattle.resolution.specs.declared.verdict.Verdict.{Verdict}
use Rattle.resolution.specs.declared.verdict.Verdict.TheVariants.{Pos, Neg, Made}
use Rattle.resolution.specs.Walking.{Walked}
use Rattle.walk_response.specs.Kept.{verdict_kept}
use Rattle.walk_lookup.specs.Remembered.{CacheHolds}
use Rattle.walk_lookup.specs.LogView.{LogView}
use Rattle.recursor_walk.specs.SameTold.{SameVerdict, ShowsAsked}
use Rattle.recursor_walk.specs.declared.zone_query.sourced_verdict.SourcedVerdict.{SourcedVerdict}

-- ---- in the cache

abbrev pub counted_for : CachedResponse → Option SourcedVerdict
counted_for f = option_map (λ v. let c : SourcedVerdict = record { entry = f.source; verdict = v } in c) (verdict_kept f.response)

-- what the cache has for the question that is current
abbrev pub from_cache : Cached → Query → ℕ → Option SourcedVerdict
from_cache cache query now = option_and_then counted_for (found_for cache query now)

-- ---- for a question

-- What is read later answers where it is authoritative, or a negative (RFC 1034 section 5.3.3, step 1).
abbrev pub may_answer : Verdict → Bool
may_answer (Pos k) = k.authoritative
may_answer (Neg n) = true
may_answer (Made cause) = true

-- what counts, where it may be answered
abbrev pub answerable : Option SourcedVerdict → Option SourcedVerdict
answerable None = None
answerable (Some c) = if may_answer c.verdict then Some c else None

-- Entry i, no later than the greatest, tells for the question what counts so, but for TTLs, and is fresh at `asked_at`; its server is one of
-- a zone to which the walk went down.
pub record IsUsableFor (view : LogView) (asked_at : ℕ) (query : Query) (entry : ℕ) (verdict : Verdict) : Type 0 where
  pub zone : DomainName
  pub whole : Verdict
  pub early : entry ≤ view.greatest
  pub base : Base view.policy view.log asked_at query entry zone whole
  pub walked : Walked view.policy view.log query zone
  pub same : SameVerdict query verdict whole
  pub asked : ShowsAsked view.log entry query verdict whole

-- an answer is authoritative, or was told at or after `asked_at`, and for NS records by the name's own servers
abbrev pub IsOwnVerdict : LogView → ℕ → Query → DomainName → ℕ → Verdict → Type 0
IsOwnVerdict view asked_at query zone moment (Pos k) = IsOwn view.policy view.log asked_at query zone moment k
IsOwnVerdict view asked_at query zone moment (Neg n) = Unit {0}
IsOwnVerdict view asked_at query zone moment (Made cause) = Unit {0}

-- So it is, and it may be answered.
pub record Answers (view : LogView) (asked_at : ℕ) (query : Query) (entry : ℕ) (verdict : Verdict) : Type 0 where
  pub stands : IsUsableFor view asked_at query entry verdict
  pub own : IsOwnVerdict view asked_at query stands.zone stands.base.moment stands.whole

-- What is read from the cache is so; it may be answered where it is a negative, or authoritative.
pub record IsRecalled (view : LogView) (asked_at : ℕ) (query : Query) (c : SourcedVerdict) : Type 0 where
  pub stands : IsUsableFor view asked_at query c.entry c.verdict
  pub own : IsTrue (may_answer c.verdict) → IsOwnVerdict view asked_at query stands.zone stands.base.moment stands.whole

-- A cache that holds is read at this moment, for a question that began no later.
pub record ReadsAt (view : LogView) (asked_at now : ℕ) (cache : Cached) : Type 0 where
  pub at : now ≡ view.moment
  pub since : asked_at ≤ now
  pub holds : CacheHolds view cache
