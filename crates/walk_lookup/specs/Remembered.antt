-- What is kept of finished lookups in the cache of responses (RFC 1034 section 5.3.3, step 4).
use Rattle.std.specs.Prelude.{◌≡◌, ℕ, ◌+◌, ◌*◌, ◌≤◌, ◌==◌, Option, Some, None, Result, Ok, Err, All, IsSomeAnd}
use Rattle.dns_core.specs.Name.{DomainName}
use Rattle.dns_core.specs.declared.message.Query.{Query}
use Rattle.dns_core.specs.declared.message.Message.{Message}
use Rattle.dns_core.specs.declared.net_error.NetError.{NetError}
use Rattle.dns_core.specs.declared.net_error.DnsError.{DnsError}
use Rattle.dns_core.specs.declared.log.ToldOutcome.{ToldOutcome}
use Rattle.resolver_cache.specs.Cached.{Cached}
use Rattle.resolver_cache.specs.Cache.{upserted}
use Rattle.kept_responses.specs.declared.entry.Entry.{Entry}
use Rattle.resolution.specs.Verdict.{verdict}
use Rattle.resolution.specs.Life.{life_in_seconds}
use Rattle.resolution.specs.Serving.{Heard}
use Rattle.resolution.specs.declared.verdict.Verdict.{Verdict}
use Rattle.resolution.specs.Walking.{Walked}
use Rattle.walk_response.specs.Kept.{kept_of, response_in}
use Rattle.walk_response.specs.Shown.{IsShown}
use Rattle.resolution.specs.Negatives.{AskedAs}
use Rattle.walk_lookup.specs.LogView.{LogView}

-- ---- what holds of the cache

-- The response under a question, as it was asked, shows the verdict of the entry that it names, told by a server of a zone to which a walk went down, and it
-- expires no later than its life after the moment of the telling.
pub record EntryHolds (view : LogView) (e : Entry) : Type 0 where
  pub zone : DomainName
  pub told : ToldOutcome
  pub moment : ℕ
  pub whole : Verdict
  pub early : e.source ≤ view.greatest
  pub heard : Heard view.policy view.log e.source e.query told moment zone
  pub asked : AskedAs view.log e.source e.query
  pub counts : verdict view.policy told e.query zone ≡ Some whole
  pub walked : Walked view.policy view.log e.query zone
  pub shown : Verdict
  pub as_shown : IsShown e.query shown whole
  pub kept : kept_of shown ≡ Some e.response
  pub expires : IsSomeAnd (life_in_seconds view.policy e.query.query_type whole) (λ life. e.expiry ≤ moment + 1000000 * life)

-- Each response is so, there are no more than the policy allows, and each lives by its bounds.
pub record CacheHolds (view : LogView) (cache : Cached) : Type 0 where
  pub size : cache.size ≡ view.policy.response_cache_size
  pub ttl_bounds : cache.config ≡ view.policy.ttl_bounds
  pub entries : All (EntryHolds view) cache.entries

-- ---- what is written

-- a message, as it is classified, that was told for the question, at the moment, by the entry, by a server of the zone
pub record Telling : Type 0 where
  pub zone : DomainName
  pub query : Query
  pub entry : ℕ
  pub at : ℕ
  pub class : Result Message DnsError

abbrev pub telling : DomainName → Query → ℕ → ℕ → Result (Result Message DnsError) NetError → Option Telling
telling zone q entry at (Ok class) = Some (record { zone = zone; query = q; entry = entry; at = at; class = class })
telling zone q entry at (Err error) = None

-- the cache with the response to the question, where there is one, by the entry, since the moment
abbrev pub with_response : Cached → Query → ℕ → ℕ → Option (Result Message NetError) → Cached
with_response cache query entry at None = cache
with_response cache query entry at (Some response) = upserted cache query response entry at (query.query_type.code == 2)

abbrev pub written : Cached → Telling → Option (Result Message NetError) → Cached
written cache t response = with_response cache t.query t.entry t.at response

-- The cache with what was told: as it counts, under its question, by its entry, since its moment; a repeated answer for NS records does not
-- move the expiry of a current one to a later moment. Errors, and denials that are made where the zone leaves nothing, are not written.
abbrev pub remembered : Cached → Option Telling → Cached
remembered cache None = cache
remembered cache (Some t) = written cache t (response_in t.zone t.query t.class)
