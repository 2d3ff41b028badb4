-- What is read from a cache of responses, and what writing leaves (RFC 2308 section 5).
use Rattle.std.specs.Prelude.{◌≡◌, ℕ, Bool, min, List, Option, Some, None, Result, if◌then◌else◌}
use Rattle.std.specs.Option.{option_map}
use Rattle.dns_core.specs.declared.message.Query.{Query}
use Rattle.dns_core.specs.declared.message.Message.{Message}
use Rattle.dns_core.specs.declared.net_error.NetError.{NetError}
use Rattle.kept_responses.specs.declared.entry.Entry.{Entry}
use Rattle.kept_responses.specs.declared.entry.CachedResponse.{CachedResponse}
use Rattle.kept_responses.specs.Entry.{current_for}
use Rattle.resolver_cache.specs.Life.{life_of, moment_after}
use Rattle.resolver_cache.specs.Life.{seconds_between}
use Rattle.kept_responses.specs.Lowering.{lowered}
use Rattle.resolver_cache.specs.Placing.{with_entry}
use Rattle.resolver_cache.specs.Cached.{Cached, IsWithin}

-- the response of the current entry for a question, its TTLs lowered by the whole seconds since it was written
abbrev pub read : Cached → Query → ℕ → Option (Result Message NetError)
read cache query now =
    option_map (λ e. lowered (seconds_between e.written now) e.response) (current_for query now cache.entries)

-- the same response, and what told it
abbrev pub found_for : Cached → Query → ℕ → Option CachedResponse
found_for cache query now =
    option_map (λ e. record { response = lowered (seconds_between e.written now) e.response; source = e.source }) (current_for query now cache.entries)

abbrev pub no_later_than : Option Entry → ℕ → ℕ
no_later_than None moment = moment
no_later_than (Some e) moment = min moment e.expiry

-- so many seconds from now; with a clamp no later than the expiry of an entry for the question that is current
abbrev pub new_expiry : List Entry → Query → ℕ → Bool → ℕ → ℕ
new_expiry es query now clamp life =
    if clamp then no_later_than (current_for query now es) (moment_after now life) else moment_after now life

-- the cache with a response of this life and source, or as it was where the response has none
abbrev pub written_with : Cached → Query → Result Message NetError → ℕ → ℕ → Bool → Option ℕ → Cached
written_with cache q response source now clamp None = cache
written_with cache q response source now clamp (Some life) =
    record cache { entries = with_entry cache.size (record { query = q; response = response; written = now; expiry = new_expiry cache.entries q now clamp life; source = source }) cache.entries }

-- the cache once a response to a question was written that the log entry of this number told
abbrev pub upserted : Cached → Query → Result Message NetError → ℕ → ℕ → Bool → Cached
upserted cache query response source now clamp =
    written_with cache query response source now clamp (life_of cache.config query.query_type response)

-- whatever is written, the cache stays as it is
abbrev pub KeepsNothing : Cached → Type 0
KeepsNothing cache =
    (q : Query) (response : Result Message NetError) (source now : ℕ) (clamp : Bool) → upserted cache q response source now clamp ≡ cache

-- no more entries than the size, and no two for one question
abbrev pub IsSound : Cached → Type 0
IsSound cache = IsWithin cache.size cache.entries
