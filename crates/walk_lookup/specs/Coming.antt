-- What a lookup came to at its pool, and what of it is kept.
use Rattle.std.specs.Prelude.{◌≡◌, ℕ, Bool, nat_lt, length, Option, Some, None, Ok, Err, option_and_then}
use Rattle.resolver_cache.specs.Cached.{Cached}
use Rattle.resolution.specs.Lookups.{Answered}
use Rattle.pool_lookup.specs.Asked.{answer_of}
use Rattle.server_pool.specs.OpenLookups.{closed_by}
use Rattle.server_pool.specs.declared.open_lookups.open_lookup.OpenLookup.{OpenLookup}
use Rattle.server_pool.specs.Shared.{Shared, lookup_at}
use Rattle.walk_response.specs.Kept.{kept_of}
use Rattle.walk_lookup.specs.LookupResult.{last_of, classified, HasCome}
use Rattle.walk_lookup.specs.Remembered.{Telling, telling, with_response}
use Rattle.walk_lookup.specs.declared.lookup_result.LookupResult.{LookupResult}
use Rattle.walk_lookup.specs.declared.pending_lookup.PendingLookup.{PendingLookup}
use Rattle.walk_lookup.specs.declared.lookup_result.LookupResult.TheVariants as found

-- what the lookup of the number was answered at its pool, where it is decided
abbrev pub answer_at : Shared → ℕ → Option Answered
answer_at shared n = option_and_then (λ (l : OpenLookup). answer_of l.lookup) (lookup_at shared n)

-- that answer as it was told for what is sought, by the last of the entries by which its sends ended
abbrev pub telling_by : Shared → ℕ → PendingLookup → Option Telling
telling_by shared n pending = option_and_then (λ told. telling pending.zone pending.query (last_of (closed_by (lookup_at shared n))) pending.at (classified told)) (answer_at shared n)

-- One that is sought so came to this by its answer; or to no response.
abbrev pub ComesBy : Shared → ℕ → Option LookupResult → PendingLookup → Type 0
ComesBy shared n (Some came) pending = HasCome pending.zone pending.query (lookup_at shared n) came
ComesBy shared n None pending = telling_by shared n pending ≡ None

-- the cache with what one that is sought so came to, where that is kept
abbrev pub with_found : Cached → Option LookupResult → PendingLookup → Cached
with_found cache None pending = cache
with_found cache (Some (found.Error error)) pending = cache
with_found cache (Some (found.Told entry (Err error))) pending = cache
with_found cache (Some (found.Told entry (Ok verdict))) pending = with_response cache pending.query entry pending.at (kept_of verdict)

abbrev pub with_sought : Cached → Option PendingLookup → Option LookupResult → Cached
with_sought cache None came = cache
with_sought cache (Some s) came = with_found cache came s

-- one more send of the lookup has ended
abbrev pub has_more_ends : Shared → Shared → ℕ → Bool
has_more_ends old new n = nat_lt (length (closed_by (lookup_at old n))) (length (closed_by (lookup_at new n)))
