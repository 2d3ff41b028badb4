-- What reading and writing promise whatever was written.
use Rattle.std.specs.Prelude.{◌≡◌, ◌≤◌, ◌+◌, ◌*◌, ◌⊎◌, ℕ, Bool, Some, All, Contains, IsTrue, Result}
use Rattle.dns_core.specs.declared.message.Query.{Query}
use Rattle.dns_core.specs.declared.message.Message.{Message}
use Rattle.dns_core.specs.declared.net_error.NetError.{NetError}
use Rattle.kept_responses.specs.declared.entry.Entry.{Entry}
use Rattle.kept_responses.specs.declared.entry.CachedResponse.{CachedResponse}
use Rattle.kept_responses.specs.Entry.{is_for}
use Rattle.resolver_cache.specs.Life.{life_of}
use Rattle.resolver_cache.specs.Life.{seconds_between}
use Rattle.kept_responses.specs.Lowering.{lowered}
use Rattle.resolver_cache.specs.Cached.{Cached}
use Rattle.resolver_cache.specs.Cache.{read, upserted}

-- an entry of the cache for the question, written no later than now and not expired, reads so
pub record IsReadFrom (cache : Cached) (query : Query) (now : ℕ) (response : Result Message NetError) : Type 0 where
  pub entry : Entry
  pub kept : Contains cache.entries entry
  pub question : IsTrue (is_for query entry)
  pub begun : entry.written ≤ now
  pub current : now ≤ entry.expiry
  pub reads : response ≡ lowered (seconds_between entry.written now) entry.response

-- where nothing was written later than now, what is read is of such an entry
abbrev pub ReadIsCurrent : Type 0
ReadIsCurrent =
    (cache : Cached) (q : Query) (now : ℕ) (response : Result Message NetError) → All (λ e. e.written ≤ now) cache.entries → read cache q now ≡ Some response → IsReadFrom cache q now response

-- an entry of the cache for the question that has not expired reads so, and has this source
pub record IsFoundIn (cache : Cached) (query : Query) (now : ℕ) (f : CachedResponse) : Type 0 where
  pub entry : Entry
  pub kept : Contains cache.entries entry
  pub question : IsTrue (is_for query entry)
  pub current : now ≤ entry.expiry
  pub reads : f.response ≡ lowered (seconds_between entry.written now) entry.response
  pub source : f.source ≡ entry.source

-- the response that was just written, from this source, which expires no later than its life says
pub record IsJustWritten (cache : Cached) (query : Query) (response : Result Message NetError) (told : ℕ) (now : ℕ) (entry : Entry) : Type 0 where
  pub question : entry.query ≡ query
  pub answer : entry.response ≡ response
  pub source : entry.source ≡ told
  pub written : entry.written ≡ now
  pub life : ℕ
  pub lives : life_of cache.config query.query_type response ≡ Some life
  pub no_longer : entry.expiry ≤ now + life * 1000000

-- each entry after a write was there before, or is that response
abbrev pub WritesNoOther : Type 0
WritesNoOther =
    (cache : Cached) (q : Query) (response : Result Message NetError) (source : ℕ) (now : ℕ) (clamp : Bool) (entry : Entry) → Contains (upserted cache q response source now clamp).entries entry → Contains cache.entries entry ⊎ IsJustWritten cache q response source now entry
