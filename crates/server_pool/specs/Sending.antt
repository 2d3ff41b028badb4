-- How a request begins a lookup, or joins one.
use Rattle.std.specs.Prelude.{◌≡◌, ◌≢◌, ℕ, ◌+◌, true, List, length, Option, Some, None}
use Rattle.std.specs.BTreeMap.{insert_entry}
use Rattle.std.specs.Ordering.{nat_cmp}
use Rattle.dns_core.specs.declared.message.Query.{Query}
use Rattle.dns_core.specs.declared.request.DnsRequest.{DnsRequest}
use Rattle.dns_core.specs.declared.request.DnsRequestOptions.{DnsRequestOptions}
use Rattle.resolver_settings.specs.declared.options.ResolverOpts.{ResolverOpts}
use Rattle.server_core.specs.Context.{Context}
use Rattle.server_core.specs.Servers.{Server}
use Rattle.pool_rules.specs.Ordering.{IsOrdered, next_turn, concurrency_of}
use Rattle.pool_lookup.specs.Lookup.{LookupState}
use Rattle.pool_lookup.specs.Rounds.{begun}
use Rattle.server_pool.specs.UsableServers.{usable_servers}
use Rattle.server_pool.specs.OpenLookups.{with_at, joined, is_for, open_for}
use Rattle.server_pool.specs.declared.open_lookups.open_lookup.OpenLookup.{OpenLookup}
use Rattle.server_pool.specs.Shared.{Shared, lookup_at, turn_at}

-- the request for a question, with the case of its letters by chance where the settings say so
abbrev pub request_by : Context → Query → DnsRequestOptions → DnsRequest
request_by context query options = record { query = query; options = record options { case_randomization = context.options.case_randomization } }

-- The lookup of a request at these servers begins now: at those that can be reached, in the order whose turn it is.
pub record Begins (options : ResolverOpts) (table : List Server) (servers : List ℕ) (turn : ℕ) (request : DnsRequest) (now : ℕ) (l : LookupState) : Type 0 where
  pub ordered : List ℕ
  pub in_order : IsOrdered options table now turn servers ordered
  pub is : l ≡ begun request (usable_servers table ordered) (concurrency_of options) options.timeout now

-- It has the next number, one waits for it, and then it is the turn of the next one.
pub record HasBegun (pool : ℕ) (servers : List ℕ) (request : DnsRequest) (now : ℕ) (old new : Shared) (number : ℕ) : Type 0 where
  pub next : number ≡ old.sent + 1
  pub lookup : LookupState
  pub begins : Begins old.context.options old.table servers (turn_at old pool) request now lookup
  pub is : new ≡ record old { lookups = insert_entry nat_cmp old.lookups number (record { pool = pool; waiters = 1; lookup = lookup }); turns = new.turns; sent = number }
  pub turn : turn_at new pool ≡ next_turn old.context.options (turn_at old pool) (length servers)
  pub turns : (other : ℕ) → other ≢ pool → turn_at new other ≡ turn_at old other

-- one more waits for the lookup of the number
abbrev pub after_join : ℕ → Shared → Shared
after_join n old = record old { lookups = with_at n joined old.lookups; sent = old.sent + 1 }

-- The lookup of the number has no answer yet, and is one of the pool for a request of the same key: one more waits for it, and nothing else has changed.
pub record HasJoined (pool : ℕ) (request : DnsRequest) (old new : Shared) (number : ℕ) : Type 0 where
  pub lookup : OpenLookup
  pub there : lookup_at old number ≡ Some lookup
  pub same : is_for pool request lookup ≡ true
  pub is : new ≡ after_join number old

abbrev pub SentTo : Option ℕ → ℕ → List ℕ → DnsRequest → ℕ → Shared → Shared → ℕ → Type 0
SentTo None pool servers request now old new number = HasBegun pool servers request now old new number
SentTo (Some n) pool servers request now old new number = (number ≡ n) × HasJoined pool request old new number

-- A request joins exactly where a lookup of its key at the pool has no answer yet, and else begins one.
abbrev pub HasSent : ℕ → List ℕ → DnsRequest → ℕ → Shared → Shared → ℕ → Type 0
HasSent pool servers request now old new number = SentTo (open_for pool request old.lookups) pool servers request now old new number
