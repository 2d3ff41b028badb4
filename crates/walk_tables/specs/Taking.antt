-- What the outcome of an order leaves of the pools, and what it writes into the cache.
use Rattle.std.specs.Prelude.{◌≡◌, ◌⊎◌, ◌==◌, ℕ, Bool, false, if◌then◌else◌, Option, Some, None, Ok, IfSome, option_and_then}
use Rattle.server_core.specs.declared.orders.order.After.{After}
use Rattle.server_core.specs.declared.orders.order.Outcome.{Outcome}
use Rattle.server_core.specs.declared.orders.order.Tick.{Tick}
use Rattle.resolver_cache.specs.Cached.{Cached}
use Rattle.server_pool.specs.declared.open_lookups.open_lookup.OpenLookup.{OpenLookup}
use Rattle.server_pool.specs.Orders.{IsOpenOrder, open_at}
use Rattle.server_pool.specs.Stepping.{HasPut}
use Rattle.walk_tables.specs.Pools.{sought_at, PoolsHold, HasGone}
use Rattle.walk_lookup.specs.Remembered.{CacheHolds, Telling, remembered}
use Rattle.walk_lookup.specs.LogView.{LogView}
use Rattle.walk_lookup.specs.declared.lookup_result.LookupResult.{LookupResult}
use Rattle.walk_tables.specs.declared.lookup.Phase.{Phase}
use Rattle.walk_tables.specs.declared.lookup.Lookup.{Lookup}
use Rattle.walk_lookup.specs.declared.pending_lookup.OpenOrder.{OpenOrder}
use Rattle.walk_tables.specs.declared.pools.Pools.{Pools}
use Rattle.walk_lookup.specs.declared.pending_lookup.PendingLookup.{PendingLookup}
use Rattle.walk_tables.specs.declared.pools.PoolsStep.{PoolsStep}
use Rattle.walk_lookup.specs.Coming.{ComesBy, has_more_ends, telling_by}
use Rattle.server_core.specs.declared.orders.order.After.TheVariants as after
use Rattle.walk_tables.specs.declared.lookup.Phase.TheVariants as ask
use Rattle.walk_tables.specs.declared.pools.PoolsStep.TheVariants as stepped

-- what the lookup of the number came to, where it came to a response
abbrev pub telling_at : Pools → ℕ → Option Telling
telling_at pools n = option_and_then (telling_by pools.shared n) (sought_at pools n)

abbrev pub Comes : Pools → ℕ → Option LookupResult → Type 0
Comes pools n came = IfSome (sought_at pools n) (ComesBy pools.shared n came)

-- ---- an outcome

-- it is sought for the same question in the same zone
abbrev pub IsSoughtStill : PendingLookup → PendingLookup → Type 0
IsSoughtStill old new = (new.query ≡ old.query) × (new.zone ≡ old.zone)

-- The lookup of the number n, at which the order is open, has taken the outcome.
pub record Took (old new : Pools) (n number : ℕ) (outcome : Outcome) (tick : Tick) (did : After) : Type 0 where
  pub lookup : OpenLookup
  pub opens : IsOpenOrder number n lookup old.shared
  pub put : HasPut number n lookup outcome tick old.shared (Ok did) new.shared
  pub before : PendingLookup
  pub was : sought_at old n ≡ Some before
  pub after : PendingLookup
  pub is : sought_at new n ≡ Some after
  pub still : IsSoughtStill before after
  pub at : after.at ≡ (if has_more_ends old.shared new.shared n then tick.now else before.at)

-- So it has, and what it came to by this, if it came to a response, is in the cache. Nothing else is written.
pub record HasTaken (cache new_cache : Cached) (old new : Pools) (number : ℕ) (outcome : Outcome) (tick : Tick) (did : After) : Type 0 where
  pub n : ℕ
  pub took : Took old new n number outcome tick did
  pub writes : new_cache ≡ remembered cache (telling_at new n)

-- It was taken; or it is late, and nothing has changed.
abbrev pub Takes : Cached → Cached → Pools → Pools → ℕ → Outcome → Tick → After → Type 0
Takes cache new_cache old new number outcome tick did = ((did ≡ after.Late) × (new_cache ≡ cache) × (new ≡ old)) ⊎ HasTaken cache new_cache old new number outcome tick did

-- What is kept of responses, and the pools, hold.
pub record TablesHold (view : LogView) (kept : Cached) (under_way : Pools) : Type 0 where
  pub cache : CacheHolds view kept
  pub pools : PoolsHold view under_way

-- the order is open at the lookup of the number
abbrev pub is_open_at : Pools → ℕ → ℕ → Bool
is_open_at pools n number = elim (open_at number pools.shared) [ None ↦ false | Some at ↦ at == n ]

-- its number, where it is
abbrev pub if_open_at : Pools → ℕ → OpenOrder → Option ℕ
if_open_at pools n g = if is_open_at pools n g.number then Some g.number else None

-- the order that the lookup of the number waits for: the one that was given for it last, while it is open at it
abbrev pub awaited_in : Pools → ℕ → Option ℕ
awaited_in pools n = option_and_then (if_open_at pools n) (option_and_then (λ (s : PendingLookup). s.given) (sought_at pools n))

-- so it is with a lookup that is under way; another one waits for none
abbrev pub awaited_when : Pools → Phase → Option ℕ
awaited_when pools ask.CheckCache = None
awaited_when pools ask.Unsent = None
awaited_when pools (ask.InPool under) = awaited_in pools under.number
awaited_when pools (ask.Answered came) = None

abbrev pub awaited_by : Pools → Lookup → Option ℕ
awaited_by pools l = awaited_when pools l.ask

-- A lookup that was under way at a pool has left it; another one leaves all as it is.
abbrev pub Leaves : Phase → Pools → Pools → Type 0
Leaves ask.CheckCache old new = new ≡ old
Leaves ask.Unsent old new = new ≡ old
Leaves (ask.InPool under) old new = HasGone under.number old new
Leaves (ask.Answered came) old new = new ≡ old

-- The order that a step gives, or that it waits for, is the one that is waited for.
abbrev pub IfAwaits : Option ℕ → PoolsStep → Type 0
IfAwaits awaited (stepped.Order number order) = awaited ≡ Some number
IfAwaits awaited (stepped.Waiting number) = awaited ≡ Some number
IfAwaits awaited stepped.Done = Unit {0}
