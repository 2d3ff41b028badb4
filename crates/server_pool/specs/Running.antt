-- How the lookups run, as whoever carries out their orders sees it.
use Rattle.std.specs.Prelude.{◌≡◌, ℕ, Bool, List, Some}
use Rattle.std.specs.declared.net.ip_addr.IpAddr.{IpAddr}
use Rattle.pool_lookup.specs.Holds.{HeardEnd, HoldsBy}
use Rattle.pool_lookup.specs.Lookup.{begun_with}
use Rattle.pool_lookup.specs.Running.{DecidesAt}
use Rattle.server_pool.specs.declared.open_lookups.open_lookup.OpenLookup.{OpenLookup}
use Rattle.server_pool.specs.Shared.{Shared, lookup_at}

-- The lookup of the number stands by these ends after a step of the moment. It asks what it asked, at the same servers of its pool, and as many wait for it.
pub record RunsOn (denied : IpAddr → Bool) (heard : List HeardEnd) (now n : ℕ) (l : OpenLookup) (new : Shared) : Type 0 where
  pub next : OpenLookup
  pub there : lookup_at new n ≡ Some next
  pub same : begun_with next.lookup ≡ begun_with l.lookup
  pub beside : (next.pool ≡ l.pool) × (next.waiters ≡ l.waiters)
  pub stands : HoldsBy denied heard next.lookup
  pub decides : DecidesAt now l.lookup next.lookup
