-- What is true of the lookups that are under way, and of the orders that were given for them.
use Rattle.std.specs.Prelude.{◌≡◌, ℕ, ◌≤◌, ◌<◌, Bool, ◌==◌, List, if◌then◌else◌, Option, Some, None}
use Rattle.std.specs.declared.net.ip_addr.IpAddr.{IpAddr}
use Rattle.server_core.specs.Servers.{Server}
use Rattle.pool_lookup.specs.Asked.{opens}
use Rattle.pool_lookup.specs.Holds.{Holds, AreReached}
use Rattle.server_pool.specs.OpenLookups.{under}
use Rattle.server_pool.specs.declared.open_lookups.open_lookup.OpenLookup.{OpenLookup}

-- a lookup is as its rules want it, its servers are reached, and somebody waits for it, of those that sent a request
pub record LookupHolds (denied : IpAddr → Bool) (table : List Server) (sent : ℕ) (l : OpenLookup) : Type 0 where
  pub rules : Holds denied l.lookup
  pub reached : AreReached table l.lookup
  pub some : 1 ≤ l.waiters
  pub few : l.waiters ≤ sent

-- how often the order that stands so is one of the lookup of the number
abbrev pub times_of : ℕ → Option ℕ → ℕ
times_of n None = 0
times_of n (Some m) = if m == n then 1 else 0

-- each lookup and each order has one of the numbers so far, and an order that is open at a lookup is open there once, and stands under its number
pub record SharedHolds (denied : IpAddr → Bool) (table : List Server) (lookups : List (ℕ × OpenLookup)) (orders : List (ℕ × ℕ)) (sent given : ℕ) : Type 0 where
  pub numbered : (n : ℕ) → sent < n → under n lookups ≡ None
  pub ordered : (number : ℕ) → given < number → under number orders ≡ None
  pub each : (n : ℕ) (l : OpenLookup) → under n lookups ≡ Some l → LookupHolds denied table sent l
  pub listed : (n number : ℕ) (l : OpenLookup) → under n lookups ≡ Some l → opens number l.lookup ≤ times_of n (under number orders)
