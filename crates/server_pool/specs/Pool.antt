-- Pools of servers: which servers they name, until when they are good, and what a copy is.
use Rattle.std.specs.Prelude.{◌≡◌, ℕ, ◌<◌, ◌+◌, ◌-◌, ◌^◌, min, List, length, Option, Some, None}
use Rattle.std.specs.List.{All}
use Rattle.server_core.specs.Servers.{Server, place_of}
use Rattle.server_pool.specs.declared.pool.NameServerPool.{NameServerPool}

-- the pool with this number of its own and the servers of these numbers, of no zone, and good for ever
pub record IsPoolOf (own : ℕ) (numbers : List ℕ) (pool : NameServerPool) : Type 0 where
  pub number : pool.number ≡ own
  pub servers : pool.servers.items ≡ numbers
  pub zone : pool.zone ≡ None
  pub last : pool.last ≡ None

-- each of its servers is in the table
abbrev pub IsLive : List Server → NameServerPool → Type 0
IsLive table pool = All (λ number. place_of number < length table) pool.servers.items

-- the pool, good until so many microseconds after a moment
abbrev pub good_for : ℕ → ℕ → NameServerPool → NameServerPool
good_for ttl now pool = record pool { last = Some (min (now + ttl) (2 ^ 64 - 1)) }

-- the moment is later than the last at which it is good, where there is one
abbrev pub IsLater : Option ℕ → ℕ → Type 0
IsLater None now = ⊥
IsLater (Some last) now = last < now

abbrev pub IsExpired : NameServerPool → ℕ → Type 0
IsExpired pool now = IsLater pool.last now

-- it shares the number, and has the same servers, zone and last moment
pub record IsCopyOf (copy pool : NameServerPool) : Type 0 where
  pub number : copy.number ≡ pool.number
  pub servers : copy.servers.items ≡ pool.servers.items
  pub zone : copy.zone ≡ pool.zone
  pub last : copy.last ≡ pool.last
