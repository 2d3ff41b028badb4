-- In which order the servers of a pool are asked.
use Rattle.std.specs.Prelude.{◌≡◌, ℕ, ◌+◌, ◌%◌, max, nat_lt, if◌then◌else◌, List, ◌++◌, length, take, drop}
use Rattle.std.specs.List.Sorted.{IsPermutation, IsNonDecreasingBy, IsStableByKey}
use Rattle.std.specs.Ordering.{nat_cmp}
use Rattle.resolver_settings.specs.declared.options.ResolverOpts.{ResolverOpts}
use Rattle.resolver_settings.specs.declared.options.ServerOrderingStrategy.TheVariants.{QueryStatistics, UserProvidedOrder, RoundRobin}
use Rattle.server_core.specs.Servers.{Server}
use Rattle.pool_rules.specs.Statistics.{delay_of}

-- the same servers, none after one of a greater delay, and those of equal delays in their order
pub record IsByDelay (table : List Server) (now : ℕ) (given servers : List ℕ) : Type 0 where
  pub permutation : IsPermutation given servers
  pub sorted : IsNonDecreasingBy (delay_of table now) servers
  pub stable : IsStableByKey (delay_of table now) nat_cmp given servers

-- how many are asked side by side: one at least
abbrev pub concurrency_of : ResolverOpts → ℕ
concurrency_of options = max options.num_concurrent_reqs 1

-- round the list, from a place on
abbrev pub from_place : ℕ → List ℕ → List ℕ
from_place place servers = drop place servers ++ take place servers

-- the place whose turn it is, where not all of so many are asked at once
abbrev pub place_of_turn : ℕ → ℕ → ℕ → ℕ
place_of_turn concurrency turn count = if nat_lt concurrency count then turn % count else 0

-- the turn after that of so many
abbrev pub turn_after : ℕ → ℕ → ℕ → ℕ
turn_after concurrency turn count = if nat_lt concurrency count then (turn % count + concurrency) % count else turn

-- By their delays; as they were given; or each in turn first.
abbrev pub IsOrdered : ResolverOpts → List Server → ℕ → ℕ → List ℕ → List ℕ → Type 0
IsOrdered options table now turn given servers = elim (options.server_ordering_strategy) [
  | QueryStatistics ↦ IsByDelay table now given servers
  | UserProvidedOrder ↦ servers ≡ given
  | RoundRobin ↦ servers ≡ from_place (place_of_turn (concurrency_of options) turn (length given)) given
]

-- the turn of the pool's next lookup
abbrev pub next_turn : ResolverOpts → ℕ → ℕ → ℕ
next_turn options turn count = elim (options.server_ordering_strategy) [
  | QueryStatistics ↦ turn
  | UserProvidedOrder ↦ turn
  | RoundRobin ↦ turn_after (concurrency_of options) turn count
]
