-- The places of servers, by their numbers.
use Rattle.std.proofs.Common.{◌≡◌, ◌+◌, ◌≤◌, ◌<◌, ℕ, arith}
use Rattle.server_core.specs.Servers.{place_of}

-- the number that comes after so many servers is that of the next place
pub place-next : (n : ℕ) → place_of (n + 1) ≡ n
place-next n = grind arith

-- the numbers from 1 to a count have the places below it
pub place-within : (n count : ℕ) → 1 ≤ n → n ≤ count → place_of n < count
place-within n count low high = grind (arith, low, high)
