use Rattle.std.proofs.Common.{◌^◌, ◌-◌, ℕ, ◌<◌, min, arith}
use Rattle.server_pool.proofs.pool_laws.a_pool_expires_after_its_ttl.Goals as goal

-- a moment below 2 ^ 64 is later than a sum exactly where it is later than the sum that stops there
after-sum : (sum now : ℕ) → now < 2 ^ 64 → min sum (2 ^ 64 - 1) < now → sum < now
after-sum sum now small h = omega arith

after-least : (sum now : ℕ) → sum < now → min sum (2 ^ 64 - 1) < now
after-least sum now h = omega arith

pub returns : goal.returns
returns c = λ pool ttl made now small. (after-sum _ now small, after-least _ now)
