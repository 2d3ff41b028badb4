use Rattle.std.proofs.Common.{◌≡◌, find}
use Rattle.std.specs.Prelude.{option_map}
use Rattle.server_pool.specs.Orders.{is_withdrawn, first_withdrawn}
use Rattle.server_pool.proofs.pool_shared.PoolShared.first_withdrawn.Given as goal

-- those that are left tell the same
abbrev pub invariant-loop-number : goal.invariant-loop-number
invariant-loop-number l = option_map (λ e. e.0) (find (λ e. is_withdrawn l.self e.0) l.number-iterator) ≡ first_withdrawn l.self
