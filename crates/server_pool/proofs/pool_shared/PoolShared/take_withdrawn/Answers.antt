use Rattle.std.proofs.Common.{◌≡◌, ℕ, List, sym, subst, Some}
use Rattle.pool_rules.specs.AnswerFilter.{denied_by}
use Rattle.server_pool.specs.Holds.{SharedHolds}
use Rattle.server_pool.specs.Orders.{first_withdrawn}
use Rattle.server_pool.specs.Shared.{Shared}
use Rattle.server_pool.specs.contracts.pool_shared.PoolShared.{the_view}
use Rattle.server_pool.proofs.PoolsHoldOn.{withdrawn_holds}
use Rattle.server_pool.proofs.OpenOrdersListed.{first_shut, withdrawn_shut}
use Rattle.server_pool.proofs.pool_shared.PoolShared.take_withdrawn.Goals as goal

pub invariant_of-self : goal.invariant_of-self
invariant_of-self c =
    let i = c.self.inside in
    let s = the_view i in
    let number = c.in-Some.number in
    let first = subst (λ (x : Shared). first_withdrawn x ≡ Some number) (sym c.self.view_is) (sym c.in-Some.ensures) in (
      c.self.invariant.0,
      subst (λ (os : List (ℕ × ℕ)). SharedHolds (denied_by i.context.answer_address_filter) i.table i.lookups.entries os i.sent i.given) (sym c.take_out.ensures.entries)
          (withdrawn_holds (denied_by i.context.answer_address_filter) i.table number i.lookups.entries i.orders.entries i.sent i.given (withdrawn_shut number s (first_shut number s first)) c.self.invariant.1),
    )
