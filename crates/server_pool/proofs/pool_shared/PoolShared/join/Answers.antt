use Rattle.std.proofs.Common.{arith}
use Rattle.pool_rules.specs.AnswerFilter.{denied_by}
use Rattle.server_pool.proofs.PoolsHoldOn.{joined_holds}
use Rattle.server_pool.proofs.pool_shared.PoolShared.join.Goals as goal

pub join_at-requires : goal.join_at-requires
join_at-requires c = λ l there. let few = (c.self.invariant.1.each c.args.lookup l there).few in omega (arith, few, c.in_ok-number.ensures)

pub invariant_of-self : goal.invariant_of-self
invariant_of-self c =
    let i = c.self.inside in
    (c.self.invariant.0, rw (c.join_at.ensures, c.in_ok-number.ensures) (joined_holds (denied_by i.context.answer_address_filter) i.table c.args.lookup i.lookups.entries i.orders.entries i.sent i.given c.self.invariant.1))
