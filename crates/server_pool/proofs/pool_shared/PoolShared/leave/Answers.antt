use Rattle.std.proofs.Common.{ℕ, List, sym, subst}
use Rattle.pool_rules.specs.AnswerFilter.{denied_by}
use Rattle.server_pool.specs.declared.open_lookups.open_lookup.OpenLookup.{OpenLookup}
use Rattle.server_pool.specs.Holds.{SharedHolds}
use Rattle.server_pool.proofs.PoolsHoldOn.{left_holds, removed_holds}
use Rattle.server_pool.proofs.ServersAreReached.{many_wait}
use Rattle.server_pool.proofs.pool_shared.PoolShared.leave.Goals as goal

pub invariant_of-self : goal.invariant_of-self
invariant_of-self c =
    let i = c.self.inside in
    (c.self.invariant.0, removed_holds (denied_by i.context.answer_address_filter) i.table c.args.lookup i.lookups.entries c.take_lookup.new.lookups.entries i.orders.entries i.sent i.given c.take_lookup.ensures.each c.self.invariant.1)

pub invariant_of-self-else-is_last : goal.invariant_of-self-else-is_last
invariant_of-self-else-is_last c =
    let i = c.self.inside in (
      c.self.invariant.0,
      subst (λ (ls : List (ℕ × OpenLookup)). SharedHolds (denied_by i.context.answer_address_filter) i.table ls i.orders.entries i.sent i.given) (sym c.leave_at.ensures)
          (left_holds (denied_by i.context.answer_address_filter) i.table c.args.lookup i.lookups.entries i.orders.entries i.sent i.given (many_wait c.args.lookup i.lookups.entries (sym c.if-is_last.ensures)) c.self.invariant.1),
    )
