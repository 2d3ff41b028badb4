use Rattle.pool_lookup.proofs.StepsCanBeTaken.{can_within, given_order}
use Rattle.pool_lookup.proofs.attempt.Attempt.give.Goals as goal

pub next-requires : goal.next-requires
next-requires c = can_within c.args.table.now c.args.self.now c.requires

pub unreachable-requires : goal.unreachable-requires
unreachable-requires c =
    let is = c.in_ok-step.ensures.step c.requires.server c.requires.there in
    let order = given_order c.args.number c.args.tick.now c.args.table.now c.args.self.now c.requires c.in_ok-step.step c.next.new.self.stage is in
    c.in_default.not-Order order.0 order.1
