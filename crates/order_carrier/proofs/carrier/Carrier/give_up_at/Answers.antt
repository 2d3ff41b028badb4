use Rattle.std.proofs.Common.{subst}
use Rattle.order_carrier.specs.Stand.{slot_at, IsSlotNamed}
use Rattle.order_carrier.proofs.Slots.{taken-is, not-taken}
use Rattle.order_carrier.proofs.OrderByCallParts.{gives-up}
use Rattle.order_carrier.proofs.carrier.Carrier.give_up_at.Goals as goal

pub give_up_awaited-requires : goal.give_up_awaited-requires
give_up_awaited-requires g c =
    let p = g.P.ConnectionProvider in
    let was = c.args.self.now in
    rw (c.count_sent.ensures, c.take.ensures.same.0)
    (subst (IsSlotNamed p (p.log was.provider)) (taken-is (slot_at was.slots c.args.key) c.in-InFlight.under_way c.in-InFlight.ensures.was) c.requires.named)

pub returns-clause-gives_up : goal.returns-clause-gives_up
returns-clause-gives_up g c =
    let was = c.args.self.now in
    let u = c.in-InFlight.under_way in
    gives-up g.P.ConnectionProvider c.args.key c.args.now was c.take.new.self c.count_sent.new.self c.give_up_awaited.new.provider u
    (taken-is (slot_at was.slots c.args.key) u c.in-InFlight.ensures.was) c.take.ensures.same c.take.ensures.slots c.count_sent.ensures c.give_up_awaited.ensures.log c.give_up_awaited.ensures.quiet

pub unreachable-requires : goal.unreachable-requires
unreachable-requires g c = not-taken (slot_at c.args.self.now.slots c.args.key) _ c.take.ensures.was c.in_default.not-InFlight c.requires.open
