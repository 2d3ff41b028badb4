use Rattle.std.proofs.Common.{◌≡◌, true, subst, ap}
use Rattle.std.specs.Prelude.{is_some}
use Rattle.std.specs.Result.{result_ok}
use Rattle.order_carrier.specs.Stand.{slot_at, IsSlotNamed}
use Rattle.order_carrier.specs.declared.order_state.OrderState.TheVariants as slot
use Rattle.order_carrier.proofs.KeysCompareEqual.{at-put}
use Rattle.order_carrier.proofs.Slots.{taken-is, not-taken}
use Rattle.order_carrier.proofs.OrderByCallParts.{carries-numbers, carries-polled}
use Rattle.order_carrier.proofs.carrier.Carrier.poll_again.Goals as goal

pub returns-then-not-has_numbers-clause-carries : goal.returns-then-not-has_numbers-clause-carries
returns-then-not-has_numbers-clause-carries g c =
    carries-numbers g.P.ConnectionProvider c.args.key c.args.order.now c.args.now c.args.self.now c.requires.going c.requires.named

pub poll-requires-clause-named : goal.poll-requires-clause-named
poll-requires-clause-named g c =
    let p = g.P.ConnectionProvider in
    let was = c.args.self.now in
    rw c.take.ensures.same.0 (subst (IsSlotNamed p (p.log was.provider)) (taken-is (slot_at was.slots c.args.key) c.in-InFlight.under_way c.in-InFlight.ensures.was) c.requires.named)

pub poll-requires-clause-place : goal.poll-requires-clause-place
poll-requires-clause-place g c = ap is_some (at-put c.args.key slot.Done c.args.self.now.slots c.take.new.self.slots c.take.ensures.slots)

pub returns-clause-carries : goal.returns-clause-carries
returns-clause-carries g c =
    let was = c.args.self.now in
    let u = c.in-InFlight.under_way in
    let has : c.has_numbers.result ≡ true = let n = c.if-not-has_numbers.false in cc in
    carries-polled g.P.ConnectionProvider c.args.key c.args.order.now c.args.now was c.take.new.self c.poll.new.self u (result_ok c.poll.result) (c.has_numbers.ensures.0 has)
    c.requires.going (taken-is (slot_at was.slots c.args.key) u c.in-InFlight.ensures.was) c.take.ensures.same c.take.ensures.slots c.poll.ensures.hears

pub unreachable-requires : goal.unreachable-requires
unreachable-requires g c = not-taken (slot_at c.args.self.now.slots c.args.key) _ c.take.ensures.was c.in_default.not-InFlight (ap is_some c.requires.going)
