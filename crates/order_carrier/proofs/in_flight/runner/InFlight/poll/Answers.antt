use Rattle.std.proofs.Common.{◌≡◌, true, sym}
use Rattle.order_carrier.specs.Stand.{stand_at}
use Rattle.order_carrier.specs.InFlight.{key_in}
use Rattle.order_carrier.specs.declared.in_flight.runner.InFlightOrder.{InFlightOrder}
use Rattle.order_carrier.proofs.FreeNumberCarried.{under_way-seen}
use Rattle.order_carrier.proofs.PolledInFlight.{counted-keeps, seen-starts}
use Rattle.order_carrier.proofs.in_flight.runner.InFlight.poll.Goals as goal

pub returns-clause-moves : goal.returns-clause-moves
returns-clause-moves g c =
    let running : InFlightOrder = c.in-Some.running.now in
    let m = c.carry.ensures.moves in
    let going : c.is_under_way.result ≡ true = let n = c.if-not-is_under_way.false in cc in
    let seen = under_way-seen (stand_at c.args.self.now.carrier.slots (key_in c.args.number running)) running.order.value (rw c.deref.ensures at (c.is_under_way.ensures.0 going)) in
    record { grown = m.grown; patient = m.patient; asks = λ policy right. m.asks policy (seen-starts c.args.number c.args.self.now running (sym c.in-Some.ensures.value) seen policy) }

pub returns-clause-keeps : goal.returns-clause-keeps
returns-clause-keeps g c = counted-keeps c.args.tick.patience c.args.number c.args.self.now c.carry.new.self c.carry.ensures.counted
