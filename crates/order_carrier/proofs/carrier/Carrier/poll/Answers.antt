use Rattle.std.specs.Result.{result_ok}
use Rattle.order_carrier.specs.Awaited.{sent_of}
use Rattle.order_carrier.proofs.OrderByCallParts.{heard-there}
use Rattle.order_carrier.proofs.carrier.Carrier.poll.Goals as goal

pub returns-clause-hears : goal.returns-clause-hears
returns-clause-hears g c =
    let polled = c.poll_awaited-slot.ensures in
    let put = c.put.ensures in
    let tell = c.tell.ensures in
    heard-there g.P.ConnectionProvider c.args.key c.args.under_way.order.value (sent_of c.args.under_way.awaited) c.args.now c.args.self.now c.poll_awaited-slot.new.provider c.put.new.self c.tell.new.self c.poll_awaited-slot.result
    (result_ok c.tell.result) polled.polled polled.quiet put.same put.slots tell.handed_out (tell.entries c.args.now) tell.same
