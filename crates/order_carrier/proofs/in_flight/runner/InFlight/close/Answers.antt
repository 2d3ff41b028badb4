use Rattle.order_carrier.proofs.Sums.{left-taken}
use Rattle.order_carrier.proofs.in_flight.runner.InFlight.close.Goals as goal

pub returns-clause-polls : goal.returns-clause-polls
returns-clause-polls g c patience = left-taken patience c.args.number c.args.self.now (record c.args.self.now { orders = c.remove.new.self }) c.remove.ensures.entries
