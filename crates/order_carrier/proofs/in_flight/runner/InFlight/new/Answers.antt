use Rattle.order_carrier.specs.InFlight.{polls_left}
use Rattle.order_carrier.proofs.in_flight.runner.InFlight.new.Goals as goal

pub returns-clause-none : goal.returns-clause-none
unfolding polls_left
returns-clause-none g c patience = rw c.new.ensures.empty
