use Rattle.std.proofs.Common.{rules}
use Rattle.order_carrier.proofs.in_flight.runner.InFlight.awaited.Goals as goal

pub returns-in-Pending : goal.returns-in-Pending
returns-in-Pending g c = search rules
