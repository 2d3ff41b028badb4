use Rattle.std.proofs.Common.{refl}
use Rattle.order_carrier.proofs.OrderByCallParts.{begins-holds}
use Rattle.order_carrier.proofs.carrier.Carrier.new.Goals as goal

pub returns-clause-holds : goal.returns-clause-holds
returns-clause-holds g c empty = begins-holds g.P.ConnectionProvider _ empty refl (λ k. rw c.new.ensures.empty refl)
