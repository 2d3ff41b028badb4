use Rattle.pool_lookup.proofs.OutcomeIsTaken.{order_kept}
use Rattle.pool_lookup.proofs.running_laws.an_order_that_is_kept_stays_open.Goals as goal

pub returns : goal.returns
returns c = λ denied tick number o l kept a asks at. order_kept denied tick number a asks o l at kept
