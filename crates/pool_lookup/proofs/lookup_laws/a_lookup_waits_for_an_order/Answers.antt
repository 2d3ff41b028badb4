use Rattle.pool_lookup.proofs.WaitsForOpenOrders.{waits_for}
use Rattle.pool_lookup.proofs.lookup_laws.a_lookup_waits_for_an_order.Goals as goal

pub returns : goal.returns
returns c = λ now l h. waits_for now l h
