use Rattle.pool_lookup.proofs.WhereOrdersGo.{order_sent}
use Rattle.pool_lookup.proofs.running_laws.a_lookup_sends_to_its_servers.Goals as goal

pub returns : goal.returns
returns c = λ table number l order new g. order_sent g.0.0 g.0.1.0 number g.2.0 table l order new g.0.1.1 g.1 g.2.1
