use Rattle.server_pool.proofs.OpenOrdersListed.{open_of, open_nowhere}
use Rattle.server_pool.proofs.pool_shared.PoolShared.has_order.Goals as goal

pub returns-in-Some : goal.returns-in-Some
returns-in-Some c = open_of c.args.number c.in-Some.of c.args.lookup c.args.self.now c.in-Some.ensures

pub returns-in-None : goal.returns-in-None
returns-in-None c = open_nowhere c.args.number c.args.lookup c.args.self.now c.in-None.ensures
