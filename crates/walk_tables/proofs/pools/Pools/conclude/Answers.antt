use Rattle.walk_tables.proofs.Names.{◌∙◌, sought_at, comes-writes}
use Rattle.walk_tables.proofs.pools.Pools.conclude.Goals as goal

pub returns-clause-ok : goal.returns-clause-ok
returns-clause-ok c =
    c.in_ok-remember.ensures.ok ∙ comes-writes c.args.cache.now c.args.self.now.shared c.args.lookup c.in_ok-came.came (sought_at c.args.self.now c.args.lookup) c.in_ok-came.ensures
