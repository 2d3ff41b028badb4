use Rattle.walk_tables.proofs.pools.Pools.next.Goals as goal

pub returns-in-None-clause-holds : goal.returns-in-None-clause-holds
returns-in-None-clause-holds c view at pools = c.step.ensures.holds view at pools

pub returns-in-None-clause-goes : goal.returns-in-None-clause-goes
returns-in-None-clause-goes c view at pools = c.step.ensures.goes view at pools
