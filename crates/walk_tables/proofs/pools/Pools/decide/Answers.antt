use Rattle.walk_tables.proofs.Names.{◌≡◌, Some}
use Rattle.walk_tables.proofs.LookupsAfterStep.{pools-came, pools-forgotten}
use Rattle.walk_tables.proofs.OutcomeInCache.{comes-has}
use Rattle.walk_tables.proofs.pools.Pools.decide.Goals as goal

pub returns-in-Ok-Some-clause-holds : goal.returns-in-Ok-Some-clause-holds
returns-in-Ok-Some-clause-holds c view answered =
    let is : c.in-Ok-Some.field-0 ≡ Some c.in-Ok-Some.found = cc in
    pools-came view _ _ _ _ c.keep_came.ensures (comes-has c.args.self.now c.args.lookup (Some c.in-Ok-Some.found) (rw (c.in-Ok-Some.is, is) at c.found.ensures.comes answered))

pub returns-in-Ok-None-clause-holds : goal.returns-in-Ok-None-clause-holds
returns-in-Ok-None-clause-holds c view answered = pools-forgotten view _ _ _ c.forget.ensures
