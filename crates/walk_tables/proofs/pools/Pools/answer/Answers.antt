use Rattle.walk_tables.proofs.Names.{◌∙◌, sym, None}
use Rattle.walk_tables.proofs.LookupsAfterStep.{pools-came}
use Rattle.walk_tables.proofs.OutcomeInCache.{came-for}
use Rattle.walk_tables.proofs.pools.Pools.answer.Goals as goal

pub returns-in-Some-clause-answer : goal.returns-in-Some-clause-answer
returns-in-Some-clause-answer c view h =
    came-for view c.args.self.now c.args.lookup.now.number c.args.query.now c.args.zone.now c.args.begun c.in-Some.came c.in_ok-ends.ends h
    (rw c.number-n.ensures at (c.seeks.ensures c.if-not-seeks.false)) (rw c.number-n.ensures at (sym c.in-Some.is ∙ c.take_kept.ensures.kept))
    (c.in_ok-ends.ensures ∙ c.ends.ensures.ends)

-- what is kept was taken
pub returns-in-Some-clause-holds : goal.returns-in-Some-clause-holds
returns-in-Some-clause-holds c view = pools-came view _ None _ _ c.take_kept.ensures.noted (λ s is. tt)

pub returns-in-None-clause-holds : goal.returns-in-None-clause-holds
returns-in-None-clause-holds c view = pools-came view _ None _ _ c.take_kept.ensures.noted (λ s is. tt)
