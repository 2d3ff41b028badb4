use Rattle.recursor_walk.proofs.zone_query.asking.ZoneQuery.step.Goals as goal

pub returns-clause-holds : goal.returns-clause-holds
returns-clause-holds c view step pools h =
    let stepped = c.step.ensures.holds view step pools h.lookup in
    (record { site = rw c.step.ensures.query h.site; lookup = stepped.0 }, stepped.1)
