use Rattle.recursor_walk.proofs.Names.{◌∙◌, sym}
use Rattle.recursor_walk.proofs.WalkGoesOn.{at-start}
use Rattle.recursor_walk.proofs.walk.Walk.new.Goals as goal

pub returns-clause-holds : goal.returns-clause-holds
returns-clause-holds c view t0 q named qualified roots =
    let a = c.new-asking in
    at-start view t0 q c.args.name a.result c.in_ok-query.query
    roots.walks qualified named c.requires
    (a.ensures.is.0 ∙ c.root.ensures) (a.ensures.is.1 ∙ sym roots.are) a.ensures.is.2 c.in_ok-query.ensures
    (λ site. a.ensures.holds view t0 (rw (a.ensures.is.0, a.ensures.is.1) at site))
