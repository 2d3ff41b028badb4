use Rattle.walk_lookup.proofs.Names.{refl, sym, ◌∙◌}
use Rattle.walk_lookup.proofs.ResponseCounts.{counts-as}
use Rattle.walk_lookup.proofs.answered.found_by.Goals as goal

pub returns-in-Ok : goal.returns-in-Ok
returns-in-Ok c =
    rw (sym c.classified.ensures ∙ c.in-Ok.is)
    (refl, counts-as c.args.zone.now c.args.query.now c.in-Ok.class c.verdict_of_class.result c.verdict_of_class.ensures.counts c.verdict_of_class.ensures.error)
