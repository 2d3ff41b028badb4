use Rattle.recursor_walk.proofs.Names.{refl, arith}
use Rattle.recursor_walk.proofs.WalkGoesOn.{way-looked, past-falls}
use Rattle.recursor_walk.proofs.walk.Walk.hear.Goals as goal

pub returns-clause-falls : goal.returns-clause-falls
returns-clause-falls c =
    let w = c.args.self.now in
    past-falls w (record w { asking = record w.asking { lookup = c.hear-found.new.self } }) c.conclude.new.self c.conclude.result refl (rw c.requires (omega arith)) c.conclude.ensures.falls

pub returns-clause-holds : goal.returns-clause-holds
returns-clause-holds c view t0 question filtered h =
    let w = c.args.self.now in
    c.conclude.ensures.holds view t0 question filtered (record {
      way = way-looked view question.query w (record w.asking { lookup = c.hear-found.new.self }) (refl, refl, c.hear-found.ensures.query) h.way;
      came = c.hear-found.ensures.holds view t0 w.asking.zone h.lookup;
    })

pub returns-clause-ends : goal.returns-clause-ends
returns-clause-ends c = rw c.hear-found.ensures.hears c.conclude.ensures.ends
