use Rattle.recursor_walk.proofs.Names.{Ok, Option, sym, subst, ◌∙◌, refl, arith, Recalls, SourcedVerdict}
use Rattle.recursor_walk.specs.declared.walk.WalkOutcome.TheVariants.{Continue}
use Rattle.recursor_walk.proofs.CachedIsUsable.{recalled-for}
use Rattle.recursor_walk.proofs.WalkGoesOn.{way-looked, past-falls}
use Rattle.recursor_walk.proofs.walk.Walk.recall.Goals as goal

pub returns-in-Some-clause-falls : goal.returns-in-Some-clause-falls
returns-in-Some-clause-falls c =
    let w = c.args.self.now in
    past-falls w w c.apply_response.new.self c.apply_response.result refl (rw c.requires (omega arith)) c.apply_response.ensures.falls

pub returns-in-Some-clause-holds : goal.returns-in-Some-clause-holds
returns-in-Some-clause-holds c view t0 question filtered reads h =
    let p = c.args.self.now.asking.lookup.query in
    let stands = recalled-for view t0 c.args.cache.now p c.in_ok-counted.counted (rw reads.at at reads.since) reads.holds (rw reads.at at c.in_ok-counted.ensures) in
    c.apply_response.ensures.holds view t0 question filtered (record { way = h.way; stands = (rw c.in-Some.is at stands).stands })

pub returns-in-None-clause-holds : goal.returns-in-None-clause-holds
returns-in-None-clause-holds c view t0 question filtered reads h =
    let w = c.args.self.now in
    record {
      way = way-looked view question.query w (record w.asking { lookup = c.begin.new.self }) (refl, refl, c.begin.ensures.query) h.way;
      lookup = c.begin.ensures.holds view t0 w.asking.zone h.lookup;
    }

pub returns-in-Some-clause-ends : goal.returns-in-Some-clause-ends
returns-in-Some-clause-ends c =
    subst (λ (o : Option SourcedVerdict). Recalls o c.apply_response.result) (sym c.in-Some.is ∙ c.in_ok-counted.ensures) c.apply_response.ensures.ends

pub returns-in-None-clause-ends : goal.returns-in-None-clause-ends
returns-in-None-clause-ends c = subst (λ (o : Option SourcedVerdict). Recalls o (Ok Continue)) (sym c.in-None.is ∙ c.in_ok-counted.ensures) refl
