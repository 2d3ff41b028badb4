use Rattle.recursor_walk.proofs.Names.{sym, subst, EndsIf, verdict_found}
use Rattle.walk_lookup.specs.declared.lookup_result.LookupResult.{LookupResult}
use Rattle.recursor_walk.proofs.walk.Walk.conclude.Goals as goal

pub returns-in-Told-clause-holds : goal.returns-in-Told-clause-holds
returns-in-Told-clause-holds c view t0 question filtered h =
    c.hear_told.ensures.holds view t0 question filtered (record { way = h.way; came = rw c.in-Told.is at h.came })

pub returns-in-Error-clause-holds : goal.returns-in-Error-clause-holds
returns-in-Error-clause-holds c view t0 question filtered h =
    c.skip_candidate.ensures.holds view t0 question (record { way = h.way; failed = rw c.in-Error.is at h.came })

pub returns-in-Told-clause-ends : goal.returns-in-Told-clause-ends
returns-in-Told-clause-ends c =
    subst (λ (f : LookupResult). EndsIf (verdict_found f) c.hear_told.result) (sym c.in-Told.is) c.hear_told.ensures.ends

pub returns-in-Error-clause-ends : goal.returns-in-Error-clause-ends
returns-in-Error-clause-ends c =
    subst (λ (f : LookupResult). EndsIf (verdict_found f) c.skip_candidate.result) (sym c.in-Error.is) tt
