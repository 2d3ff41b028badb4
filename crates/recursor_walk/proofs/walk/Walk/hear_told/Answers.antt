use Rattle.recursor_walk.proofs.Names.{sym, subst, Result, NetError, Verdict, EndsIf, counting}
use Rattle.recursor_walk.proofs.ReplyRestsOn.{told-stands, told-no-error}
use Rattle.recursor_walk.proofs.WalkGoesOn.{candidate-walked}
use Rattle.recursor_walk.proofs.walk.Walk.hear_told.Goals as goal

pub returns-in-Ok-clause-holds : goal.returns-in-Ok-clause-holds
returns-in-Ok-clause-holds c view t0 question filtered h =
    let w = c.args.self.now in
    let v = c.in-Ok.verdict in
    c.apply_response.ensures.holds view t0 question filtered (record {
      way = h.way;
      stands = told-stands view t0 w.asking.zone w.asking.lookup.query c.args.entry v (rw c.in-Ok.is at h.came) (candidate-walked view question.query w h.way);
    })

pub returns-clause-holds : goal.returns-clause-holds
returns-clause-holds c view t0 question filtered h =
    let w = c.args.self.now in
    absurd (told-no-error view t0 w.asking.zone w.asking.lookup.query c.args.entry c.in-Err.field-0 (rw c.in-Err.is at h.came))

pub returns-in-Ok-clause-ends : goal.returns-in-Ok-clause-ends
returns-in-Ok-clause-ends c =
    subst (λ (v : Result Verdict NetError). EndsIf (counting v) c.apply_response.result) (sym c.in-Ok.is) c.apply_response.ensures.ends

pub returns-clause-ends : goal.returns-clause-ends
returns-clause-ends c =
    subst (λ (v : Result Verdict NetError). EndsIf (counting v) c.next_candidate.result) (sym c.in-Err.is) tt
