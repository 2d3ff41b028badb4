use Rattle.resolution.specs.Names.{question as question_for}
use Rattle.recursor_types.specs.declared.error.RecursorError.{RecursorError}
use Rattle.recursor_walk.specs.Replies.{OutcomeCame}
use Rattle.recursor_walk.proofs.Names.{sym, subst, [], ◌∷◌, Query, Made, made_negative, Negative, IsUsableFor, CameTo, Err}
use Rattle.recursor_walk.proofs.ReplyRestsOn.{made-on-the-way, error-came}
use Rattle.recursor_walk.proofs.WalkGoesOn.{candidate-asked, candidate-on-the-way}
use Rattle.recursor_walk.proofs.walk.Walk.apply_response.Goals as goal

pub returns-in-Pos-clause-holds : goal.returns-in-Pos-clause-holds
returns-in-Pos-clause-holds c view t0 question filtered h =
    c.descend.ensures.holds view t0 c.args.counted.entry question filtered (rw c.in-Pos.is at h)

pub returns-in-Neg-clause-holds : goal.returns-in-Neg-clause-holds
returns-in-Neg-clause-holds c view t0 question filtered h =
    c.apply_negative.ensures.holds view t0 question (rw c.in-Neg.is at h)

pub returns-in_ok-reply_by-in-Made-clause-holds : goal.returns-in_ok-reply_by-in-Made-clause-holds
returns-in_ok-reply_by-in-Made-clause-holds c view t0 question filtered heard =
    let way = heard.way in
    let w = c.args.self.now in
    let q = question.query in
    let asks = w.asking.lookup.query in
    let cause = c.in-Made.cause in
    let entry = c.args.counted.entry in
    let now = rw c.in-Made.is at heard.stands in
    let at = candidate-asked view q w way in
    let here = subst (λ (p : Query). IsUsableFor view t0 p entry (Made cause)) at now in
    let made = made-on-the-way view t0 q entry asks.name cause way.strict (candidate-on-the-way view q w way) here in
    let came = error-came view t0 question (entry ∷ []) (Negative (made_negative (question_for asks.name 2) cause)) made in
    let told = subst (λ (p : Query). OutcomeCame view t0 question (entry ∷ []) (Err (Negative (made_negative p cause)))) (sym at) came in
    subst (CameTo view t0 question) (sym c.in_ok-reply_by-in-Made.ensures)
    (subst (λ (e : RecursorError). OutcomeCame view t0 question (entry ∷ []) (Err e)) (sym c.in_ok-denial-in-Made.ensures) told)

pub returns-in-Pos-clause-ends : goal.returns-in-Pos-clause-ends
returns-in-Pos-clause-ends c ends = let no = rw c.in-Pos.is at ends in cc

pub returns-in-Neg-clause-ends : goal.returns-in-Neg-clause-ends
returns-in-Neg-clause-ends c ends = c.apply_negative.ensures.ends (rw c.in-Neg.is at ends)
