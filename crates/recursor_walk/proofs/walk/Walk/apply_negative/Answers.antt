use Rattle.std.proofs.Common.{Err}
use Rattle.recursor_types.specs.declared.error.RecursorError.{RecursorError}
use Rattle.walk_response.specs.Answer.{told_negative}
use Rattle.recursor_walk.specs.Replies.{OutcomeCame}
use Rattle.recursor_walk.proofs.Names.{sym, subst, ◌∙◌, [], ◌∷◌, refl, ◌≡◌, true, false, Query, Neg, ends_walk, IsUsableFor, CameTo}
use Rattle.recursor_walk.proofs.ReplyRestsOn.{answers-on-the-way, error-came}
use Rattle.recursor_walk.proofs.WalkGoesOn.{candidate-asked, candidate-on-the-way, leaves-told}
use Rattle.recursor_walk.proofs.walk.Walk.apply_negative.Goals as goal

pub returns-then-ends_walk-clause-holds : goal.returns-then-ends_walk-clause-holds
returns-then-ends_walk-clause-holds c view t0 question h =
    let way = h.way in
    let w = c.args.self.now in
    let q = question.query in
    let n = c.args.found in
    let entry = c.args.entry in
    let here = subst (λ (p : Query). IsUsableFor view t0 p entry (Neg n)) (candidate-asked view q w way) h.stands in
    let cause = answers-on-the-way view t0 q entry w.asking.lookup.query.name n way.strict (candidate-on-the-way view q w way) here
    (sym c.ends_walk.ensures ∙ c.if-ends_walk.true) in
    subst (CameTo view t0 question) (sym c.in_ok-reply.ensures)
    (subst (λ (e : RecursorError). OutcomeCame view t0 question (entry ∷ []) (Err e)) (sym c.told_negative.ensures)
    (error-came view t0 question (entry ∷ []) (told_negative n) cause))

pub returns-clause-holds : goal.returns-clause-holds
returns-clause-holds c view t0 question h =
    c.next_candidate.ensures.holds view t0 question h.way
    (leaves-told view question.query c.args.self.now h.way t0 c.args.entry (Neg c.args.found) h.stands refl)

pub returns-clause-ends : goal.returns-clause-ends
returns-clause-ends c ends =
    let no : ends_walk c.args.found ≡ false = sym c.ends_walk.ensures ∙ c.if-ends_walk.false in
    let yes : ends_walk c.args.found ≡ true = ends in
    cc
