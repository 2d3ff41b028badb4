use Rattle.recursor_walk.proofs.QueryWords.{subst, Query, Answers}
use Rattle.recursor_walk.proofs.ReplyRestsOn.{told-answers, told-no-error}
use Rattle.recursor_walk.proofs.zone_query.asking.ZoneQuery.answer.Goals as goal

pub returns-in-Ok : goal.returns-in-Ok
returns-in-Ok c view t0 h =
    let a = c.args.self.now in
    let v = c.in-Ok.verdict in
    c.answer_with.ensures.holds view t0 (subst (λ (p : Query). Answers view t0 p c.args.entry v) h.asks
    (told-answers view t0 a.zone a.lookup.query c.args.entry v (rw c.in-Ok.is at h.came) h.walked h.own))

pub returns-in-Err : goal.returns-in-Err
returns-in-Err c view t0 h =
    let a = c.args.self.now in
    absurd (told-no-error view t0 a.zone a.lookup.query c.args.entry c.in-Err.error (rw c.in-Err.is at h.came))
