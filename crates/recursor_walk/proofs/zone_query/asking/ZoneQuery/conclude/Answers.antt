use Rattle.recursor_walk.proofs.QueryWords.{subst, Err, Query, Walked, Net, error-sound}
use Rattle.recursor_walk.proofs.ReplyRestsOn.{replies, lookup-failed}
use Rattle.recursor_walk.proofs.zone_query.asking.ZoneQuery.conclude.Goals as goal

pub returns-in-Told : goal.returns-in-Told
returns-in-Told c view t0 h = c.answer.ensures view t0 (record { asks = h.asks; walked = h.walked; own = h.own; came = rw c.in-Told.is at h.came })

pub returns-in-Error : goal.returns-in-Error
returns-in-Error c view t0 h =
    let a = c.args.self.now in
    let q = c.args.question.now.query in
    let e = c.in-Error.error in
    let ended = rw c.in-Error.is at h.came in
    let walked = subst (λ (p : Query). Walked view.policy view.log p a.zone) h.asks h.walked in
    replies view t0 c.args.question.now c.failed.result (Err (Net e)) a.lookup.ends c.failed.ensures
    (error-sound (lookup-failed view t0 a.zone a.lookup.query q a.lookup.ends e ended.is h.asks ended.concluded walked), tt)
