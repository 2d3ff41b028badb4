use Rattle.recursor_walk.proofs.QueryWords.{sym, subst, [], ◌∷◌, OutcomeCame}
use Rattle.recursor_walk.proofs.ReplyRestsOn.{answered-by, replies}
use Rattle.recursor_walk.proofs.zone_query.asking.answer_with.Goals as goal

pub returns-clause-gives : goal.returns-clause-gives
returns-clause-gives c = rw c.in_ok-outcome.ensures at c.reply_by.ensures

pub returns-clause-holds : goal.returns-clause-holds
returns-clause-holds c view t0 h =
    let asked = c.args.question.now in
    let entry = c.args.counted.entry in
    replies view t0 asked c.reply_by.result c.in_ok-outcome.outcome (entry ∷ []) c.reply_by.ensures
    (subst (OutcomeCame view t0 asked (entry ∷ [])) (sym c.in_ok-outcome.ensures) (answered-by view t0 asked entry c.args.counted.verdict h))
