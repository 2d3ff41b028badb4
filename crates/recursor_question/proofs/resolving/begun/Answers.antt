use Rattle.recursor_question.proofs.Words.{◌≡◌, Bool, cond, refl, sym, subst, ap, ◌∙◌, Option, Some, None, answerable, from_cache, IsReplyKept, IsAnswered, SourcedVerdict, Done}
use Rattle.recursor_walk.proofs.CachedIsUsable.{recalled-for, recalled-answers}
use Rattle.recursor_question.proofs.resolving.begun.Goals as goal

pub returns-in-Some-clause-holds : goal.returns-in-Some-clause-holds
returns-in-Some-clause-holds c view t0 qualified roots reads =
    rw c.in-Some.is at c.in_ok-reply.ensures.holds view t0 reads

pub returns-in-Some-clause-answers : goal.returns-in-Some-clause-answers
returns-in-Some-clause-answers c =
    let asked = c.args.question.now in
    let r = c.in-Some.reply in
    let kept : IsReplyKept c.args.cache.now asked c.args.now r.value = rw c.in-Some.is at c.in_ok-reply.ensures.kept in
    let may : answerable (from_cache c.args.cache.now asked.query c.args.now) ≡ Some kept.counted =
    ap answerable kept.is ∙ ap (λ (b : Bool). cond b (Some kept.counted) None) kept.may in
    subst (λ (o : Option SourcedVerdict). IsAnswered asked o (Done r)) (sym may) kept.gives

pub returns-in_ok-answer_with-in-Some-answerable-clause-holds : goal.returns-in_ok-answer_with-in-Some-answerable-clause-holds
returns-in_ok-answer_with-in-Some-answerable-clause-holds c view t0 qualified roots reads =
    let q = c.args.question.now.query in
    let found = recalled-for view t0 c.args.cache.now q c.in_ok-counted.counted (rw reads.at at reads.since) reads.holds (rw reads.at at c.in_ok-counted.ensures) in
    c.in_ok-answer_with-in-Some-answerable.ensures.holds view t0
    (recalled-answers view t0 q q c.in_ok-counted.counted c.in-Some-answerable.counted refl found (sym c.answerable.ensures ∙ c.in-Some-answerable.is))

pub returns-in-None-clause-holds : goal.returns-in-None-clause-holds
returns-in-None-clause-holds c view t0 qualified roots reads = c.begun_walk.ensures.holds view t0 qualified roots
