use Rattle.recursor_question.proofs.Words.{◌≡◌, ◌∙◌, refl, sym, ap, Some, Ok, option_copied}
use Rattle.resolver_cache.specs.Life.{seconds_between}
use Rattle.kept_responses.specs.Lowering.{lowered_message}
use Rattle.kept_responses.specs.Entry.{current_for}
use Rattle.recursor_walk.proofs.ReplyRestsOn.{told-answer}
use Rattle.recursor_walk.proofs.CachedIsUsable.{counted-kept, kept-recalled, kept-answers}
use Rattle.recursor_question.proofs.short_way.cached_answer.Goals as goal

pub returns-clause-kept : goal.returns-clause-kept
returns-clause-kept c =
    let asked = c.args.question.now in
    let e = c.in-Some.entry.now in
    let m = c.in-Some-message.message.now in
    let is : e.response ≡ Ok m = rw c.in-Some-message.is at c.message.ensures.message in
    let here : current_for asked.query c.args.now c.args.cache.now.entries ≡ Some e = sym c.current.ensures ∙ ap option_copied c.in-Some.is in
    rw (c.in_ok-reply.ensures, c.in_ok-grounds.ensures, c.in_ok-answer.ensures, c.seconds_between-seconds.ensures, c.written.ensures, c.source.ensures) (record {
      counted = counted-kept c.args.now e m;
      is = kept-recalled c.args.cache.now asked.query c.args.now e m here is;
      may = c.if-not-message.false;
      gives = refl;
    })

pub returns-clause-holds : goal.returns-clause-holds
returns-clause-holds c view t0 reads =
    let asked = c.args.question.now in
    let now = view.moment in
    let e = c.in-Some.entry.now in
    let m = c.in-Some-message.message.now in
    let is : e.response ≡ Ok m = rw c.in-Some-message.is at c.message.ensures.message in
    let here : current_for asked.query now c.args.cache.now.entries ≡ Some e = rw reads.at at (sym c.current.ensures ∙ ap option_copied c.in-Some.is) in
    let answers = kept-answers view t0 c.args.cache.now asked.query (rw reads.at at reads.since) reads.holds e m here is c.if-not-message.false in
    let told = told-answer view t0 asked e.source (lowered_message (seconds_between e.written now) m) answers in
    rw (c.in_ok-reply.ensures, c.in_ok-grounds.ensures, c.in_ok-answer.ensures, c.seconds_between-seconds.ensures, c.written.ensures, c.source.ensures, reads.at) (told, tt)
