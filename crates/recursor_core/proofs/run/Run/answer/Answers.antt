use Rattle.recursor_core.proofs.Names.{[], subst, IfOk-weaker, TellsThat, Policy, RepliesHold}
use Rattle.recursor_core.proofs.TurnsArePlayed.{over_refl}
use Rattle.recursor_core.proofs.QuestionsArePlayed.{plays_wait, replies_hold}
use Rattle.recursor_core.proofs.run.Run.answer.Goals as goal

pub returns-in_err-self-clause-over : goal.returns-in_err-self-clause-over
returns-in_err-self-clause-over g c = over_refl g.P.ConnectionProvider c.args.turns.now c.args.self.now c.requires

pub returns-clause-replies : goal.returns-clause-replies
returns-clause-replies g c =
    let run = c.args.self.now in
    let start = run.core.moment in
    let turns = c.args.turns.now in
    let questions = c.args.questions.now in
    let played = c.play_all.new.self in
    let told = g.P.ConnectionProvider.log played.runner.carrier.provider in
    let waits = plays_wait run.core (g.P.ConnectionProvider.log run.runner.carrier.provider) turns questions c.in_ok-self.field-0.items c.in_ok-self.ensures.waits in
    IfOk-weaker c.replies.result _ _ (λ v each.
    subst (λ (held : Policy). TellsThat told (λ log. RepliesHold held log start turns questions v.items)) c.play_all.ensures.over.policy
    (replies_hold played.core told start turns [] questions played.plays.items v.items (c.play_all.ensures.plays waits) each)) c.replies.ensures.each
