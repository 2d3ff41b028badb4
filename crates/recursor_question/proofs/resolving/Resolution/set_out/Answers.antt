use Rattle.recursor_question.proofs.ResolutionAfterStep.{new-qualified}
use Rattle.recursor_question.proofs.resolving.Resolution.set_out.Goals as goal

pub returns-clause-holds : goal.returns-clause-holds
returns-clause-holds c view at-now roots cached h =
    let r = c.args.self.now in
    let qualified = new-qualified view r.begun r.question r.state c.requires h.state in
    record { begun = h.begun; state = c.in_ok-state.ensures.holds view r.begun qualified roots (record { at = at-now; since = rw at-now h.begun; holds = cached }) }
