use Rattle.recursor_question.proofs.Words.{◌∙◌, inr, arith, reply_with, from_cache, answerable, SourcedVerdict}
use Rattle.std.proofs.lemmas.Result.{IfOk-from_err}
use Rattle.recursor_question.proofs.QuestionHasNext.{step-after, step-grows, gives-before, sets-out-at, so-far-again, so-far-step, so-far-err}
use Rattle.recursor_question.specs.Steps.{HandsOut}
use Rattle.recursor_question.specs.declared.steps.Progress.TheVariants as progress
use Rattle.recursor_question.proofs.resolving.Resolution.next.Goals as goal

pub returns-in_err-step_on-clause-steps : goal.returns-in_err-step_on-clause-steps
returns-in_err-step_on-clause-steps c = IfOk-from_err c.from_residual.result _ c.from_residual.ensures.0

pub returns-in_err-step_on-clause-given : goal.returns-in_err-step_on-clause-given
returns-in_err-step_on-clause-given c = let same = c.steps.invariant.given in omega (arith, same, c.in_err-step_on.ensures.goes)

pub returns-in_err-step_on-clause-begun : goal.returns-in_err-step_on-clause-begun
returns-in_err-step_on-clause-begun c =
    let before = c.steps.invariant.begun in
    let after = c.in_err-step_on.ensures.begun in
    (after.0 ∙ before.0, after.1 ∙ before.1)

pub returns-in_err-step_on-clause-holds : goal.returns-in_err-step_on-clause-holds
returns-in_err-step_on-clause-holds c view by pools h =
    let held = c.steps.invariant.holds view by pools h in
    let well = c.in_err-step_on.ensures.holds view by held.1 held.0 in
    record { holds = well.holds; tables = well.tables; gives = IfOk-from_err c.from_residual.result _ c.from_residual.ensures.0 }

pub returns-in-Step-clause-steps : goal.returns-in-Step-clause-steps
returns-in-Step-clause-steps c =
    step-after c.args.pools.now c.steps.pools c.step_on.new.pools c.args.self.now c.steps.self c.step_on.new.self c.in-Step.step
    c.steps.invariant.given c.steps.invariant.from (rw c.in-Step.is at c.in_ok-step_on.ensures.goes)

pub returns-in-Step-clause-given : goal.returns-in-Step-clause-given
returns-in-Step-clause-given c =
    let same = c.steps.invariant.given in
    let more = step-grows c.steps.pools c.step_on.new.pools c.steps.self c.step_on.new.self c.in-Step.step (rw c.in-Step.is at c.in_ok-step_on.ensures.goes) in
    omega (arith, same, more)

pub returns-in-Step-clause-begun : goal.returns-in-Step-clause-begun
returns-in-Step-clause-begun c =
    let before = c.steps.invariant.begun in
    let after = c.in_ok-step_on.ensures.begun in
    (after.0 ∙ before.0, after.1 ∙ before.1)

pub returns-in-Step-clause-holds : goal.returns-in-Step-clause-holds
returns-in-Step-clause-holds c view by pools h =
    let held = c.steps.invariant.holds view by pools h in
    let well = c.in_ok-step_on.ensures.holds view by held.1 held.0 in
    record {
      holds = well.holds;
      tables = well.tables;
      gives = gives-before view c.args.self.now c.steps.self c.in-Step.step c.steps.invariant.begun (rw c.in-Step.is at well.gives);
    }

pub steps-preserved : goal.steps-preserved
steps-preserved c =
    let goes = rw c.in-Again.is at c.in_ok-step_on.ensures.goes in
    let before = c.steps.invariant.begun in
    let after = c.in_ok-step_on.ensures.begun in
    record {
      given = goes.1 ∙ c.steps.invariant.given;
      from = inr goes.2;
      begun = (after.0 ∙ before.0, after.1 ∙ before.1);
      holds = λ view by pools h.
          let held = c.steps.invariant.holds view by pools h in
          let well = c.in_ok-step_on.ensures.holds view by held.1 held.0 in
          (well.holds, well.tables);
      recalls = λ new.
          let was = c.args.self.now in
          let r = c.step_on.new.self in
          so-far-again was.question (answerable (from_cache c.args.cache.now was.question.query c.args.tick.now)) was c.steps.self r (c.steps.invariant.recalls new)
          (λ is. sets-out-at c.args.cache.now c.args.tick.now was c.steps.self r.state progress.Again is new (λ out. rw c.in-Again.is at c.in_ok-step_on.ensures.sets_out out))
          (λ reply done. rw c.in-Again.is at c.in_ok-step_on.ensures.replies reply done);
      replies = λ reply done. absurd (rw c.in-Again.is at c.in_ok-step_on.ensures.replies reply (c.steps.invariant.replies reply done));
    }

pub returns-in_err-step_on-clause-recalls : goal.returns-in_err-step_on-clause-recalls
returns-in_err-step_on-clause-recalls c new =
    let q = c.args.self.now.question in
    so-far-err (answerable (from_cache c.args.cache.now q.query c.args.tick.now)) c.from_residual.result (λ (d : SourcedVerdict). HandsOut (reply_with q d)) c.from_residual.ensures.0

pub returns-in-Step-clause-recalls : goal.returns-in-Step-clause-recalls
returns-in-Step-clause-recalls c new =
    let was = c.args.self.now in
    let r = c.step_on.new.self in
    so-far-step was.question (answerable (from_cache c.args.cache.now was.question.query c.args.tick.now)) was c.steps.self r c.in-Step.step (c.steps.invariant.recalls new)
    (λ is. sets-out-at c.args.cache.now c.args.tick.now was c.steps.self r.state (progress.Step c.in-Step.step) is new (λ out. rw c.in-Step.is at c.in_ok-step_on.ensures.sets_out out))
    (λ reply done. rw c.in-Step.is at c.in_ok-step_on.ensures.replies reply done)

pub returns-in_err-step_on-clause-replies : goal.returns-in_err-step_on-clause-replies
returns-in_err-step_on-clause-replies c reply done = IfOk-from_err c.from_residual.result _ c.from_residual.ensures.0

pub returns-in-Step-clause-replies : goal.returns-in-Step-clause-replies
returns-in-Step-clause-replies c reply done = rw c.in-Step.is at c.in_ok-step_on.ensures.replies reply (c.steps.invariant.replies reply done)
