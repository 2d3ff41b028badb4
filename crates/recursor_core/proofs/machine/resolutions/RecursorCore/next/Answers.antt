use Rattle.recursor_core.proofs.MachineWords.{IfOk-from_err}
use Rattle.recursor_core.proofs.MachineAfterStep.{same-trans, step-kept}
use Rattle.recursor_core.proofs.machine.resolutions.RecursorCore.next.Goals as goal

pub returns-clause-steps : goal.returns-clause-steps
returns-clause-steps c =
    step-kept _ _ _ _ _ _ _ _ c.in_ok-step.step c.forget.ensures.given c.forget.ensures.need c.forget.ensures.waits c.in_ok-step.ensures.steps

pub returns-clause-gives : goal.returns-clause-gives
returns-clause-gives c log d =
    let given = c.in_ok-step.ensures.gives log d in
    (c.forget.ensures.derived log given.0, given.1)

pub returns-clause-same : goal.returns-clause-same
returns-clause-same c = same-trans c.args.r c.args.self.now c.step.new.self c.forget.new.self c.in_ok-step.ensures.same c.forget.ensures.same

pub returns-in_err-step-clause-gives : goal.returns-in_err-step-clause-gives
returns-in_err-step-clause-gives c log d = ((c.in_err-step.ensures.gives log d).0, IfOk-from_err c.from_residual.result _ c.from_residual.ensures.0)
