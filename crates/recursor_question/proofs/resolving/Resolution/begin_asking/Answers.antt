use Rattle.std.proofs.lemmas.Result.{IfOk-from_err}
use Rattle.recursor_question.proofs.resolving.Resolution.begin_asking.Goals as goal

pub returns-in_err-send-clause-holds : goal.returns-in_err-send-clause-holds
returns-in_err-send-clause-holds c view at-now pools h =
    let sent = c.in_err-send.ensures.holds view at-now pools h in
    record { holds = sent.0; tables = sent.1; gives = IfOk-from_err c.from_residual-in_err-send.result _ c.from_residual-in_err-send.ensures.0 }

pub returns-clause-holds : goal.returns-clause-holds
returns-clause-holds c view at-now pools h =
    let sent = c.in_ok-send.ensures.holds view at-now pools h in
    record { holds = sent.0; tables = sent.1; gives = tt }
