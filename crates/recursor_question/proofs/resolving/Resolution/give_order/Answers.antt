use Rattle.std.proofs.Common.{rules}
use Rattle.recursor_question.proofs.Words.{sym, subst}
use Rattle.std.proofs.lemmas.Result.{IfOk-from_err}
use Rattle.server_core.specs.declared.orders.order.Order.{Order}
use Rattle.walk_tables.specs.Pools.{StepGoes}
use Rattle.walk_tables.specs.declared.pools.PoolsStep.TheVariants as stepped
use Rattle.recursor_question.proofs.resolving.Resolution.give_order.Goals as goal

pub returns-in_err-number-clause-holds : goal.returns-in_err-number-clause-holds
returns-in_err-number-clause-holds c view at pools h =
    let held = c.in_err-number.ensures.holds view at pools h in
    record { holds = held.0; tables = held.1; gives = IfOk-from_err c.from_residual.result _ c.from_residual.ensures.0 }

pub returns-in_err-order-in-Order-clause-holds : goal.returns-in_err-order-in-Order-clause-holds
returns-in_err-order-in-Order-clause-holds c view at pools h =
    let held = c.in_ok-number.ensures.holds view at pools h in
    record { holds = held.0; tables = held.1; gives = IfOk-from_err c.from_residual-in_err-order-in-Order.result _ c.from_residual-in_err-order-in-Order.ensures.0 }

pub returns-in_ok-order-in-Order-clause-holds : goal.returns-in_ok-order-in-Order-clause-holds
returns-in_ok-order-in-Order-clause-holds c view at pools h =
    let held = c.in_ok-number.ensures.holds view at pools h in
    let goes = rw c.in-Order.is at c.in_ok-number.ensures.goes view at pools in
    record { holds = held.0; tables = held.1; gives = subst (λ (o : Order). StepGoes view (stepped.Order c.in-Order.number o)) (sym c.in_ok-order-in-Order.ensures) goes }

pub returns-in-Waiting-clause-holds : goal.returns-in-Waiting-clause-holds
returns-in-Waiting-clause-holds c view at pools h =
    let held = c.in_ok-number.ensures.holds view at pools h in
    record { holds = held.0; tables = held.1; gives = tt }

pub returns-in-Done-clause-holds : goal.returns-in-Done-clause-holds
returns-in-Done-clause-holds c view at pools h =
    let held = c.in_ok-number.ensures.holds view at pools h in
    record { holds = held.0; tables = held.1; gives = tt }

pub returns-in-Waiting-clause-goes : goal.returns-in-Waiting-clause-goes
returns-in-Waiting-clause-goes c = search rules
