use Rattle.recursor_core.proofs.Names.{max, ℕ, inl, subst, arith, begun_at, given_by, ReplyTold, polls_left}
use Rattle.recursor_core.proofs.WorkLeft.{due_later}
use Rattle.recursor_core.proofs.MachineHoldsOn.{goes_core, goes_trans, step_goes, step_replies, told_before}
use Rattle.recursor_core.specs.declared.turns.TurnResult.TheVariants as turned
use Rattle.recursor_core.proofs.turns.ask.Goals as goal

pub returns-in_err-number-clause-goes : goal.returns-in_err-number-clause-goes
returns-in_err-number-clause-goes g c =
    let p = g.P.ConnectionProvider in
    let i = c.orders.invariant.goes in
    goes_trans p c.args.tick _ _ _ _ _ _ i
    (goes_core p c.args.tick c.orders.core c.next.new.self c.orders.runner c.next.ensures.same (λ log d. (c.next.ensures.gives log d).0) i.ready)

pub returns-in-Waiting-clause-goes : goal.returns-in-Waiting-clause-goes
returns-in-Waiting-clause-goes g c =
    let p = g.P.ConnectionProvider in
    let i = c.orders.invariant.goes in
    goes_trans p c.args.tick _ _ _ _ _ _ i
    (goes_core p c.args.tick c.orders.core c.next.new.self c.orders.runner c.next.ensures.same (λ log d. (c.next.ensures.gives log d).0) i.ready)

pub returns-in-Done-clause-goes : goal.returns-in-Done-clause-goes
returns-in-Done-clause-goes g c =
    let p = g.P.ConnectionProvider in
    let i = c.orders.invariant.goes in
    goes_trans p c.args.tick _ _ _ _ _ _ i
    (goes_core p c.args.tick c.orders.core c.next.new.self c.orders.runner c.next.ensures.same (λ log d. (c.next.ensures.gives log d).0) i.ready)

pub returns-in-Ended-clause-goes : goal.returns-in-Ended-clause-goes
returns-in-Ended-clause-goes g c =
    let p = g.P.ConnectionProvider in
    let i = c.orders.invariant.goes in
    goes_trans p c.args.tick _ _ _ _ _ _ i
    (goes_core p c.args.tick c.orders.core c.next.new.self c.orders.runner c.next.ensures.same (λ log d. (c.next.ensures.gives log d).0) i.ready)

pub returns-in_err-number-clause-keeps : goal.returns-in_err-number-clause-keeps
returns-in_err-number-clause-keeps g c =
    let p = c.args.tick.patience in
    let polls = polls_left p c.orders.runner in
    let before = c.orders.invariant.keeps in
    let later = due_later (max 1 p) (given_by c.orders.core) (given_by c.next.new.self) polls polls c.in_err-number.ensures.steps (omega arith) in
    omega (arith, before, later)

pub begin_order-requires-clause-ready : goal.begin_order-requires-clause-ready
begin_order-requires-clause-ready g c =
    let run = goes_core g.P.ConnectionProvider c.args.tick c.orders.core c.next.new.self c.orders.runner c.next.ensures.same (λ log d. (c.next.ensures.gives log d).0) c.orders.invariant.goes.ready in
    run.ready

pub begin_order-requires-clause-goes : goal.begin_order-requires-clause-goes
begin_order-requires-clause-goes g c =
    step_goes c.orders.core c.next.new.self (g.P.ConnectionProvider.log c.orders.runner.carrier.provider) c.args.r c.in-Order.number c.in_ok-number.field-0 c.in-Order.order
    c.in-Order.is c.next.ensures.same.policy c.orders.invariant.goes.ready.holds.derived c.in_ok-number.ensures.gives

pub returns-in_err-begin_order-in-Order-clause-goes : goal.returns-in_err-begin_order-in-Order-clause-goes
returns-in_err-begin_order-in-Order-clause-goes g c =
    let p = g.P.ConnectionProvider in
    let i = c.orders.invariant.goes in
    let next = goes_core p c.args.tick c.orders.core c.next.new.self c.orders.runner c.next.ensures.same (λ log d. (c.next.ensures.gives log d).0) i.ready in
    goes_trans p c.args.tick _ _ _ _ _ _ i (goes_trans p c.args.tick _ _ _ _ _ _ next c.begin_order.ensures.goes)

pub returns-in_err-begin_order-in-Order-clause-keeps : goal.returns-in_err-begin_order-in-Order-clause-keeps
returns-in_err-begin_order-in-Order-clause-keeps g c =
    let is = rw c.in-Order.is at c.in_ok-number.ensures.steps in
    let before = c.orders.invariant.keeps in
    let less = c.begin_order.ensures.falls c.orders.core is.0 is.1 in
    omega (arith, before, less)

pub orders-smaller : goal.orders-smaller
orders-smaller g c =
    let is = rw c.in-Order.is at c.in_ok-number.ensures.steps in
    c.begin_order.ensures.falls c.orders.core is.0 is.1

pub orders-preserved : goal.orders-preserved
orders-preserved g c =
    let p = g.P.ConnectionProvider in
    let i = c.orders.invariant.goes in
    let next = goes_core p c.args.tick c.orders.core c.next.new.self c.orders.runner c.next.ensures.same (λ log d. (c.next.ensures.gives log d).0) i.ready in
    let is = rw c.in-Order.is at c.in_ok-number.ensures.steps in
    let before = c.orders.invariant.keeps in
    let less = c.begin_order.ensures.falls c.orders.core is.0 is.1 in
    record {
      goes = goes_trans p c.args.tick _ _ _ _ _ _ i (goes_trans p c.args.tick _ _ _ _ _ _ next c.begin_order.ensures.goes);
      keeps = omega (arith, before, less);
      falls = inl (omega (arith, before, less));
    }

pub returns-in-Done-clause-told : goal.returns-in-Done-clause-told
returns-in-Done-clause-told g c =
    let p = g.P.ConnectionProvider in
    let i = c.orders.invariant.goes in
    let told = p.log c.orders.runner.carrier.provider in
    told_before p c.args.tick c.args.core.now c.orders.core c.args.runner.now c.orders.runner told c.args.r (turned.Done c.in-Done.reply) i
    (subst (λ (now : ℕ). ReplyTold c.orders.core.policy now told (begun_at c.orders.core c.args.r) c.in-Done.reply.value) i.ready.moment
    (step_replies c.orders.core c.next.new.self told c.args.r c.in_ok-number.field-0 c.in-Done.reply c.in-Done.is i.ready.holds.derived c.in_ok-number.ensures.gives))
