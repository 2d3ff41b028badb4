use Rattle.std.proofs.Common.{rules}
use Rattle.recursor_core.proofs.Names.{max, arith, polls_left, given_by}
use Rattle.recursor_core.proofs.WorkLeft.{due_order}
use Rattle.recursor_core.proofs.MachineHoldsOn.{goes_nowhere}
use Rattle.recursor_core.proofs.turns.begin_order.Goals as goal

pub returns-in_err-insert-clause-goes : goal.returns-in_err-insert-clause-goes
returns-in_err-insert-clause-goes g c = goes_nowhere g.P.ConnectionProvider c.args.tick c.args.core.now c.args.runner.now c.requires.ready

pub returns-then-not-branch-clause-goes : goal.returns-then-not-branch-clause-goes
returns-then-not-branch-clause-goes g c = goes_nowhere g.P.ConnectionProvider c.args.tick c.args.core.now c.args.runner.now c.requires.ready

pub returns-in_err-insert-clause-falls : goal.returns-in_err-insert-clause-falls
returns-in_err-insert-clause-falls g c before next given =
    let p = c.args.tick.patience in
    let less = due_order (max 1 p) (given_by before) (given_by c.args.core.now) (polls_left p c.args.runner.now) given (omega (arith, given, next, c.ranges.number)) in omega (arith, less)

pub returns-then-not-branch-clause-falls : goal.returns-then-not-branch-clause-falls
returns-then-not-branch-clause-falls g c before next given =
    let p = c.args.tick.patience in
    let less = due_order (max 1 p) (given_by before) (given_by c.args.core.now) (polls_left p c.args.runner.now) given (omega (arith, given, next, c.ranges.number)) in omega (arith, less)

pub returns-clause-falls : goal.returns-clause-falls
returns-clause-falls g c before next given =
    let p = c.args.tick.patience in
    let less = due_order (max 1 p) (given_by before) (given_by c.args.core.now) (polls_left p c.args.runner.now) given (omega (arith, given, next, c.ranges.number)) in
    let few = c.start_order.ensures.few in
    omega (arith, less, few)

pub returns-clause-noted : goal.returns-clause-noted
returns-clause-noted g c = search rules
