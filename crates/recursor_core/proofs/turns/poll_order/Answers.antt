use Rattle.recursor_core.proofs.Names.{max, arith, polls_left, given_by}
use Rattle.recursor_core.proofs.WorkLeft.{due_later, due_polled, on_ok_below}
use Rattle.recursor_core.proofs.MachineHoldsOn.{goes_run, goes_trans}
use Rattle.recursor_core.proofs.turns.poll_order.Goals as goal

pub returns-in_err-outcome-clause-goes : goal.returns-in_err-outcome-clause-goes
returns-in_err-outcome-clause-goes g c =
    let s = c.poll.ensures in
    goes_run g.P.ConnectionProvider c.args.tick c.args.core.now c.args.runner.now c.poll.new.self _ s.carries_on s.holds s.moves tt c.requires.ready

pub returns-in_err-outcome-clause-keeps : goal.returns-in_err-outcome-clause-keeps
returns-in_err-outcome-clause-keeps g c = due_later _ _ _ _ _ (omega arith) c.poll.ensures.keeps.fewer

pub settle-requires-clause-ready : goal.settle-requires-clause-ready
settle-requires-clause-ready g c =
    let s = c.poll.ensures in
    let run = goes_run g.P.ConnectionProvider c.args.tick c.args.core.now c.args.runner.now c.poll.new.self _ s.carries_on s.holds s.moves tt c.requires.ready in
    run.ready

pub settle-requires-clause-held : goal.settle-requires-clause-held
settle-requires-clause-held g c = c.in_ok-outcome.ensures.falls.held

pub returns-clause-goes : goal.returns-clause-goes
returns-clause-goes g c =
    let s = c.poll.ensures in
    let run = goes_run g.P.ConnectionProvider c.args.tick c.args.core.now c.args.runner.now c.poll.new.self _ s.carries_on s.holds s.moves tt c.requires.ready in
    goes_trans g.P.ConnectionProvider c.args.tick _ _ _ _ _ _ run c.settle.ensures.goes

pub returns-clause-falls : goal.returns-clause-falls
returns-clause-falls g c =
    let polled = c.in_ok-outcome.ensures.falls in
    let p = c.args.tick.patience in
    let given = given_by c.args.core.now in
    let less = due_polled (max 1 p) given given (polls_left p c.poll.new.self) (polls_left p c.args.runner.now) (omega arith) polled.falls in
    on_ok_below c.settle.result _ _ _ c.settle.ensures.keeps less

pub returns-clause-keeps : goal.returns-clause-keeps
returns-clause-keeps g c =
    let p = c.args.tick.patience in
    let given = given_by c.args.core.now in
    let less = due_later (max 1 p) given given (polls_left p c.poll.new.self) (polls_left p c.args.runner.now) (omega arith) c.poll.ensures.keeps.fewer in
    omega (arith, less, c.settle.ensures.keeps)
