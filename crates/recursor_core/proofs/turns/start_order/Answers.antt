use Rattle.recursor_core.proofs.Names.{◌+◌, max, arith, polls_left, given_by}
use Rattle.recursor_core.proofs.WorkLeft.{due_more}
use Rattle.recursor_core.proofs.MachineHoldsOn.{goes_run, goes_trans}
use Rattle.recursor_core.proofs.turns.start_order.Goals as goal

pub returns-in_err-outcome-clause-goes : goal.returns-in_err-outcome-clause-goes
returns-in_err-outcome-clause-goes g c =
    let s = c.start.ensures in
    goes_run g.P.ConnectionProvider c.args.tick c.args.core.now c.args.runner.now c.start.new.self _ s.carries_on s.holds s.moves c.requires.goes c.requires.ready

pub returns-in_err-outcome-clause-few : goal.returns-in_err-outcome-clause-few
returns-in_err-outcome-clause-few g c =
    let p = c.args.tick.patience in
    due_more (max 1 p) (given_by c.args.core.now) (polls_left p c.start.new.self) (polls_left p c.args.runner.now) (max 1 p + 1) (let most = c.start.ensures.polls.most in omega (arith, most))

pub settle-requires-clause-ready : goal.settle-requires-clause-ready
settle-requires-clause-ready g c =
    let s = c.start.ensures in
    let run = goes_run g.P.ConnectionProvider c.args.tick c.args.core.now c.args.runner.now c.start.new.self _ s.carries_on s.holds s.moves c.requires.goes c.requires.ready in
    run.ready

pub settle-requires-clause-held : goal.settle-requires-clause-held
settle-requires-clause-held g c = c.in_ok-outcome.ensures.held.held

pub returns-clause-goes : goal.returns-clause-goes
returns-clause-goes g c =
    let s = c.start.ensures in
    let run = goes_run g.P.ConnectionProvider c.args.tick c.args.core.now c.args.runner.now c.start.new.self _ s.carries_on s.holds s.moves c.requires.goes c.requires.ready in
    goes_trans g.P.ConnectionProvider c.args.tick _ _ _ _ _ _ run c.settle.ensures.goes

pub returns-clause-few : goal.returns-clause-few
returns-clause-few g c =
    let p = c.args.tick.patience in
    let more = due_more (max 1 p) (given_by c.args.core.now) (polls_left p c.start.new.self) (polls_left p c.args.runner.now) (max 1 p + 1)
    (let most = c.start.ensures.polls.most in omega (arith, most)) in
    omega (arith, more, c.settle.ensures.keeps)
