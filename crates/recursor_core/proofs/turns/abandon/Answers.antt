use Rattle.std.proofs.Common.{rules}
use Rattle.recursor_core.proofs.Names.{arith}
use Rattle.recursor_core.proofs.WorkLeft.{due_later}
use Rattle.recursor_core.proofs.MachineHoldsOn.{goes_core, goes_run, goes_trans}
use Rattle.recursor_core.proofs.turns.abandon.Goals as goal

pub returns-in-Some-clause-goes : goal.returns-in-Some-clause-goes
returns-in-Some-clause-goes g c =
    let p = g.P.ConnectionProvider in
    let tick = c.args.tick in
    let r = c.args.runner.now in
    let up = c.give_up.ensures in
    let left = goes_core p tick c.args.core.now c.cancel.new.self r c.cancel.ensures.same c.cancel.ensures.derived c.requires.ready in
    goes_trans p tick _ _ _ _ _ _ left (goes_run p tick c.cancel.new.self r c.give_up.new.self _ up.carries_on up.holds (up.moves tick.patience) tt left.ready)

pub returns-in_default-clause-goes : goal.returns-in_default-clause-goes
returns-in_default-clause-goes g c =
    goes_core g.P.ConnectionProvider c.args.tick c.args.core.now c.cancel.new.self c.args.runner.now c.cancel.ensures.same c.cancel.ensures.derived c.requires.ready

pub returns-in-Some-clause-keeps : goal.returns-in-Some-clause-keeps
returns-in-Some-clause-keeps g c = let same = c.cancel.ensures.given in due_later _ _ _ _ _ (omega (arith, same)) (c.give_up.ensures.polls c.args.tick.patience)

pub returns-in_default-clause-keeps : goal.returns-in_default-clause-keeps
returns-in_default-clause-keeps g c = let same = c.cancel.ensures.given in due_later _ _ _ _ _ (omega (arith, same)) (omega arith)

pub returns-in-Some-clause-withdrawn : goal.returns-in-Some-clause-withdrawn
returns-in-Some-clause-withdrawn g c = search rules
