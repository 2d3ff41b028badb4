use Rattle.recursor_core.proofs.MachineHoldsOn.{goes_reached, goes_trans}
use Rattle.recursor_core.proofs.turns.turn_result.Goals as goal

pub turn-requires : goal.turn-requires
turn-requires g c =
    let m = c.reach.ensures in
    let reached = goes_reached g.P.ConnectionProvider c.args.tick c.args.core.now c.reach.new.self c.args.runner.now m.same.0 m.same.2 c.requires.moment m.moment m.derived c.requires.holds in
    record { ready = reached.ready }

pub returns-in-Err-clause-goes : goal.returns-in-Err-clause-goes
returns-in-Err-clause-goes g c =
    let p = g.P.ConnectionProvider in
    let m = c.reach.ensures in
    let reached = goes_reached p c.args.tick c.args.core.now c.reach.new.self c.args.runner.now m.same.0 m.same.2 c.requires.moment m.moment m.derived c.requires.holds in
    goes_trans p c.args.tick _ _ _ _ _ _ reached (goes_trans p c.args.tick _ _ _ _ _ _ c.turn.ensures.goes c.abandon.ensures.goes)
