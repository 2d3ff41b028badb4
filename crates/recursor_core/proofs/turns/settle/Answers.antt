use Rattle.recursor_core.proofs.Names.{Ok, Err, refl, ap, arith}
use Rattle.recursor_core.proofs.WorkLeft.{due_later}
use Rattle.recursor_core.proofs.MachineHoldsOn.{goes_nowhere, goes_closed, goes_run, goes_settled}
use Rattle.server_core.specs.declared.orders.order.After.TheVariants as after
use Rattle.recursor_core.proofs.turns.settle.Goals as goal

pub returns-in-Ok-Kept-clause-goes : goal.returns-in-Ok-Kept-clause-goes
returns-in-Ok-Kept-clause-goes g c =
    let p = g.P.ConnectionProvider in
    let r = c.args.runner.now in
    let put = rw c.in-Ok-Kept.field-0-is at (rw c.awaited-waits.ensures at c.in-Ok-Kept.ensures.derived) in
    goes_settled p c.args.tick c.args.number c.args.core.now c.put.new.self r r c.args.outcome (Ok after.Kept) c.put.ensures.policy c.put.ensures.moment c.put.ensures.begun
    put refl c.requires.told c.requires.ready (goes_nowhere p c.args.tick c.args.core.now r c.requires.ready)

pub returns-in-Ok-Late-clause-goes : goal.returns-in-Ok-Late-clause-goes
returns-in-Ok-Late-clause-goes g c =
    let p = g.P.ConnectionProvider in
    let r = c.args.runner.now in
    let put = rw c.in-Ok-Late.field-0-is at (rw c.awaited-waits.ensures at c.in-Ok-Late.ensures.derived) in
    goes_settled p c.args.tick c.args.number c.args.core.now c.put.new.self r r c.args.outcome (Ok after.Late) c.put.ensures.policy c.put.ensures.moment c.put.ensures.begun
    put refl c.requires.told c.requires.ready (goes_nowhere p c.args.tick c.args.core.now r c.requires.ready)

pub returns-in-Ok-Ended-clause-goes : goal.returns-in-Ok-Ended-clause-goes
returns-in-Ok-Ended-clause-goes g c =
    let p = g.P.ConnectionProvider in
    let r = c.args.runner.now in
    let later = c.close.new.self in
    let put = rw c.in-Ok-Ended.field-0-is at (rw c.awaited-waits.ensures at c.in-Ok-Ended.ensures.derived) in
    goes_settled p c.args.tick c.args.number c.args.core.now c.put.new.self r later c.args.outcome (Ok after.Ended) c.put.ensures.policy c.put.ensures.moment c.put.ensures.begun
    put (ap (λ x. p.log x.provider) c.close.ensures.same) c.requires.told c.requires.ready
    (goes_closed p c.args.tick c.args.core.now r later c.close.ensures.same c.close.ensures.holds c.requires.ready)

pub returns-in-Ok-GiveUp-clause-goes : goal.returns-in-Ok-GiveUp-clause-goes
returns-in-Ok-GiveUp-clause-goes g c =
    let p = g.P.ConnectionProvider in
    let r = c.args.runner.now in
    let up = c.give_up.ensures in
    let put = rw c.in-Ok-GiveUp.field-0-is at (rw c.awaited-waits.ensures at c.in-Ok-GiveUp.ensures.derived) in
    goes_settled p c.args.tick c.args.number c.args.core.now c.put.new.self r c.give_up.new.self c.args.outcome (Ok after.GiveUp) c.put.ensures.policy c.put.ensures.moment
    c.put.ensures.begun put (up.log c.requires.held) c.requires.told c.requires.ready
    (goes_run p c.args.tick c.args.core.now r c.give_up.new.self _ up.carries_on up.holds (up.moves c.args.tick.patience) tt c.requires.ready)

pub returns-in-Err-clause-goes : goal.returns-in-Err-clause-goes
returns-in-Err-clause-goes g c =
    let p = g.P.ConnectionProvider in
    let r = c.args.runner.now in
    let up = c.give_up-in-Err.ensures in
    let put = rw c.awaited-waits.ensures at c.in-Err.ensures.derived in
    goes_settled p c.args.tick c.args.number c.args.core.now c.put.new.self r c.give_up-in-Err.new.self c.args.outcome (Err (record {})) c.put.ensures.policy c.put.ensures.moment
    c.put.ensures.begun put (up.log c.requires.held) c.requires.told c.requires.ready
    (goes_run p c.args.tick c.args.core.now r c.give_up-in-Err.new.self _ up.carries_on up.holds (up.moves c.args.tick.patience) tt c.requires.ready)

pub returns-in-Ok-Kept-clause-keeps : goal.returns-in-Ok-Kept-clause-keeps
returns-in-Ok-Kept-clause-keeps g c = let same = c.put.ensures.given in due_later _ _ _ _ _ (omega (arith, same)) (omega arith)

pub returns-in-Ok-Late-clause-keeps : goal.returns-in-Ok-Late-clause-keeps
returns-in-Ok-Late-clause-keeps g c = let same = c.put.ensures.given in due_later _ _ _ _ _ (omega (arith, same)) (omega arith)

pub returns-in-Ok-Ended-clause-keeps : goal.returns-in-Ok-Ended-clause-keeps
returns-in-Ok-Ended-clause-keeps g c = let same = c.put.ensures.given in due_later _ _ _ _ _ (omega (arith, same)) (c.close.ensures.polls c.args.tick.patience)

pub returns-in-Ok-GiveUp-clause-keeps : goal.returns-in-Ok-GiveUp-clause-keeps
returns-in-Ok-GiveUp-clause-keeps g c = let same = c.put.ensures.given in due_later _ _ _ _ _ (omega (arith, same)) (c.give_up.ensures.polls c.args.tick.patience)

pub returns-in-Err-clause-keeps : goal.returns-in-Err-clause-keeps
returns-in-Err-clause-keeps g c = let same = c.put.ensures.given in due_later _ _ _ _ _ (omega (arith, same)) (c.give_up-in-Err.ensures.polls c.args.tick.patience)
