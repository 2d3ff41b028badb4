use Rattle.std.proofs.Common.{◌≡◌, true, refl}
use Rattle.order_carrier.proofs.StartedInFlight.{start-can, start-moves, start-grows, same-grows}
use Rattle.order_carrier.proofs.in_flight.runner.InFlight.start.Goals as goal

pub returns-then-not-is_free-clause-polls : goal.returns-then-not-is_free-clause-polls
returns-then-not-is_free-clause-polls g c = same-grows g.P.ConnectionProvider c.args.number c.args.self.now c.args.order c.args.self.now.orders refl c.args.tick.patience

pub returns-in_err-insert-clause-polls : goal.returns-in_err-insert-clause-polls
returns-in_err-insert-clause-polls g c = same-grows g.P.ConnectionProvider c.args.number c.args.self.now c.args.order c.insert.new.self c.in_err-insert.ensures.err c.args.tick.patience

pub carry-requires : goal.carry-requires
carry-requires g c =
    let free : c.is_free.result ≡ true = let n = c.if-not-is_free.false in cc in
    start-can g.P.ConnectionProvider c.args.number c.args.self.now c.args.order c.insert.new.self c.in_ok-insert.ensures.updates c.args.tick.patience c.requires (rw c.is_free.ensures at free)

pub returns-clause-moves : goal.returns-clause-moves
returns-clause-moves g c =
    start-moves g.P.ConnectionProvider c.args.number c.args.self.now c.args.order c.insert.new.self c.in_ok-insert.ensures.updates c.args.tick _ c.carry.ensures.moves

pub returns-clause-polls : goal.returns-clause-polls
returns-clause-polls g c =
    start-grows g.P.ConnectionProvider c.args.number c.args.self.now c.args.order c.insert.new.self c.in_ok-insert.ensures.updates c.args.tick.patience c.carry.new.self c.carry.ensures.counted
    c.insert.ensures.was_ordered c.in_ok-insert.ensures.entries
