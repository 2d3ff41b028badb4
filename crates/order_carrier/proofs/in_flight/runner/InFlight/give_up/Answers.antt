use Rattle.std.proofs.Common.{rules, refl, arith}
use Rattle.order_carrier.proofs.GivenUpInFlight.{give_up-holds, give_up-moves, give_up-options, give_up-log}
use Rattle.order_carrier.proofs.Sums.{left-same}
use Rattle.order_carrier.proofs.in_flight.runner.InFlight.give_up.Goals as goal

pub close-requires : goal.close-requires
close-requires g c = give_up-holds g.P.ConnectionProvider c.args.number c.args.now c.args.self.now c.give_up.new.self c.give_up.ensures.gives_up c.give_up.ensures.none c.give_up.ensures.holds c.requires

pub returns-clause-carries_on : goal.returns-clause-carries_on
returns-clause-carries_on g c =
    rw c.close.ensures.same (record {
      vouches = c.give_up.ensures.vouches;
      options = give_up-options g.P.ConnectionProvider c.args.number c.args.now c.args.self.now c.give_up.new.self c.give_up.ensures.gives_up c.give_up.ensures.none;
    })

pub returns-clause-moves : goal.returns-clause-moves
returns-clause-moves g c patience =
    rw c.close.ensures.same (give_up-moves g.P.ConnectionProvider c.args.number c.args.now c.args.self.now c.give_up.new.self c.give_up.ensures.gives_up c.give_up.ensures.none patience)

pub returns-clause-log : goal.returns-clause-log
returns-clause-log g c some =
    rw c.close.ensures.same (give_up-log g.P.ConnectionProvider c.args.number c.args.now c.args.self.now c.give_up.new.self c.give_up.ensures.gives_up c.give_up.ensures.none c.requires some)

pub returns-clause-polls : goal.returns-clause-polls
returns-clause-polls g c patience =
    let same = left-same patience c.args.number c.args.self.now (record c.args.self.now { carrier = c.give_up.new.self }) refl in
    let fewer = c.close.ensures.polls patience in
    omega (arith, same, fewer)

pub returns-clause-holds : goal.returns-clause-holds
returns-clause-holds g c = search rules
