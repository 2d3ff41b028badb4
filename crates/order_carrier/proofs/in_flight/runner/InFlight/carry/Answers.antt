use Rattle.std.proofs.Common.{sym}
use Rattle.order_carrier.specs.InFlight.{polled_again}
use Rattle.order_carrier.specs.declared.in_flight.runner.InFlightOrder.{InFlightOrder}
use Rattle.order_carrier.proofs.PolledInFlight.{after-counted, after-holds, after-moves, after-told}
use Rattle.order_carrier.proofs.in_flight.runner.InFlight.carry.Goals as goal

pub returns-in_err-outcome-clause-carries_on : goal.returns-in_err-outcome-clause-carries_on
returns-in_err-outcome-clause-carries_on g c = record { vouches = c.carry.ensures.vouches; options = (rw c.deref.ensures at c.carry.ensures.carries).did.options }

pub returns-in_err-outcome-clause-holds : goal.returns-in_err-outcome-clause-holds
returns-in_err-outcome-clause-holds g c =
    let v : InFlightOrder = c.in-Some.running.now in
    after-holds g.P.ConnectionProvider c.args.tick c.args.number c.args.self.now c.requires v (sym c.in-Some.ensures.value) (c.get_mut.follows.lender (polled_again v)) (c.get_mut.follows.holds (polled_again v))
    c.carry.new.self c.carry.ensures.holds _ (rw c.deref.ensures at c.carry.ensures.carries)

pub returns-in_err-outcome-clause-moves : goal.returns-in_err-outcome-clause-moves
returns-in_err-outcome-clause-moves g c =
    let v : InFlightOrder = c.in-Some.running.now in
    after-moves g.P.ConnectionProvider c.args.tick c.args.number c.args.self.now c.requires v (sym c.in-Some.ensures.value) (c.get_mut.follows.lender (polled_again v)) (c.get_mut.follows.holds (polled_again v))
    c.carry.new.self c.carry.ensures.holds _ (rw c.deref.ensures at c.carry.ensures.carries)

pub returns-in_err-outcome-clause-counted : goal.returns-in_err-outcome-clause-counted
returns-in_err-outcome-clause-counted g c =
    let v : InFlightOrder = c.in-Some.running.now in
    after-counted g.P.ConnectionProvider c.args.tick c.args.number c.args.self.now c.requires v (sym c.in-Some.ensures.value) (c.get_mut.follows.lender (polled_again v)) (c.get_mut.follows.holds (polled_again v))
    c.carry.new.self

pub returns-in_default-2-clause-carries_on : goal.returns-in_default-2-clause-carries_on
returns-in_default-2-clause-carries_on g c = record { vouches = c.carry.ensures.vouches; options = (rw c.deref.ensures at c.carry.ensures.carries).did.options }

pub returns-in_default-2-clause-holds : goal.returns-in_default-2-clause-holds
returns-in_default-2-clause-holds g c =
    let v : InFlightOrder = c.in-Some.running.now in
    after-holds g.P.ConnectionProvider c.args.tick c.args.number c.args.self.now c.requires v (sym c.in-Some.ensures.value) (c.get_mut.follows.lender (polled_again v)) (c.get_mut.follows.holds (polled_again v))
    c.carry.new.self c.carry.ensures.holds _ (rw c.deref.ensures at c.carry.ensures.carries)

pub returns-in_default-2-clause-moves : goal.returns-in_default-2-clause-moves
returns-in_default-2-clause-moves g c =
    let v : InFlightOrder = c.in-Some.running.now in
    after-moves g.P.ConnectionProvider c.args.tick c.args.number c.args.self.now c.requires v (sym c.in-Some.ensures.value) (c.get_mut.follows.lender (polled_again v)) (c.get_mut.follows.holds (polled_again v))
    c.carry.new.self c.carry.ensures.holds _ (rw c.deref.ensures at c.carry.ensures.carries)

pub returns-in_default-2-clause-counted : goal.returns-in_default-2-clause-counted
returns-in_default-2-clause-counted g c =
    let v : InFlightOrder = c.in-Some.running.now in
    after-counted g.P.ConnectionProvider c.args.tick c.args.number c.args.self.now c.requires v (sym c.in-Some.ensures.value) (c.get_mut.follows.lender (polled_again v)) (c.get_mut.follows.holds (polled_again v))
    c.carry.new.self

pub returns-clause-carries_on : goal.returns-clause-carries_on
returns-clause-carries_on g c = record { vouches = c.carry.ensures.vouches; options = (rw c.deref.ensures at c.carry.ensures.carries).did.options }

pub returns-clause-holds : goal.returns-clause-holds
returns-clause-holds g c =
    let v : InFlightOrder = c.in-Some.running.now in
    after-holds g.P.ConnectionProvider c.args.tick c.args.number c.args.self.now c.requires v (sym c.in-Some.ensures.value) (c.get_mut.follows.lender (polled_again v)) (c.get_mut.follows.holds (polled_again v))
    c.carry.new.self c.carry.ensures.holds _ (rw c.deref.ensures at c.carry.ensures.carries)

pub returns-clause-moves : goal.returns-clause-moves
returns-clause-moves g c =
    let v : InFlightOrder = c.in-Some.running.now in
    after-moves g.P.ConnectionProvider c.args.tick c.args.number c.args.self.now c.requires v (sym c.in-Some.ensures.value) (c.get_mut.follows.lender (polled_again v)) (c.get_mut.follows.holds (polled_again v))
    c.carry.new.self c.carry.ensures.holds _ (rw c.deref.ensures at c.carry.ensures.carries)

pub returns-clause-told : goal.returns-clause-told
returns-clause-told g c =
    let v : InFlightOrder = c.in-Some.running.now in
    after-told g.P.ConnectionProvider c.args.tick c.args.number c.args.self.now c.requires v (sym c.in-Some.ensures.value) (c.get_mut.follows.lender (polled_again v)) (c.get_mut.follows.holds (polled_again v))
    c.carry.new.self c.carry.ensures.holds c.in-Some-2.outcome (rw c.in-Some-2.is at (rw c.deref.ensures at c.in_ok-outcome.ensures.carries))

pub returns-clause-counted : goal.returns-clause-counted
returns-clause-counted g c =
    let v : InFlightOrder = c.in-Some.running.now in
    after-counted g.P.ConnectionProvider c.args.tick c.args.number c.args.self.now c.requires v (sym c.in-Some.ensures.value) (c.get_mut.follows.lender (polled_again v)) (c.get_mut.follows.holds (polled_again v))
    c.carry.new.self
