use Rattle.std.proofs.Common.{sym, ◌∙◌, ap, subst, arith}
use Rattle.std.specs.Result.{result_ok}
use Rattle.server_core.specs.declared.orders.order.Order.{Order}
use Rattle.order_carrier.specs.Awaited.{aim_of, IsSentFor, sent_of}
use Rattle.order_carrier.specs.Carrying.{Hears}
use Rattle.order_carrier.proofs.CallByProvider.{numbered-next}
use Rattle.order_carrier.proofs.CallByItsParts.{none-of_err, counted-few}
use Rattle.order_carrier.proofs.OrderByCallParts.{carries-lacking, carries-wanting, carries-refused_memory, carries-refused, carries-started}
use Rattle.order_carrier.proofs.carrier.Carrier.start.Goals as goal

pub returns-in_default-clause-carries : goal.returns-in_default-clause-carries
returns-in_default-clause-carries g c =
    carries-lacking g.P.ConnectionProvider c.args.key c.args.order.now c.args.now c.args.self.now c.requires.unseen c.in_default.ensures.none

pub returns-in_err-copy-clause-carries : goal.returns-in_err-copy-clause-carries
returns-in_err-copy-clause-carries g c =
    carries-wanting g.P.ConnectionProvider c.args.key c.args.order.now c.args.now c.args.self.now c.make_room.new.self _ c.requires.unseen c.in-Some.ensures.some.0
    c.make_room.ensures.made (none-of_err c.from_residual.result c.from_residual.ensures.0)

pub returns-in-OutOfMemory-clause-carries : goal.returns-in-OutOfMemory-clause-carries
returns-in-OutOfMemory-clause-carries g c =
    carries-refused_memory g.P.ConnectionProvider c.args.key c.args.order.now c.args.now c.args.self.now c.make_room.new.self c.requires.unseen c.in-Some.ensures.some.0
    c.in_ok-copy.ensures.room.0 c.make_room.ensures.made c.call.new.provider c.in-OutOfMemory.ensures.quiet c.in-OutOfMemory.ensures.called.log

pub returns-in-Refused-clause-carries : goal.returns-in-Refused-clause-carries
returns-in-Refused-clause-carries g c =
    let refuse = c.refuse.ensures in
    rw refuse.told (carries-refused g.P.ConnectionProvider c.args.key c.args.order.now c.args.now c.args.self.now c.make_room.new.self c.requires.unseen c.in-Some.ensures.some.0
    c.in_ok-copy.ensures.room.0 c.make_room.ensures.made c.call.new.provider c.in-Refused.ensures.quiet c.refuse.new.self c.in-Refused.sent c.in-Refused.error
    c.in-Refused.ensures.called refuse.same refuse.entries refuse.slots)

pub returns-in-Going-clause-carries : goal.returns-in-Going-clause-carries
returns-in-Going-clause-carries g c =
    let hears = subst (λ (o : Order). Hears g.P.ConnectionProvider c.args.key o (sent_of c.in-Going.awaited) c.args.now c.count_sent.new.self c.poll.new.self (result_ok c.poll.result))
    c.in_ok-copy.ensures.copies.0 c.poll.ensures.hears in
    carries-started g.P.ConnectionProvider c.args.key c.args.order.now c.args.now c.args.self.now c.make_room.new.self c.requires.unseen c.in-Some.ensures.some.0
    c.in_ok-copy.ensures.room.0 c.make_room.ensures.made c.call.new.provider c.in-Going.ensures.quiet c.count_sent.new.self c.poll.new.self c.in-Going.awaited
    (result_ok c.poll.result) c.in-Going.ensures.called c.count_sent.ensures hears

pub call-requires-clause-over : goal.call-requires-clause-over
call-requires-clause-over g c = c.in-Some.ensures.some.1

pub invariant_of-under_way : goal.invariant_of-under_way
invariant_of-under_way g c =
    let goes = c.in-Going.ensures.called.may.0 in
    let same = sym c.in_ok-copy.ensures.copies.0 in
    record { polls = goes.polls; goes = goes.goes ∙ ap aim_of same; sends = subst (λ (o : Order). IsSentFor o (sent_of c.in-Going.awaited)) same goes.sends }

pub overflow_add-of : goal.overflow_add-of
overflow_add-of g c = omega (arith, c.make_room.ensures.made.entries, c.in_ok-copy.ensures.room.0)

pub refuse-requires-clause-numbers : goal.refuse-requires-clause-numbers
refuse-requires-clause-numbers g c = omega (arith, c.make_room.ensures.made.entries, c.in_ok-copy.ensures.room.0)

pub poll-requires-clause-numbers : goal.poll-requires-clause-numbers
poll-requires-clause-numbers g c =
    let room = c.make_room.new.self in
    rw c.count_sent.ensures (omega (arith, counted-few room.entries (sent_of c.in-Going.awaited), c.make_room.ensures.made.entries, c.in_ok-copy.ensures.room.0))

pub poll-requires-clause-place : goal.poll-requires-clause-place
poll-requires-clause-place g c = rw c.count_sent.ensures c.in_ok-copy.ensures.room.1

pub poll-requires-clause-named : goal.poll-requires-clause-named
poll-requires-clause-named g c =
    let p = g.P.ConnectionProvider in
    let made = c.make_room.ensures.made in
    let numbers = c.in_ok-copy.ensures.room.0 in
    rw c.count_sent.ensures
    (c.in-Going.ensures.called.may.2 (rw (made.entries, made.provider) (numbered-next c.args.self.now.entries (p.log c.args.self.now.provider) (c.requires.counted (omega (arith, numbers))))))
