use Rattle.std.proofs.Common.{◌∙◌, sym, ap, refl}
use Rattle.order_carrier.specs.Awaited.Aim.{Reaches}
use Rattle.order_carrier.proofs.ProviderTellsPolls.{polled-waiting, polled-memory, polled-error, polled-connected}
use Rattle.order_carrier.proofs.polling.poll_connection.Goals as goal

pub returns-in-Pending-clause-polled : goal.returns-in-Pending-clause-polled
returns-in-Pending-clause-polled g c =
    let p = g.P.ConnectionProvider in
    polled-waiting p c.args.now c.args.order.value c.args.sent (p.log c.args.provider.now) (p.log c.poll_connection.new.self) (p.opened c.args.future) c.requires.named
    (p.opened c.poll_connection.new.f) _ c.in-Pending.ensures.log c.in-Pending.ensures.same.0 refl (λ named. named)

pub returns-in-Ready-Ok-clause-polled : goal.returns-in-Ready-Ok-clause-polled
returns-in-Ready-Ok-clause-polled g c =
    let p = g.P.ConnectionProvider in
    let r = rw c.in-Ready-Ok.field-0-is at c.in-Ready-Ok.ensures.log in
    let peer = rw c.in-Ready-Ok.field-0-is at c.in-Ready-Ok.ensures.peer in
    polled-connected p c.args.now c.args.order.value c.args.sent (p.log c.args.provider.now) (p.log c.poll_connection.new.self) (p.opened c.args.future) c.requires.named
    (p.peer c.in-Ready-Ok.conn) _ r (ap Reaches peer ∙ c.requires.goes.goes) c.requires.goes.sends refl tt

pub returns-then-is_memory-clause-polled : goal.returns-then-is_memory-clause-polled
returns-then-is_memory-clause-polled g c =
    let p = g.P.ConnectionProvider in
    let r = rw c.in-Ready-Err.field-0-is at c.in-Ready-Err.ensures.log in
    polled-memory p c.args.now c.args.order.value c.args.sent (p.log c.args.provider.now) (p.log c.poll_connection.new.self) (p.opened c.args.future) c.requires.named
    (p.opened c.poll_connection.new.f) _ c.in-Ready-Err.error r (sym c.is_memory.ensures ∙ c.if-is_memory.true) c.in-Ready-Err.ensures.same.0 refl (λ named. named)

pub returns-else-is_memory-clause-polled : goal.returns-else-is_memory-clause-polled
returns-else-is_memory-clause-polled g c =
    let p = g.P.ConnectionProvider in
    let r = rw c.in-Ready-Err.field-0-is at c.in-Ready-Err.ensures.log in
    polled-error p c.args.now c.args.order.value c.args.sent (p.log c.args.provider.now) (p.log c.poll_connection.new.self) (p.opened c.args.future) c.requires.named
    c.in-Ready-Err.error r (sym c.is_memory.ensures ∙ c.if-is_memory.false)
