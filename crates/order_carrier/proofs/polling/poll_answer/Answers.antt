use Rattle.std.proofs.Common.{◌∙◌, sym, refl}
use Rattle.order_carrier.proofs.ProviderTellsPolls.{polled-waiting, polled-memory, polled-error, polled-answered}
use Rattle.order_carrier.proofs.polling.poll_answer.Goals as goal

pub returns-in-Pending-clause-polled : goal.returns-in-Pending-clause-polled
returns-in-Pending-clause-polled g c =
    let p = g.P.ConnectionProvider in
    polled-waiting p c.args.now c.args.order.value c.args.sent (p.log c.args.provider.now) (p.log c.poll_exchange.new.self) (p.asked c.args.exchange) c.requires.named
    (p.asked c.poll_exchange.new.e) _ c.in-Pending.ensures.log c.in-Pending.ensures.same.0 refl (λ named. named)

pub returns-in-Ready-Ok-clause-polled : goal.returns-in-Ready-Ok-clause-polled
returns-in-Ready-Ok-clause-polled g c =
    let p = g.P.ConnectionProvider in
    let r = rw c.in-Ready-Ok.field-0-is at c.in-Ready-Ok.ensures.log in
    let told = rw c.in-Ready-Ok.field-0-is at c.in-Ready-Ok.ensures.told in
    polled-answered p c.args.now c.args.order.value c.args.sent (p.log c.args.provider.now) (p.log c.poll_exchange.new.self) (p.asked c.args.exchange) c.requires.named
    (p.question c.args.exchange) c.in-Ready-Ok.message r c.requires.goes.goes c.requires.goes.sends told.0

pub returns-then-is_memory-clause-polled : goal.returns-then-is_memory-clause-polled
returns-then-is_memory-clause-polled g c =
    let p = g.P.ConnectionProvider in
    let r = rw c.in-Ready-Err.field-0-is at c.in-Ready-Err.ensures.log in
    polled-memory p c.args.now c.args.order.value c.args.sent (p.log c.args.provider.now) (p.log c.poll_exchange.new.self) (p.asked c.args.exchange) c.requires.named
    (p.asked c.poll_exchange.new.e) _ c.in-Ready-Err.error r (sym c.is_memory.ensures ∙ c.if-is_memory.true) c.in-Ready-Err.ensures.same.0 refl (λ named. named)

pub returns-clause-polled : goal.returns-clause-polled
returns-clause-polled g c =
    let p = g.P.ConnectionProvider in
    let r = rw c.in-Ready-Err.field-0-is at c.in-Ready-Err.ensures.log in
    polled-error p c.args.now c.args.order.value c.args.sent (p.log c.args.provider.now) (p.log c.poll_exchange.new.self) (p.asked c.args.exchange) c.requires.named
    c.in-Ready-Err.error r (sym c.is_memory.ensures ∙ c.if-is_memory.false)
