use Rattle.order_carrier.proofs.CallByProvider.{asks-over, ask-sent, open-sent}
use Rattle.order_carrier.proofs.calling.call.Goals as goal

pub call_open-requires : goal.call_open-requires
call_open-requires g c = open-sent c.args.of c.args.now c.args.order.now c.in-Open.ip c.in-Open.config c.args.query c.in-Open.is c.requires.query

pub returns-in-Open-clause-called : goal.returns-in-Open-clause-called
returns-in-Open-clause-called g c = rw c.in-Open.is c.call_open.ensures.called

pub call_ask-requires : goal.call_ask-requires
call_ask-requires g c =
    let p = g.P.ConnectionProvider in
    let asks = asks-over p c.args.order.now c.in-Some.conn _ c.in-Ask.ip _ c.in-Ask.request c.in-Ask.is (rw c.in-Some.is at c.requires.over) in
    ask-sent c.args.of c.args.now _ (p.peer c.in-Some.conn) c.args.order.now c.in-Ask.ip _ c.in-Ask.request c.args.query c.in-Ask.is asks c.requires.query

pub returns-in-Some-clause-called : goal.returns-in-Some-clause-called
returns-in-Some-clause-called g c =
    c.call_ask.ensures.called c.args.order.now
    (asks-over g.P.ConnectionProvider c.args.order.now c.in-Some.conn _ c.in-Ask.ip _ c.in-Ask.request c.in-Ask.is (rw c.in-Some.is at c.requires.over))
