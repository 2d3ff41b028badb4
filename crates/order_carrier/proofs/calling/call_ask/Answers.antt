use Rattle.order_carrier.proofs.CallByProvider.{asked-called, asked-refused}
use Rattle.order_carrier.proofs.calling.call_ask.Goals as goal

pub returns-in-Ok-clause-called : goal.returns-in-Ok-clause-called
returns-in-Ok-clause-called g c order asks =
    let p = g.P.ConnectionProvider in
    let r = c.in-Ok.ensures in
    asked-called p c.args.now c.args.over c.args.request.now c.args.sent (p.log c.args.provider.now) (p.log c.send.new.self) c.in-Ok.exchange order asks c.requires r.log r.ok

pub returns-in-Err-clause-called : goal.returns-in-Err-clause-called
returns-in-Err-clause-called g c order asks =
    let p = g.P.ConnectionProvider in
    rw c.refusal.ensures
    (asked-refused p c.args.now c.args.over c.args.request.now c.args.sent (p.log c.args.provider.now) (p.log c.send.new.self) c.in-Err.error order asks c.requires c.in-Err.ensures.log)
