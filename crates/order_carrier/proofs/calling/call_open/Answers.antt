use Rattle.std.proofs.Common.{refl}
use Rattle.dns_core.specs.Connection.{protocol_of}
use Rattle.dns_core.specs.declared.log.LogEntry.TheVariants.{Opened}
use Rattle.server_core.specs.declared.orders.order.Order.TheVariants.{Open}
use Rattle.order_carrier.proofs.CallByProvider.{opened-called, refused-called}
use Rattle.order_carrier.proofs.calling.call_open.Goals as goal

pub returns-in-Ok-clause-called : goal.returns-in-Ok-clause-called
returns-in-Ok-clause-called g c =
    let p = g.P.ConnectionProvider in
    let r = c.in-Ok.ensures in
    opened-called p c.args.now c.args.ip c.args.config.now c.args.sent (p.log c.args.provider.now) (p.log c.new_connection.new.self) c.in-Ok.future c.requires r.log r.ok

pub returns-in-Err-clause-called : goal.returns-in-Err-clause-called
returns-in-Err-clause-called g c =
    let p = g.P.ConnectionProvider in
    let config = c.args.config.now in
    rw c.refusal.ensures (refused-called p c.args.now (Open c.args.ip config) c.args.sent (p.log c.args.provider.now) (p.log c.new_connection.new.self) c.in-Err.error
    (Opened c.args.ip (protocol_of config.protocol) c.args.now) refl c.in-Err.ensures.log c.requires)
