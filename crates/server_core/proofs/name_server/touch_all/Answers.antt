use Rattle.std.proofs.Common.{◌∙◌, ◌<◌, length, slice_set, arith, ap, sym}
use Rattle.std.proofs.lemmas.List.Edits.{map_over_more}
use Rattle.server_core.specs.Hearing.{touched}
use Rattle.server_core.specs.declared.name_server.Connection.{Connection}
use Rattle.server_core.proofs.name_server.touch_all.Goals as goal

pub loop-connection-preserved : goal.loop-connection-preserved
loop-connection-preserved c =
    let touch = touched c.args.number c.args.status c.args.heard c.args.now in
    let xs = c.args.connections.now.items in
    let ys = c.loop-connection.connection-items in
    let index = c.loop-connection.connection-index in
    let item = c.connection-item in
    let within : index < length xs = omega arith in
    rw c.touch.ensures
    (ap (λ (x : Connection). slice_set ys index (touch x)) (sym item.is) ∙ map_over_more touch xs ys index item.result within c.loop-connection.invariant item.is)
