use Rattle.server_core.specs.Hearing.{after_heard}
use Rattle.server_core.proofs.ServerIsLent.{set_changed}
use Rattle.server_core.proofs.server_table.ServerTable.hear.Goals as goal

pub returns : goal.returns
returns c =
    let change = after_heard c.args.number c.args.status c.args.heard c.args.now in
    set_changed change c.args.server c.args.self.now c.get_mut.result.now c.hear.new.self c.get_mut.ensures.value c.hear.ensures
