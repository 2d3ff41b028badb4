use Rattle.server_core.specs.Hearing.{without_dead}
use Rattle.server_core.proofs.ServerIsLent.{set_changed}
use Rattle.server_core.proofs.server_table.ServerTable.drop_dead.Goals as goal

pub returns : goal.returns
returns c =
    set_changed without_dead c.args.server c.args.self.now c.get_mut.result.now c.drop_dead.new.self c.get_mut.ensures.value c.drop_dead.ensures
