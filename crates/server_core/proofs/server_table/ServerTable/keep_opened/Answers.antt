use Rattle.std.proofs.lemmas.Result.{on_ok_weaker, on_err_weaker}
use Rattle.server_core.specs.Hearing.{with_opened}
use Rattle.server_core.proofs.ServerIsLent.{set_changed, set_same}
use Rattle.server_core.proofs.server_table.ServerTable.keep_opened.Goals as goal

pub returns-clause-ok : goal.returns-clause-ok
returns-clause-ok c =
    let opened = with_opened c.args.number c.args.protocol in
    on_ok_weaker c.keep_opened.result
    (set_changed opened c.args.server c.args.self.now c.get_mut.result.now c.keep_opened.new.self c.get_mut.ensures.value)
    c.keep_opened.ensures.ok

pub returns-clause-err : goal.returns-clause-err
returns-clause-err c =
    on_err_weaker c.keep_opened.result
    (set_same c.args.server c.args.self.now c.get_mut.result.now c.keep_opened.new.self c.get_mut.ensures.value)
    c.keep_opened.ensures.err
