use Rattle.std.proofs.Common.{IfOk, subst}
use Rattle.server_core.specs.Servers.{Server, place_of}
use Rattle.server_core.specs.Hearing.{without_dead}
use Rattle.server_core.specs.Sending.{Begins}
use Rattle.server_core.proofs.SendSteps.{live_changed, read_changed}
use Rattle.server_core.proofs.sends.server_send.ServerSend.begin.Goals as goal

pub get-requires : goal.get-requires
get-requires c =
    let number = c.args.self.now.server in
    live_changed without_dead number (place_of number) c.args.table.now c.drop_dead.new.self c.drop_dead.ensures c.requires.live

pub returns-clause-step : goal.returns-clause-step
returns-clause-step c = λ server was.
    let number = c.args.self.now.server in
    let is = read_changed without_dead number c.args.table.now c.drop_dead.new.self server c.get.result.now c.drop_dead.ensures was c.get.ensures in
    subst (λ (at : Server). IfOk c.select.result (λ step. Begins c.args.self.now c.args.number c.args.now at step c.select.new.self.stage)) is c.select.ensures.step
