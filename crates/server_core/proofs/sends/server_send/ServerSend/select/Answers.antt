use Rattle.server_core.proofs.SendSteps.{begins_again}
use Rattle.server_core.proofs.sends.server_send.ServerSend.select.Goals as goal

pub returns-in-Some-clause-step : goal.returns-in-Some-clause-step
returns-in-Some-clause-step c =
    let again = c.ask_again in
    let place = c.in-Some.place in
    begins_again c.args.self.now c.args.number c.args.now place c.args.server.now again.result again.new.self.stage c.in-Some.ensures.choice again.ensures.step
