use Rattle.server_core.proofs.SendSteps.{opens_selected}
use Rattle.server_core.proofs.sends.server_send.ServerSend.open_selected.Goals as goal

pub returns-in-Some-clause-step : goal.returns-in-Some-clause-step
returns-in-Some-clause-step c =
    let made = c.open_at in
    let place = c.in-Some.place in
    opens_selected c.args.self.now c.args.number place c.args.server.now made.result made.new.self.stage c.in-Some.ensures.choice made.ensures.step
