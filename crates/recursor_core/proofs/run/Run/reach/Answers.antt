use Rattle.recursor_core.proofs.Names.{max, arith}
use Rattle.recursor_core.proofs.StepsLeadOn.{leads_alone}
use Rattle.recursor_core.proofs.QuestionsArePlayed.{plays_reach}
use Rattle.recursor_core.proofs.run.Run.reach.Goals as goal

pub returns-clause-leads : goal.returns-clause-leads
returns-clause-leads g c =
    let run = c.args.self.now in
    let m = c.reach.ensures in
    leads_alone g.P.ConnectionProvider (max run.core.moment c.args.turn.now.moment) run.patience run.core c.reach.new.self run.runner (omega arith) m.same.0 m.moment m.derived c.requires

pub returns-clause-plays : goal.returns-clause-plays
returns-clause-plays g c start turns rest questions h =
    let run = c.args.self.now in
    let m = c.reach.ensures in
    plays_reach run.core c.reach.new.self (g.P.ConnectionProvider.log run.runner.carrier.provider) start turns rest c.args.turn.now questions run.plays.items m.same.0 m.same.2 m.moment h
