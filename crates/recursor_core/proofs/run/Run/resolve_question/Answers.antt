use Rattle.recursor_core.proofs.Names.{[], Contains, sym, subst, run_moments}
use Rattle.recursor_core.proofs.StepsLeadOn.{leads_then}
use Rattle.recursor_core.proofs.QuestionsArePlayed.{last_due}
use Rattle.recursor_core.proofs.run.Run.resolve_question.Goals as goal

pub returns-clause-leads : goal.returns-clause-leads
returns-clause-leads g c = leads_then g.P.ConnectionProvider c.args.self.now.core.moment _ _ _ _ _ _ _ _ _ c.begin_one.ensures.leads c.finish.ensures.leads

pub returns-clause-plays : goal.returns-clause-plays
returns-clause-plays g c start turns here h =
    let now = c.args.self.now.core.moment in
    let at_begin = subst (Contains (run_moments start turns)) (sym c.begin_one.ensures.leads.moment) here in
    c.finish.ensures.plays start turns [] c.args.questions.now at_begin (c.begin_one.ensures.plays start turns [] [] (last_due now c.args.q) h)
