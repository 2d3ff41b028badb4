use Rattle.recursor_core.proofs.Names.{◌∙◌, Contains, refl, sym, subst, run_moments}
use Rattle.recursor_core.proofs.StepsLeadOn.{leads_refl, leads_then}
use Rattle.recursor_core.proofs.run.Run.play_rest.Goals as goal

pub loop-q-init : goal.loop-q-init
loop-q-init g c =
    let run = c.args.self.now in
    record {
      leads = leads_refl g.P.ConnectionProvider run.patience run.core run.runner c.requires;
      plays = λ start turns here h. h;
      count = refl;
    }

pub loop-q-preserved : goal.loop-q-preserved
loop-q-preserved g c =
    let i = c.loop-q.invariant in
    let e = c.resolve_question.ensures in
    record {
      leads = leads_then g.P.ConnectionProvider c.args.self.now.core.moment _ _ _ _ _ _ _ _ _ i.leads e.leads;
      plays = λ start turns here h. e.plays start turns (subst (Contains (run_moments start turns)) (sym i.leads.moment) here) (i.plays start turns here h);
      count = e.count ∙ i.count;
    }
