use Rattle.recursor_core.proofs.Names.{◌∙◌, Contains, refl, sym, subst, run_moments}
use Rattle.recursor_core.proofs.StepsLeadOn.{leads_refl, leads_then}
use Rattle.recursor_core.proofs.run.Run.finish.Goals as goal

pub turns-init : goal.turns-init
turns-init g c =
    let run = c.args.self.now in
    record {
      leads = leads_refl g.P.ConnectionProvider run.patience run.core run.runner c.requires;
      plays = λ start turns rest questions here h. h;
      count = refl;
    }

pub turns-preserved : goal.turns-preserved
turns-preserved g c =
    let run = c.args.self.now in
    let i = c.turns.invariant in
    record {
      leads = leads_then g.P.ConnectionProvider run.core.moment _ _ _ _ _ _ _ _ _ i.leads c.play.ensures.leads;
      plays = λ start turns rest questions here h.
          c.play.ensures.plays start turns rest questions (subst (Contains (run_moments start turns)) (sym i.leads.moment) here) (i.plays start turns rest questions here h);
      count = c.play.ensures.count ∙ i.count;
    }

pub returns-then-not-play-clause-leads : goal.returns-then-not-play-clause-leads
returns-then-not-play-clause-leads g c =
    leads_then g.P.ConnectionProvider c.args.self.now.core.moment _ _ _ _ _ _ _ _ _ c.turns.invariant.leads c.play.ensures.leads

pub returns-then-not-play-clause-plays : goal.returns-then-not-play-clause-plays
returns-then-not-play-clause-plays g c start turns rest questions here h =
    let i = c.turns.invariant in
    c.play.ensures.plays start turns rest questions (subst (Contains (run_moments start turns)) (sym i.leads.moment) here) (i.plays start turns rest questions here h)
