use Rattle.recursor_core.proofs.Names.{◌≡◌, ◌∙◌, ⊎_elim, sym, ap, arith, begin_moment}
use Rattle.recursor_core.proofs.StepsLeadOn.{leads_alone}
use Rattle.recursor_core.proofs.QuestionsArePlayed.{begins_hold}
use Rattle.recursor_core.proofs.run.Run.begin_one.Goals as goal

pub begin_at-requires : goal.begin_at-requires
begin_at-requires g c = omega (arith, c.moment-now.ensures)

pub returns-clause-leads : goal.returns-clause-leads
returns-clause-leads g c =
    let run = c.args.self.now in
    let b = c.begin_at.ensures in
    let moment : c.begin_at.new.core.moment ≡ run.core.moment = ⊎_elim (λ e. e) (λ e. e ∙ c.moment-now.ensures) b.same.1 in
    leads_alone g.P.ConnectionProvider run.core.moment run.patience run.core c.begin_at.new.core run.runner (omega arith) b.same.0 moment b.derived c.requires

pub returns-clause-plays : goal.returns-clause-plays
returns-clause-plays g c start turns rest left due h =
    let run = c.args.self.now in
    let b = c.begin_at.ensures in
    let moment : c.begin_at.new.core.moment ≡ run.core.moment = ⊎_elim (λ e. e) (λ e. e ∙ c.moment-now.ensures) b.same.1 in
    begins_hold run.core c.begin_at.new.core (g.P.ConnectionProvider.log run.runner.carrier.provider) start turns rest left c.args.questions.now
    run.plays.items c.begin_at.new.plays.items c.args.q c.moment-now.result b.same.0 b.begun b.others b.begins
    (λ k ne. due.others k ne ∙ ap (λ m. begin_moment m left k) (sym moment)) (λ e. let now = due.now in omega (arith, e, now, c.moment-now.ensures)) h
