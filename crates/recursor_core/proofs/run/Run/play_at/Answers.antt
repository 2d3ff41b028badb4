use Rattle.recursor_core.proofs.Names.{◌≡◌, ◌∙◌, ℕ, List, Contains, sym, subst, arith, run_moments, Leading, PlaysHold, QuestionState}
use Rattle.recursor_core.proofs.StepsLeadOn.{leads_goes}
use Rattle.recursor_core.proofs.QuestionsArePlayed.{plays_moved, plays_answered, plays_unanswered}
use Rattle.recursor_core.proofs.run.Run.play_at.Goals as goal

pub turn_result-requires-clause-moment : goal.turn_result-requires-clause-moment
turn_result-requires-clause-moment g c = omega (arith, c.moment-now.ensures)

pub returns-in-Ok-Some-clause-leads : goal.returns-in-Ok-Some-clause-leads
returns-in-Ok-Some-clause-leads g c =
    let run = c.args.self.now in
    let new = c.turn_result.new in
    subst (λ (at : ℕ). Leading g.P.ConnectionProvider at run.patience run.patience run.core new.core run.runner new.runner) c.moment-now.ensures
    (leads_goes g.P.ConnectionProvider c.moment-now.result run.patience run.core new.core run.runner new.runner c.turn_result.ensures.goes)

pub returns-in-Ok-None-clause-leads : goal.returns-in-Ok-None-clause-leads
returns-in-Ok-None-clause-leads g c =
    let run = c.args.self.now in
    let new = c.turn_result.new in
    subst (λ (at : ℕ). Leading g.P.ConnectionProvider at run.patience run.patience run.core new.core run.runner new.runner) c.moment-now.ensures
    (leads_goes g.P.ConnectionProvider c.moment-now.result run.patience run.core new.core run.runner new.runner c.turn_result.ensures.goes)

pub returns-in-Err-clause-leads : goal.returns-in-Err-clause-leads
returns-in-Err-clause-leads g c =
    let run = c.args.self.now in
    let new = c.turn_result.new in
    subst (λ (at : ℕ). Leading g.P.ConnectionProvider at run.patience run.patience run.core new.core run.runner new.runner) c.moment-now.ensures
    (leads_goes g.P.ConnectionProvider c.moment-now.result run.patience run.core new.core run.runner new.runner c.turn_result.ensures.goes)

pub returns-in-Ok-Some-clause-plays : goal.returns-in-Ok-Some-clause-plays
returns-in-Ok-Some-clause-plays g c start turns rest questions here h =
    let p = g.P.ConnectionProvider in
    let run = c.args.self.now in
    let new = c.turn_result.new in
    let goes = c.turn_result.ensures.goes in
    let now = c.moment-now.result in
    let moment : new.core.moment ≡ run.core.moment = goes.ready.moment ∙ c.moment-now.ensures in
    let come : Contains (run_moments start turns) now = subst (Contains (run_moments start turns)) (sym c.moment-now.ensures) here in
    subst (λ (xs : List QuestionState). PlaysHold new.core (p.log new.runner.carrier.provider) start turns rest questions xs) (sym c.put_answer.ensures.set)
    (plays_answered p run.patience now run.core new.core run.runner.carrier new.runner.carrier goes.moves moment start turns rest questions run.plays.items
    c.args.q c.args.place c.in-Ok-Some.reply c.requires.under_way come (rw c.in-Ok-Some.field-0-is at c.in-Ok-Some.ensures.told) h)

pub returns-in-Ok-None-clause-plays : goal.returns-in-Ok-None-clause-plays
returns-in-Ok-None-clause-plays g c start turns rest questions here h =
    let p = g.P.ConnectionProvider in
    let run = c.args.self.now in
    let new = c.turn_result.new in
    let goes = c.turn_result.ensures.goes in
    let now = c.moment-now.result in
    let moment : new.core.moment ≡ run.core.moment = goes.ready.moment ∙ c.moment-now.ensures in
    plays_moved p run.patience now run.core new.core run.runner.carrier new.runner.carrier goes.moves moment start turns rest questions run.plays.items h

pub returns-in-Err-clause-plays : goal.returns-in-Err-clause-plays
returns-in-Err-clause-plays g c start turns rest questions here h =
    let p = g.P.ConnectionProvider in
    let run = c.args.self.now in
    let new = c.turn_result.new in
    let goes = c.turn_result.ensures.goes in
    let now = c.moment-now.result in
    let moment : new.core.moment ≡ run.core.moment = goes.ready.moment ∙ c.moment-now.ensures in
    subst (λ (xs : List QuestionState). PlaysHold new.core (p.log new.runner.carrier.provider) start turns rest questions xs) (sym c.leave_unanswered.ensures.set)
    (plays_unanswered p run.patience now run.core new.core run.runner.carrier new.runner.carrier goes.moves moment start turns rest questions run.plays.items
    c.args.q c.args.place c.requires.under_way h)

pub put_answer-requires : goal.put_answer-requires
put_answer-requires g c = (c.args.place, c.requires.under_way)

pub leave_unanswered-requires : goal.leave_unanswered-requires
leave_unanswered-requires g c = (c.args.place, c.requires.under_way)
