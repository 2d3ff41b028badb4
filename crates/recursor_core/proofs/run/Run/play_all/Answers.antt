use Rattle.recursor_core.proofs.Names.{[], Contains, sym, subst, run_moments}
use Rattle.recursor_core.proofs.StepsLeadOn.{leads_then}
use Rattle.recursor_core.proofs.TurnsArePlayed.{turning_over}
use Rattle.recursor_core.proofs.Timed.{run_first}
use Rattle.recursor_core.proofs.run.Run.play_all.Goals as goal

pub returns-clause-over : goal.returns-clause-over
returns-clause-over g c =
    let p = g.P.ConnectionProvider in
    let turned = c.play_turns-current.new.self in
    turning_over p c.args.turns.now c.args.self.now turned _ c.play_turns-current.ensures.turning
    (leads_then p turned.core.moment _ _ _ _ _ _ _ _ _ c.finish.ensures.leads c.play_rest.ensures.leads)

pub returns-clause-plays : goal.returns-clause-plays
returns-clause-plays g c h =
    let start = c.args.self.now.core.moment in
    let turns = c.args.turns.now in
    let turned = c.play_turns-current.new.self in
    let here = c.play_turns-current.ensures.turning.moments turned.core.moment (run_first turned.core.moment []) in
    let at_finish = subst (Contains (run_moments start turns)) (sym c.finish.ensures.leads.moment) here in
    c.play_rest.ensures.plays start turns at_finish (c.finish.ensures.plays start turns [] c.args.questions.now here (c.play_turns-current.ensures.plays h))
