use Rattle.recursor_core.proofs.Names.{◌≡◌, ◌<◌, ◌≤◌, ◌+◌, ◌∙◌, ◌∷◌, List, Contains, max, length, drop, refl, sym, arith, subst, drop_of_length-le, drop_more, Turn, Plays, Turning, run_moments}
use Rattle.recursor_core.proofs.StepsLeadOn.{leads_then}
use Rattle.recursor_core.proofs.TurnsArePlayed.{turning_refl, turning_next}
use Rattle.recursor_core.proofs.Timed.{run_next}
use Rattle.recursor_core.proofs.run.Run.play_turns.Goals as goal

pub loop-n-init : goal.loop-n-init
loop-n-init g c =
    let run = c.args.self.now in
    record { turning = turning_refl g.P.ConnectionProvider c.args.turns.now run c.requires; plays = λ h. h; count = refl }

pub loop-n-preserved : goal.loop-n-preserved
loop-n-preserved g c =
    let p = g.P.ConnectionProvider in
    let i = c.loop-n.invariant in
    let turns = c.args.turns.now in
    let n = c.loop-n.n in
    let run = c.args.self.now in
    let mid = c.loop-n.self in
    let start = run.core.moment in
    let rest = drop (n + 1) turns in
    let within : n < length turns = omega (arith, c.loop-n-test.true) in
    let e = c.play_turn.ensures in
    let f = c.finish_current-current.ensures in
    let turning : (t : Turn) → drop n turns ≡ t ∷ rest → Turning p turns (t ∷ rest) run mid =
    λ t more. subst (λ (ts : List Turn). Turning p turns ts run mid) more i.turning in
    let here : (t : Turn) → drop n turns ≡ t ∷ rest → Contains (run_moments start turns) (max mid.core.moment t.moment) =
    λ t more. (turning t more).moments (max mid.core.moment t.moment) (run_next mid.core.moment t rest) in
    record {
      turning = turning_next p turns rest _ run mid _ (turning _ (drop_more turns n _ within)) (leads_then p _ _ _ _ _ _ _ _ _ _ e.leads f.leads);
      plays = λ h. f.plays start turns rest c.args.questions.now (subst (Contains (run_moments start turns)) (sym e.leads.moment) (here _ (drop_more turns n _ within)))
          (e.plays start turns rest (here _ (drop_more turns n _ within))
          (subst (λ (ts : List Turn). Plays p mid start turns ts c.args.questions.now) (drop_more turns n _ within) (i.plays h)));
      count = f.count ∙ (e.count ∙ i.count);
    }

pub returns-clause-turning : goal.returns-clause-turning
returns-clause-turning g c =
    let turns = c.args.turns.now in
    let past : length turns ≤ c.loop-n.n = omega (arith, c.loop-n-test.false) in
    subst (λ (ts : List Turn). Turning g.P.ConnectionProvider turns ts c.args.self.now c.loop-n.self) (drop_of_length-le turns past) c.loop-n.invariant.turning

pub returns-clause-plays : goal.returns-clause-plays
returns-clause-plays g c h =
    let turns = c.args.turns.now in
    let past : length turns ≤ c.loop-n.n = omega (arith, c.loop-n-test.false) in
    subst (λ (ts : List Turn). Plays g.P.ConnectionProvider c.loop-n.self c.args.self.now.core.moment turns ts c.args.questions.now)
    (drop_of_length-le turns past) (c.loop-n.invariant.plays h)
