use Rattle.recursor_core.proofs.Names.{◌≡◌, ◌≤◌, ◌+◌, ◌-◌, ◌∷◌, ℕ, Contains, arith, max, sym, subst, run_moments}
use Rattle.recursor_core.proofs.StepsLeadOn.{leads_then}
use Rattle.recursor_core.proofs.QuestionsArePlayed.{plays_skip, turn_due}
use Rattle.recursor_core.proofs.run.Run.play_turn.Goals as goal

pub returns-then-turn-eq0-clause-plays : goal.returns-then-turn-eq0-clause-plays
returns-then-turn-eq0-clause-plays g c start turns rest here h =
    let reached = c.reach.new.self in
    let t = c.args.turn.now in
    let le : t.moment ≤ reached.core.moment = omega (arith, c.reach.ensures.leads.moment) in
    plays_skip reached.core (g.P.ConnectionProvider.log reached.runner.carrier.provider) start turns rest t c.args.questions.now reached.plays.items c.if-turn-eq0.true le
    (c.reach.ensures.plays start turns rest c.args.questions.now h)

pub returns-clause-leads : goal.returns-clause-leads
returns-clause-leads g c =
    let p = g.P.ConnectionProvider in
    let now = max c.args.self.now.core.moment c.args.turn.now.moment in
    leads_then p now _ _ _ _ _ _ _ _ _ (leads_then p now _ _ _ _ _ _ _ _ _ c.reach.ensures.leads c.begin_one.ensures.leads) c.play-played.ensures.leads

pub returns-clause-plays : goal.returns-clause-plays
returns-clause-plays g c start turns rest here h =
    let t = c.args.turn.now in
    let questions = c.args.questions.now in
    let reached = c.reach.new.self in
    let q : ℕ = t.question - 1 in
    let names : t.question ≡ q + 1 = omega (arith, c.if-turn-eq0.false) in
    let le : t.moment ≤ reached.core.moment = omega (arith, c.reach.ensures.leads.moment) in
    let at_reach : Contains (run_moments start turns) reached.core.moment = subst (Contains (run_moments start turns)) (sym c.reach.ensures.leads.moment) here in
    let at_begin = subst (Contains (run_moments start turns)) (sym c.begin_one.ensures.leads.moment) at_reach in
    c.play-played.ensures.plays start turns rest questions at_begin
    (c.begin_one.ensures.plays start turns (t ∷ rest) rest (turn_due reached.core.moment t rest q names le) (c.reach.ensures.plays start turns rest questions h))
