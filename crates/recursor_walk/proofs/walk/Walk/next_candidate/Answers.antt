use Rattle.recursor_walk.proofs.Names.{◌≡◌, ◌+◌, ℕ, List, length, arith, ap, refl}
use Rattle.recursor_walk.proofs.WalkGoesOn.{goes-further, comes-there}
use Rattle.recursor_walk.proofs.walk.Walk.next_candidate.Goals as goal

pub returns-then-self-labels-clause-holds : goal.returns-then-self-labels-clause-holds
returns-then-self-labels-clause-holds c view t0 question way leaves =
    let w = c.args.self.now in
    let count : length c.labels.result.now ≡ length w.name.labels = ap (λ (ls : List (List ℕ)). length ls) c.labels.ensures.labels in
    comes-there view question.query w way leaves (omega (arith, count, c.if-self-labels.true))

pub returns-clause-holds : goal.returns-clause-holds
returns-clause-holds c view t0 question way leaves =
    let w = c.args.self.now in
    let count : length c.labels.result.now ≡ length w.name.labels = ap (λ (ls : List (List ℕ)). length ls) c.labels.ensures.labels in
    goes-further view t0 question.query w (w.labels + 1) c.in_ok-query.query c.new.result
    way leaves (omega (arith, count, c.if-self-labels.false)) refl c.in_ok-query.ensures c.new.ensures.query (λ z. c.new.ensures.holds view t0 z)
