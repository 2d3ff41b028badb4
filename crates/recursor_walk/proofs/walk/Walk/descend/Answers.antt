use Rattle.recursor_walk.proofs.Names.{◌∙◌, sym, refl, [], Err, arith, nat_tests, NoNameServer, NoAddress, Pos}
use Rattle.resolution.proofs.SoundOutcomes.{error-sound}
use Rattle.recursor_walk.proofs.ReplyRestsOn.{glueless-of}
use Rattle.recursor_walk.proofs.WalkGoesOn.{stops, cut-way, cut-leaves, candidate-asked, candidate-on-the-way, leaves-told}
use Rattle.recursor_walk.proofs.walk.Walk.descend.Goals as goal

pub returns-then-not-is_delegation-clause-holds : goal.returns-then-not-is_delegation-clause-holds
returns-then-not-is_delegation-clause-holds c view t0 entry question filtered h =
    c.next_candidate.ensures.holds view t0 question h.way
    (leaves-told view question.query c.args.self.now h.way t0 entry (Pos c.args.kept.now) h.stands
    (sym c.is_delegation.ensures ∙ c.if-not-is_delegation.true))

pub returns-clause-holds : goal.returns-clause-holds
returns-clause-holds c view t0 entry question filtered h =
    let w = c.args.self.now in
    let q = question.query in
    let kept = c.args.kept.now in
    let zone = c.in_ok-self.field-0 in
    let filled = sym c.is_empty.ensures ∙ c.if-is_empty.false in
    c.next_candidate-2.ensures.holds view t0 question
    (cut-way view t0 q w kept entry zone c.new.result h.way h.stands
    (sym c.is_delegation.ensures ∙ c.if-not-is_delegation.false) c.in_ok-self.ensures
    (rw c.new.ensures (grind (arith, nat_tests))) (λ ip. rw (c.new.ensures, filtered) (c.in_ok-ips.ensures ip)))
    (cut-leaves view q w zone c.new.result h.way c.in_ok-self.ensures)

pub returns-then-is_empty-clause-holds : goal.returns-then-is_empty-clause-holds
returns-then-is_empty-clause-holds c view t0 entry question filtered h =
    let w = c.args.self.now in
    let q = question.query in
    let kept = c.args.kept.now in
    let asks = w.asking.lookup.query in
    let empty = sym c.is_empty.ensures ∙ c.if-is_empty.true in
    let none = glueless-of view t0 q asks.name asks entry kept (candidate-on-the-way view q w h.way) h.stands (candidate-asked view q w h.way)
    (sym c.is_delegation.ensures ∙ c.if-not-is_delegation.false)
    (λ ip has. let place = (c.in_ok-ips.ensures ip).1 (rw filtered at has) in let less = place.1 in grind (arith, nat_tests)) in
    stops view t0 question _ c.no_server.result (record { outcome = Err (NoNameServer w.name NoAddress); grounds = [] }) c.no_server.ensures (error-sound (h.way.name, refl, none), tt)
