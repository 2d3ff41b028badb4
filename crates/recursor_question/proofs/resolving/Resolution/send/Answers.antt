use Rattle.recursor_question.proofs.ResolutionAfterStep.{same-walk, same-asking, walk-holds, asking-holds}
use Rattle.recursor_walk.proofs.WalkGoesOn.{walk-asks}
use Rattle.recursor_question.proofs.resolving.Resolution.send.Goals as goal

pub returns-in-Walking-clause-same : goal.returns-in-Walking-clause-same
returns-in-Walking-clause-same c =
    rw c.deref_mut.ensures.value (same-walk c.args.self.now c.in-Walking.walk c.send.new.self c.send.result c.in-Walking.is
    (rw c.deref_mut.ensures.value at c.send.ensures.same) (rw c.deref_mut.ensures.value at c.send.ensures.err))

pub returns-in-Asking-clause-same : goal.returns-in-Asking-clause-same
returns-in-Asking-clause-same c =
    same-asking c.args.self.now c.in-Asking.asking c.send-in-Asking.new.self c.send-in-Asking.result c.in-Asking.is
    (rw c.deref_mut-in-Asking.ensures.value at c.send-in-Asking.ensures.same) (rw c.deref_mut-in-Asking.ensures.value at c.send-in-Asking.ensures.err)

pub returns-in-Walking-clause-holds : goal.returns-in-Walking-clause-holds
returns-in-Walking-clause-holds c view at-now pools h =
    let r = c.args.self.now in
    let b = c.in-Walking.walk in
    let held = rw c.in-Walking.is at h.state in
    let sent = c.send.ensures.holds view r.begun at-now pools (rw c.deref_mut.ensures.value (walk-asks view r.begun r.question.query b.value held)) in
    (rw c.deref_mut.ensures.value (walk-holds view r b c.send.new.self h.begun held (rw c.deref_mut.ensures.value at c.send.ensures.same) sent.0), sent.1)

pub returns-in-Asking-clause-holds : goal.returns-in-Asking-clause-holds
returns-in-Asking-clause-holds c view at-now pools h =
    let r = c.args.self.now in
    let b = c.in-Asking.asking in
    let held = rw c.in-Asking.is at h.state in
    let sent = c.send-in-Asking.ensures.holds view r.begun at-now pools (rw c.deref_mut-in-Asking.ensures.value held.holds) in
    (asking-holds view r b c.send-in-Asking.new.self h.begun held (rw c.deref_mut-in-Asking.ensures.value at c.send-in-Asking.ensures.same) sent.0, sent.1)
