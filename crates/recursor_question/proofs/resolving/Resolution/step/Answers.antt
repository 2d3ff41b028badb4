use Rattle.recursor_question.proofs.Words.{◌+◌, ◌-◌, ◌*◌, length, want_of}
use Rattle.recursor_question.proofs.ResolutionAfterStep.{steps-on, walk-holds, asking-holds}
use Rattle.recursor_walk.proofs.WalkGoesOn.{walk-asks}
use Rattle.recursor_question.proofs.resolving.Resolution.step.Goals as goal

pub returns-in-Walking-clause-falls : goal.returns-in-Walking-clause-falls
returns-in-Walking-clause-falls c =
    let w = c.in-Walking.walk.value in
    rw (c.in-Walking.is, c.deref_mut.ensures.value) (steps-on c.step.result (10 + (length w.name.labels - w.labels) * 8) (want_of w.asking.lookup.ask) (want_of c.step.new.self.lookup.ask) (rw c.in-Walking.is at c.requires) c.step.ensures.wants)

pub returns-in-Asking-clause-falls : goal.returns-in-Asking-clause-falls
returns-in-Asking-clause-falls c =
    let a = c.in-Asking.asking.value in
    rw c.in-Asking.is (steps-on c.step-in-Asking.result 2 (want_of a.lookup.ask) (want_of c.step-in-Asking.new.self.lookup.ask) (rw c.in-Asking.is at c.requires) c.step-in-Asking.ensures.wants)

pub returns-in-Walking-clause-waits : goal.returns-in-Walking-clause-waits
returns-in-Walking-clause-waits c = c.step.ensures.waits

pub returns-in-Asking-clause-waits : goal.returns-in-Asking-clause-waits
returns-in-Asking-clause-waits c = c.step-in-Asking.ensures.waits

pub returns-in-Walking-clause-holds : goal.returns-in-Walking-clause-holds
returns-in-Walking-clause-holds c view step pools h =
    let r = c.args.self.now in
    let b = c.in-Walking.walk in
    let held = rw c.in-Walking.is at h.state in
    let stepped = c.step.ensures.holds view step pools (rw c.deref_mut.ensures.value (walk-asks view r.begun r.question.query b.value held)) in
    (rw c.deref_mut.ensures.value (walk-holds view r b c.step.new.self h.begun held (rw c.deref_mut.ensures.value at c.step.ensures.same) stepped.0), stepped.1)

pub returns-in-Asking-clause-holds : goal.returns-in-Asking-clause-holds
returns-in-Asking-clause-holds c view step pools h =
    let r = c.args.self.now in
    let b = c.in-Asking.asking in
    let held = rw c.in-Asking.is at h.state in
    let stepped = c.step-in-Asking.ensures.holds view step pools (rw c.deref_mut-in-Asking.ensures.value held.holds) in
    (asking-holds view r b c.step-in-Asking.new.self h.begun held (rw c.deref_mut-in-Asking.ensures.value at c.step-in-Asking.ensures.same) stepped.0, stepped.1)
