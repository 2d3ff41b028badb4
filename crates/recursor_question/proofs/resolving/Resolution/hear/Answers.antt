use Rattle.recursor_question.proofs.Words.{verdict_heard, Walking}
use Rattle.recursor_question.proofs.ResolutionAfterStep.{follow-falls, follow-hears, falls-from, holds-on}
use Rattle.recursor_question.proofs.resolving.Resolution.hear.Goals as goal

pub returns-in-Walking-clause-falls : goal.returns-in-Walking-clause-falls
returns-in-Walking-clause-falls c =
    let r = c.args.self.now in
    let b = c.in-Walking.walk in
    falls-from r c.follow.new.self _ c.in-Walking.is c.follow.ensures.begun
    (follow-falls r.question.query b.value (record b { value = c.hear-came.new.self }) c.hear-came.result c.follow.new.self.state c.follow.ensures.steps
    (rw c.deref_mut.ensures.value at c.hear-came.ensures.falls))

pub returns-in-Walking-clause-holds : goal.returns-in-Walking-clause-holds
returns-in-Walking-clause-holds c view filtered h =
    let r = c.args.self.now in
    holds-on view r c.follow.new.self c.follow.ensures.begun h.begun
    (c.follow.ensures.holds view r.begun
    (c.hear-came.ensures.holds view r.begun r.question filtered (rw c.deref_mut.ensures.value (rw c.in-Walking.is at h.state))))

pub returns-in-Asking-clause-holds : goal.returns-in-Asking-clause-holds
returns-in-Asking-clause-holds c view filtered h =
    let r = c.args.self.now in
    holds-on view r c.settle.new.self c.settle.ensures.begun h.begun
    (c.settle.ensures.holds view r.begun
    (c.hear-came-in-Asking.ensures.holds view r.begun (rw c.deref_mut-in-Asking.ensures.value (rw c.in-Asking.is at h.state))))

pub returns-in-Asking-clause-ended : goal.returns-in-Asking-clause-ended
returns-in-Asking-clause-ended c = c.settle.ensures.ended tt

pub returns-in-Walking-clause-hears : goal.returns-in-Walking-clause-hears
returns-in-Walking-clause-hears c =
    let r = c.args.self.now in
    let b = c.in-Walking.walk in
    rw c.in-Walking.is (follow-hears r.question.query (Walking (record b { value = c.hear-came.new.self })) (verdict_heard b.value) c.hear-came.result c.follow.result c.follow.new.self.state
    c.follow.ensures.steps c.follow.ensures.ended (rw c.deref_mut.ensures.value at c.hear-came.ensures.ends))

pub returns-in-Asking-clause-hears : goal.returns-in-Asking-clause-hears
returns-in-Asking-clause-hears c = rw c.in-Asking.is (c.settle.ensures.done c.hear-came-in-Asking.ensures.answers)
