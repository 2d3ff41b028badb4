use Rattle.recursor_question.proofs.Words.{ReadsAt, from_cache, answerable, Walking}
use Rattle.recursor_question.proofs.ResolutionAfterStep.{follow-falls, settle-falls, settle-heeds, follow-heeds, falls-from, holds-on}
use Rattle.recursor_question.proofs.resolving.Resolution.recall.Goals as goal

pub returns-in-Walking-clause-falls : goal.returns-in-Walking-clause-falls
returns-in-Walking-clause-falls c =
    let r = c.args.self.now in
    let b = c.in-Walking.walk in
    falls-from r c.follow.new.self _ c.in-Walking.is c.follow.ensures.begun
    (follow-falls r.question.query b.value (record b { value = c.recall-came.new.self }) c.recall-came.result c.follow.new.self.state c.follow.ensures.steps
    (rw c.deref_mut.ensures.value at c.recall-came.ensures.falls))

pub returns-in-Asking-clause-falls : goal.returns-in-Asking-clause-falls
returns-in-Asking-clause-falls c =
    let r = c.args.self.now in
    let b = c.in-Asking.asking in
    falls-from r c.settle.new.self _ c.in-Asking.is c.settle.ensures.begun
    (settle-falls r.question.query b.value (record b { value = c.recall-came-in-Asking.new.self }) c.recall-came-in-Asking.result c.settle.new.self.state c.settle.ensures.state
    (rw c.deref_mut-in-Asking.ensures.value at c.recall-came-in-Asking.ensures.falls))

pub returns-in-Walking-clause-holds : goal.returns-in-Walking-clause-holds
returns-in-Walking-clause-holds c view at-now filtered cached h =
    let r = c.args.self.now in
    let reads : ReadsAt view r.begun c.args.now c.args.cache.now = record { at = at-now; since = rw at-now h.begun; holds = cached } in
    holds-on view r c.follow.new.self c.follow.ensures.begun h.begun
    (c.follow.ensures.holds view r.begun
    (c.recall-came.ensures.holds view r.begun r.question filtered reads (rw c.deref_mut.ensures.value (rw c.in-Walking.is at h.state))))

pub returns-in-Asking-clause-holds : goal.returns-in-Asking-clause-holds
returns-in-Asking-clause-holds c view at-now filtered cached h =
    let r = c.args.self.now in
    let reads : ReadsAt view r.begun c.args.now c.args.cache.now = record { at = at-now; since = rw at-now h.begun; holds = cached } in
    holds-on view r c.settle.new.self c.settle.ensures.begun h.begun
    (c.settle.ensures.holds view r.begun
    (c.recall-came-in-Asking.ensures.holds view r.begun reads (rw c.deref_mut-in-Asking.ensures.value (rw c.in-Asking.is at h.state))))

pub returns-in-Asking-clause-ended : goal.returns-in-Asking-clause-ended
returns-in-Asking-clause-ended c = c.settle.ensures.ended tt

pub returns-in-Walking-clause-heeds : goal.returns-in-Walking-clause-heeds
returns-in-Walking-clause-heeds c =
    let r = c.args.self.now in
    let b = c.in-Walking.walk in
    rw c.in-Walking.is (follow-heeds r.question.query (Walking (record b { value = c.recall-came.new.self })) (from_cache c.args.cache.now b.value.asking.lookup.query c.args.now) c.recall-came.result
    c.follow.result c.follow.new.self.state c.follow.ensures.steps c.follow.ensures.ended (rw c.deref_mut.ensures.value at c.recall-came.ensures.ends))

pub returns-in-Asking-clause-heeds : goal.returns-in-Asking-clause-heeds
returns-in-Asking-clause-heeds c =
    let r = c.args.self.now in
    let b = c.in-Asking.asking in
    rw c.in-Asking.is (settle-heeds r.question (record b { value = c.recall-came-in-Asking.new.self }) (answerable (from_cache c.args.cache.now b.value.lookup.query c.args.now)) c.recall-came-in-Asking.result
    c.settle.result c.settle.new.self.state c.settle.ensures.state c.settle.ensures.result (rw c.deref_mut-in-Asking.ensures.value at c.recall-came-in-Asking.ensures.answers))
