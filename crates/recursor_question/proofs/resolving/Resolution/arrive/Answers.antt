use Rattle.recursor_question.proofs.resolving.Resolution.arrive.Goals as goal

pub returns-clause-holds : goal.returns-clause-holds
returns-clause-holds c view t0 h =
    let there = rw (← c.replace.ensures.value, c.in-Walking.is) at h in
    rw c.in_ok-in_box.ensures (rw c.in_ok-query.ensures at c.into_asking-asking.ensures.holds view t0 (rw c.into_inner.ensures there))
