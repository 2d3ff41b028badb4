use Rattle.walk_tables.proofs.lookup.Lookup.step.Goals as goal

pub returns-in_err-number-clause-holds : goal.returns-in_err-number-clause-holds
returns-in_err-number-clause-holds c view step pools h = (record { above = h.above; ask = tt }, c.next.ensures.holds view step pools)

pub returns-in-Order-clause-holds : goal.returns-in-Order-clause-holds
returns-in-Order-clause-holds c view step pools h = (record { above = h.above; ask = tt }, c.next.ensures.holds view step pools)

pub returns-in-Order-clause-goes : goal.returns-in-Order-clause-goes
returns-in-Order-clause-goes c view step pools = rw c.in-Order.is at c.in_ok-number.ensures.goes view step pools

pub returns-in-Waiting-clause-holds : goal.returns-in-Waiting-clause-holds
returns-in-Waiting-clause-holds c view step pools h = (record { above = h.above; ask = tt }, c.next.ensures.holds view step pools)

pub returns-in_err-answer-in-Done-clause-holds : goal.returns-in_err-answer-in-Done-clause-holds
returns-in_err-answer-in-Done-clause-holds c view step pools h = (record { above = h.above; ask = tt }, c.answer.ensures.holds view (c.next.ensures.holds view step pools))

pub returns-in-Some-clause-holds : goal.returns-in-Some-clause-holds
returns-in-Some-clause-holds c view step pools h =
    let stepped = c.next.ensures.holds view step pools in
    let came = rw c.in-Some.is at c.in_ok-answer-in-Done.ensures.answer view stepped in
    let same = c.leave.ensures.same in
    (record { above = rw same.0 h.above; ask = rw (same.0, same.1) came }, c.leave.ensures.pools view (c.answer.ensures.holds view stepped))
