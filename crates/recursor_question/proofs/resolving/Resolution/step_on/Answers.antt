use Rattle.recursor_question.proofs.resolving.Resolution.step_on.Goals as goal

pub returns-in-Reply-clause-holds : goal.returns-in-Reply-clause-holds
returns-in-Reply-clause-holds c view by pools h =
    let both = c.take_reply.ensures.holds view h in
    record { holds = both.0; tables = pools; gives = both.1 }

pub returns-in-Reply-clause-goes : goal.returns-in-Reply-clause-goes
returns-in-Reply-clause-goes c = c.take_reply.ensures.goes c.args.pools.now
