use Rattle.pool_rules.proofs.QueueAfterEnd.{taken_some, taken_none, taken_empty}
use Rattle.pool_rules.proofs.retry_queue.RetryQueue.take.Goals as goal

pub returns-clause-some : goal.returns-clause-some
returns-clause-some c = λ q timeout pool ends under st.
    taken_some q timeout pool ends under c.args.self.now c.pop_allowed.new.self c.pop_allowed.result c.pop_allowed.ensures.taken c.pop_allowed.ensures.plan st

pub returns-clause-none : goal.returns-clause-none
returns-clause-none c = λ q timeout pool ends under st.
    taken_none q timeout pool ends under c.args.self.now c.pop_allowed.new.self c.pop_allowed.result c.pop_allowed.ensures.taken c.pop_allowed.ensures.plan st

pub returns-clause-empty : goal.returns-clause-empty
returns-clause-empty c = taken_empty c.args.self.now c.pop_allowed.new.self c.pop_allowed.result c.pop_allowed.ensures.taken c.pop_allowed.ensures.plan
