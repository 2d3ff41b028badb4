use Rattle.pool_rules.proofs.QueueAfterEnd.{stands_heard}
use Rattle.pool_rules.proofs.retry_queue.RetryQueue.hear.Goals as goal

pub returns-clause-stands : goal.returns-clause-stands
returns-clause-stands c = λ timeout start now pool ends under st.
    stands_heard c.args.query.now timeout pool ends under c.args.candidate c.args.outcome c.args.self.now st start now c.hear_end.new.self c.hear_end.result c.hear_end.ensures.hearing c.hear_end.ensures.plan
