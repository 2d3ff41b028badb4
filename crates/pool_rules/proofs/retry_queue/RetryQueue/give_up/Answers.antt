use Rattle.pool_rules.proofs.QueueAfterEnd.{all_spent}
use Rattle.pool_rules.proofs.retry_queue.RetryQueue.give_up.Goals as goal

pub returns-clause-spent : goal.returns-clause-spent
returns-clause-spent c = λ q timeout start now pool ends st.
    all_spent q timeout start now pool ends c.args.self.now c.take_kept.result c.requires.waiting c.requires.awake c.take_kept.ensures.kept st
