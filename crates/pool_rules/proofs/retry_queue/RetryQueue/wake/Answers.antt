use Rattle.pool_rules.proofs.QueueAfterEnd.{woken}
use Rattle.pool_rules.proofs.retry_queue.RetryQueue.wake.Goals as goal

pub returns-clause-stands : goal.returns-clause-stands
returns-clause-stands c = λ q timeout pool ends st.
    woken q timeout pool ends c.args.self.now c.ask_again.new.self c.requires.few c.requires.empty c.ask_again.ensures st
