use Rattle.pool_rules.proofs.QueueAfterEnd.{room_to_hear}
use Rattle.pool_rules.proofs.retry_queue_laws.an_end_can_be_heard.Goals as goal

pub returns : goal.returns
returns c = λ q timeout pool ends candidate under p st places. room_to_hear q timeout pool ends candidate under p st places
