use Rattle.pool_rules.specs.RetryQueue.{rules_of, class_of_sent}
use Rattle.pool_rules.proofs.QueueAfterEnd.{same_self}
use Rattle.pool_rules.proofs.LookupEnds.{pool_late}
use Rattle.pool_rules.proofs.retry_queue_laws.a_deadline_ends_a_lookup.Goals as goal

pub returns : goal.returns
returns c = λ q timeout start now pool ends under p st reached some.
    pool_late (rules_of timeout) (class_of_sent q) same_self pool ends under p.waiting p.busy p.udp_off p.kept p.sleeps start now reached some st
