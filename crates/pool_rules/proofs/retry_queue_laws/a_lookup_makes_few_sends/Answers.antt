use Rattle.pool_rules.specs.RetryQueue.{rules_of, class_of_sent}
use Rattle.pool_rules.proofs.QueueAfterEnd.{same_self}
use Rattle.pool_rules.proofs.LookupEnds.{is_bounded, few_sends}
use Rattle.pool_rules.proofs.retry_queue_laws.a_lookup_makes_few_sends.Goals as goal

pub returns-clause-each : goal.returns-clause-each
returns-clause-each c = λ q timeout pool ends under p st.
    is_bounded (rules_of timeout) (class_of_sent q) same_self pool ends under p.waiting p.busy p.udp_off p.kept p.sleeps st

pub returns-clause-all : goal.returns-clause-all
returns-clause-all c = λ q timeout pool ends under p st.
    few_sends (rules_of timeout) (class_of_sent q) same_self pool ends under p.waiting p.busy p.udp_off p.kept p.sleeps st
