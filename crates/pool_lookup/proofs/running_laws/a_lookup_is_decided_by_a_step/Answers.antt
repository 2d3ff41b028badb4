use Rattle.pool_lookup.proofs.DecidedAtItsStep.{next_moment, outcome_moment, out_of_memory_moment}
use Rattle.pool_lookup.proofs.running_laws.a_lookup_is_decided_by_a_step.Goals as goal

pub returns-clause-next : goal.returns-clause-next
returns-clause-next c = λ now l new s. next_moment s.0 now s.1 l s.2 new s.3

pub returns-clause-put : goal.returns-clause-put
returns-clause-put c = λ denied tick number o l. outcome_moment denied tick o l number

pub returns-clause-out_of_memory : goal.returns-clause-out_of_memory
returns-clause-out_of_memory c = λ number now o l. out_of_memory_moment number now o l
