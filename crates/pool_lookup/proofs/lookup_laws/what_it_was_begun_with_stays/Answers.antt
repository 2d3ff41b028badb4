use Rattle.pool_lookup.proofs.BegunStays.{round_same, started_same, next_same, outcome_same, out_of_memory_same}
use Rattle.pool_lookup.proofs.lookup_laws.what_it_was_begun_with_stays.Goals as goal

pub returns-clause-begun : goal.returns-clause-begun
returns-clause-begun c = λ now l. round_same now l

pub returns-clause-started : goal.returns-clause-started
returns-clause-started c = λ now l. started_same now l

pub returns-clause-next : goal.returns-clause-next
returns-clause-next c = λ number now table l new made g. next_same number now table l new made g

pub returns-clause-put : goal.returns-clause-put
returns-clause-put c = λ denied tick number o l. outcome_same denied tick number o l

pub returns-clause-out_of_memory : goal.returns-clause-out_of_memory
returns-clause-out_of_memory c = λ number now o l. out_of_memory_same number now o l
