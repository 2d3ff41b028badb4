use Rattle.pool_lookup.proofs.OneOpenOrder.{opens_begun, opens_order, opens_outcome, opens_out_of_memory, opens_started, opens_has}
use Rattle.pool_lookup.proofs.running_laws.a_lookup_opens_what_it_gives.Goals as goal

pub returns-clause-begun : goal.returns-clause-begun
returns-clause-begun c = λ k request servers concurrency timeout now. opens_begun k request servers concurrency timeout now

pub returns-clause-order : goal.returns-clause-order
returns-clause-order c = λ k number table l order new g. opens_order k number g.0 table l order new g.1

pub returns-clause-put : goal.returns-clause-put
returns-clause-put c = λ k denied tick number o l h. opens_outcome k denied tick number o h.0 l h.1

pub returns-clause-out_of_memory : goal.returns-clause-out_of_memory
returns-clause-out_of_memory c = λ k number now o l. opens_out_of_memory k number now o l

pub returns-clause-started : goal.returns-clause-started
returns-clause-started c = λ k now l. opens_started k now l

pub returns-clause-has : goal.returns-clause-has
returns-clause-has c = λ k l h. opens_has k l h
