use Rattle.pool_lookup.proofs.LookupHoldsOn.{outcome_by, out_of_memory_by}
use Rattle.pool_lookup.proofs.HoldsWhereItGives.{next_by}
use Rattle.pool_lookup.proofs.running_laws.a_lookup_stands_by_its_ends.Goals as goal

pub returns-clause-next : goal.returns-clause-next
returns-clause-next c = λ denied heard now l new s h. next_by denied heard s.0 now s.1 l s.2 new s.3 h

pub returns-clause-put : goal.returns-clause-put
returns-clause-put c = λ denied heard tick number o l h. outcome_by denied tick number o heard l h

pub returns-clause-out_of_memory : goal.returns-clause-out_of_memory
returns-clause-out_of_memory c = λ denied heard number now o l asks h. out_of_memory_by denied number now o heard l asks h
