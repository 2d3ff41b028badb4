use Rattle.pool_lookup.proofs.LookupHoldsOn.{holds_begun, holds_started, holds_outcome, holds_out_of_memory}
use Rattle.pool_lookup.proofs.HoldsWhereItGives.{holds_next}
use Rattle.pool_lookup.proofs.lookup_laws.what_holds_stays.Goals as goal

pub returns-clause-begun : goal.returns-clause-begun
returns-clause-begun c = λ denied request servers concurrency timeout now some. holds_begun denied request servers concurrency timeout now some

pub returns-clause-started : goal.returns-clause-started
returns-clause-started c = λ denied now l h. holds_started denied now l h

pub returns-clause-next : goal.returns-clause-next
returns-clause-next c = λ denied number now table l new made g h. holds_next denied number now table l new made g h

pub returns-clause-put : goal.returns-clause-put
returns-clause-put c = λ denied tick number o l h. holds_outcome denied tick number o l h

pub returns-clause-out_of_memory : goal.returns-clause-out_of_memory
returns-clause-out_of_memory c = λ denied number now o l asks h. holds_out_of_memory denied number now o l asks h
