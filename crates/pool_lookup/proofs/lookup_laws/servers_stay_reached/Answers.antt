use Rattle.pool_lookup.proofs.ReachedAsBefore.{changed_configs, stepped_configs, halted_configs, heard_configs, are_reached, more_reached}
use Rattle.pool_lookup.proofs.lookup_laws.servers_stay_reached.Goals as goal

pub returns-clause-changed : goal.returns-clause-changed
returns-clause-changed c = λ f number table same. changed_configs f same number table

pub returns-clause-next : goal.returns-clause-next
returns-clause-next c = λ l table. stepped_configs l table

pub returns-clause-halted : goal.returns-clause-halted
returns-clause-halted c = λ l table. halted_configs l table

pub returns-clause-put : goal.returns-clause-put
returns-clause-put c = λ tick number o l table. heard_configs tick number o l table

pub returns-clause-reached : goal.returns-clause-reached
returns-clause-reached c = λ old new l m same at all. are_reached old new l m same at all

pub returns-clause-more : goal.returns-clause-more
returns-clause-more c = λ table more l all. more_reached table more l all
