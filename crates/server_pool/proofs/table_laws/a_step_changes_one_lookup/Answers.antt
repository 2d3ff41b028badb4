use Rattle.server_pool.proofs.LookupsRun.{next_rest, put_rest}
use Rattle.server_pool.proofs.table_laws.a_step_changes_one_lookup.Goals as goal

pub returns-clause-next : goal.returns-clause-next
returns-clause-next c = λ n now l old new told s. next_rest n now l old new told s

pub returns-clause-put : goal.returns-clause-put
returns-clause-put c = λ number n l o tick old new result order p. put_rest number n l o tick old new result order p
