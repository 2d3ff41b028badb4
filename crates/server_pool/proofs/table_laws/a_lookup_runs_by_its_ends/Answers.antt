use Rattle.std.proofs.Common.{ℕ, Result, Ok, Err}
use Rattle.dns_core.specs.declared.errors.NoMemory.{NoMemory}
use Rattle.server_core.specs.declared.orders.order.After.{After}
use Rattle.server_core.specs.declared.orders.order.Outcome.{Outcome}
use Rattle.server_core.specs.declared.orders.order.Tick.{Tick}
use Rattle.server_pool.specs.declared.open_lookups.open_lookup.OpenLookup.{OpenLookup}
use Rattle.server_pool.specs.Shared.{Shared}
use Rattle.server_pool.specs.Stepping.{HasPut}
use Rattle.server_pool.specs.TableLaws.{RunsByOutcome}
use Rattle.server_pool.proofs.LookupsRun.{next_runs, put_runs, out_runs}
use Rattle.server_pool.proofs.table_laws.a_lookup_runs_by_its_ends.Goals as goal

runs : (number n : ℕ) (l : OpenLookup) (o : Outcome) (tick : Tick) (old new : Shared) (r : Result After NoMemory) → HasPut number n l o tick old r new → RunsByOutcome number n l o tick old r new
runs number n l o tick old new (Ok did) p heard by = put_runs heard number n l o tick old new by.there by.holds did p
runs number n l o tick old new (Err e) p heard by = out_runs heard number n l o tick old new by.there by.holds e p

pub returns-clause-next : goal.returns-clause-next
returns-clause-next c = λ denied n now l old new told s heard by. next_runs denied heard n now l old new told by.there s by.holds

pub returns-clause-put : goal.returns-clause-put
returns-clause-put c = λ number n l o tick old new r p. runs number n l o tick old new r p
