-- What the next step of a lookup, and the outcome of its order, leave of the lookups that are under way.
use Rattle.std.specs.Prelude.{◌≡◌, ℕ, Bool, List, Result, Ok, Err}
use Rattle.std.specs.declared.net.ip_addr.IpAddr.{IpAddr}
use Rattle.dns_core.specs.declared.errors.NoMemory.{NoMemory}
use Rattle.server_core.specs.Context.{Context}
use Rattle.server_core.specs.Servers.{Server}
use Rattle.server_core.specs.declared.orders.order.After.{After}
use Rattle.server_core.specs.declared.orders.order.Outcome.{Outcome}
use Rattle.server_core.specs.declared.orders.order.Tick.{Tick}
use Rattle.pool_rules.specs.AnswerFilter.{denied_by}
use Rattle.pool_lookup.specs.declared.giving.LookupStep.{LookupStep}
use Rattle.pool_lookup.specs.Cancelling.{table_heard}
use Rattle.pool_lookup.specs.Giving.{Gives, Halts, stepped_table}
use Rattle.pool_lookup.specs.Hearing.{after_outcome, after_out_of_memory}
use Rattle.pool_lookup.specs.Lookup.{LookupState}
use Rattle.pool_lookup.specs.Rounds.{started}
use Rattle.server_pool.specs.OpenLookups.{with_at, moved_to}
use Rattle.server_pool.specs.declared.open_lookups.open_lookup.OpenLookup.{OpenLookup}

-- ---- its next step

-- The lookup of the number n made the step, with an order of the number, if it gave one.
pub record IsStepAt (n number now : ℕ) (l : OpenLookup) (old : List (ℕ × OpenLookup)) (before : List Server) (made : LookupStep) (new : List (ℕ × OpenLookup)) (after : List Server) : Type 0 where
  pub next : LookupState
  pub gives : Gives number now before (started now l.lookup) made next
  pub lookups : new ≡ with_at n (moved_to next) old
  pub table : after ≡ stepped_table (started now l.lookup) before

-- Out of memory its round has begun, if it was due, and no order was given.
pub record IsHaltedAt (n now : ℕ) (l : OpenLookup) (old : List (ℕ × OpenLookup)) (before : List Server) (new : List (ℕ × OpenLookup)) (after : List Server) : Type 0 where
  pub lookups : new ≡ with_at n (moved_to (started now l.lookup)) old
  pub table : Halts (started now l.lookup) before after

-- ---- an outcome

-- what the outcome of the order of the number leaves of its lookup, and of the servers
abbrev pub put_lookup : (IpAddr → Bool) → Tick → ℕ → Outcome → Result After NoMemory → LookupState → LookupState
put_lookup denied tick number outcome (Ok after) l = after_outcome denied tick number outcome l
put_lookup denied tick number outcome (Err error) l = after_out_of_memory number tick.now outcome l

abbrev pub put_table : Tick → ℕ → Outcome → Result After NoMemory → LookupState → List Server → List Server
put_table tick number outcome (Ok after) l table = table_heard tick number outcome l table
put_table tick number outcome (Err error) l table = table

-- the lookups where the one of the number took the outcome of an order
abbrev pub with_put : Context → Tick → ℕ → Outcome → Result After NoMemory → ℕ → OpenLookup → List (ℕ × OpenLookup) → List (ℕ × OpenLookup)
with_put cx tick number outcome result n l lookups = with_at n (moved_to (put_lookup (denied_by cx.answer_address_filter) tick number outcome result l.lookup)) lookups
