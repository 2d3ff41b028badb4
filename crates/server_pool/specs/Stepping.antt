-- What the next step of a lookup, and the outcome of an order, leave.
use Rattle.std.specs.Prelude.{◌≡◌, ℕ, ◌+◌, false, None, Result, Ok, Err, MatchResult}
use Rattle.std.specs.BTreeMap.{insert_entry}
use Rattle.std.specs.Ordering.{nat_cmp}
use Rattle.dns_core.specs.declared.errors.NoMemory.{NoMemory}
use Rattle.server_core.specs.declared.orders.order.After.{After}
use Rattle.server_core.specs.declared.orders.order.Outcome.{Outcome}
use Rattle.server_core.specs.declared.orders.order.Tick.{Tick}
use Rattle.pool_lookup.specs.declared.giving.LookupStep.{LookupStep}
use Rattle.pool_lookup.specs.declared.giving.LookupStep.TheVariants as step
use Rattle.pool_lookup.specs.Asked.{opens, has_order}
use Rattle.pool_lookup.specs.Hearing.{done_by, RunsOut}
use Rattle.server_pool.specs.OpenLookups.{with_at, moved_to}
use Rattle.server_pool.specs.LookupOrders.{orders_by, orders_left}
use Rattle.server_pool.specs.LookupSteps.{IsStepAt, IsHaltedAt, put_lookup, put_table}
use Rattle.server_pool.specs.declared.open_lookups.open_lookup.OpenLookup.{OpenLookup}
use Rattle.server_pool.specs.Shared.{Shared, lookup_of, denied_in}
use Rattle.server_pool.specs.declared.pool_shared.PoolStep.{PoolStep}
use Rattle.server_pool.specs.declared.pool_shared.PoolStep.TheVariants as gives

-- ---- its next step

-- what the step tells as one of the pool: an order has the number
abbrev pub told_as : ℕ → LookupStep → PoolStep
told_as number (step.Order order) = gives.Order number order
told_as number step.Waiting = gives.Waiting
told_as number (step.Done answer) = gives.Done answer

abbrev pub told_by : ℕ → Result LookupStep NoMemory → Result PoolStep NoMemory
told_by number (Ok made) = Ok (told_as number made)
told_by number (Err error) = Err error

-- nothing is other but the lookups, the orders that were given, and connections and delays of servers
abbrev pub with_rest : Shared → Shared → Shared
with_rest old new = record old { table = new.table; lookups = new.lookups; orders = new.orders; given = new.given }

-- The lookup of the number made its next step. An order has the next number, under which its lookup stands.
pub record HasStepped (n now : ℕ) (l : OpenLookup) (old : Shared) (told : PoolStep) (new : Shared) : Type 0 where
  pub made : LookupStep
  pub is : told ≡ told_as (old.given + 1) made
  pub step : IsStepAt n (old.given + 1) now l old.lookups old.table made new.lookups new.table
  pub orders : new.orders ≡ orders_by made (insert_entry nat_cmp old.orders (old.given + 1) n) old.orders
  pub given : new.given ≡ orders_by made (old.given + 1) old.given
  pub rest : new ≡ with_rest old new
  -- the next number is new
  pub unused : lookup_of old (old.given + 1) ≡ None
  pub idle : opens (old.given + 1) l.lookup ≡ 0

-- Memory ran out for it.
pub record HasHalted (n now : ℕ) (l : OpenLookup) (old new : Shared) : Type 0 where
  pub halted : IsHaltedAt n now l old.lookups old.table new.lookups new.table
  pub rest : new ≡ record old { table = new.table; lookups = new.lookups }

-- ---- an outcome

-- only the lookup of the order has changed, and what the servers record
abbrev pub after_put : ℕ → ℕ → OpenLookup → Outcome → Tick → Result After NoMemory → Shared → Shared
after_put number n l outcome tick result old =
    let next = put_lookup (denied_in old) tick number outcome result l.lookup in
    record old { table = put_table tick number outcome result l.lookup old.table; lookups = with_at n (moved_to next) old.lookups; orders = orders_left number next old.orders }

-- The lookup of the number n took the outcome of its order. Only for a message can memory run out.
pub record HasPut (number n : ℕ) (l : OpenLookup) (outcome : Outcome) (tick : Tick) (old : Shared) (result : Result After NoMemory) (new : Shared) : Type 0 where
  pub did : MatchResult result (λ after. after ≡ done_by tick.patience number outcome l.lookup) (λ error. RunsOut number outcome l.lookup)
  pub is : new ≡ after_put number n l outcome tick result old
  pub forgets : has_order number (put_lookup (denied_in old) tick number outcome result l.lookup) ≡ false → lookup_of new number ≡ None
