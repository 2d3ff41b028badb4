-- The orders that were given and have not ended, by their numbers: which stay after a step or an outcome.
use Rattle.std.specs.Prelude.{ℕ, List, if◌then◌else◌, Result, Ok, Err}
use Rattle.std.specs.BTreeMap.{is_at}
use Rattle.std.specs.Map.{remove_entry}
use Rattle.std.specs.Ordering.{nat_cmp}
use Rattle.dns_core.specs.declared.errors.NoMemory.{NoMemory}
use Rattle.pool_lookup.specs.declared.giving.LookupStep.{LookupStep}
use Rattle.pool_lookup.specs.declared.giving.LookupStep.TheVariants as step
use Rattle.pool_lookup.specs.Asked.{has_order}
use Rattle.pool_lookup.specs.Lookup.{LookupState}

-- the order does not stand under its number any more
abbrev pub without_order : ℕ → List (ℕ × ℕ) → List (ℕ × ℕ)
without_order number orders = remove_entry (is_at (nat_cmp number)) orders

-- whether an order was given
abbrev pub orders_by : {X : Type 0} → LookupStep → X → X → X
orders_by (step.Order order) ordered same = ordered
orders_by step.Waiting ordered same = same
orders_by (step.Done answer) ordered same = same

abbrev pub given_by : {X : Type 0} → Result LookupStep NoMemory → X → X → X
given_by (Ok made) ordered same = orders_by made ordered same
given_by (Err error) ordered same = same

-- an order that is not open any more is forgotten
abbrev pub orders_left : ℕ → LookupState → List (ℕ × ℕ) → List (ℕ × ℕ)
orders_left number next orders = if has_order number next then orders else without_order number orders
