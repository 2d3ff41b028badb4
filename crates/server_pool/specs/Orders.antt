-- The orders that were given and have not ended: which of them are open, and which were withdrawn.
use Rattle.std.specs.Prelude.{◌≡◌, ℕ, Bool, true, find, if◌then◌else◌, Option, Some, None, option_map, is_none}
use Rattle.pool_lookup.specs.Asked.{has_order}
use Rattle.server_pool.specs.OpenLookups.{is_open_in}
use Rattle.server_pool.specs.LookupOrders.{without_order}
use Rattle.server_pool.specs.declared.open_lookups.open_lookup.OpenLookup.{OpenLookup}
use Rattle.server_pool.specs.Shared.{Shared, lookup_at, lookup_of}

-- The order of the number is open at the lookup of the number n, which is this one.
pub record IsOpenOrder (number n : ℕ) (l : OpenLookup) (shared : Shared) : Type 0 where
  pub order : lookup_of shared number ≡ Some n
  pub there : lookup_at shared n ≡ Some l
  pub waits : has_order number l.lookup ≡ true

-- the lookup at which the order of the number is open, if it is open
abbrev pub open_at : ℕ → Shared → Option ℕ
open_at number shared = elim (lookup_of shared number) [ None ↦ None | Some n ↦ if is_open_in number shared.lookups n then Some n else None ]

-- it is not open: its lookup was left, or is decided
abbrev pub is_withdrawn : Shared → ℕ → Bool
is_withdrawn shared number = is_none (open_at number shared)

-- the first order that stands under its number and was withdrawn
abbrev pub first_withdrawn : Shared → Option ℕ
first_withdrawn shared = option_map (λ e. e.0) (find (λ e. is_withdrawn shared e.0) shared.orders)

-- an order that was withdrawn is told once
abbrev pub after_withdrawn : Option ℕ → Shared → Shared
after_withdrawn None shared = shared
after_withdrawn (Some number) shared = record shared { orders = without_order number shared.orders }
