-- What the laws of the table of lookups say of one of them.
use Rattle.std.specs.Prelude.{◌≡◌, ℕ, Bool, List, Some, Result, Ok, Err}
use Rattle.std.specs.declared.net.ip_addr.IpAddr.{IpAddr}
use Rattle.dns_core.specs.declared.errors.NoMemory.{NoMemory}
use Rattle.server_core.specs.declared.orders.order.After.{After}
use Rattle.server_core.specs.declared.orders.order.Order.{Order}
use Rattle.server_core.specs.declared.orders.order.Outcome.{Outcome}
use Rattle.server_core.specs.declared.orders.order.Tick.{Tick}
use Rattle.pool_lookup.specs.Holds.{HeardEnd, HoldsBy}
use Rattle.pool_lookup.specs.Running.{IsGivenFor, heard_after, heard_out}
use Rattle.server_pool.specs.declared.open_lookups.open_lookup.OpenLookup.{OpenLookup}
use Rattle.server_pool.specs.Orders.{IsOpenOrder}
use Rattle.server_pool.specs.Running.{RunsOn}
use Rattle.server_pool.specs.Shared.{Shared, lookup_at, denied_in}

-- The lookup of the number is this one, and stands by these ends.
pub record StandsBy (denied : IpAddr → Bool) (heard : List HeardEnd) (n : ℕ) (l : OpenLookup) (shared : Shared) : Type 0 where
  pub there : lookup_at shared n ≡ Some l
  pub holds : HoldsBy denied heard l.lookup

-- Whatever ends it stood by, after a step of the moment it stands by these.
abbrev pub RunsBy : (IpAddr → Bool) → (List HeardEnd → List HeardEnd) → ℕ → ℕ → OpenLookup → Shared → Shared → Type 0
RunsBy denied after now n l old new = (heard : List HeardEnd) → StandsBy denied heard n l old → RunsOn denied (after heard) now n l new

-- the ends that were heard once the outcome of an order was, also where memory ran out for it
abbrev pub ends_after : Tick → ℕ → Outcome → OpenLookup → Result After NoMemory → List HeardEnd → List HeardEnd
ends_after tick number outcome l (Ok did) heard = heard_after tick.patience number outcome heard l.lookup
ends_after tick number outcome l (Err error) heard = heard_out number outcome heard l.lookup

-- so it is with the outcome of an order
abbrev pub RunsByOutcome : ℕ → ℕ → OpenLookup → Outcome → Tick → Shared → Result After NoMemory → Shared → Type 0
RunsByOutcome number n l outcome tick old result new = RunsBy (denied_in old) (ends_after tick number outcome l result) tick.now n l old new

-- Whatever ends it stood by, the order that it gave is open at it, and goes to a server of its pool.
abbrev pub GoesToServer : ℕ → ℕ → OpenLookup → Order → Shared → Shared → Type 0
GoesToServer number n l order old new = (denied : IpAddr → Bool) (heard : List HeardEnd) → StandsBy denied heard n l old
    → (next : OpenLookup) × IsOpenOrder number n next new × IsGivenFor old.table number order next.lookup
