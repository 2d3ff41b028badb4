-- What is promised of each lookup, whatever its servers answer.
use Rattle.std.specs.Prelude.{◌≡◌, ℕ, ◌⊎◌, Bool, List, IsTrue}
use Rattle.std.specs.declared.net.ip_addr.IpAddr.{IpAddr}
use Rattle.resolution.specs.Lookups.{Answered}
use Rattle.pool_lookup.specs.Holds.{HeardEnd, IsRun, entries_of, out_of_memory}
use Rattle.pool_lookup.specs.Lookup.{LookupState}
use Rattle.pool_lookup.specs.declared.lookup.State.TheVariants.{Decided}
use Rattle.pool_lookup.specs.Promises.{IsFair}
use Rattle.server_pool.specs.declared.open_lookups.open_lookup.OpenLookup.{OpenLookup}
use Rattle.server_pool.specs.Orders.{IsOpenOrder}
use Rattle.server_pool.specs.Shared.{Shared}
use Rattle.server_pool.specs.declared.pool_shared.PoolStep.{PoolStep}
use Rattle.server_pool.specs.declared.pool_shared.PoolStep.TheVariants as gives

-- It keeps the bounds by ends that it heard, whose entries are those that closed its attempts.
pub record IsFairly (l : LookupState) : Type 0 where
  pub heard : List HeardEnd
  pub entries : l.closed_by ≡ entries_of heard
  pub fair : IsFair heard l

-- By ends that it heard, whose entries closed its attempts, a step of the moment answered it so; the addresses that are denied were taken out.
pub record IsByEnds (denied : IpAddr → Bool) (answer : Answered) (at : ℕ) (l : LookupState) : Type 0 where
  pub heard : List HeardEnd
  pub entries : l.closed_by ≡ entries_of heard
  pub run : IsRun denied heard answer at l

-- It is decided so since some moment: by its ends, or memory ran out.
pub record IsAnswered (denied : IpAddr → Bool) (answer : Answered) (l : LookupState) : Type 0 where
  pub at : ℕ
  pub state : l.state ≡ Decided answer at
  pub by : IsByEnds denied answer at l ⊎ IsTrue (out_of_memory answer)

abbrev pub IfDone : (IpAddr → Bool) → LookupState → PoolStep → Type 0
IfDone denied l (gives.Order number order) = Unit {0}
IfDone denied l gives.Waiting = Unit {0}
IfDone denied l (gives.Done answer) = IsAnswered denied answer l

-- a lookup waits only where one of its orders is open
abbrev pub IfWaiting : ℕ → Shared → PoolStep → Type 0
IfWaiting n shared (gives.Order number order) = Unit {0}
IfWaiting n shared gives.Waiting = (number : ℕ) × (l : OpenLookup) × IsOpenOrder number n l shared
IfWaiting n shared (gives.Done answer) = Unit {0}
