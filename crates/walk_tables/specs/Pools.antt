-- The servers that were met, and the lookups that are under way at pools of them.
use Rattle.std.specs.Prelude.{◌≡◌, ◌≢◌, ℕ, ◌+◌, ◌≤◌, ◌<◌, ◌++◌, nat_lt, if◌then◌else◌, Bool, true, not, ◌==◌, List, length, option_map, IsSome, option_and_then, Option, Some, None, Result, Ok, Err}
use Rattle.std.specs.Ordering.{nat_cmp}
use Rattle.std.specs.declared.net.ip_addr.IpAddr.{IpAddr}
use Rattle.dns_core.specs.Name.{DomainName}
use Rattle.dns_core.specs.declared.errors.NoMemory.{NoMemory}
use Rattle.dns_core.specs.declared.message.Query.{Query}
use Rattle.server_core.specs.Servers.{Server}
use Rattle.server_core.specs.declared.orders.order.After.{After}
use Rattle.server_core.specs.declared.orders.order.SentBy.{SentBy}
use Rattle.server_core.specs.declared.orders.order.Tick.{Tick}
use Rattle.server_core.specs.declared.orders.order.Outcome.{Outcome}
use Rattle.order_carrier.specs.Fits.{GoesToServer}
use Rattle.server_pool.specs.OpenLookups.{is_last, after_leave, closed_by}
use Rattle.server_pool.specs.Orders.{open_at}
use Rattle.server_pool.specs.Shared.{lookup_at}
use Rattle.recursor_types.specs.declared.policy.Policy.{Policy}
use Rattle.walk_lookup.specs.LogView.{LogView}
use Rattle.walk_lookup.specs.Asking.{context_of}
use Rattle.walk_lookup.specs.declared.lookup_result.LookupResult.{LookupResult}
use Rattle.walk_lookup.specs.declared.pending_lookup.OpenOrder.{OpenOrder}
use Rattle.walk_lookup.specs.declared.pending_lookup.PendingLookup.{PendingLookup}
use Rattle.walk_tables.specs.declared.pools.PoolsStep.{PoolsStep}
use Rattle.walk_tables.specs.declared.pools.Pools.{Pools}
use Rattle.walk_lookup.specs.PendingLookup.{AreNumbered, MayTakeBy, PendingHolds, config_at, given_after, noted, server_at}
use Rattle.std.specs.BTreeMap as tree
use Rattle.std.specs.contracts.net.ip_addr.IpAddrOrd.TheImpl as address
use Rattle.walk_tables.specs.declared.pools.PoolsStep.TheVariants as stepped

-- ---- servers

-- the number of the server of an address
abbrev pub number_of : Pools → IpAddr → Option ℕ
number_of pools ip = tree.get address.ghosts.cmp pools.numbers ip

-- Each address that has a number is that of its server. Servers are asked and begin as the policy says, whose timeout is not zero.
pub record ServersHold (policy : Policy) (pools : Pools) : Type 0 where
  pub numbers : (ip : IpAddr) (n : ℕ) → number_of pools ip ≡ Some n → config_at pools.shared.table n ≡ Some (server_at ip)
  pub context : pools.shared.context ≡ context_of policy
  pub delays : pools.first_delays ≡ policy.first_delays
  pub lasts : 0 < policy.timeout

-- ---- lookups

-- what is sought by the lookup of a number
abbrev pub sought_at : Pools → ℕ → Option PendingLookup
sought_at pools n = tree.get nat_cmp pools.sought n

-- what it came to, where that is known
abbrev pub came_at : Pools → ℕ → Option LookupResult
came_at pools n = option_and_then (λ (s : PendingLookup). s.came) (sought_at pools n)

-- The servers and the lookups hold.
pub record PoolsHold (view : LogView) (pools : Pools) : Type 0 where
  pub servers : ServersHold view.policy pools
  pub numbered : AreNumbered pools.shared
  pub lookups : (n : ℕ) (pending : PendingLookup) → sought_at pools n ≡ Some pending → PendingHolds view pools.shared n pending

-- ---- outcomes

-- ---- steps

-- Servers came behind those that were there, and nothing else has changed.
pub record IsGrown (old new : Pools) : Type 0 where
  pub more : List Server
  pub table : new.shared.table ≡ old.shared.table ++ more
  pub context : new.shared.context ≡ old.shared.context
  pub delays : new.first_delays ≡ old.first_delays
  pub lookups : new.shared.lookups ≡ old.shared.lookups
  pub orders : new.shared.orders ≡ old.shared.orders
  pub sent : new.shared.sent ≡ old.shared.sent
  pub pools : new.shared.pools ≡ old.shared.pools
  pub given : new.shared.given ≡ old.shared.given
  pub sought : new.sought ≡ old.sought

-- nothing but what is sought has changed
pub record SamePools (old new : Pools) : Type 0 where
  pub shared : new.shared ≡ old.shared
  pub numbers : new.numbers ≡ old.numbers
  pub delays : new.first_delays ≡ old.first_delays

-- Only what is sought by the lookup of the number has changed, which is nothing now.
pub record HasForgotten (n : ℕ) (old new : Pools) : Type 0 where
  pub same : SamePools old new
  pub none : sought_at new n ≡ None
  pub others : (m : ℕ) → m ≢ n → sought_at new m ≡ sought_at old m

-- Only what is sought by the lookup of the number has changed, so.
pub record HasNoted (n : ℕ) (f : PendingLookup → PendingLookup) (old new : Pools) : Type 0 where
  pub same : SamePools old new
  pub is : sought_at new n ≡ option_map f (sought_at old n)
  pub others : (m : ℕ) → m ≢ n → sought_at new m ≡ sought_at old m

-- Only what is sought by the lookup of the number has changed, which is this now.
pub record HasKept (n : ℕ) (pending : PendingLookup) (old new : Pools) : Type 0 where
  pub same : SamePools old new
  pub is : sought_at new n ≡ Some pending
  pub others : (m : ℕ) → m ≢ n → sought_at new m ≡ sought_at old m

-- One waits less for the lookup of the number, and nothing else has changed.
pub record HasLeft (n : ℕ) (old new : Pools) : Type 0 where
  pub left : new.shared ≡ record old.shared { lookups = after_leave n old.shared.lookups }
  pub last : is_last n old.shared.lookups ≡ true → lookup_at new.shared n ≡ None
  pub numbers : new.numbers ≡ old.numbers
  pub delays : new.first_delays ≡ old.first_delays
  pub sought : (m : ℕ) → sought_at new m ≡ sought_at old m

-- So it is, and nothing is sought by the lookup any more.
pub record HasGone (n : ℕ) (old new : Pools) : Type 0 where
  pub left : new.shared ≡ record old.shared { lookups = after_leave n old.shared.lookups }
  pub numbers : new.numbers ≡ old.numbers
  pub delays : new.first_delays ≡ old.first_delays
  pub none : sought_at new n ≡ None
  pub others : (m : ℕ) → m ≢ n → sought_at new m ≡ sought_at old m

-- an order goes to a server by what was put
abbrev pub StepGoes : LogView → PoolsStep → Type 0
StepGoes view (stepped.Order number order) = GoesToServer view.policy view.log (view.greatest + 1) order
StepGoes view (stepped.Waiting number) = Unit {0}
StepGoes view stepped.Done = Unit {0}

-- Where a step is done, it is known what the lookup came to.
abbrev pub IfCame : Option LookupResult → PoolsStep → Type 0
IfCame came (stepped.Order number order) = Unit {0}
IfCame came (stepped.Waiting number) = Unit {0}
IfCame came stepped.Done = IsSome came

-- The outcome is one of the open order of the lookup.
pub record IsGivenFor (pools : Pools) (n : ℕ) (waits : Option SentBy) (outcome : Outcome) (g : OpenOrder) : Type 0 where
  pub sought : PendingLookup
  pub is : sought_at pools n ≡ Some sought
  pub given : sought.given ≡ Some g
  pub ended : Bool
  pub none : ended ≡ not (length (closed_by (lookup_at pools.shared n)) == 0)
  pub may : MayTakeBy sought ended g g.aim waits outcome

-- ---- how many orders were given

-- how many orders were given so far
abbrev pub given_so_far : Pools → ℕ
given_so_far p = p.shared.given

-- An order has the next number; else none was given.
abbrev pub GivesNext : ℕ → ℕ → Result PoolsStep NoMemory → Type 0
GivesNext old new (Ok (stepped.Order number order)) = (number ≡ old + 1) × (new ≡ old + 1)
GivesNext old new (Ok (stepped.Waiting number)) = new ≡ old
GivesNext old new (Ok stepped.Done) = new ≡ old
GivesNext old new (Err e) = new ≡ old

-- The outcome is one of the order of the number, which is open at a lookup.
pub record IsOutcomeOf (pools : Pools) (number : ℕ) (waits : Option SentBy) (outcome : Outcome) : Type 0 where
  pub n : ℕ
  pub open_there : open_at number pools.shared ≡ Some n
  pub given : OpenOrder
  pub named : given.number ≡ number
  pub is : IsGivenFor pools n waits outcome given

-- What is sought is noted with what an outcome did; the moment is that of a new end.
pub record NotesOutcome (n : ℕ) (g : OpenOrder) (first : Option IpAddr) (before : ℕ) (did : After) (now : ℕ) (old new : Pools) : Type 0 where
  pub ended : Bool
  pub more : ended ≡ nat_lt before (length (closed_by (lookup_at old.shared n)))
  pub noted : HasNoted n (noted (given_after g did) first (if ended then Some now else None)) old new

-- The lookup is for the question at servers of the zone, since no earlier than the moment.
pub record Seeks (pools : Pools) (n : ℕ) (q : Query) (zone : DomainName) (begun : ℕ) : Type 0 where
  pub sought : PendingLookup
  pub is : sought_at pools n ≡ Some sought
  pub query : sought.query ≡ q
  pub zone_is : sought.zone ≡ zone
  pub since : begun ≤ sought.start

-- A step at the moment that has come, no entry after the one that was put last.
pub record IsStepAt (view : LogView) (since : ℕ) (tick : Tick) : Type 0 where
  pub since_is : since ≡ view.greatest
  pub now_is : tick.now ≡ view.moment
