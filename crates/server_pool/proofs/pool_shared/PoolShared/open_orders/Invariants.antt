use Rattle.std.proofs.Common.{map}
use Rattle.std.specs.Map.Iter.{deref}
use Rattle.server_pool.specs.declared.open_lookups.open_lookup.OpenLookup.{OpenLookup}
use Rattle.server_pool.specs.Orders.{IsOpenOrder}
use Rattle.server_pool.proofs.OpenOrdersListed.{AreThose, IsLeftOf}
use Rattle.server_pool.proofs.pool_shared.PoolShared.open_orders.Given as goal

abbrev pub invariant-orders : goal.invariant-orders
invariant-orders l = record {
  those : AreThose (map deref l.yielded) l.open (λ n. (x : OpenLookup) × IsOpenOrder n l.lookup x l.self);
  left : IsLeftOf l.open (map deref l.yielded);
}
