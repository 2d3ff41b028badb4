-- The words that several proofs of this crate speak with, in one place.
pub use Rattle.std.proofs.Common.{◌≡◌, ℕ, ◌≤◌, None, Result, Ok, Err, IfOk, OnErr, refl, sym, ap, subst, ◌∙◌, arith, ◌+◌, true, Option, Some, ◌⊎◌, inl, inr, List, Bool, false, cond, [], ◌∷◌, ◌++◌, length, append_assoc, ◌==◌, eq-eqb, ◌≢◌, IfSome, ⊎_elim, ◌-◌, ◌<◌, take, max, rules}
pub use Rattle.std.proofs.lemmas.Option.{same_Some, none-some}
pub use Rattle.std.specs.Prelude.{is_some, option_and_then, option_map, if◌then◌else◌, nat_lt, slice_get, is_err}
pub use Rattle.std.specs.List.{AllZip, last_or}
pub use Rattle.std.specs.declared.net.ip_addr.IpAddr.{IpAddr}
pub use Rattle.std.proofs.lemmas.List.{append-nil, take_all}
pub use Rattle.std.specs.Option.{option_copied}
pub use Rattle.std.specs.Map.{lookup}
pub use Rattle.std.specs.Ordering.{nat_cmp}
pub use Rattle.dns_core.specs.declared.errors.NoMemory.{NoMemory}
pub use Rattle.server_pool.specs.OpenLookups.{closed_by, after_leave}
pub use Rattle.server_pool.specs.declared.open_lookups.open_lookup.OpenLookup.{OpenLookup}
pub use Rattle.server_pool.specs.Shared.{Shared, lookup_at, SameBut, denied_in, lookup_of, configs}
pub use Rattle.server_pool.specs.declared.interest.PoolLookup.{PoolLookup}
pub use Rattle.walk_lookup.specs.LogView.{LogView, Advances, seen_at}
pub use Rattle.walk_lookup.specs.PendingLookup.{AreNumbered, PendingHolds, aim_of, noted, config_at, server_at, IsServerOf, given_after, first_of, polled_by, with_came}
pub use Rattle.walk_lookup.specs.declared.pending_lookup.PendingLookup.{PendingLookup}
pub use Rattle.walk_lookup.proofs.SharedAfterStep.{numbered-same, left-rest, left-numbered, stepped-numbered, halted-rest, halted-numbered, put-numbered, begun-there, begun-fresh, begun-rest, begun-numbered}
pub use Rattle.walk_lookup.proofs.KnownIsCarried.{IsCarried, sought-carried, same-rest, config-before, carried-beside, carried-same, config-same, sought-with}
pub use Rattle.walk_lookup.proofs.LookupBegins.{same_but-trans, begun-holds, has-begun}
pub use Rattle.server_core.specs.declared.orders.order.Order.{Order}
pub use Rattle.server_pool.specs.Stepping.{HasStepped, HasHalted, HasPut}
pub use Rattle.server_pool.specs.declared.pool_shared.PoolStep.{PoolStep}
pub use Rattle.server_pool.proofs.LookupsRun.{next_rest, put_rest}
pub use Rattle.walk_lookup.specs.Coming.{answer_at, has_more_ends, telling_by, ComesBy}
pub use Rattle.walk_lookup.specs.declared.pending_lookup.OpenOrder.{OpenOrder}
pub use Rattle.dns_core.specs.Name.{DomainName}
pub use Rattle.dns_core.specs.declared.message.Query.{Query}
pub use Rattle.resolver_cache.specs.Cached.{Cached}
pub use Rattle.walk_lookup.proofs.LookupAdvances.{answers-same, timeout-same, cache-later, found-later, sought-later}
pub use Rattle.server_core.specs.Context.{Context}
pub use Rattle.server_core.specs.Servers.{Server}
pub use Rattle.recursor_types.specs.declared.policy.Policy.{Policy}
pub use Rattle.walk_lookup.proofs.ServerAddedBehind.{equal-address, equal-at, met-last, delayed-last, more-met}
pub use Rattle.server_pool.specs.Orders.{open_at, IsOpenOrder}
pub use Rattle.server_core.specs.declared.orders.order.Outcome.{Outcome}
pub use Rattle.server_core.specs.declared.orders.order.SentBy.{SentBy}
pub use Rattle.server_core.specs.declared.orders.order.After.{After}
pub use Rattle.server_core.specs.declared.orders.order.Tick.{Tick}
pub use Rattle.walk_lookup.specs.Order.{IsPut, seen_with, closing_of}
pub use Rattle.walk_lookup.proofs.LogAfterPut.{later-put, err-last, err-is, was-put}
pub use Rattle.walk_lookup.specs.LookupResult.{HasCome, FoundHolds, last_of}
pub use Rattle.walk_lookup.specs.declared.lookup_result.LookupResult.{LookupResult}
pub use Rattle.server_pool.proofs.OpenOrdersListed.{opened}
pub use Rattle.walk_lookup.specs.Remembered.{CacheHolds, Telling, remembered}
pub use Rattle.walk_lookup.proofs.ResultIsTold.{at-more, sought-tells, telling-came, comes-writes}
pub use Rattle.walk_lookup.proofs.OrdersNumbered.{sent-count, step-count}
pub use Rattle.walk_tables.specs.Pools.{PoolsHold, HasKept, HasLeft, HasNoted, sought_at, HasForgotten, number_of, IsGrown, ServersHold, IsGivenFor, IsOutcomeOf, given_so_far, NotesOutcome, SamePools, came_at, Seeks, GivesNext}
pub use Rattle.walk_tables.specs.declared.pools.Pools.{Pools}
pub use Rattle.walk_tables.specs.Taking.{TablesHold, awaited_in, if_open_at, is_open_at, telling_at, Took, Comes}
