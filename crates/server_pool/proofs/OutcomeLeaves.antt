-- What the outcome of an order leaves of what the pools share.
use Rattle.std.proofs.Common.{◌≡◌, ◌∙◌, ℕ, Bool, false, cond, List, Option, Some, None, Result, Ok, Err, MatchResult, refl, ap, sym, subst}
use Rattle.dns_core.specs.declared.errors.NoMemory.{NoMemory}
use Rattle.server_core.specs.Servers.{Server}
use Rattle.server_core.specs.declared.orders.order.After.{After}
use Rattle.server_core.specs.declared.orders.order.Outcome.{Outcome}
use Rattle.server_core.specs.declared.orders.order.Tick.{Tick}
use Rattle.pool_lookup.specs.Asked.{has_order}
use Rattle.pool_lookup.specs.Hearing.{done_by, RunsOut}
use Rattle.pool_lookup.specs.Lookup.{LookupState}
use Rattle.pool_lookup.proofs.ReachedAsBefore.{heard_configs}
use Rattle.server_pool.specs.OpenLookups.{with_at, moved_to, is_open_in, under}
use Rattle.server_pool.specs.LookupOrders.{without_order, orders_left}
use Rattle.server_pool.specs.LookupSteps.{put_lookup, put_table}
use Rattle.server_pool.specs.declared.open_lookups.open_lookup.OpenLookup.{OpenLookup}
use Rattle.server_pool.proofs.UnderNumbers.{found_with}
use Rattle.server_pool.specs.Holds.{SharedHolds}
use Rattle.server_pool.specs.Orders.{IsOpenOrder, open_at}
use Rattle.server_pool.specs.Shared.{Shared, denied_in, configs}
use Rattle.server_pool.specs.Stepping.{HasPut}
use Rattle.server_pool.proofs.PoolsHoldOn.{put_holds}
use Rattle.server_pool.proofs.OpenOrdersListed.{some_same, opened, open_is}

-- so it was put to the lookup of the number n
pub record IsPut (number n : ℕ) (o : Outcome) (tick : Tick) (old : Shared) (r : Result After NoMemory) (new : Shared) : Type 0 where
  pub at : open_at number old ≡ Some n
  pub did : (l : OpenLookup) → under n old.lookups ≡ Some l → MatchResult r (λ after. after ≡ done_by tick.patience number o l.lookup) (λ error. RunsOut number o l.lookup)
  pub lookups : (l : OpenLookup) → under n old.lookups ≡ Some l → new.lookups ≡ with_at n (moved_to (put_lookup (denied_in old) tick number o r l.lookup)) old.lookups
  pub table : (l : OpenLookup) → under n old.lookups ≡ Some l → new.table ≡ put_table tick number o r l.lookup old.table
  pub orders : new.orders ≡ cond (is_open_in number new.lookups n) old.orders (without_order number old.orders)
  pub gone : is_open_in number new.lookups n ≡ false → under number new.orders ≡ None
  pub rest : new ≡ record old { table = new.table; lookups = new.lookups; orders = new.orders }
  pub holds : SharedHolds (denied_in old) old.table old.lookups old.orders old.sent old.given

module _ (number n : ℕ) (o : Outcome) (tick : Tick) (old new : Shared) (r : Result After NoMemory) (h : IsPut number n o tick old r new) where
  its : (l : OpenLookup) × IsOpenOrder number n l old
  its = opened number n old h.at

  module _ (l : OpenLookup) (there : under n old.lookups ≡ Some l) where
    abbrev next : LookupState
    next = put_lookup (denied_in old) tick number o r l.lookup

    still : is_open_in number new.lookups n ≡ has_order number next
    still = ap (λ (x : Option OpenLookup). elim x as (λ y. Bool) [ None ↦ false | Some l ↦ has_order number l.lookup ]) (ap (under n) (h.lookups l there) ∙ found_with n (moved_to next) l old.lookups there)

    left_orders : new.orders ≡ orders_left number next old.orders
    left_orders = h.orders ∙ ap (λ (b : Bool). cond b old.orders (without_order number old.orders)) still

    put_one : HasPut number n l o tick old r new
    put_one = record {
      did = h.did l there;
      is =
          h.rest
          ∙ ap (λ (x : List Server). record old { table = x; lookups = new.lookups; orders = new.orders }) (h.table l there)
          ∙ ap (λ (x : List (ℕ × OpenLookup)). record old { table = put_table tick number o r l.lookup old.table; lookups = x; orders = new.orders }) (h.lookups l there)
          ∙ ap (λ (x : List (ℕ × ℕ)). record old { table = put_table tick number o r l.lookup old.table; lookups = with_at n (moved_to next) old.lookups; orders = x }) left_orders;
      forgets = λ shut. h.gone (still ∙ shut);
    }

  -- to that at which its order was open
  pub put_puts : (m : ℕ) (l : OpenLookup) → IsOpenOrder number m l old → HasPut number m l o tick old r new
  put_puts m l at =
      let one : n ≡ m = some_same (sym h.at ∙ open_is number m l old at) in
      subst (λ (k : ℕ). HasPut number k l o tick old r new) one (put_one l (subst (λ (k : ℕ). under k old.lookups ≡ Some l) (sym one) at.there))

  wanting : (e : NoMemory) → r ≡ Err e → RunsOut number o its.0.lookup
  wanting e is = subst (λ (x : Result After NoMemory). MatchResult x (λ after. after ≡ done_by tick.patience number o its.0.lookup) (λ error. RunsOut number o its.0.lookup)) is (h.did its.0 its.1.there)

  pub put_stays : SharedHolds (denied_in old) new.table new.lookups new.orders old.sent old.given
  put_stays =
      let l = its.0 in
      let there = its.1.there in
      let holds = put_holds (denied_in old) tick number n o l old.table old.lookups old.orders old.sent old.given its.1.order there h.holds r wanting in
      let next = put_lookup (denied_in old) tick number o r l.lookup in
      subst (λ (t : List Server). SharedHolds (denied_in old) t new.lookups new.orders old.sent old.given) (sym (h.table l there))
      (subst (λ (ls : List (ℕ × OpenLookup)). SharedHolds (denied_in old) (put_table tick number o r l.lookup old.table) ls new.orders old.sent old.given) (sym (h.lookups l there))
      (subst (λ (os : List (ℕ × ℕ)). SharedHolds (denied_in old) (put_table tick number o r l.lookup old.table) (with_at n (moved_to next) old.lookups) os old.sent old.given) (sym (left_orders l there)) holds))

  pub put_configs : configs new.table ≡ configs old.table
  put_configs = ap configs (h.table its.0 its.1.there) ∙ by r
    where
      by : (x : Result After NoMemory) → configs (put_table tick number o x its.0.lookup old.table) ≡ configs old.table
      by (Ok did) = heard_configs tick number o its.0.lookup old.table
      by (Err e) = refl

-- an order that is open nowhere is put to none
pub put_nowhere : {T : Type 0} (number m : ℕ) (l : OpenLookup) (old : Shared) → None ≡ open_at number old → IsOpenOrder number m l old → T
put_nowhere number m l old none at = let wrong : None ≡ Some m = none ∙ open_is number m l old at in cc
