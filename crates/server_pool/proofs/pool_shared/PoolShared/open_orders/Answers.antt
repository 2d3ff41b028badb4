use Rattle.std.proofs.Common.{◌≡◌, ℕ, ◌++◌, ◌∷◌, [], List, map, sym, subst, rules, Some}
use Rattle.std.specs.List.{Contains}
use Rattle.std.specs.List.Sorted.{IsStrictlySortedBy}
use Rattle.std.specs.Map.{keys_of}
use Rattle.std.specs.Map.Iter.{deref}
use Rattle.std.specs.Ordering.{nat_cmp}
use Rattle.std.proofs.lemmas.List.{map-append}
use Rattle.std.proofs.lemmas.Map.Iter.{iter_end}
use Rattle.std.proofs.lemmas.Map.Keys.{IsStrictlyIncreasing-from_sorted}
use Rattle.server_pool.specs.declared.open_lookups.open_lookup.OpenLookup.{OpenLookup}
use Rattle.server_pool.specs.Shared.{Shared, lookup_of}
use Rattle.server_pool.specs.Orders.{IsOpenOrder}
use Rattle.server_pool.proofs.OpenOrdersListed.{AreThose, IsLeftOf, one_more, no_more, none_those, among_keys, last_stays, last_goes, left_rises}
use Rattle.server_pool.proofs.OpenOrdersListed.IsLeftOf.{nothing}
use Rattle.server_pool.proofs.pool_shared.PoolShared.open_orders.Goals as goal

pub orders-init : goal.orders-init
orders-init c =
    let P : ℕ → Type 0 = λ n. (l : OpenLookup) × IsOpenOrder n c.args.lookup l c.args.self.now in
    record {
      those = subst (λ (o : List ℕ). AreThose [] o P) (sym c.empty-open.ensures) (none_those P);
      left = subst (λ (o : List ℕ). IsLeftOf o []) (sym c.empty-open.ensures) nothing;
    }

pub orders-preserved-in-Continue-1 : goal.orders-preserved-in-Continue-1
orders-preserved-in-Continue-1 c =
    let P : ℕ → Type 0 = λ n. (l : OpenLookup) × IsOpenOrder n c.args.lookup l c.args.self.now in
    let all = map deref c.orders.yielded in
    let m = c.in-Some.number.now in
    let more = one_more P all c.orders.open m c.orders.invariant.those (c.has_order.ensures.0 c.if-has_order.true) in
    let yielded = sym (map-append deref c.orders.yielded (c.in-Some.number ∷ [])) in
    record {
      those = subst (λ (xs : List ℕ). AreThose xs c.push.new.self P) yielded (subst (λ (o : List ℕ). AreThose (all ++ m ∷ []) o P) (sym c.in_ok-push.ensures.ok) more);
      left = subst (λ (xs : List ℕ). IsLeftOf c.push.new.self xs) yielded (subst (λ (o : List ℕ). IsLeftOf o (all ++ m ∷ [])) (sym c.in_ok-push.ensures.ok) (last_stays m c.orders.invariant.left));
    }

pub orders-preserved : goal.orders-preserved
orders-preserved c =
    let P : ℕ → Type 0 = λ n. (l : OpenLookup) × IsOpenOrder n c.args.lookup l c.args.self.now in
    let all = map deref c.orders.yielded in
    let m = c.in-Some.number.now in
    let more = no_more P all c.orders.open m c.orders.invariant.those (λ p. let t = c.has_order.ensures.1 p in let f = c.if-has_order.false in cc) in
    let yielded = sym (map-append deref c.orders.yielded (c.in-Some.number ∷ [])) in
    record {
      those = subst (λ (xs : List ℕ). AreThose xs c.orders.open P) yielded more;
      left = subst (λ (xs : List ℕ). IsLeftOf c.orders.open xs) yielded (last_goes m c.orders.invariant.left);
    }

pub returns-clause-those : goal.returns-clause-those
returns-clause-those c = λ n.
    let all : map deref c.orders.yielded ≡ keys_of c.self.inside.orders.entries = search (rules, iter_end) in (
      λ h. let x = (c.orders.invariant.those n).0 h in x.1,
      λ o. let order = subst (λ (s : Shared). lookup_of s n ≡ Some c.args.lookup) (sym c.self.view_is) o.1.order in
          (c.orders.invariant.those n).1 (subst (λ (ks : List ℕ). Contains ks n) (sym all) (among_keys n c.args.lookup c.self.inside.orders.entries order), o),
    )

pub returns-clause-rising : goal.returns-clause-rising
returns-clause-rising c =
    let all : map deref c.orders.yielded ≡ keys_of c.self.inside.orders.entries = search (rules, iter_end) in
    let ordered : IsStrictlySortedBy nat_cmp (keys_of c.self.inside.orders.entries) = c.keys-number-items.ensures.ordered in
    IsStrictlyIncreasing-from_sorted c.orders.open (left_rises c.orders.invariant.left (subst (IsStrictlySortedBy nat_cmp) (sym all) ordered))
