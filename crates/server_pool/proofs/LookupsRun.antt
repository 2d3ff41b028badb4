-- How the lookups run, by the relations of the calls.
use Rattle.std.proofs.Common.{◌≡◌, ◌∙◌, ℕ, ◌+◌, ◌||◌, Bool, true, false, cond, List, [], ◌∷◌, find, Some, None, Result, Ok, Err, refl, ap, sym, subst, arith, eq-eqb}
use Rattle.std.specs.List.{list_any}
use Rattle.std.specs.BTreeMap.{insert_entry}
use Rattle.std.specs.Ordering.{nat_cmp}
use Rattle.std.specs.declared.net.ip_addr.IpAddr.{IpAddr}
use Rattle.dns_core.specs.declared.errors.NoMemory.{NoMemory}
use Rattle.server_core.specs.Servers.{Server}
use Rattle.server_core.specs.declared.orders.order.After.{After}
use Rattle.server_core.specs.declared.orders.order.Order.{Order}
use Rattle.server_core.specs.declared.orders.order.Order.TheVariants as order
use Rattle.server_core.specs.declared.orders.order.Outcome.{Outcome}
use Rattle.server_core.specs.declared.orders.order.Tick.{Tick}
use Rattle.pool_lookup.specs.declared.giving.LookupStep.{LookupStep}
use Rattle.pool_lookup.specs.declared.giving.LookupStep.TheVariants as step
use Rattle.pool_lookup.specs.Asked.{opens, has_in, has_order}
use Rattle.pool_lookup.specs.Attempts.{is_open_at}
use Rattle.pool_lookup.specs.Giving.{Gives}
use Rattle.pool_lookup.specs.Holds.{HeardEnd, HoldsBy}
use Rattle.pool_lookup.specs.Lookup.{LookupState}
use Rattle.pool_lookup.specs.Rounds.{started}
use Rattle.pool_lookup.specs.Running.{IsOpenTo, IsGivenFor, heard_after, heard_out}
use Rattle.pool_lookup.proofs.BegunStays.{next_same, outcome_same, out_of_memory_same}
use Rattle.pool_lookup.proofs.LookupHoldsOn.{started_by, outcome_by, out_of_memory_by}
use Rattle.pool_lookup.proofs.DecidedAtItsStep.{next_moment, outcome_moment, out_of_memory_moment}
use Rattle.pool_lookup.proofs.HoldsWhereItGives.{next_by}
use Rattle.pool_lookup.proofs.OneOpenOrder.{opens_started}
use Rattle.pool_lookup.proofs.ReachedAsBefore.{stepped_configs, heard_configs}
use Rattle.pool_lookup.proofs.WhereOrdersGo.{order_sent}
use Rattle.server_pool.specs.OpenLookups.{moved_to, under}
use Rattle.server_pool.specs.LookupOrders.{without_order, orders_by}
use Rattle.server_pool.specs.LookupSteps.{put_lookup, put_table}
use Rattle.server_pool.specs.declared.open_lookups.open_lookup.OpenLookup.{OpenLookup}
use Rattle.server_pool.proofs.UnderNumbers.{inserted, inserted_other, removed_other, found_with, with_other, IsSame, is_same}
use Rattle.server_pool.proofs.UnderNumbers.IsSame.{is_one, are_two}
use Rattle.server_pool.specs.Orders.{IsOpenOrder}
use Rattle.server_pool.specs.Running.{RunsOn}
use Rattle.server_pool.specs.Shared.{Shared, lookup_at, lookup_of, denied_in, configs, SameBut}
use Rattle.server_pool.specs.Stepping.{told_as, HasStepped, HasPut}
use Rattle.server_pool.specs.declared.pool_shared.PoolStep.{PoolStep}
use Rattle.server_pool.specs.declared.pool_shared.PoolStep.TheVariants as gives
use Rattle.server_pool.proofs.OpenOrdersListed.{some_same}

-- ---- by which ends

pub next_runs : (denied : IpAddr → Bool) (heard : List HeardEnd) (n now : ℕ) (l : OpenLookup) (old new : Shared) (told : PoolStep) → lookup_at old n ≡ Some l → HasStepped n now l old told new → HoldsBy denied heard l.lookup
    → RunsOn denied heard now n l new
next_runs denied heard n now l old new told there s h =
    let next = s.step.next in
    record {
      next = moved_to next l;
      there = ap (under n) s.step.lookups ∙ found_with n (moved_to next) l old.lookups there;
      same = next_same (old.given + 1) now old.table l.lookup next s.made s.step.gives;
      beside = (refl, refl);
      stands = next_by denied heard (old.given + 1) now old.table l.lookup s.made next s.step.gives h;
      decides = next_moment (old.given + 1) now old.table l.lookup s.made next s.step.gives;
    }

module _ (heard : List HeardEnd) (number n : ℕ) (l : OpenLookup) (o : Outcome) (tick : Tick) (old new : Shared) (there : lookup_at old n ≡ Some l) (h : HoldsBy (denied_in old) heard l.lookup) where
  it_is : (r : Result After NoMemory) → HasPut number n l o tick old r new → lookup_at new n ≡ Some (moved_to (put_lookup (denied_in old) tick number o r l.lookup) l)
  it_is r p = ap (λ (s : Shared). under n s.lookups) p.is ∙ found_with n (moved_to (put_lookup (denied_in old) tick number o r l.lookup)) l old.lookups there

  pub put_runs : (did : After) → HasPut number n l o tick old (Ok did) new → RunsOn (denied_in old) (heard_after tick.patience number o heard l.lookup) tick.now n l new
  put_runs did p = record {
    next = moved_to (put_lookup (denied_in old) tick number o (Ok did) l.lookup) l;
    there = it_is (Ok did) p;
    same = outcome_same (denied_in old) tick number o l.lookup;
    beside = (refl, refl);
    stands = outcome_by (denied_in old) tick number o heard l.lookup h;
    decides = outcome_moment (denied_in old) tick o l.lookup number;
  }

  pub out_runs : (e : NoMemory) → HasPut number n l o tick old (Err e) new → RunsOn (denied_in old) (heard_out number o heard l.lookup) tick.now n l new
  out_runs e p = record {
    next = moved_to (put_lookup (denied_in old) tick number o (Err e) l.lookup) l;
    there = it_is (Err e) p;
    same = out_of_memory_same number tick.now o l.lookup;
    beside = (refl, refl);
    stands = out_of_memory_by (denied_in old) number tick.now o heard l.lookup p.did.asks h;
    decides = out_of_memory_moment number tick.now o l.lookup;
  }

-- ---- what stays

pub next_rest : (n now : ℕ) (l : OpenLookup) (old new : Shared) (told : PoolStep) → HasStepped n now l old told new → SameBut n old new
next_rest n now l old new told s = record {
  servers = record {
    context = ap (λ (x : Shared). x.context) s.rest;
    configs = ap configs s.step.table ∙ stepped_configs (started now l.lookup) old.table;
  };
  lookups = λ m apart. ap (under m) s.step.lookups ∙ with_other n m (moved_to s.step.next) old.lookups apart;
  orders = λ k m apart there. ap (under k) s.orders ∙ by_step s.made k m there;
}
  where
    inserted_beside : (k m : ℕ) → lookup_of old k ≡ Some m → IsSame (old.given + 1) k → under k (insert_entry nat_cmp old.orders (old.given + 1) n) ≡ Some m
    inserted_beside k m there (is_one is) = let wrong : None ≡ Some m = sym s.unused ∙ ap (λ (q : ℕ). under q old.orders) (sym is) ∙ there in cc
    inserted_beside k m there (are_two apart) = inserted_other (old.given + 1) n k old.orders apart ∙ there

    by_step : (x : LookupStep) (k m : ℕ) → lookup_of old k ≡ Some m → under k (orders_by x (insert_entry nat_cmp old.orders (old.given + 1) n) old.orders) ≡ Some m
    by_step (step.Order order) k m there = inserted_beside k m there (is_same (old.given + 1) k)
    by_step step.Waiting k m there = there
    by_step (step.Done answer) k m there = there

pub put_rest : (number n : ℕ) (l : OpenLookup) (o : Outcome) (tick : Tick) (old new : Shared) (r : Result After NoMemory) → lookup_of old number ≡ Some n → HasPut number n l o tick old r new → SameBut n old new
put_rest number n l o tick old new r order p = record {
  servers = record { context = ap (λ (x : Shared). x.context) p.is; configs = ap (λ (x : Shared). configs x.table) p.is ∙ by_result r };
  lookups = λ m apart. ap (λ (x : Shared). under m x.lookups) p.is ∙ with_other n m (moved_to (put_lookup (denied_in old) tick number o r l.lookup)) old.lookups apart;
  orders = λ k m apart there. ap (λ (x : Shared). under k x.orders) p.is ∙ by_open (has_order number (put_lookup (denied_in old) tick number o r l.lookup)) k m apart there;
}
  where
    by_result : (x : Result After NoMemory) → configs (put_table tick number o x l.lookup old.table) ≡ configs old.table
    by_result (Ok did) = heard_configs tick number o l.lookup old.table
    by_result (Err e) = refl

    beside : (k m : ℕ) → (m ≡ n → ⊥) → lookup_of old k ≡ Some m → IsSame number k → under k (without_order number old.orders) ≡ Some m
    beside k m apart there (is_one is) = absurd (apart (some_same (sym there ∙ ap (λ (q : ℕ). under q old.orders) is ∙ order)))
    beside k m apart there (are_two two) = removed_other number k old.orders two ∙ there

    by_open : (b : Bool) (k m : ℕ) → (m ≡ n → ⊥) → lookup_of old k ≡ Some m → under k (cond b old.orders (without_order number old.orders)) ≡ Some m
    by_open true k m apart there = there
    by_open false k m apart there = beside k m apart there (is_same number k)

-- ---- where an order goes

any_found : {X : Type 0} (p : X → Bool) (xs : List X) (x : X) → find p xs ≡ Some x → list_any p xs ≡ true
any_found p [] x h = cc
any_found p (y ∷ ys) x h = at_head (p y) h (any_found p ys x)
  where
    at_head : (b : Bool) → cond b (Some y) (find p ys) ≡ Some x → (find p ys ≡ Some x → list_any p ys ≡ true) → (b || list_any p ys) ≡ true
    at_head true e next = refl
    at_head false e next = next e

has_open : (number : ℕ) (c : _) (asks : Bool) (l : LookupState) → IsOpenTo number c asks l → has_order number l ≡ true
has_open number c asks l o = ap (has_in number l.attempts) o.asking ∙ any_found (is_open_at number) l.attempts o.attempt o.at

has_given : (table : List Server) (number : ℕ) (given : Order) (l : LookupState) → IsGivenFor table number given l → has_order number l ≡ true
has_given table number (order.Open ip config) l g = has_open number g.candidate false l g.open_to
has_given table number (order.Ask conn ip protocol request) l g = has_open number g.1.candidate true l g.1.open_to
has_given table number (order.Sleep until) l g = ap (has_in number l.attempts) g.is ∙ eq-eqb number number refl

pub order_goes : (denied : IpAddr → Bool) (heard : List HeardEnd) (n now number : ℕ) (l : OpenLookup) (old new : Shared) (given : Order) → lookup_at old n ≡ Some l → HasStepped n now l old (gives.Order number given) new
    → HoldsBy denied heard l.lookup → (next : OpenLookup) × IsOpenOrder number n next new × IsGivenFor old.table number given next.lookup
order_goes denied heard n now number l old new given there s h = at_step s.made s.is s.step.gives s.orders
  where
    next : LookupState
    next = s.step.next

    idle : opens (old.given + 1) (started now l.lookup) ≡ 0
    idle = let fewer = opens_started (old.given + 1) now l.lookup in let none = s.idle in omega (arith, fewer, none)

    goes : (k : ℕ) (o : Order) → k ≡ number → o ≡ given → k ≡ old.given + 1 → Gives k now old.table (started now l.lookup) (step.Order o) next → new.orders ≡ insert_entry nat_cmp old.orders k n → opens k (started now l.lookup) ≡ 0
        → (x : OpenLookup) × IsOpenOrder number n x new × IsGivenFor old.table number given x.lookup
    goes k o same_number same_order is g orders none =
        let sent : IsGivenFor old.table k o next = order_sent denied heard k now old.table (started now l.lookup) o next (started_by denied now heard l.lookup h) none g in
        let its : IsGivenFor old.table number given next = subst (λ (y : Order). IsGivenFor old.table number y next) same_order (subst (λ (m : ℕ). IsGivenFor old.table m o next) same_number sent) in
        let listed : lookup_of new number ≡ Some n = subst (λ (m : ℕ). lookup_of new m ≡ Some n) same_number (ap (under k) orders ∙ inserted k n old.orders) in
        (moved_to next l, record { order = listed; there = ap (under n) s.step.lookups ∙ found_with n (moved_to next) l old.lookups there; waits = has_given old.table number given next its }, its)

    at_step : (x : LookupStep) → gives.Order number given ≡ told_as (old.given + 1) x → Gives (old.given + 1) now old.table (started now l.lookup) x next
        → new.orders ≡ orders_by x (insert_entry nat_cmp old.orders (old.given + 1) n) old.orders → (y : OpenLookup) × IsOpenOrder number n y new × IsGivenFor old.table number given y.lookup
    at_step (step.Order o) e g orders =
        let number_is : old.given + 1 ≡ number = cc in
        let order_is : o ≡ given = cc in
        goes (old.given + 1) o number_is order_is refl g orders idle
    at_step step.Waiting e g orders = cc
    at_step (step.Done answer) e g orders = cc
