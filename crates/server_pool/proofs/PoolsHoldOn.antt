-- What is true of the lookups and the orders stays true at each call.
use Rattle.std.proofs.Common.{◌≡◌, ◌∙◌, ℕ, ◌+◌, ◌≤◌, ◌<◌, ◌==◌, Bool, true, false, cond, List, Option, Some, None, Result, Ok, Err, inl, inr, refl, ap, sym, subst, arith, eqb-true, eq-eqb}
use Rattle.std.specs.BTreeMap.{is_at, insert_entry}
use Rattle.std.specs.Ordering.{nat_cmp}
use Rattle.std.specs.declared.net.ip_addr.IpAddr.{IpAddr}
use Rattle.dns_core.specs.declared.errors.NoMemory.{NoMemory}
use Rattle.server_core.specs.Servers.{Server}
use Rattle.server_core.specs.declared.orders.order.After.{After}
use Rattle.server_core.specs.declared.orders.order.Outcome.{Outcome}
use Rattle.server_core.specs.declared.orders.order.Tick.{Tick}
use Rattle.pool_lookup.specs.declared.giving.LookupStep.{LookupStep}
use Rattle.pool_lookup.specs.declared.giving.LookupStep.TheVariants as step
use Rattle.pool_lookup.specs.Asked.{opens, has_order}
use Rattle.pool_lookup.specs.Giving.{Gives, Halts, stepped_table}
use Rattle.pool_lookup.specs.Hearing.{RunsOut}
use Rattle.pool_lookup.specs.Holds.{Holds}
use Rattle.pool_lookup.specs.Lookup.{LookupState, BegunWith, begun_with}
use Rattle.pool_lookup.specs.Rounds.{started}
use Rattle.pool_lookup.proofs.BegunStays.{started_same, next_same, outcome_same, out_of_memory_same}
use Rattle.pool_lookup.proofs.LookupHoldsOn.{holds_started, holds_outcome, holds_out_of_memory}
use Rattle.pool_lookup.proofs.HoldsWhereItGives.{holds_next}
use Rattle.pool_lookup.proofs.OneOpenOrder.{bit, opens_started, opens_order, opens_outcome, opens_out_of_memory, opens_none}
use Rattle.pool_lookup.proofs.ReachedAsBefore.{are_reached, stepped_configs, halted_configs, heard_configs}
use Rattle.server_pool.specs.OpenLookups.{with_at, moved_to, joined, left, under}
use Rattle.server_pool.specs.LookupOrders.{without_order, orders_by, orders_left}
use Rattle.server_pool.specs.LookupSteps.{IsStepAt, IsHaltedAt, put_lookup, put_table}
use Rattle.server_pool.specs.declared.open_lookups.open_lookup.OpenLookup.{OpenLookup}
use Rattle.server_pool.proofs.UnderNumbers.{inserted, inserted_other, removed_other, removed_none, with_other, IsSame, is_same, IsFound, found_in}
use Rattle.server_pool.proofs.UnderNumbers.IsSame.{is_one, are_two}
use Rattle.server_pool.proofs.UnderNumbers.IsFound.{is_changed, is_other}
use Rattle.server_pool.specs.Holds.{LookupHolds, times_of, SharedHolds}
use Rattle.server_pool.specs.Shared.{configs}

-- ---- how often an order is one of a lookup

one_time : (n : ℕ) → times_of n (Some n) ≡ 1
one_time n = ap bit (eq-eqb n n refl)

no_time : (m n : ℕ) → (m ≡ n → ⊥) → times_of m (Some n) ≡ 0
no_time m n apart = by (n == m) refl
  where
    by : (b : Bool) → (n == m) ≡ b → bit b ≡ 0
    by true e = absurd (apart (sym (eqb-true n m e)))
    by false e = refl

-- ---- one lookup has come to something else

-- what is found after the change is no number that was not there
none_with : (n q : ℕ) (f : OpenLookup → OpenLookup) (l : OpenLookup) (ls : List (ℕ × OpenLookup)) → under n ls ≡ Some l → under q ls ≡ None → under q (with_at n f ls) ≡ None
none_with n q f l ls there none = with_other n q f ls (λ is. (let wrong : None ≡ Some l = sym none ∙ subst (λ (m : ℕ). under m ls ≡ Some l) (sym is) there in cc)) ∙ none

lookup_reached : (denied : IpAddr → Bool) (table new : List Server) (sent : ℕ) (l : OpenLookup) → configs new ≡ configs table → LookupHolds denied table sent l → LookupHolds denied new sent l
lookup_reached denied table new sent l same h = record { rules = h.rules; reached = are_reached table new l.lookup l.lookup same refl h.reached; some = h.some; few = h.few }

module _ (denied : IpAddr → Bool) (table new : List Server) (n : ℕ) (l : OpenLookup) (next : LookupState) (ls : List (ℕ × OpenLookup)) (os os' : List (ℕ × ℕ)) (sent given given' : ℕ)
    (there : under n ls ≡ Some l) (same : configs new ≡ configs table) (rules : Holds denied next) (servers : begun_with next ≡ begun_with l.lookup) (own : (k : ℕ) → opens k next ≤ times_of n (under k os'))
    (others : (m k : ℕ) → (m ≡ n → ⊥) → times_of m (under k os) ≤ times_of m (under k os')) (late : (k : ℕ) → given' < k → under k os' ≡ None) (h : SharedHolds denied table ls os sent given) where
  moved : LookupHolds denied new sent (moved_to next l)
  moved =
      let was = h.each n l there in
      record { rules = rules; reached = are_reached table new l.lookup next same (ap (λ (b : BegunWith). b.servers) servers) was.reached; some = was.some; few = was.few }

  pub changed_holds : SharedHolds denied new (with_at n (moved_to next) ls) os' sent given'
  changed_holds = record {
    numbered = λ q past. none_with n q (moved_to next) l ls there (h.numbered q past);
    ordered = late;
    each = λ q x found. each_of q x (found_in n q (moved_to next) ls x found);
    listed = λ q k x found. listed_of q k x (found_in n q (moved_to next) ls x found);
  }
    where
      some_same : {X : Type 0} {x y : X} → Some x ≡ Some y → x ≡ y
      some_same e = cc

      each_of : (q : ℕ) (x : OpenLookup) → IsFound n q (moved_to next) ls x → LookupHolds denied new sent x
      each_of q x (is_changed old is some e) =
          let one : l ≡ old = some_same (sym there ∙ some) in
          subst (LookupHolds denied new sent) (ap (moved_to next) one ∙ e) moved
      each_of q x (is_other apart some) = lookup_reached denied table new sent x same (h.each q x some)

      listed_of : (q k : ℕ) (x : OpenLookup) → IsFound n q (moved_to next) ls x → opens k x.lookup ≤ times_of q (under k os')
      listed_of q k x (is_changed old is some e) =
          subst (λ (y : OpenLookup). opens k y.lookup ≤ times_of q (under k os')) e (subst (λ (m : ℕ). opens k next ≤ times_of m (under k os')) (sym is) (own k))
      listed_of q k x (is_other apart some) = let old = h.listed q k x some in let more = others q k apart in omega (arith, old, more)

-- ---- its next step

module _ (denied : IpAddr → Bool) (table : List Server) (n now : ℕ) (l : OpenLookup) (ls : List (ℕ × OpenLookup)) (os : List (ℕ × ℕ)) (sent given : ℕ)
    (there : under n ls ≡ Some l) (h : SharedHolds denied table ls os sent given) where
  -- the next number is new
  fresh : under (given + 1) os ≡ None
  fresh = h.ordered (given + 1) (omega arith)

  -- with the order of the next number
  abbrev with_next : List (ℕ × ℕ)
  with_next = insert_entry nat_cmp os (given + 1) n

  next_own : (next : LookupState) → ((k : ℕ) → opens k next ≤ opens k (started now l.lookup) + bit ((given + 1) == k)) → (k : ℕ) → opens k next ≤ times_of n (under k with_next)
  next_own next more k = by (is_same (given + 1) k)
    where
      less : opens k (started now l.lookup) ≤ times_of n (under k os)
      less = let s = opens_started k now l.lookup in let o = h.listed n k l there in omega (arith, s, o)

      one_bit : (b : Bool) → bit b ≤ 1
      one_bit true = omega arith
      one_bit false = omega arith

      no_bit : (b : Bool) → ((given + 1) == k) ≡ b → (k ≡ given + 1 → ⊥) → bit b ≡ 0
      no_bit true e apart = absurd (apart (sym (eqb-true (given + 1) k e)))
      no_bit false e apart = refl

      by : IsSame (given + 1) k → opens k next ≤ times_of n (under k with_next)
      by (is_one is) =
          let none : times_of n (under k os) ≡ 0 = ap (times_of n) (ap (λ (m : ℕ). under m os) is ∙ fresh) in
          let now_there : times_of n (under k with_next) ≡ 1 = ap (λ (m : ℕ). times_of n (under m with_next)) is ∙ ap (times_of n) (inserted (given + 1) n os) ∙ one_time n in
          omega (arith, more k, less, none, now_there, one_bit ((given + 1) == k))
      by (are_two apart) =
          let same : times_of n (under k with_next) ≡ times_of n (under k os) = ap (times_of n) (inserted_other (given + 1) n k os apart) in
          omega (arith, more k, less, same, no_bit ((given + 1) == k) refl apart)

  next_others : (m k : ℕ) → (m ≡ n → ⊥) → times_of m (under k os) ≤ times_of m (under k with_next)
  next_others m k apart = by (is_same (given + 1) k)
    where
      by : IsSame (given + 1) k → times_of m (under k os) ≤ times_of m (under k with_next)
      by (is_one is) = let none : times_of m (under k os) ≡ 0 = ap (times_of m) (ap (λ (q : ℕ). under q os) is ∙ fresh) in omega (arith, none)
      by (are_two two) = let same : times_of m (under k with_next) ≡ times_of m (under k os) = ap (times_of m) (inserted_other (given + 1) n k os two) in omega (arith, same)

  next_late : (k : ℕ) → given + 1 < k → under k with_next ≡ None
  next_late k past = inserted_other (given + 1) n k os (λ is. absurd (omega (arith, is, past))) ∙ h.ordered k (omega (arith, past))

  -- without an order
  still_own : (next : LookupState) → ((k : ℕ) → opens k next ≤ opens k l.lookup) → (k : ℕ) → opens k next ≤ times_of n (under k os)
  still_own next less k = let o = h.listed n k l there in let s = less k in omega (arith, o, s)

  halted_same : (changed : List Server) → Halts (started now l.lookup) table changed → configs changed ≡ configs table
  halted_same changed (inl is) = ap configs is
  halted_same changed (inr is) = ap configs is ∙ halted_configs (started now l.lookup) table

  pub halted_holds : (new : List (ℕ × OpenLookup)) (changed : List Server) → IsHaltedAt n now l ls table new changed → SharedHolds denied changed new os sent given
  halted_holds new changed s =
      rw s.lookups
      (changed_holds denied table changed n l (started now l.lookup) ls os os sent given given there (halted_same changed s.table) (holds_started denied now l.lookup (h.each n l there).rules)
      (started_same now l.lookup) (still_own (started now l.lookup) (λ k. opens_started k now l.lookup)) (λ m k apart. omega arith) h.ordered h)

  pub stepped_holds : (made : LookupStep) (new : List (ℕ × OpenLookup)) (changed : List Server) → IsStepAt n (given + 1) now l ls table made new changed
      → SharedHolds denied changed new (orders_by made with_next os) sent (orders_by made (given + 1) given)
  stepped_holds made new changed s = rw (s.lookups, s.table) (at_step made s.gives)
    where
      at_step : (x : LookupStep) → Gives (given + 1) now table (started now l.lookup) x s.next
          → SharedHolds denied (stepped_table (started now l.lookup) table) (with_at n (moved_to s.next) ls) (orders_by x with_next os) sent (orders_by x (given + 1) given)
      at_step (step.Order order) g =
          changed_holds denied table (stepped_table (started now l.lookup) table) n l s.next ls os with_next sent given (given + 1) there (stepped_configs (started now l.lookup) table)
          (holds_next denied (given + 1) now table l.lookup s.next (step.Order order) g (h.each n l there).rules) (next_same (given + 1) now table l.lookup s.next (step.Order order) g)
          (next_own s.next (λ k. opens_order k (given + 1) now table (started now l.lookup) order s.next g)) next_others next_late h
      at_step step.Waiting g =
          changed_holds denied table (stepped_table (started now l.lookup) table) n l s.next ls os os sent given given there (stepped_configs (started now l.lookup) table)
          (holds_next denied (given + 1) now table l.lookup s.next step.Waiting g (h.each n l there).rules) (next_same (given + 1) now table l.lookup s.next step.Waiting g)
          (still_own s.next (λ k. subst (λ (x : LookupState). opens k x ≤ opens k l.lookup) (sym g.1) (opens_started k now l.lookup))) (λ m k apart. omega arith) h.ordered h
      at_step (step.Done answer) g =
          changed_holds denied table (stepped_table (started now l.lookup) table) n l s.next ls os os sent given given there (stepped_configs (started now l.lookup) table)
          (holds_next denied (given + 1) now table l.lookup s.next (step.Done answer) g (h.each n l there).rules) (next_same (given + 1) now table l.lookup s.next (step.Done answer) g)
          (still_own s.next (λ k. subst (λ (x : LookupState). opens k x ≤ opens k l.lookup) (sym g.1) (opens_started k now l.lookup))) (λ m k apart. omega arith) h.ordered h

-- ---- an outcome

module _ (denied : IpAddr → Bool) (tick : Tick) (number n : ℕ) (o : Outcome) (l : OpenLookup) (table : List Server) (ls : List (ℕ × OpenLookup)) (os : List (ℕ × ℕ)) (sent given : ℕ)
    (order : under number os ≡ Some n) (there : under n ls ≡ Some l) (h : SharedHolds denied table ls os sent given) where
  -- an order that is not open any more may go
  closed_own : (next : LookupState) → ((k : ℕ) → opens k next ≤ opens k l.lookup) → (k : ℕ) → opens k next ≤ times_of n (under k (orders_left number next os))
  closed_own next less k = at_open (has_order number next) refl
    where
      before : opens k next ≤ times_of n (under k os)
      before = let o = h.listed n k l there in let s = less k in omega (arith, o, s)

      gone : has_order number next ≡ false → IsSame number k → opens k next ≤ times_of n (under k (without_order number os))
      gone shut (is_one is) = let none : opens k next ≡ 0 = ap (λ (m : ℕ). opens m next) is ∙ opens_none number next shut in omega (arith, none)
      gone shut (are_two apart) = let same : times_of n (under k (without_order number os)) ≡ times_of n (under k os) = ap (times_of n) (removed_other number k os apart) in omega (arith, before, same)

      at_open : (b : Bool) → has_order number next ≡ b → opens k next ≤ times_of n (under k (cond b os (without_order number os)))
      at_open true shown = before
      at_open false shut = gone shut (is_same number k)

  closed_others : (next : LookupState) (m k : ℕ) → (m ≡ n → ⊥) → times_of m (under k os) ≤ times_of m (under k (orders_left number next os))
  closed_others next m k apart = at_open (has_order number next)
    where
      gone : IsSame number k → times_of m (under k os) ≤ times_of m (under k (without_order number os))
      gone (is_one is) = let none : times_of m (under k os) ≡ 0 = ap (times_of m) (ap (λ (q : ℕ). under q os) is ∙ order) ∙ no_time m n apart in omega (arith, none)
      gone (are_two two) = let same : times_of m (under k (without_order number os)) ≡ times_of m (under k os) = ap (times_of m) (removed_other number k os two) in omega (arith, same)

      at_open : (b : Bool) → times_of m (under k os) ≤ times_of m (under k (cond b os (without_order number os)))
      at_open true = omega arith
      at_open false = gone (is_same number k)

  closed_late : (next : LookupState) (k : ℕ) → given < k → under k (orders_left number next os) ≡ None
  closed_late next k past = at_open (has_order number next)
    where
      at_open : (b : Bool) → under k (cond b os (without_order number os)) ≡ None
      at_open true = h.ordered k past
      at_open false = removed_none number k os (h.ordered k past)

  pub put_holds : (result : Result After NoMemory) → ((e : NoMemory) → result ≡ Err e → RunsOut number o l.lookup)
      → SharedHolds denied (put_table tick number o result l.lookup table) (with_at n (moved_to (put_lookup denied tick number o result l.lookup)) ls)
      (orders_left number (put_lookup denied tick number o result l.lookup) os) sent given
  put_holds (Ok after) wanting =
      let rules = (h.each n l there).rules in
      let next = put_lookup denied tick number o (Ok after) l.lookup in
      changed_holds denied table (put_table tick number o (Ok after) l.lookup table) n l next ls os (orders_left number next os) sent given given there (heard_configs tick number o l.lookup table)
      (holds_outcome denied tick number o l.lookup rules) (outcome_same denied tick number o l.lookup) (closed_own next (λ k. opens_outcome k denied tick number o rules.0 l.lookup rules.1)) (closed_others next) (closed_late next) h
  put_holds (Err e) wanting =
      let rules = (h.each n l there).rules in
      let next = put_lookup denied tick number o (Err e) l.lookup in
      changed_holds denied table table n l next ls os (orders_left number next os) sent given given there refl (holds_out_of_memory denied number tick.now o l.lookup (wanting e refl).asks rules)
      (out_of_memory_same number tick.now o l.lookup) (closed_own next (λ k. opens_out_of_memory k number tick.now o l.lookup)) (closed_others next) (closed_late next) h

-- ---- who waits

-- as many more sent a request
more_sent : (denied : IpAddr → Bool) (table : List Server) (sent : ℕ) (l : OpenLookup) → LookupHolds denied table sent l → LookupHolds denied table (sent + 1) l
more_sent denied table sent l h = let few = h.few in record { rules = h.rules; reached = h.reached; some = h.some; few = omega (arith, few) }

module _ (denied : IpAddr → Bool) (table : List Server) (n : ℕ) (f : OpenLookup → OpenLookup) (ls : List (ℕ × OpenLookup)) (os : List (ℕ × ℕ)) (sent sent' given : ℕ)
    (kept : (x : OpenLookup) → (f x).lookup ≡ x.lookup) (more : sent ≤ sent') (waits : (x : OpenLookup) → under n ls ≡ Some x → LookupHolds denied table sent x → LookupHolds denied table sent' (f x))
    (rest : (x : OpenLookup) → LookupHolds denied table sent x → LookupHolds denied table sent' x) (h : SharedHolds denied table ls os sent given) where
  none_there : (q : ℕ) → under q ls ≡ None → under q (with_at n f ls) ≡ None
  none_there q none = at_found (under q (with_at n f ls)) refl
    where
      at_found : (x : Option OpenLookup) → under q (with_at n f ls) ≡ x → under q (with_at n f ls) ≡ None
      at_found None is = is
      at_found (Some x) is = by (found_in n q f ls x is)
        where
          by : IsFound n q f ls x → under q (with_at n f ls) ≡ None
          by (is_changed old at some e) = let wrong : None ≡ Some old = sym none ∙ subst (λ (m : ℕ). under m ls ≡ Some old) (sym at) some in cc
          by (is_other apart some) = let wrong : None ≡ Some x = sym none ∙ some in cc

  pub waiters_holds : SharedHolds denied table (with_at n f ls) os sent' given
  waiters_holds = record {
    numbered = λ q past. none_there q (h.numbered q (omega (arith, past, more)));
    ordered = h.ordered;
    each = λ q x found. each_of q x (found_in n q f ls x found);
    listed = λ q k x found. listed_of q k x (found_in n q f ls x found);
  }
    where
      each_of : (q : ℕ) (x : OpenLookup) → IsFound n q f ls x → LookupHolds denied table sent' x
      each_of q x (is_changed old is some e) = subst (LookupHolds denied table sent') e (waits old some (h.each n old some))
      each_of q x (is_other apart some) = rest x (h.each q x some)

      listed_of : (q k : ℕ) (x : OpenLookup) → IsFound n q f ls x → opens k x.lookup ≤ times_of q (under k os)
      listed_of q k x (is_changed old is some e) =
          let was : opens k old.lookup ≤ times_of q (under k os) = subst (λ (m : ℕ). opens k old.lookup ≤ times_of m (under k os)) (sym is) (h.listed n k old some) in
          subst (λ (y : LookupState). opens k y ≤ times_of q (under k os)) (sym (kept old) ∙ ap (λ (y : OpenLookup). y.lookup) e) was
      listed_of q k x (is_other apart some) = h.listed q k x some

pub joined_holds : (denied : IpAddr → Bool) (table : List Server) (n : ℕ) (ls : List (ℕ × OpenLookup)) (os : List (ℕ × ℕ)) (sent given : ℕ) → SharedHolds denied table ls os sent given
    → SharedHolds denied table (with_at n joined ls) os (sent + 1) given
joined_holds denied table n ls os sent given h =
    waiters_holds denied table n joined ls os sent (sent + 1) given (λ x. refl) (omega arith)
    (λ x there w. (let few = w.few in record { rules = w.rules; reached = w.reached; some = omega arith; few = omega (arith, few) })) (λ x w. more_sent denied table sent x w) h

pub left_holds : (denied : IpAddr → Bool) (table : List Server) (n : ℕ) (ls : List (ℕ × OpenLookup)) (os : List (ℕ × ℕ)) (sent given : ℕ) → ((x : OpenLookup) → under n ls ≡ Some x → 1 < x.waiters)
    → SharedHolds denied table ls os sent given → SharedHolds denied table (with_at n left ls) os sent given
left_holds denied table n ls os sent given many h =
    waiters_holds denied table n left ls os sent sent given (λ x. refl) (omega arith)
    (λ x there w. (let few = w.few in let two = many x there in record { rules = w.rules; reached = w.reached; some = omega (arith, two); few = omega (arith, few) })) (λ x w. w) h

-- the last one takes it away
pub removed_holds : (denied : IpAddr → Bool) (table : List Server) (n : ℕ) (ls new : List (ℕ × OpenLookup)) (os : List (ℕ × ℕ)) (sent given : ℕ) → ((q : ℕ) → under q new ≡ cond (is_at (nat_cmp n) q) None (under q ls))
    → SharedHolds denied table ls os sent given → SharedHolds denied table new os sent given
removed_holds denied table n ls new os sent given is h = record {
  numbered = λ q past. is q ∙ both_none (is_at (nat_cmp n) q) (under q ls) (h.numbered q past);
  ordered = h.ordered;
  each = λ q x found. h.each q x (was (is_at (nat_cmp n) q) (under q ls) x (sym (is q) ∙ found));
  listed = λ q k x found. h.listed q k x (was (is_at (nat_cmp n) q) (under q ls) x (sym (is q) ∙ found));
}
  where
    both_none : (b : Bool) (o : Option OpenLookup) → o ≡ None → cond b None o ≡ None
    both_none true o none = refl
    both_none false o none = none

    was : (b : Bool) (o : Option OpenLookup) (x : OpenLookup) → cond b None o ≡ Some x → o ≡ Some x
    was true o x e = cc
    was false o x e = e

-- ---- a lookup begins

pub begun_holds : (denied : IpAddr → Bool) (table : List Server) (l : OpenLookup) (ls : List (ℕ × OpenLookup)) (os : List (ℕ × ℕ)) (sent given : ℕ) → LookupHolds denied table (sent + 1) l → ((k : ℕ) → opens k l.lookup ≡ 0)
    → SharedHolds denied table ls os sent given → SharedHolds denied table (insert_entry nat_cmp ls (sent + 1) l) os (sent + 1) given
begun_holds denied table l ls os sent given new idle h = record {
  numbered = λ q past. inserted_other (sent + 1) l q ls (λ is. absurd (omega (arith, is, past))) ∙ h.numbered q (omega (arith, past));
  ordered = h.ordered;
  each = λ q x found. each_of q x (is_same (sent + 1) q) found;
  listed = λ q k x found. listed_of q k x (is_same (sent + 1) q) found;
}
  where
    some_same : {X : Type 0} {x y : X} → Some x ≡ Some y → x ≡ y
    some_same e = cc

    its : (q : ℕ) (x : OpenLookup) → q ≡ sent + 1 → under q (insert_entry nat_cmp ls (sent + 1) l) ≡ Some x → l ≡ x
    its q x is found = some_same (sym (ap (λ (m : ℕ). under m (insert_entry nat_cmp ls (sent + 1) l)) is ∙ inserted (sent + 1) l ls) ∙ found)

    each_of : (q : ℕ) (x : OpenLookup) → IsSame (sent + 1) q → under q (insert_entry nat_cmp ls (sent + 1) l) ≡ Some x → LookupHolds denied table (sent + 1) x
    each_of q x (is_one is) found = subst (LookupHolds denied table (sent + 1)) (its q x is found) new
    each_of q x (are_two apart) found = more_sent denied table sent x (h.each q x (sym (inserted_other (sent + 1) l q ls apart) ∙ found))

    listed_of : (q k : ℕ) (x : OpenLookup) → IsSame (sent + 1) q → under q (insert_entry nat_cmp ls (sent + 1) l) ≡ Some x → opens k x.lookup ≤ times_of q (under k os)
    listed_of q k x (is_one is) found =
        let none : opens k x.lookup ≡ 0 = ap (λ (y : OpenLookup). opens k y.lookup) (sym (its q x is found)) ∙ idle k in
        omega (arith, none)
    listed_of q k x (are_two apart) found = h.listed q k x (sym (inserted_other (sent + 1) l q ls apart) ∙ found)

-- ---- an order that was withdrawn is told

pub withdrawn_holds : (denied : IpAddr → Bool) (table : List Server) (number : ℕ) (ls : List (ℕ × OpenLookup)) (os : List (ℕ × ℕ)) (sent given : ℕ)
    → ((n : ℕ) (l : OpenLookup) → under number os ≡ Some n → under n ls ≡ Some l → has_order number l.lookup ≡ false)
    → SharedHolds denied table ls os sent given → SharedHolds denied table ls (without_order number os) sent given
withdrawn_holds denied table number ls os sent given free h = record {
  numbered = h.numbered;
  ordered = λ k past. removed_none number k os (h.ordered k past);
  each = h.each;
  listed = λ n k l there. listed_of n k l there (is_same number k);
}
  where
    -- it is open nowhere
    idle : (n : ℕ) (l : OpenLookup) (o : Option ℕ) → under number os ≡ o → under n ls ≡ Some l → opens number l.lookup ≤ times_of n o → opens number l.lookup ≡ 0
    idle n l None none there less = omega (arith, less)
    idle n l (Some m) some there less = by (is_same n m)
      where
        by : IsSame n m → opens number l.lookup ≡ 0
        by (is_one is) = opens_none number l.lookup (free m l some (subst (λ (q : ℕ). under q ls ≡ Some l) (sym is) there))
        by (are_two apart) = let none : times_of n (Some m) ≡ 0 = no_time n m (λ e. apart (sym e)) in omega (arith, less, none)

    listed_of : (n k : ℕ) (l : OpenLookup) → under n ls ≡ Some l → IsSame number k → opens k l.lookup ≤ times_of n (under k (without_order number os))
    listed_of n k l there (is_one is) =
        let none : opens k l.lookup ≡ 0 = ap (λ (m : ℕ). opens m l.lookup) is ∙ idle n l (under number os) refl there (h.listed n number l there) in
        omega (arith, none)
    listed_of n k l there (are_two apart) =
        let same : times_of n (under k (without_order number os)) ≡ times_of n (under k os) = ap (times_of n) (removed_other number k os apart) in
        let was = h.listed n k l there in omega (arith, was, same)
