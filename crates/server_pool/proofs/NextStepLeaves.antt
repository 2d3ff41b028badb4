-- What the next step of a lookup leaves of what the pools share.
use Rattle.std.proofs.Common.{◌≡◌, ◌∙◌, ℕ, ◌+◌, List, length, Option, Some, None, Result, Ok, Err, IfOk, OnErr, inl, inr, refl, ap, sym, subst, arith}
use Rattle.std.specs.Prelude.{◌⊎◌}
use Rattle.std.proofs.lemmas.List.{length-map}
use Rattle.std.specs.BTreeMap.{insert_entry}
use Rattle.std.specs.Ordering.{nat_cmp}
use Rattle.dns_core.specs.declared.errors.NoMemory.{NoMemory}
use Rattle.dns_core.specs.declared.net_error.NetError.TheVariants.{NoConnections}
use Rattle.server_core.specs.Servers.{Server}
use Rattle.pool_lookup.specs.declared.giving.LookupStep.{LookupStep}
use Rattle.pool_lookup.specs.declared.giving.LookupStep.TheVariants as step
use Rattle.pool_lookup.specs.Giving.{Halts}
use Rattle.pool_lookup.specs.Lookup.{LookupState}
use Rattle.pool_lookup.specs.Rounds.{started}
use Rattle.pool_lookup.proofs.ReachedAsBefore.{stepped_configs, halted_configs}
use Rattle.server_pool.specs.OpenLookups.{moved_to, under}
use Rattle.server_pool.specs.LookupOrders.{without_order, orders_by, given_by}
use Rattle.server_pool.specs.LookupSteps.{IsStepAt, IsHaltedAt}
use Rattle.server_pool.specs.declared.open_lookups.open_lookup.OpenLookup.{OpenLookup}
use Rattle.server_pool.proofs.UnderNumbers.{found_with, remove_inserted}
use Rattle.server_pool.specs.Holds.{times_of, SharedHolds}
use Rattle.server_pool.specs.Promises.{IsFairly, IfDone, IfWaiting}
use Rattle.server_pool.specs.Shared.{Shared, lookup_at, denied_in, configs}
use Rattle.server_pool.specs.Stepping.{told_as, told_by, with_rest, HasStepped, HasHalted}
use Rattle.server_pool.specs.declared.pool_shared.PoolStep.TheVariants as gives
use Rattle.server_pool.proofs.PoolsHoldOn.{stepped_holds, halted_holds}
use Rattle.server_pool.proofs.LookupsPromised.{fairly, if_done, if_waiting}

-- so it was called
pub record IsNext (n now : ℕ) (old : Shared) (r : Result LookupStep NoMemory) (new : Shared) : Type 0 where
  pub ok : (l : OpenLookup) → under n old.lookups ≡ Some l → IfOk r (λ made. IsStepAt n (old.given + 1) now l old.lookups old.table made new.lookups new.table)
  pub err : (l : OpenLookup) → under n old.lookups ≡ Some l → OnErr r (IsHaltedAt n now l old.lookups old.table new.lookups new.table)
  pub gone : under n old.lookups ≡ None → (r ≡ Ok (step.Done (Err NoConnections))) × (new.lookups ≡ old.lookups) × (new.table ≡ old.table)
  pub orders : new.orders ≡ given_by r (insert_entry nat_cmp old.orders (old.given + 1) n) old.orders
  pub given : new.given ≡ given_by r (old.given + 1) old.given
  pub rest : new ≡ with_rest old new
  pub holds : SharedHolds (denied_in old) old.table old.lookups old.orders old.sent old.given

abbrev made_of : LookupStep → Result LookupStep NoMemory
made_of made = Ok made

some_same : {X : Type 0} {x y : X} → Some x ≡ Some y → x ≡ y
some_same e = cc

-- an order that was not given leaves no room behind
pub kept_orders : (r : Result LookupStep NoMemory) (number given n : ℕ) (os room new : List (ℕ × ℕ)) → number ≡ given + 1 → room ≡ insert_entry nat_cmp os number n → under (given + 1) os ≡ None
    → new ≡ given_by r room (without_order number room) → new ≡ given_by r (insert_entry nat_cmp os (given + 1) n) os
kept_orders r number given n os room new is room_is fresh h =
    h
    ∙ ap (λ (es : List (ℕ × ℕ)). given_by r es (without_order number es)) room_is
    ∙ ap (λ (k : ℕ). given_by r (insert_entry nat_cmp os k n) (without_order k (insert_entry nat_cmp os k n))) is
    ∙ ap (given_by r (insert_entry nat_cmp os (given + 1) n)) (remove_inserted (given + 1) n os fresh)

-- how many servers there are
pub same_length : (old new : List Server) → configs new ≡ configs old → length new ≡ length old
same_length old new same = sym (length-map new (λ (s : Server). s.config)) ∙ ap length same ∙ length-map old (λ (s : Server). s.config)

halts_configs : (l : LookupState) (old new : List Server) → Halts l old new → configs new ≡ configs old
halts_configs l old new (inl is) = ap configs is
halts_configs l old new (inr is) = ap configs is ∙ halted_configs l old

module _ (n now : ℕ) (old new : Shared) where
  -- the settings and the count of requests stay
  same_sent : (r : Result LookupStep NoMemory) → IsNext n now old r new → new.sent ≡ old.sent
  same_sent r h = ap (λ (s : Shared). s.sent) h.rest

  -- where nothing was given, the fields that may change are these
  unchanged : new ≡ with_rest old new → new.lookups ≡ old.lookups → new.table ≡ old.table → new.orders ≡ old.orders → new.given ≡ old.given → new ≡ old
  unchanged rest ls table os given =
      rest
      ∙ ap (λ (x : List Server). record old { table = x; lookups = new.lookups; orders = new.orders; given = new.given }) table
      ∙ ap (λ (x : List (ℕ × OpenLookup)). record old { lookups = x; orders = new.orders; given = new.given }) ls
      ∙ ap (λ (x : List (ℕ × ℕ)). record old { orders = x; given = new.given }) os
      ∙ ap (λ (x : ℕ). record old { given = x }) given

  pub next_gone : (r : Result LookupStep NoMemory) → IsNext n now old r new → lookup_at old n ≡ None → IfOk (told_by (old.given + 1) r) (λ told. told ≡ gives.Done (Err NoConnections)) × (new ≡ old)
  next_gone r h none =
      let g = h.gone none in
      let told : IfOk (told_by (old.given + 1) r) (λ t. t ≡ gives.Done (Err NoConnections)) = rw g.0 refl in
      let os : new.orders ≡ old.orders = h.orders ∙ ap (λ (x : Result LookupStep NoMemory). given_by x (insert_entry nat_cmp old.orders (old.given + 1) n) old.orders) g.0 in
      let given : new.given ≡ old.given = h.given ∙ ap (λ (x : Result LookupStep NoMemory). given_by x (old.given + 1) old.given) g.0 in
      (told, unchanged h.rest g.1 g.2 os given)

  -- and how they are reached
  pub next_configs : (r : Result LookupStep NoMemory) → IsNext n now old r new → configs new.table ≡ configs old.table
  next_configs r h = at_lookup (under n old.lookups) refl
    where
      at_result : (l : OpenLookup) → under n old.lookups ≡ Some l → (x : Result LookupStep NoMemory) → IsNext n now old x new → configs new.table ≡ configs old.table
      at_result l there (Ok made) g = ap configs (g.ok l there).table ∙ stepped_configs (started now l.lookup) old.table
      at_result l there (Err e) g = halts_configs (started now l.lookup) old.table new.table (g.err l there).table

      at_lookup : (o : Option OpenLookup) → under n old.lookups ≡ o → configs new.table ≡ configs old.table
      at_lookup None none = ap configs (h.gone none).2
      at_lookup (Some l) there = at_result l there r h

  -- what is true stays true
  pub next_holds : (r : Result LookupStep NoMemory) → IsNext n now old r new → SharedHolds (denied_in old) new.table new.lookups new.orders new.sent new.given
  next_holds r h = at_lookup (under n old.lookups) refl
    where
      at_result : (l : OpenLookup) → under n old.lookups ≡ Some l → (x : Result LookupStep NoMemory) → IsNext n now old x new → SharedHolds (denied_in old) new.table new.lookups new.orders new.sent new.given
      at_result l there (Ok made) g =
          let holds : SharedHolds (denied_in old) new.table new.lookups (orders_by made (insert_entry nat_cmp old.orders (old.given + 1) n) old.orders) old.sent (orders_by made (old.given + 1) old.given) =
          stepped_holds (denied_in old) old.table n now l old.lookups old.orders old.sent old.given there g.holds made new.lookups new.table (g.ok l there) in
          subst (λ (k : ℕ). SharedHolds (denied_in old) new.table new.lookups new.orders k new.given) (sym (same_sent (Ok made) g))
          (subst (λ (k : ℕ). SharedHolds (denied_in old) new.table new.lookups new.orders old.sent k) (sym g.given)
          (subst (λ (os : List (ℕ × ℕ)). SharedHolds (denied_in old) new.table new.lookups os old.sent (orders_by made (old.given + 1) old.given)) (sym g.orders) holds))
      at_result l there (Err e) g =
          let holds : SharedHolds (denied_in old) new.table new.lookups old.orders old.sent old.given =
          halted_holds (denied_in old) old.table n now l old.lookups old.orders old.sent old.given there g.holds new.lookups new.table (g.err l there) in
          subst (λ (k : ℕ). SharedHolds (denied_in old) new.table new.lookups new.orders k new.given) (sym (same_sent (Err e) g))
          (subst (λ (k : ℕ). SharedHolds (denied_in old) new.table new.lookups new.orders old.sent k) (sym g.given)
          (subst (λ (os : List (ℕ × ℕ)). SharedHolds (denied_in old) new.table new.lookups os old.sent old.given) (sym g.orders) holds))

      at_lookup : (o : Option OpenLookup) → under n old.lookups ≡ o → SharedHolds (denied_in old) new.table new.lookups new.orders new.sent new.given
      at_lookup None none = subst (λ (s : Shared). SharedHolds (denied_in old) s.table s.lookups s.orders s.sent s.given) (sym (next_gone r h none).1) h.holds
      at_lookup (Some l) there = at_result l there r h

  -- the step, as one of the pool
  pub next_steps : (r : Result LookupStep NoMemory) → IsNext n now old r new → (l : OpenLookup) → lookup_at old n ≡ Some l → IfOk (told_by (old.given + 1) r) (λ told. HasStepped n now l old told new)
  next_steps (Ok made) h l there =
      let unused : under (old.given + 1) old.orders ≡ None = h.holds.ordered (old.given + 1) (omega arith) in
      let listed = h.holds.listed n (old.given + 1) l there in
      let none : times_of n (under (old.given + 1) old.orders) ≡ 0 = ap (times_of n) unused in
      record { made = made; is = refl; step = h.ok l there; orders = h.orders; given = h.given; rest = h.rest; unused = unused; idle = omega (arith, listed, none) }
  next_steps (Err e) h l there = tt

  pub next_halts : (r : Result LookupStep NoMemory) → IsNext n now old r new → (l : OpenLookup) → lookup_at old n ≡ Some l → OnErr (told_by (old.given + 1) r) ((new ≡ old) ⊎ HasHalted n now l old new)
  next_halts (Ok made) h l there = tt
  next_halts (Err e) h l there = inr (record {
    halted = h.err l there;
    rest =
        h.rest
        ∙ ap (λ (os : List (ℕ × ℕ)). record old { table = new.table; lookups = new.lookups; orders = os; given = new.given }) h.orders
        ∙ ap (λ (k : ℕ). record old { table = new.table; lookups = new.lookups; given = k }) h.given;
  })

  -- what is promised
  pub next_fair : (r : Result LookupStep NoMemory) → IsNext n now old r new → (l : OpenLookup) → lookup_at new n ≡ Some l → IsFairly l.lookup
  next_fair r h l there = fairly (denied_in old) l.lookup ((next_holds r h).each n l there).rules

  pub next_answer : (r : Result LookupStep NoMemory) → IsNext n now old r new → (l : OpenLookup) → lookup_at new n ≡ Some l → IfOk (told_by (old.given + 1) r) (IfDone (denied_in old) l.lookup)
  next_answer (Err e) h l there = tt
  next_answer (Ok made) h l there = at_old (under n old.lookups) refl
    where
      at_old : (o : Option OpenLookup) → under n old.lookups ≡ o → IfDone (denied_in old) l.lookup (told_as (old.given + 1) made)
      at_old None none =
          let was : under n old.lookups ≡ Some l = ap (λ (s : Shared). under n s.lookups) (sym (next_gone (Ok made) h none).1) ∙ there in
          let wrong : None ≡ Some l = sym none ∙ was in cc
      at_old (Some x) some =
          let s = h.ok x some in
          let found : under n new.lookups ≡ Some (moved_to s.next x) = ap (under n) s.lookups ∙ found_with n (moved_to s.next) x old.lookups some in
          let one : moved_to s.next x ≡ l = some_same (sym found ∙ there) in
          let is : s.next ≡ l.lookup = ap (λ (y : OpenLookup). y.lookup) one in
          let rules = ((next_holds (Ok made) h).each n (moved_to s.next x) found).rules in
          subst (λ (y : LookupState). IfDone (denied_in old) y (told_as (old.given + 1) made)) is (if_done (denied_in old) (old.given + 1) now old.table (started now x.lookup) s.next made s.gives rules)

  pub next_waits : (r : Result LookupStep NoMemory) → IsNext n now old r new → IfOk (told_by (old.given + 1) r) (IfWaiting n new)
  next_waits (Err e) h = tt
  next_waits (Ok made) h = at_old (under n old.lookups) refl
    where
      done_waits : (x : LookupStep) → made_of x ≡ made_of (step.Done (Err NoConnections)) → IfWaiting n new (told_as (old.given + 1) x)
      done_waits (step.Order order) e = tt
      done_waits step.Waiting e = cc
      done_waits (step.Done answer) e = tt

      at_old : (o : Option OpenLookup) → under n old.lookups ≡ o → IfWaiting n new (told_as (old.given + 1) made)
      at_old None none = done_waits made (h.gone none).0
      at_old (Some l) some = if_waiting (denied_in old) n now old.table l old.lookups made (old.given + 1) new some (h.ok l some) (next_holds (Ok made) h)
