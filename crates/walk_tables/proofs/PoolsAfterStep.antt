-- The pools after a step of one of their lookups.
use Rattle.walk_tables.proofs.Names.{◌≡◌, ℕ, ◌+◌, true, Option, Some, None, refl, sym, ap, subst, ◌∙◌, Result, Ok, Err, IfOk, OnErr, ◌⊎◌, inl, inr, is_some, Order, Shared, lookup_at, SameBut, HasStepped, HasHalted, OpenLookup, PoolStep, next_rest, LogView, AreNumbered, PendingHolds, aim_of, noted, PoolsHold, HasNoted, sought_at, HasForgotten, answer_at, OpenOrder, Pools, PendingLookup, same-rest, stepped-numbered, halted-rest, halted-numbered, NoMemory}
use Rattle.order_carrier.specs.Fits.{GoesToServer}
use Rattle.resolution.specs.Lookups.{Answered}
use Rattle.walk_lookup.proofs.OrderIsGiven.{done-answer, done-holds, order-goes, ordered-holds}
use Rattle.walk_tables.proofs.LookupsAfterStep.{pools-lost, pools-noted}
use Rattle.server_pool.specs.declared.pool_shared.PoolStep.TheVariants as gives

-- what was there is sought
pub sought-there : (o : Option PendingLookup) → is_some o ≡ true → (s : PendingLookup) × (o ≡ Some s)
sought-there None there = cc
sought-there (Some s) there = (s, refl)

module _ (view : LogView) (n : ℕ) (old new : Pools) (shared : Shared) (h : PoolsHold view old) (there : is_some (sought_at old n) ≡ true) where
  -- what is sought by it
  abbrev found : (s : PendingLookup) × (sought_at old n ≡ Some s)
  found = sought-there (sought_at old n) there

  abbrev hold : PendingHolds view old.shared n found.0
  hold = h.lookups n found.0 found.1

  module _ (told : PoolStep) (steps : (l : OpenLookup) → lookup_at old.shared n ≡ Some l → HasStepped n view.moment l old.shared told shared) where
    stepped : (s : PendingLookup) (is : sought_at old n ≡ Some s) → HasStepped n view.moment (h.lookups n s is).shared_by old.shared told shared
    stepped s is = steps (h.lookups n s is).shared_by (h.lookups n s is).there

    -- The step was noted.
    stepped-noted : (given : Option OpenOrder) → HasNoted n (noted given None None) (record old { shared = shared }) new
        → ((s : PendingLookup) → sought_at old n ≡ Some s → PendingHolds view shared n (noted given None None s)) → PoolsHold view new
    stepped-noted given note holds =
        let t = stepped found.0 found.1 in
        pools-noted view n old new shared (next_rest n view.moment hold.shared_by old.shared shared told t)
        (stepped-numbered n view.moment hold.shared_by old.shared shared told t h.numbered) (noted given None None) note holds h

    -- The lookup gave the order.
    pub pools-ordered : (number : ℕ) (o : Order) → told ≡ gives.Order number o
        → HasNoted n (noted (Some (record { number = number; aim = aim_of o; since = view.greatest; polled = None })) None None) (record old { shared = shared }) new → PoolsHold view new
    pools-ordered number o is note = stepped-noted (Some (record { number = number; aim = aim_of o; since = view.greatest; polled = None })) note
        (λ s at. ordered-holds view old.shared shared n s told (h.lookups n s at) (stepped s at) number o is)

    -- It has its answer.
    pub pools-done : HasNoted n (noted None None None) (record old { shared = shared }) new → PoolsHold view new
    pools-done note = stepped-noted None note (λ s at. done-holds view old.shared shared n s told (h.lookups n s at) (stepped s at))

    -- that is what it told
    pub pools-answer : (answer : Answered) → told ≡ gives.Done answer → HasNoted n (noted None None None) (record old { shared = shared }) new → answer_at new.shared n ≡ Some answer
    pools-answer answer is note = ap (λ (x : Shared). answer_at x n) note.same.shared ∙ done-answer view old.shared shared n found.0 told hold (stepped found.0 found.1) answer is

    -- The order goes to a server of what is sought.
    pub pools-go : (number : ℕ) (o : Order) → told ≡ gives.Order number o → GoesToServer view.policy view.log (view.greatest + 1) o
    pools-go number o is = order-goes view old.shared shared n found.0 told hold (stepped found.0 found.1) number o is

  -- Where memory runs out, or the lookup waits, it is forgotten.
  pub pools-waits : (result : Result PoolStep NoMemory)
      → ((l : OpenLookup) → lookup_at old.shared n ≡ Some l → IfOk result (λ told. HasStepped n view.moment l old.shared told shared))
      → ((l : OpenLookup) → lookup_at old.shared n ≡ Some l → OnErr result ((shared ≡ old.shared) ⊎ HasHalted n view.moment l old.shared shared))
      → HasForgotten n (record old { shared = shared }) new → PoolsHold view new
  pools-waits result steps halts lost = by hold.shared_by result (steps hold.shared_by hold.there) (halts hold.shared_by hold.there)
    where
      forgotten : SameBut n old.shared shared → AreNumbered shared → PoolsHold view new
      forgotten rest numbered = pools-lost view n old new shared rest numbered lost h

      by : (l : OpenLookup) (r : Result PoolStep NoMemory) → IfOk r (λ told. HasStepped n view.moment l old.shared told shared) → OnErr r ((shared ≡ old.shared) ⊎ HasHalted n view.moment l old.shared shared)
          → PoolsHold view new
      by l (Ok told) step halt = forgotten (next_rest n view.moment l old.shared shared told step) (stepped-numbered n view.moment l old.shared shared told step h.numbered)
      by l (Err e) step (inl same) = forgotten (same-rest n old.shared shared same) (subst AreNumbered (sym same) h.numbered)
      by l (Err e) step (inr halt) = forgotten (halted-rest n view.moment l old.shared shared halt) (halted-numbered n view.moment l old.shared shared halt h.numbered)
