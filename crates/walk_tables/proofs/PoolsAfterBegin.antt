-- The pools after a lookup has begun.
use Rattle.walk_tables.proofs.Names.{◌≡◌, ℕ, ◌≤◌, None, Result, Ok, Err, IfOk, OnErr, refl, sym, ap, subst, ◌∙◌, arith, same_Some, none-some, NoMemory, Shared, lookup_at, SameBut, PoolLookup, LogView, AreNumbered, PendingHolds, PoolsHold, HasKept, HasLeft, Pools, PendingLookup, numbered-same, left-rest, left-numbered, IsCarried, sought-carried, same_but-trans}
use Rattle.walk_tables.proofs.LookupsAfterStep.{servers-with, pools-given}

-- the pools hold after one more pool was numbered
pub pools-numbered : (view : LogView) (old : Pools) (shared : Shared) (k : ℕ) → old.shared.pools ≤ k → shared ≡ record old.shared { pools = k } → PoolsHold view old → PoolsHold view (record old { shared = shared })
pools-numbered view old shared k more is h =
    let count : shared.pools ≡ k = ap (λ (x : Shared). x.pools) is in
    record {
      servers = servers-with view.policy old (record old { shared = shared }) refl (ap (λ (x : Shared). x.context) is) refl (carried 0).reached h.servers;
      numbered = numbered-same old.shared shared (ap (λ (x : Shared). x.lookups) is) (ap (λ (x : Shared). x.sent) is) (omega (arith, more, count)) h.numbered;
      lookups = λ m s at. sought-carried view m old.shared shared s (carried m) (h.lookups m s at);
    }
  where
    carried : (m : ℕ) → IsCarried m old.shared shared
    carried m = subst (IsCarried m old.shared) (sym is) (record { there = λ l at. at; reached = λ n config at. at; orders = λ number at. at })

module _ (view : LogView) (n : ℕ) (s : PendingLookup) (old new : Pools) (shared : Shared) (rest : SameBut n old.shared shared) (numbered : AreNumbered shared) (h : PoolsHold view old) where
  -- it is kept
  kept-begun : PendingHolds view shared n s → HasKept n s (record old { shared = shared }) new → PoolsHold view new
  kept-begun holds kept =
      pools-given view n old new (subst (λ (x : Shared). SameBut n old.shared x) (sym kept.same.shared) rest) (subst AreNumbered (sym kept.same.shared) numbered) kept.same.numbers kept.same.delays kept.others
      (λ t there. subst (PendingHolds view new.shared n) (same_Some _ _ (sym kept.is ∙ there)) (subst (λ (x : Shared). PendingHolds view x n s) (sym kept.same.shared) holds)) h

  -- it is left again, where memory runs out: nothing was sought by it before
  left-begun : lookup_at old.shared n ≡ None → HasLeft n (record old { shared = shared }) new → PoolsHold view new
  left-begun fresh left =
      pools-given view n old new (same_but-trans n old.shared shared new.shared rest (left-rest n shared new.shared left.left))
      (left-numbered n shared new.shared left.left left.last numbered) left.numbers left.delays (λ m other. left.sought m)
      (λ t there.
      let before = h.lookups n t (sym (left.sought n) ∙ there) in
      absurd (none-some before.shared_by (sym fresh ∙ before.there))) h

  -- The lookup has begun, or was left.
  pub pools-begun : (result : Result PoolLookup NoMemory) (l : PoolLookup) → lookup_at old.shared n ≡ None → PendingHolds view shared n s
      → IfOk result (λ kept. HasKept n s (record old { shared = shared }) new × (kept ≡ l)) → OnErr result (HasLeft n (record old { shared = shared }) new) → PoolsHold view new
  pools-begun (Ok k) l fresh holds ok err = kept-begun holds ok.0
  pools-begun (Err e) l fresh holds ok err = left-begun fresh err
