-- The pools after the outcome of an open order of one of their lookups.
use Rattle.walk_tables.proofs.Names.{◌≡◌, ℕ, Bool, length, Option, Some, None, Result, sym, ap, subst, ◌∙◌, if◌then◌else◌, nat_lt, NoMemory, After, Outcome, SentBy, Tick, closed_by, IsOpenOrder, Shared, lookup_at, SameBut, denied_in, Context, HasPut, put_rest, IsPut, seen_with, LogView, AreNumbered, PendingHolds, given_after, first_of, polled_by, noted, PoolsHold, IsGivenFor, NotesOutcome, HasForgotten, HasNoted, OpenOrder, Pools, PendingLookup, later-put, put-numbered, has_more_ends, same_Some}
use Rattle.dns_core.specs.Log.{Log}
use Rattle.resolver_settings.specs.Access.{denies}
use Rattle.pool_rules.specs.AnswerFilter.{denied_by}
use Rattle.walk_lookup.proofs.SendEndsInLog.{done-so}
use Rattle.walk_lookup.proofs.OutcomeIsNoted.{after-holds, open-order}
use Rattle.walk_tables.proofs.PoolsAdvance.{pools-later}
use Rattle.walk_tables.proofs.LookupsAfterStep.{pools-lost, pools-noted}

module _ (view : LogView) (old : Pools) (n : ℕ) (w : Option SentBy) (o : Outcome) (g : OpenOrder) (given : IsGivenFor old n w o g) (h : PoolsHold view old) where
  pub its-holds : PendingHolds view old.shared n given.sought
  its-holds = h.lookups n given.sought given.is

  -- the order is open at the lookup
  pub its-order : IsOpenOrder g.number n its-holds.shared_by old.shared
  its-order = open-order view old.shared n given.sought g its-holds given.given

  module _ (tick : Tick) (shared : Shared) (new : Pools) where
    its-rest : (result : Result After NoMemory) → HasPut g.number n its-holds.shared_by o tick old.shared result shared → SameBut n old.shared shared
    its-rest result puts = put_rest g.number n its-holds.shared_by o tick old.shared shared result its-order.order puts

    its-numbered : (result : Result After NoMemory) → HasPut g.number n its-holds.shared_by o tick old.shared result shared → AreNumbered shared
    its-numbered result puts = put-numbered g.number n its-holds.shared_by o tick old.shared shared result puts h.numbered

    -- Memory ran out for the outcome: the lookup is forgotten.
    pub pools-unput : (result : Result After NoMemory) → HasPut g.number n its-holds.shared_by o tick old.shared result shared → HasForgotten n (record old { shared = shared }) new → PoolsHold view new
    pools-unput result puts lost = pools-lost view n old new shared (its-rest result puts) (its-numbered result puts) lost h

    -- The pools after the outcome.
    pub pools-put : (longer : Log) (before : ℕ) (did : After) → IsPut view tick w o (done-so did) longer → before ≡ length (closed_by (lookup_at old.shared n))
        → NotesOutcome n (record g { polled = polled_by o }) (first_of g.aim w o) before did tick.now (record old { shared = shared }) new
        → HasPut g.number n its-holds.shared_by o tick old.shared (done-so did) shared → PoolsHold (seen_with view tick w o (done-so did) longer) new
    pools-put longer before did put many note puts =
        let next = seen_with view tick w o (done-so did) longer in
        let f : Bool → PendingLookup → PendingLookup = λ ended. noted (given_after (record g { polled = polled_by o }) did) (first_of g.aim w o) (if ended then Some tick.now else None) in
        let ended : note.ended ≡ has_more_ends old.shared shared n = note.more ∙ ap (λ (k : ℕ). nat_lt k (length (closed_by (lookup_at shared n)))) many in
        let denied : denied_in old.shared ≡ denies view.policy.answer_filter = ap (λ (c : Context). denied_by c.answer_address_filter) h.servers.context in
        pools-noted next n old new shared (its-rest (done-so did) puts) (its-numbered (done-so did) puts) (f (has_more_ends old.shared shared n))
        (subst (λ (b : Bool). HasNoted n (f b) (record old { shared = shared }) new) ended note.noted)
        (λ s is. subst (λ (s : PendingLookup). PendingHolds next shared n (f (has_more_ends old.shared shared n) s)) (same_Some _ _ (sym given.is ∙ is))
        (after-holds view longer old.shared shared n given.sought tick w o g did put its-holds given.given denied puts given.ended given.none given.may))
        (pools-later view next (later-put view tick w o (done-so did) longer put) old h)
