-- The machine after a step of one of its resolutions.
use Rattle.recursor_core.proofs.MachineWords.{CanWalk, IfOk, ◌≡◌, ◌≤◌, ◌<◌, ◌+◌, ℕ, zero, suc, List, [], ◌∷◌, ◌++◌, length, All, ◌⊎◌, inl, inr, ⊎_elim, Option, Some, None, Result, Ok, Err, refl, sym, ◌∙◌, ap, subst, arith, Box, All-set, set, option_map, Log, Question, NoMemory, LogView, seen_by, Derived, KeptHolds, SameBegun, open_of, get_or_from_slice_get, slice_get_within, kept_in, Begun, begun_of, begun_at, IsOneMore, need_in, open_in, StepFor, ReplyGiven, StepGives, SameCore, RecursorCore, Step, Resolution, PoolsHold, CacheHolds, length-set}
use Rattle.std.specs.Prelude.{slice_get, MatchResult, option_and_then}
use Rattle.walk_tables.specs.declared.pools.Pools.{Pools}
use Rattle.recursor_core.proofs.OnePlaceIsSet.{slice_get-set_same}
use Rattle.walk_tables.specs.Pools.{given_so_far}
use Rattle.walk_tables.specs.Taking.{awaited_by}
use Rattle.recursor_question.specs.Resolving.{want_of, state_want, asking_of}
use Rattle.recursor_walk.specs.declared.zone_query.asking.ZoneQuery.{ZoneQuery as AtServers}
use Rattle.recursor_question.specs.declared.resolving.NextStep.{NextStep}
use Rattle.recursor_question.specs.declared.resolving.State.{State}
use Rattle.recursor_question.specs.declared.resolving.State.TheVariants.{New, Walking, Asking, Done, Ended}
use Rattle.recursor_question.specs.Steps as one
use Rattle.recursor_question.specs.declared.resolving.NextStep.TheVariants as need
use Rattle.recursor_question.specs.declared.steps.Step.TheVariants as step

-- what holds of all holds of the one that is kept at a place
pub held-at : (P : Option (Box Resolution) → Type 0) (xs : List (Option (Box Resolution))) (i : ℕ) (x : Option (Box Resolution)) → slice_get xs i ≡ Some x → All P xs → P x
held-at P xs i x at all = subst P (get_or_from_slice_get xs i x x at) (all i x (slice_get_within xs i x at))

-- what of is begun where one of a list was changed
begun-set : (xs : List (Option (Box Resolution))) (i : ℕ) (b : Box Resolution) (g : Resolution) → slice_get xs i ≡ Some (Some b) → SameBegun b.value g → (k : ℕ)
    → option_map begun_of (kept_in (slice_get (set xs i (Some (record b { value = g }))) k)) ≡ option_map begun_of (kept_in (slice_get xs k))
begun-set [] i b g at same k = cc
begun-set (x ∷ xs) zero b g at same zero =
    ap (λ (q : Question). let b : Option Begun = Some (record { question = q; moment = g.begun }) in b) same.0
    ∙ ap (λ (n : ℕ). let b : Option Begun = Some (record { question = b.value.question; moment = n }) in b) same.1
    ∙ ap (λ (o : Option (Option (Box Resolution))). option_map begun_of (kept_in o)) (sym at)
begun-set (x ∷ xs) zero b g at same (suc k) = refl
begun-set (x ∷ xs) (suc i) b g at same zero = refl
begun-set (x ∷ xs) (suc i) b g at same (suc k) = begun-set xs i b g at same k

-- and where one has ended
begun-ended : (xs : List (Option (Box Resolution))) (i : ℕ) → i < length xs → (k : ℕ)
    → (option_map begun_of (kept_in (slice_get (set xs i None) k)) ≡ option_map begun_of (kept_in (slice_get xs k)))
    ⊎ ((k ≡ i) × (option_map begun_of (kept_in (slice_get (set xs i None) k)) ≡ None))
begun-ended [] i within k = absurd (omega (arith, within))
begun-ended (x ∷ xs) zero within zero = inr (refl, refl)
begun-ended (x ∷ xs) zero within (suc k) = inl refl
begun-ended (x ∷ xs) (suc i) within zero = inl refl
begun-ended (x ∷ xs) (suc i) within (suc k) = ⊎_elim inl (λ h. inr (ap suc h.0, h.1)) (begun-ended xs i (omega arith) k)

-- where one has ended nothing is kept
pub gone-ended : (xs : List (Option (Box Resolution))) (i : ℕ) → i < length xs → kept_in (slice_get (set xs i None) i) ≡ None
gone-ended xs i within = ap kept_in (slice_get-set_same xs i None within)

-- nor beyond the last one
pub gone-past : (xs : List (Option (Box Resolution))) (i : ℕ) → length xs ≤ i → kept_in (slice_get xs i) ≡ None
gone-past [] zero h = refl
gone-past [] (suc i) h = refl
gone-past (x ∷ xs) zero h = absurd (omega (arith, h))
gone-past (x ∷ xs) (suc i) h = gone-past xs i (omega (arith, h))

-- one more leaves those before it
pub begun-push : (xs : List (Option (Box Resolution))) (r : Option (Box Resolution)) (k : ℕ) → k < length xs
    → option_map begun_of (kept_in (slice_get (xs ++ r ∷ []) k)) ≡ option_map begun_of (kept_in (slice_get xs k))
begun-push [] r k within = let none : ⊥ = omega (arith, within) in absurd none
begun-push (x ∷ xs) r zero within = refl
begun-push (x ∷ xs) r (suc k) within = begun-push xs r k (omega arith)

-- and stands last
pub begun-last : (xs : List (Option (Box Resolution))) (r : Option (Box Resolution)) → option_map begun_of (kept_in (slice_get (xs ++ r ∷ []) (length xs))) ≡ option_map begun_of (kept_in (Some r))
begun-last [] r = refl
begun-last (x ∷ xs) r = begun-last xs r

-- no question more
pub one-more-refl : (core : RecursorCore) → IsOneMore core core
one-more-refl core = record { count = omega arith; one = omega arith; before = λ k within. refl }

-- a step of one resolution that is still of its question leaves the machine as it is
pub same-at : (core new : RecursorCore) (i : ℕ) (b : Box Resolution) (g : Resolution) → slice_get core.resolutions.items i ≡ Some (Some b) → SameBegun b.value g
    → new ≡ record core { pools = new.pools; resolutions = new.resolutions } → new.resolutions.items ≡ set core.resolutions.items i (Some (record b { value = g })) → SameCore i core new
same-at core new i b g at same is items = record {
  policy = ap (λ (c : RecursorCore). c.policy) is;
  cache = ap (λ (c : RecursorCore). c.cache) is;
  greatest = ap (λ (c : RecursorCore). c.greatest) is;
  moment = ap (λ (c : RecursorCore). c.moment) is;
  count = ap length items ∙ length-set core.resolutions.items i (Some (record b { value = g }));
  begun = λ k. inl (ap (λ (rs : List (Option (Box Resolution))). option_map begun_of (kept_in (slice_get rs k))) items ∙ begun-set core.resolutions.items i b g at same k);
}

-- and so does its end
pub ended-at : (core new : RecursorCore) (i : ℕ) → i < length core.resolutions.items
    → new ≡ record core { pools = new.pools; resolutions = new.resolutions } → new.resolutions.items ≡ set core.resolutions.items i None → SameCore i core new
ended-at core new i within is items = record {
  policy = ap (λ (c : RecursorCore). c.policy) is;
  cache = ap (λ (c : RecursorCore). c.cache) is;
  greatest = ap (λ (c : RecursorCore). c.greatest) is;
  moment = ap (λ (c : RecursorCore). c.moment) is;
  count = ap length items ∙ length-set core.resolutions.items i None;
  begun = λ k. subst (λ (rs : List (Option (Box Resolution))). (option_map begun_of (kept_in (slice_get rs k)) ≡ begun_at core k) ⊎ ((k ≡ i) × (option_map begun_of (kept_in (slice_get rs k)) ≡ None)))
      (sym items) (begun-ended core.resolutions.items i within k);
}

-- what it keeps is derived after a step of the resolution at a place, where this and the pools hold
pub derived-at : (core new : RecursorCore) (log : Log) (i : ℕ) (x y : Option (Box Resolution)) → slice_get core.resolutions.items i ≡ Some x
    → new ≡ record core { pools = new.pools; resolutions = new.resolutions } → new.resolutions.items ≡ set core.resolutions.items i y → Derived core log
    → (KeptHolds (seen_by core log) x → KeptHolds (seen_by core log) y × PoolsHold (seen_by core log) new.pools) → Derived new log
derived-at core new log i x y at is items d step =
    let view = seen_by core log in
    let same : seen_by new log ≡ view = ap (λ (c : RecursorCore). seen_by c log) is in
    let stepped = step (held-at (KeptHolds view) core.resolutions.items i x at d.resolutions) in
    record {
      bound = subst (λ (v : LogView). v.greatest < log.next) (sym same) d.bound;
      walks = subst (λ (v : LogView). CanWalk v.policy) (sym same) d.walks;
      cache = subst (λ (v : LogView). CacheHolds v new.cache) (sym same) (subst (CacheHolds view) (sym (ap (λ (c : RecursorCore). c.cache) is)) d.cache);
      pools = subst (λ (v : LogView). PoolsHold v new.pools) (sym same) stepped.1;
      resolutions = subst (λ (v : LogView). All (KeptHolds v) new.resolutions.items) (sym same)
          (subst (All (KeptHolds view)) (sym items) (All-set (KeptHolds view) core.resolutions.items i y stepped.0 d.resolutions));
    }

-- one question after two steps
begun-trans : (k r : ℕ) (a b c : Option Begun) → (b ≡ a) ⊎ ((k ≡ r) × (b ≡ None)) → (c ≡ b) ⊎ ((k ≡ r) × (c ≡ None)) → (c ≡ a) ⊎ ((k ≡ r) × (c ≡ None))
begun-trans k r a b c (inl x) (inl y) = inl (y ∙ x)
begun-trans k r a b c (inr x) (inl y) = inr (x.0, y ∙ x.1)
begun-trans k r a b c x (inr y) = inr y

-- two steps
pub same-trans : (r : ℕ) (a b c : RecursorCore) → SameCore r a b → SameCore r b c → SameCore r a c
same-trans r a b c x y = record {
  policy = y.policy ∙ x.policy;
  cache = y.cache ∙ x.cache;
  greatest = y.greatest ∙ x.greatest;
  moment = y.moment ∙ x.moment;
  count = y.count ∙ x.count;
  begun = λ k. begun-trans k r (begun_at a k) (begun_at b k) (begun_at c k) (x.begun k) (y.begun k);
}

-- no step
pub same-refl : (r : ℕ) (core : RecursorCore) → SameCore r core core
same-refl r core = record { policy = refl; cache = refl; greatest = refl; moment = refl; count = refl; begun = λ k. inl refl }

-- what a step of one resolution comes to
step-at : (old new : Pools) (was g : Resolution) (s : Step) → one.StepIs old new was g s → StepFor (given_so_far old) (given_so_far new) (want_of was) (want_of g) (open_of new g) s
step-at old new was g (step.Order number order) h = h
step-at old new was g (step.Waiting number) h = h
step-at old new was g (step.Done reply) h = (h.0, ap state_want h.1)
step-at old new was g step.Ended h = (h.0, ap state_want h.1)

-- so it does for the place at which it is kept
pub steps-at : (old new : Pools) (xs : List (Option (Box Resolution))) (i : ℕ) (b : Box Resolution) (g : Resolution) (result : Result Step NoMemory) → slice_get xs i ≡ Some (Some b)
    → IfOk result (one.StepIs old new b.value g) → given_so_far old ≤ given_so_far new
    → MatchResult result (StepFor (given_so_far old) (given_so_far new) (need_in (kept_in (slice_get xs i))) (need_in (kept_in (slice_get (set xs i (Some (record b { value = g }))) i)))
    (open_in new (kept_in (slice_get (set xs i (Some (record b { value = g }))) i)))) (λ e. given_so_far old ≤ given_so_far new)
steps-at old new xs i b g (Err e) at h given = given
steps-at old new xs i b g (Ok s) at h given =
    subst (λ (o : Option (Option (Box Resolution))). StepFor (given_so_far old) (given_so_far new) (need_in (kept_in (slice_get xs i))) (need_in (kept_in o)) (open_in new (kept_in o)) s)
    (sym (slice_get-set_same xs i (Some (record b { value = g })) (slice_get_within xs i (Some b) at)))
    (subst (λ (o : Option (Option (Box Resolution))). StepFor (given_so_far old) (given_so_far new) (need_in (kept_in o)) (want_of g) (open_of new g) s) (sym at) (step-at old new b.value g s h))

-- what a step of one gives is derived
pub gives-at : (core : RecursorCore) (log : Log) (r : ℕ) (b : Box Resolution) (s : Step) → slice_get core.resolutions.items r ≡ Some (Some b)
    → one.StepGives (seen_by core log) b.value s → StepGives core log r s
gives-at core log r b (step.Order number order) at h = h
gives-at core log r b (step.Waiting number) at h = tt
gives-at core log r b (step.Done reply) at h =
    subst (λ (o : Option (Option (Box Resolution))). ReplyGiven (seen_by core log) (option_map begun_of (kept_in o)) reply.value) (sym at) h.0
gives-at core log r b step.Ended at h = tt

-- a step is so where no more than what had ended is forgotten after it
pub step-kept : (before after kept : ℕ) (was left stays : NextStep) (waits awaited : Option ℕ) (s : Step) → kept ≡ after → stays ≡ left → awaited ≡ waits
    → StepFor before after was left waits s → StepFor before kept was stays awaited s
step-kept before after kept was left stays waits awaited s given need waited h =
    subst (λ (n : ℕ). StepFor before n was stays awaited s) (sym given)
    (subst (λ (w : NextStep). StepFor before after was w awaited s) (sym need) (subst (λ (o : Option ℕ). StepFor before after was left o s) (sym waited) h))

-- one that has ended waits for nothing
ended-state : (pools : Pools) (r : Resolution) (s : State) → r.state ≡ s → state_want s ≡ need.Nothing → open_of pools r ≡ None
ended-state pools r Ended is h = ap (λ (s : State). option_and_then (λ (a : AtServers). awaited_by pools a.lookup) (asking_of s)) is
ended-state pools r New is h = cc
ended-state pools r (Walking w) is h = cc
ended-state pools r (Asking a) is h = cc
ended-state pools r (Done reply) is h = cc

pub ended-waits : (pools : Pools) (o : Option Resolution) → need_in o ≡ need.Nothing → open_in pools o ≡ None
ended-waits pools None h = refl
ended-waits pools (Some r) h = ended-state pools r r.state refl h
