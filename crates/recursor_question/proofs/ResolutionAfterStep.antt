-- A resolution after a step.
use Rattle.recursor_question.proofs.Words.{◌≡◌, ◌≤◌, ◌<◌, ◌+◌, ◌∙◌, ◌↔◌, ℕ, true, Option, Some, None, Result, Ok, Err, IfOk, IsErr, OnErr, IfSome, IsTrue, refl, sym, ap, subst, arith, Query, Question, NoMemory, LeavesLess, want_after, want_steps, LogView, Reply, ZoneQueryHolds, LastHolds, SameSite, LeavesFewer, Goes, Recalls, EndsIf, RepliesWith, reply_with, SourcedVerdict, Verdict, WalkHolds, state_want, state_steps, steps, asked_of, IsWalked, IsSettled, IsOpen, StaysOpen, AsksOn, SameBegun, IsUnder, IsDone, IsDoneWith, IsAnswered, StateHolds, ResolutionHolds, WalkOutcome, Walk, State, New, Walking, Asking, Resolution}
use Rattle.std.specs.Global.{Box}
use Rattle.walk_tables.specs.declared.lookup.QueryStep.{QueryStep}
use Rattle.walk_tables.specs.declared.lookup.QueryStep.TheVariants.{Step}
use Rattle.walk_tables.specs.declared.pools.PoolsStep.{PoolsStep}
use Rattle.resolution.specs.Failing.{ends_walk}
use Rattle.recursor_walk.proofs.WalkGoesOn.{walk-asked}
use Rattle.recursor_walk.specs.declared.zone_query.asking.ZoneQuery.{ZoneQuery as AtServers}
use Rattle.walk_tables.specs.declared.pools.PoolsStep.TheVariants as stepped
use Rattle.recursor_walk.specs.ZoneQuery as asking
use Rattle.recursor_walk.specs.Walk as walk
use Rattle.recursor_walk.specs.declared.walk.WalkOutcome.TheVariants as course
use Rattle.recursor_question.specs.declared.resolving.NextStep.TheVariants as need

-- ---- a step of what it asks

-- a resolution with this state
abbrev pub with-state : Resolution → State → Resolution
with-state r s = record r { state = s }

-- its walk asks the same, and as it did where memory ran out
pub same-walk : {X : Type 0} (r : Resolution) (b : Box Walk) (a : AtServers) (result : Result X NoMemory) → r.state ≡ Walking b → SameSite b.value.asking a
    → OnErr result (a ≡ b.value.asking) → AsksOn result r (with-state r (Walking (record b { value = record b.value { asking = a } })))
same-walk r b a (Ok x) is site same = ap (λ (q : Query). Some q) site.2 ∙ sym (ap asked_of is)
same-walk r b a (Err e) is site same =
    ap (with-state r) (ap (λ (x : AtServers). Walking (record b { value = record b.value { asking = x } })) same ∙ sym is)

-- so it is where the question itself is asked
pub same-asking : {X : Type 0} (r : Resolution) (b : Box AtServers) (a : AtServers) (result : Result X NoMemory) → r.state ≡ Asking b → SameSite b.value a
    → OnErr result (a ≡ b.value) → AsksOn result r (with-state r (Asking (record b { value = a })))
same-asking r b a (Ok x) is site same = ap (λ (q : Query). Some q) site.2 ∙ sym (ap asked_of is)
same-asking r b a (Err e) is site same = ap (with-state r) (ap (λ (x : AtServers). Asking (record b { value = x })) same ∙ sym is)

-- a resolution whose walk asks on
pub walk-holds : (view : LogView) (r : Resolution) (b : Box Walk) (a : AtServers) → r.begun ≤ view.moment
    → WalkHolds view r.begun r.question.query b.value → SameSite b.value.asking a → ZoneQueryHolds view r.begun a
    → ResolutionHolds view (with-state r (Walking (record b { value = record b.value { asking = a } })))
walk-holds view r b a early h same asks = record { begun = early; state = walk-asked view r.begun r.question.query b.value a h same asks }

-- one that asks on at last
pub asking-holds : (view : LogView) (r : Resolution) (b : Box AtServers) (a : AtServers) → r.begun ≤ view.moment
    → LastHolds view r.begun r.question.query b.value → SameSite b.value a → ZoneQueryHolds view r.begun a
    → ResolutionHolds view (with-state r (Asking (record b { value = a })))
asking-holds view r b a early h same asks = record { begun = early; state = record { asks = same.2 ∙ h.asks; own = rw (same.0, same.2) h.own; holds = asks } }

-- ---- a step that goes somewhere

-- what is left where it goes as its walk
pub follow-falls : (q : Query) (old : Walk) (w : Box Walk) (came : Result WalkOutcome NoMemory) (state : State)
    → IsWalked q came (Walking w) state → Goes old w.value came → state_steps q state < walk.steps old
follow-falls q old w (Ok course.Continue) state is h = let left = ap (state_steps q) is in omega (arith, left, h)
follow-falls q old w (Ok course.ServersReached) state is h = omega (arith, is)
follow-falls q old w _ state is h = let left = ap (state_steps q) is in omega (arith, left)

-- and where it is answered, or not yet
pub settle-falls : (q : Query) (old : AtServers) (a : Box AtServers) (came : Result (Option (Box Reply)) NoMemory) (state : State)
    → IsSettled came (Asking a) state → IfOk came (LeavesFewer old a.value) → state_steps q state < asking.steps old
settle-falls q old a (Ok None) state is h = let left = ap (state_steps q) is in omega (arith, left, h)
settle-falls q old a _ state is h = let left = ap (state_steps q) is in omega (arith, left)

-- what the cache has is heeded for the question itself
pub settle-heeds : {X : Type 0} (question : Question) (a : Box AtServers) (counted : Option SourcedVerdict) (came : Result (Option (Box Reply)) NoMemory) (result : Result X NoMemory) (state : State)
    → IsSettled came (Asking a) state → (IsErr result ↔ IsErr came) → IfOk came (RepliesWith question counted) → IfOk result (λ x. IsAnswered question counted state)
settle-heeds question a None (Ok None) (Ok x) state is errs replies = subst IsUnder (sym is) tt
settle-heeds question a (Some c) (Ok (Some reply)) (Ok x) state is errs replies = subst (IsDoneWith (reply_with question c)) (sym is) replies
settle-heeds question a None (Ok (Some reply)) (Ok x) state is errs replies = cc
settle-heeds question a (Some c) (Ok None) (Ok x) state is errs replies = absurd replies
settle-heeds question a counted (Err d) (Ok x) state is errs replies = let no = errs.1 refl in cc
settle-heeds question a counted came (Err e) state is errs replies = tt

-- what came is heard for a candidate of its walk
pub follow-hears : {X : Type 0} (q : Query) (old : State) (v : Option Verdict) (came : Result WalkOutcome NoMemory) (result : Result X NoMemory) (state : State)
    → IsWalked q came old state → StaysOpen result state → EndsIf v came → IfOk result (λ x. IfSome v (λ v. IsTrue (ends_walk v) → IsDone state))
follow-hears q old None came (Ok x) state is stays ends = tt
follow-hears q old (Some v) (Ok (course.Reply reply)) (Ok x) state is stays ends = λ it. subst IsDone (sym is) tt
follow-hears q old (Some v) (Ok _) (Ok x) state is stays ends = λ it. absurd (ends it)
follow-hears q old (Some v) (Err e) (Ok x) state is stays ends = λ it. absurd (subst IsOpen is stays)
follow-hears q old v came (Err e) state is stays ends = tt

-- and what the cache has is heeded
pub follow-heeds : {X : Type 0} (q : Query) (old : State) (counted : Option SourcedVerdict) (came : Result WalkOutcome NoMemory) (result : Result X NoMemory) (state : State)
    → IsWalked q came old state → StaysOpen result state → Recalls counted came → IfOk result (λ x. IfSome counted (λ c. IsTrue (ends_walk c.verdict) → IsDone state))
follow-heeds q old None came (Ok x) state is stays ends = tt
follow-heeds q old (Some c) came (Ok x) state is stays ends = follow-hears q old (Some c.verdict) came (Ok x) state is stays ends
follow-heeds q old counted came (Err e) state is stays ends = tt

-- a step of its lookup, after which that wants this
pub steps-on : (result : Result PoolsStep NoMemory) (rest : ℕ) (old new : QueryStep) → need.Send old ≡ need.Send Step → IfOk result (λ s. new ≡ want_after s)
    → IfOk result (λ s. LeavesLess (rest + want_steps old) (rest + want_steps new) s × (need.Send new ≡ need.Send (want_after s)))
steps-on (Err e) rest old new was is = tt
steps-on (Ok s) rest old new was is = let stood : old ≡ Step = cc in rw (stood, is) (by s, refl)
  where
    by : (s : PoolsStep) → LeavesLess (rest + 2) (rest + want_steps (want_after s)) s
    by (stepped.Order number order) = omega arith
    by (stepped.Waiting number) = omega arith
    by stepped.Done = omega arith

-- so much less is left of its resolution
pub falls-from : (old new : Resolution) (was : State) → old.state ≡ was → SameBegun old new
    → state_steps old.question.query new.state < state_steps old.question.query was → steps new < steps old
falls-from old new was is same less =
    let here = ap (state_steps old.question.query) is in
    let there = ap (λ (q : Question). state_steps q.query new.state) same.0 in
    omega (arith, less, here, there)

-- and it holds where its state does
pub holds-on : (view : LogView) (old new : Resolution) → SameBegun old new → old.begun ≤ view.moment → StateHolds view old.begun old.question new.state
    → ResolutionHolds view new
holds-on view old new same early h = record { begun = rw same.1 early; state = rw (same.1, same.0) h }

-- the name of a question that is to set out is fully qualified
pub new-qualified : (view : LogView) (t0 : ℕ) (question : Question) (s : State) → state_want s ≡ need.SetOut
    → StateHolds view t0 question s → question.query.name.fqdn ≡ true
new-qualified view t0 question New is h = h
new-qualified view t0 question _ is h = cc
