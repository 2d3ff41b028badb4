-- What a question has next, step by step.
use Rattle.recursor_question.proofs.Words.{◌≡◌, ◌≤◌, ◌+◌, ◌∙◌, ℕ, Option, Some, None, Result, Ok, Err, IfOk, IfSome, IsErr, refl, sym, ap, subst, arith, inl, inr, Question, NoMemory, LogView, Reply, CameTo, reply_with, SourcedVerdict, from_cache, answerable, IsOpen, SameBegun, IsDoneWith, State, Resolution}
use Rattle.std.specs.Prelude.{◌⊎◌}
use Rattle.walk_tables.specs.Pools.{given_so_far}
use Rattle.walk_tables.specs.declared.pools.Pools.{Pools}
use Rattle.resolver_cache.specs.Cached.{Cached}
use Rattle.recursor_question.specs.Resolving.{want_of}
use Rattle.recursor_question.specs.Steps.{StepIs, StepGives, SetsOut, HandsOut, GivesReply}
use Rattle.recursor_question.specs.declared.steps.Step.{Step}
use Rattle.recursor_question.specs.declared.steps.Progress.{Progress}
use Rattle.recursor_question.specs.declared.resolving.NextStep.TheVariants as need
use Rattle.recursor_question.specs.declared.steps.Step.TheVariants as step
use Rattle.recursor_question.specs.declared.steps.Progress.TheVariants as progress

-- a step after others that gave no order
pub step-after : (old mid new : Pools) (was at r : Resolution) (s : Step) → given_so_far mid ≡ given_so_far old → (at ≡ was) ⊎ IsOpen at.state
    → StepIs mid new at r s → StepIs old new was r s
step-after old mid new was at r (step.Order number order) same from h = (h.0 ∙ ap (λ (n : ℕ). n + 1) same, h.1 ∙ ap (λ (n : ℕ). n + 1) same, h.2)
step-after old mid new was at r (step.Waiting number) same from h = (h.0 ∙ same, h.1)
step-after old mid new was at r (step.Done reply) same from h = (h.0 ∙ same, h.1)
step-after old mid new was at r step.Ended same (inl is) h = (h.0 ∙ same, sym (ap (λ (x : Resolution). x.state) is) ∙ h.1)
step-after old mid new was at r step.Ended same (inr stands) h = absurd (subst IsOpen h.1 stands)

-- what a step gives is given to the question as it was before them
pub gives-before : (view : LogView) (was at : Resolution) (s : Step) → SameBegun was at → StepGives view at s → StepGives view was s
gives-before view was at (step.Order number order) same h = h
gives-before view was at (step.Waiting number) same h = tt
gives-before view was at (step.Done reply) same h =
    subst (λ (t0 : ℕ). CameTo view t0 was.question reply.value) same.1 (subst (λ (q : Question). CameTo view at.begun q reply.value) same.0 h)
gives-before view was at step.Ended same h = tt

-- no step takes a number back
pub step-grows : (old new : Pools) (was r : Resolution) (s : Step) → StepIs old new was r s → given_so_far old ≤ given_so_far new
step-grows old new was r (step.Order number order) h = let more = h.1 in omega (arith, more)
step-grows old new was r (step.Waiting number) h = let same = h.0 in omega (arith, same)
step-grows old new was r (step.Done reply) h = let same = h.0 in omega (arith, same)
step-grows old new was r step.Ended h = let same = h.0 in omega (arith, same)

-- ---- what the cache has for one that sets out

-- it is as it was, or has the reply with what counts
abbrev pub AnswersSoFar : Question → Option SourcedVerdict → Resolution → Resolution → Type 0
AnswersSoFar question None was at = Unit {0}
AnswersSoFar question (Some c) was at = (at ≡ was) ⊎ IsDoneWith (reply_with question c) at.state

-- so it is before all steps
pub so-far-refl : (question : Question) (counted : Option SourcedVerdict) (was : Resolution) → AnswersSoFar question counted was was
so-far-refl question None was = tt
so-far-refl question (Some c) was = inl refl

-- as it was, its question is the same, and it sets out
pub sets-out-at : (cache : Cached) (now : ℕ) (was at : Resolution) (s : State) (p : Progress) → at ≡ was → want_of was ≡ need.SetOut
    → (want_of at ≡ need.SetOut → SetsOut at.question (answerable (from_cache cache at.question.query now)) s p)
    → SetsOut was.question (answerable (from_cache cache was.question.query now)) s p
sets-out-at cache now was at s p is new out =
    subst (λ (r : Resolution). SetsOut r.question (answerable (from_cache cache r.question.query now)) s p) is (out (ap want_of is ∙ new))

-- a step inside after others
pub so-far-again : (question : Question) (counted : Option SourcedVerdict) (was at r : Resolution) → AnswersSoFar question counted was at
    → (at ≡ was → SetsOut question counted r.state progress.Again) → ((reply : Reply) → IsDoneWith reply at.state → GivesReply reply progress.Again)
    → AnswersSoFar question counted was r
so-far-again question None was at r so out given = tt
so-far-again question (Some c) was at r (inl is) out given = inr (out is)
so-far-again question (Some c) was at r (inr done) out given = absurd (given (reply_with question c) done)

-- and the last one
pub so-far-step : (question : Question) (counted : Option SourcedVerdict) (was at r : Resolution) (s : Step) → AnswersSoFar question counted was at
    → (at ≡ was → SetsOut question counted r.state (progress.Step s)) → ((reply : Reply) → IsDoneWith reply at.state → GivesReply reply (progress.Step s))
    → IfSome counted (λ c. HandsOut (reply_with question c) s)
so-far-step question None was at r s so out given = tt
so-far-step question (Some c) was at r s (inl is) out given = absurd (out is)
so-far-step question (Some c) was at r s (inr done) out given = given (reply_with question c) done

-- no step comes where memory runs out
pub so-far-err : {X : Type 0} (counted : Option SourcedVerdict) (result : Result X NoMemory) (P : SourcedVerdict → X → Type 0) → IsErr result → IfSome counted (λ c. IfOk result (P c))
so-far-err None result P is = tt
so-far-err (Some c) (Ok x) P is = cc
so-far-err (Some c) (Err e) P is = tt
