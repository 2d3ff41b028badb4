-- What a question has next.
use Rattle.std.specs.Prelude.{◌≡◌, ◌≤◌, ◌<◌, ◌+◌, ℕ, Option, Some, Result, Ok, Err, IfOk}
use Rattle.recursor_walk.specs.Way.{CanWalk}
use Rattle.dns_core.specs.declared.errors.NoMemory.{NoMemory}
use Rattle.dns_core.specs.declared.request.DnsRequest.{DnsRequest}
use Rattle.dns_core.specs.declared.request.Question.{Question}
use Rattle.server_core.specs.declared.orders.order.Tick.{Tick}
use Rattle.walk_lookup.specs.Asking.{request_options_of}
use Rattle.recursor_types.specs.declared.policy.Policy.{Policy}
use Rattle.resolver_cache.specs.Cached.{Cached}
use Rattle.walk_lookup.specs.LogView.{LogView}
use Rattle.walk_lookup.specs.Remembered.{CacheHolds}
use Rattle.walk_tables.specs.Pools.{PoolsHold, StepGoes, IsStepAt, given_so_far}
use Rattle.walk_tables.specs.declared.pools.Pools.{Pools}
use Rattle.recursor_walk.specs.Replies.{CameTo}
use Rattle.recursor_question.specs.Resolving.{steps, open_of, AsksFor, IsOpen, IsAnswered}
use Rattle.recursor_question.specs.Resolved.{ResolutionHolds}
use Rattle.recursor_types.specs.declared.reply.Reply.{Reply}
use Rattle.recursor_walk.specs.declared.zone_query.sourced_verdict.SourcedVerdict.{SourcedVerdict}
use Rattle.recursor_question.specs.declared.resolving.State.{State}
use Rattle.recursor_question.specs.declared.resolving.Resolution.{Resolution}
use Rattle.recursor_question.specs.declared.steps.Step.{Step}
use Rattle.recursor_question.specs.declared.steps.Progress.{Progress}
use Rattle.recursor_question.specs.declared.resolving.State.TheVariants as state
use Rattle.recursor_question.specs.declared.steps.Step.TheVariants as step
use Rattle.recursor_question.specs.declared.steps.Progress.TheVariants as progress
use Rattle.walk_tables.specs.declared.pools.PoolsStep.TheVariants as stepped

-- It is the request of what is asked now, with the options that all requests have.
pub record IsRequestOf (request : DnsRequest) (policy : Policy) (s : State) : Type 0 where
  pub asks : AsksFor request s
  pub options : request.options ≡ request_options_of policy.resolver

-- An order has the next number; no other step gives one. It waits for the order that is given, or for the one that it is said to wait for; with its
-- reply it has ended, and nothing more comes where it had ended before.
abbrev pub StepIs : Pools → Pools → Resolution → Resolution → Step → Type 0
StepIs old new was r (step.Order number order) = (number ≡ given_so_far old + 1) × (given_so_far new ≡ given_so_far old + 1) × (open_of new r ≡ Some number)
StepIs old new was r (step.Waiting number) = (given_so_far new ≡ given_so_far old) × (open_of new r ≡ Some number)
StepIs old new was r (step.Done reply) = (given_so_far new ≡ given_so_far old) × (r.state ≡ state.Ended)
StepIs old new was r step.Ended = (given_so_far new ≡ given_so_far old) × (was.state ≡ state.Ended)

-- A step inside it leaves less to do, and gave no order. Where memory runs out an order may be lost.
abbrev pub GoesOn : Pools → Pools → Resolution → Resolution → Result Progress NoMemory → Type 0
GoesOn old new was r (Ok progress.Again) = (steps r < steps was) × (given_so_far new ≡ given_so_far old) × IsOpen r.state
GoesOn old new was r (Ok (progress.Step s)) = StepIs old new was r s
GoesOn old new was r (Err e) = given_so_far old ≤ given_so_far new

-- what a step gives is derived: an order goes to a server by what was put before, and a reply holds, for which memory did not run out
abbrev pub StepGives : LogView → Resolution → Step → Type 0
StepGives view was (step.Order number order) = StepGoes view (stepped.Order number order.value)
StepGives view was (step.Waiting number) = Unit {0}
StepGives view was (step.Done reply) = CameTo view was.begun was.question reply.value
StepGives view was step.Ended = Unit {0}

abbrev pub Gives : LogView → Resolution → Progress → Type 0
Gives view was progress.Again = Unit {0}
Gives view was (progress.Step s) = StepGives view was s

-- It is stepped at the moment that is seen, after the greatest entry, with what the machine is set to, which has a root, and with a cache that holds.
pub record SteppedBy (view : LogView) (policy : Policy) (cache : Cached) (since : ℕ) (tick : Tick) : Type 0 where
  pub are : view.policy ≡ policy
  pub walks : CanWalk policy
  pub at : IsStepAt view since tick
  pub keeps : CacheHolds view cache

-- It holds after a step, so do the pools, and what the step gives is derived.
pub record GoesWell (view : LogView) (was r : Resolution) (new : Pools) (result : Result Progress NoMemory) : Type 0 where
  pub holds : ResolutionHolds view r
  pub tables : PoolsHold view new
  pub gives : IfOk result (Gives view was)

-- So it is after all steps that are due.
pub record StepsWell (view : LogView) (was r : Resolution) (new : Pools) (result : Result Step NoMemory) : Type 0 where
  pub holds : ResolutionHolds view r
  pub tables : PoolsHold view new
  pub gives : IfOk result (StepGives view was)

-- ---- what the cache has

-- it hands out this reply
abbrev pub HandsOut : Reply → Step → Type 0
HandsOut reply (step.Order number order) = ⊥
HandsOut reply (step.Waiting number) = ⊥
HandsOut reply (step.Done given) = given.value ≡ reply
HandsOut reply step.Ended = ⊥

abbrev pub GivesReply : Reply → Progress → Type 0
GivesReply reply progress.Again = ⊥
GivesReply reply (progress.Step s) = HandsOut reply s

-- It has set out, and another step is due: it is answered with what counts, or its walk has begun.
abbrev pub SetsOut : Question → Option SourcedVerdict → State → Progress → Type 0
SetsOut question counted s progress.Again = IsAnswered question counted s
SetsOut question counted s (progress.Step given) = ⊥
