-- The machine as a whole.
use Rattle.std.specs.Prelude.{length, ◌≡◌, ◌≤◌, ◌<◌, ◌+◌, ℕ, List, [], Option, Some, None, Result, MatchResult, slice_get, ◌⊎◌}
use Rattle.std.specs.Option.{option_map}
use Rattle.std.specs.Global.{Box}
use Rattle.std.specs.declared.net.ip_addr.IpAddr.{IpAddr}
use Rattle.dns_core.specs.Log.{Log}
use Rattle.dns_core.specs.declared.request.Question.{Question}
use Rattle.order_carrier.specs.Fits.{GoesToServer}
use Rattle.server_core.specs.declared.orders.order.After.{After}
use Rattle.server_core.specs.declared.orders.order.Outcome.{Outcome}
use Rattle.server_core.specs.declared.orders.order.SentBy.{SentBy}
use Rattle.server_core.specs.declared.orders.order.Tick.{Tick}
use Rattle.walk_lookup.specs.Order.{TellsOn}
use Rattle.walk_lookup.specs.LogView.{LogView}
use Rattle.recursor_walk.specs.Replies.{Replied}
use Rattle.walk_tables.specs.Pools.{PoolsHold, given_so_far}
use Rattle.walk_tables.specs.declared.pools.Pools.{Pools}
use Rattle.recursor_core.specs.Derived.{seen_by}
use Rattle.recursor_types.specs.declared.reply.Reply.{Reply}
use Rattle.dns_core.specs.declared.errors.NoMemory.{NoMemory}
use Rattle.recursor_types.specs.Policy.{policy_of}
use Rattle.recursor_types.specs.declared.options.RecursorOptions.{RecursorOptions}
use Rattle.recursor_types.specs.declared.error.RecursorError.{RecursorError}
use Rattle.recursor_question.specs.declared.resolving.NextStep.{NextStep}
use Rattle.recursor_question.specs.declared.resolving.Resolution.{Resolution}
use Rattle.recursor_question.specs.declared.steps.Step.{Step}
use Rattle.recursor_core.specs.declared.machine.resolutions.RecursorCore.{RecursorCore}
use Rattle.recursor_question.specs.Resolving as one
use Rattle.recursor_types.specs.declared.error.MessageKind.TheVariants as kind
use Rattle.recursor_types.specs.declared.error.RecursorError.TheVariants as error
use Rattle.recursor_question.specs.declared.resolving.NextStep.TheVariants as need
use Rattle.recursor_question.specs.declared.steps.Step.TheVariants as step

abbrev pub need_in : Option Resolution → NextStep
need_in None = need.Nothing
need_in (Some r) = one.want_of r

-- the resolution that is kept at a place, where there is one that has not ended
abbrev pub kept_in : Option (Option (Box Resolution)) → Option Resolution
kept_in None = None
kept_in (Some None) = None
kept_in (Some (Some r)) = Some r.value

abbrev pub resolution_at : RecursorCore → ℕ → Option Resolution
resolution_at core r = kept_in (slice_get core.resolutions.items r)

-- what the resolution at a place needs
abbrev pub need_at : RecursorCore → ℕ → NextStep
need_at core r = need_in (resolution_at core r)

-- a question, and the moment at which it began
pub record Begun : Type 0 where
  pub question : Question
  pub moment : ℕ

abbrev pub begun_of : Resolution → Begun
begun_of r = record { question = r.question; moment = r.begun }

-- what the resolution at a place is of, where it has not ended
abbrev pub begun_at : RecursorCore → ℕ → Option Begun
begun_at core r = option_map begun_of (resolution_at core r)

-- the resolution at a place is of this question, which began at the moment
abbrev pub IsBegunAt : RecursorCore → ℕ → Question → ℕ → Type 0
IsBegunAt core r question now = begun_at core r ≡ Some (record { question = question; moment = now })

-- What it is set to, the cache, the greatest entry and moment and the questions are as before, but that the one at the place may have ended.
pub record SameCore (r : ℕ) (old new : RecursorCore) : Type 0 where
  pub policy : new.policy ≡ old.policy
  pub cache : new.cache ≡ old.cache
  pub greatest : new.greatest ≡ old.greatest
  pub moment : new.moment ≡ old.moment
  pub count : length new.resolutions.items ≡ length old.resolutions.items
  pub begun : (k : ℕ) → (begun_at new k ≡ begun_at old k) ⊎ ((k ≡ r) × (begun_at new k ≡ None))

-- One question more has begun, or none; those before it are as they were.
pub record IsOneMore (old new : RecursorCore) : Type 0 where
  pub count : length old.resolutions.items ≤ length new.resolutions.items
  pub one : length new.resolutions.items ≤ length old.resolutions.items + 1
  pub before : (k : ℕ) → k < length old.resolutions.items → begun_at new k ≡ begun_at old k

-- ---- its orders

abbrev pub open_in : Pools → Option Resolution → Option ℕ
open_in pools None = None
open_in pools (Some r) = one.open_of pools r

-- the order that the resolution at a place waits for
abbrev pub open_at : RecursorCore → ℕ → Option ℕ
open_at core r = open_in core.pools (resolution_at core r)

-- how many orders it gave so far
abbrev pub given_by : RecursorCore → ℕ
given_by core = given_so_far core.pools

-- ---- a step

-- An order has the next number; no other step gives one. What is there waits for the order that is given, or for the one that it is said to wait for; with its
-- reply nothing is needed any more, and nothing more comes where nothing was needed.
abbrev pub StepFor : ℕ → ℕ → NextStep → NextStep → Option ℕ → Step → Type 0
StepFor before after was left waits (step.Order number order) = (number ≡ before + 1) × (after ≡ before + 1) × (waits ≡ Some number)
StepFor before after was left waits (step.Waiting number) = (after ≡ before) × (waits ≡ Some number)
StepFor before after was left waits (step.Done reply) = (after ≡ before) × (left ≡ need.Nothing)
StepFor before after was left waits step.Ended = (after ≡ before) × (was ≡ need.Nothing)

abbrev pub StepIs : RecursorCore → RecursorCore → ℕ → Step → Type 0
StepIs old new r s = StepFor (given_by old) (given_by new) (need_at old r) (need_at new r) (open_at new r) s

-- Where memory runs out an order may be lost.
abbrev pub Steps : RecursorCore → RecursorCore → ℕ → Result Step NoMemory → Type 0
Steps old new r result = MatchResult result (StepIs old new r) (λ e. given_by old ≤ given_by new)

-- A log goes on to tell an outcome to the machine, whose patience is no greater.
pub record TellsTo (core : RecursorCore) (log : Log) (tick : Tick) (waits : Option SentBy) (outcome : Outcome) (result : Result After NoMemory) (longer : Log) : Type 0 where
  pub patient : core.policy.patience ≤ tick.patience
  pub on : TellsOn core.moment log tick waits outcome result longer

abbrev pub ReplyGiven : LogView → Option Begun → Reply → Type 0
ReplyGiven view None reply = ⊥
ReplyGiven view (Some b) reply = Replied view b.moment b.question reply

-- what a step gives is derived: an order goes to a server by what was put before, and a reply holds
abbrev pub StepGives : RecursorCore → Log → ℕ → Step → Type 0
StepGives core log r (step.Order number order) = GoesToServer core.policy log (core.greatest + 1) order.value
StepGives core log r (step.Waiting number) = Unit {0}
StepGives core log r (step.Done reply) = ReplyGiven (seen_by core log) (begun_at core r) reply.value
StepGives core log r step.Ended = Unit {0}

-- A new machine has the policy that the roots and the options say; its cache is empty, nothing has happened, and its pools hold by any log.
pub record IsNewCore (roots : List IpAddr) (options : RecursorOptions) (core : RecursorCore) : Type 0 where
  pub policy : core.policy ≡ policy_of roots options
  pub cache : core.cache ≡ record { size = options.response_cache_size; config = options.cache_policy; entries = [] }
  pub moment : core.moment ≡ 0
  pub greatest : core.greatest ≡ 0
  pub resolutions : core.resolutions.items ≡ []
  pub pools : (view : LogView) → view.policy ≡ policy_of roots options → PoolsHold view core.pools

-- what a question is refused for as it begins
abbrev pub IsBeginError : RecursorError → Type 0
IsBeginError e = (e ≡ error.Message kind.NotQualified) ⊎ (e ≡ error.NoMemory)
