-- A recursor, as contracts see it, and what holds of its machine and its provider between two calls.
use Rattle.std.specs.Prelude.{◌≡◌, ◌≤◌, ◌<◌, ℕ, false, min, max, List, length, Contains, Option, Some, None, slice_get}
use Rattle.recursor_walk.specs.Way.{CanWalk}
use Rattle.std.specs.declared.net.ip_addr.IpAddr.{IpAddr}
use Rattle.dns_core.specs.Log.{Log}
use Rattle.dns_core.specs.declared.log.LogEntry.{LogEntry}
use Rattle.dns_core.specs.declared.request.Question.{Question}
use Rattle.dns_core.specs.declared.request.Turn.{Turn}
use Rattle.dns_core.specs.declared.provider.ConnectionProvider.{Ghosts}
use Rattle.server_core.specs.declared.orders.order.Tick.{Tick}
use Rattle.resolution.specs.Telling.{MomentsRise}
use Rattle.resolution.specs.Theorem.{OnlyServersAsked}
use Rattle.resolution.specs.Timing.{known_to_drive}
use Rattle.resolution.specs.Turns.{begin_moment, run_moments}
use Rattle.recursor_types.specs.Policy.{policy_of, with_patience}
use Rattle.recursor_types.specs.declared.options.RecursorOptions.{RecursorOptions}
use Rattle.recursor_types.specs.declared.policy.Policy.{Policy}
use Rattle.walk_lookup.specs.Asking.{connect_of}
use Rattle.walk_lookup.specs.Tried.{Timer, machine_timer}
use Rattle.recursor_walk.specs.Replies.{ReplyHolds}
use Rattle.order_carrier.specs.Carrying.{CarriesOn}
use Rattle.order_carrier.specs.Growing.{TellsThat, Grown, IsPast}
use Rattle.recursor_core.specs.Derived.{seen_by, Derived}
use Rattle.order_carrier.specs.Patience.{IsPatient}
use Rattle.walk_tables.specs.Pools.{PoolsHold}
use Rattle.walk_lookup.specs.Remembered.{CacheHolds}
use Rattle.order_carrier.specs.InFlight.{InFlightHolds}
use Rattle.order_carrier.specs.declared.in_flight.runner.InFlight.{InFlight}
use Rattle.recursor_core.specs.Machine.{Begun, begun_at}
use Rattle.order_carrier.specs.declared.carrier.Carrier.{Carrier}
use Rattle.recursor_core.specs.declared.machine.resolutions.RecursorCore.{RecursorCore}
use Rattle.recursor_types.specs.declared.reply.Reply.{Reply}
use Rattle.recursor_core.specs.declared.turns.TurnResult.{TurnResult}
use Rattle.recursor_core.specs.declared.machine.plays.QuestionState.{QuestionState}
use Rattle.recursor_core.specs.declared.turns.TurnResult.TheVariants as turned
use Rattle.recursor_core.specs.declared.machine.plays.QuestionState.TheVariants as played

-- a recursor: its provider, its policy with the least patience of its runs, and the greatest moment handed in so far
pub record RecursorState (P : Type 0) : Type 0 where
  pub provider : P
  pub policy : Policy
  pub moment : ℕ

-- one that has had no run
abbrev pub first_state : {P : Type 0} → P → List IpAddr → RecursorOptions → RecursorState P
first_state provider roots options = record { provider = provider; policy = policy_of roots options; moment = 0 }

-- the policy of a run with this patience, or with the least one of the runs before
abbrev pub policy_of_run : {P : Type 0} → ℕ → RecursorState P → Policy
policy_of_run patience recursor = with_patience (min recursor.policy.patience patience) recursor.policy

-- What the machine keeps is derived from the provider's log, and only servers were asked, none later than its moment. Its least
-- patience is no greater than this one.
pub record Holds {P C F E : Type 0} (p : Ghosts P C F E) (patience : ℕ) (core : RecursorCore) (r : InFlight P C F E p) : Type 0 where
  pub runner : InFlightHolds p r
  pub patient : core.policy.patience ≤ patience
  pub derived : TellsThat (p.log r.carrier.provider) (Derived core)
  pub asks : TellsThat (p.log r.carrier.provider) (OnlyServersAsked core.policy)
  pub past : TellsThat (p.log r.carrier.provider) (IsPast core.moment)

-- So it is between two runs, once the questions of the last one are left; and connections are opened as the policy says.
pub record Rests {P C F E : Type 0} (p : Ghosts P C F E) (core : RecursorCore) (r : InFlight P C F E p) : Type 0 where
  pub walks : CanWalk core.policy
  pub runner : InFlightHolds p r
  pub connects : r.carrier.options ≡ connect_of core.policy.resolver
  pub bound : TellsThat (p.log r.carrier.provider) (λ log. core.greatest < log.next)
  pub cache : TellsThat (p.log r.carrier.provider) (λ log. CacheHolds (seen_by core log) core.cache)
  pub pools : TellsThat (p.log r.carrier.provider) (λ log. PoolsHold (seen_by core log) core.pools)
  pub asks : TellsThat (p.log r.carrier.provider) (OnlyServersAsked core.policy)
  pub past : TellsThat (p.log r.carrier.provider) (IsPast core.moment)
  pub rises : TellsThat (p.log r.carrier.provider) MomentsRise

-- Each question that is under way was so before, and no place is gone.
pub record KeepsTo (old new : RecursorCore) : Type 0 where
  pub count : length new.resolutions.items ≡ length old.resolutions.items
  pub each : (k : ℕ) (b : Begun) → begun_at new k ≡ Some b → begun_at old k ≡ Some b

-- What it is set to is as before, no question has begun, and the log has only grown, by entries of the moment, none of which waits for an entry beyond patience.
pub record Moves {P C F E : Type 0} (p : Ghosts P C F E) (patience now : ℕ) (core new_core : RecursorCore) (c new : Carrier P C F E p) : Type 0 where
  pub policy : new_core.policy ≡ core.policy
  pub begun : KeepsTo core new_core
  pub grown : Grown now (p.log c.provider) (p.log new.provider)
  pub patient : IsPatient (max 1 patience) (p.log c.provider) (p.log new.provider)

-- The machine and what carries out its orders hold, at the moment of a step.
pub record Ready {P C F E : Type 0} (p : Ghosts P C F E) (tick : Tick) (core : RecursorCore) (r : InFlight P C F E p) : Type 0 where
  pub holds : Holds p tick.patience core r
  pub moment : core.moment ≡ tick.now

-- They hold after the step, which moved the log and the questions only so; orders go on being carried alike.
pub record Goes {P C F E : Type 0} (p : Ghosts P C F E) (tick : Tick) (core new_core : RecursorCore) (r new : InFlight P C F E p) : Type 0 where
  pub carries_on : CarriesOn p r.carrier new.carrier
  pub ready : Ready p tick new_core new
  pub moves : Moves p tick.patience tick.now core new_core r.carrier new.carrier

abbrev pub ReplyFor : Policy → ℕ → Option Begun → Reply → Log → Type 0
ReplyFor policy now None reply log = ⊥
ReplyFor policy now (Some b) reply log = ReplyHolds policy (machine_timer now) log b.moment b.question reply

-- a reply holds by the log, where it is told, for the question that has begun
abbrev pub ReplyTold : Policy → ℕ → Option (List LogEntry) → Option Begun → Reply → Type 0
ReplyTold policy now told b reply = TellsThat told (ReplyFor policy now b reply)

abbrev pub TurnedTold : Policy → ℕ → Option (List LogEntry) → Option Begun → TurnResult → Type 0
TurnedTold policy now told b turned.Pending = Unit {0}
TurnedTold policy now told b (turned.Done reply) = ReplyTold policy now told b reply.value
TurnedTold policy now told b turned.Ended = Unit {0}

-- what is known of the moments of a lookup in a run: it was answered in a turn, and began with a send no earlier than its question
abbrev pub run_timer : ℕ → List Turn → Timer
run_timer start turns log t0 = known_to_drive (run_moments start turns) false false log t0

-- The resolution at a place, till it has ended, is of the question, which began no earlier than the moment.
pub record IsBegunFrom (core : RecursorCore) (r : ℕ) (q : Question) (moment : ℕ) : Type 0 where
  pub within : r < length core.resolutions.items
  pub is : (b : Begun) → begun_at core r ≡ Some b → (b.question ≡ q) × (moment ≤ b.moment)

-- The reply was given at a moment of the run, and holds.
pub record AnsweredAt (policy : Policy) (told : Option (List LogEntry)) (moments : List ℕ) (asked_at : ℕ) (question : Question) (reply : Reply) : Type 0 where
  pub now : ℕ
  pub in_run : Contains moments now
  pub holds : TellsThat told (λ log. ReplyHolds policy (machine_timer now) log asked_at question reply)

-- A question that waits is named by no turn so far, where `rest` are the turns that are not played yet; one under way has begun at or after its
-- moment; the reply of one that is answered holds; for one without an answer memory ran out.
abbrev pub PlayHolds : RecursorCore → Option (List LogEntry) → ℕ → List Turn → List Turn → ℕ → Question → QuestionState → Type 0
PlayHolds core told start turns rest q question played.Waiting = begin_moment start turns q ≡ begin_moment core.moment rest q
PlayHolds core told start turns rest q question (played.Begun r) = IsBegunFrom core r question (begin_moment start turns q)
PlayHolds core told start turns rest q question (played.Answered reply) =
    AnsweredAt core.policy told (run_moments start turns) (begin_moment start turns q) question reply.value
PlayHolds core told start turns rest q question played.Unanswered = Unit {0}

-- so it is with each question, where `rest` are the turns that are not played yet
abbrev pub PlaysHold : RecursorCore → Option (List LogEntry) → ℕ → List Turn → List Turn → List Question → List QuestionState → Type 0
PlaysHold core told start turns rest questions plays = (q : ℕ) (question : Question) (p : QuestionState)
    → slice_get questions q ≡ Some question → slice_get plays q ≡ Some p → PlayHolds core told start turns rest q question p

-- each reply holds, for the question at its place
abbrev pub RepliesHold : Policy → Log → ℕ → List Turn → List Question → List Reply → Type 0
RepliesHold policy log start turns questions replies = (q : ℕ) (question : Question) (reply : Reply)
    → slice_get questions q ≡ Some question → slice_get replies q ≡ Some reply → ReplyHolds policy (run_timer start turns) log (begin_moment start turns q) question reply
