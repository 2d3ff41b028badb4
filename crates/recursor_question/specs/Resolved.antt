-- Where a resolution stands, as derived from a log.
use Rattle.std.specs.Prelude.{◌≡◌, ◌≤◌, ℕ, true, Option, Result, IfOk}
use Rattle.std.specs.Global.{Box}
use Rattle.dns_core.specs.declared.errors.NoMemory.{NoMemory}
use Rattle.dns_core.specs.declared.request.Question.{Question}
use Rattle.walk_lookup.specs.LogView.{LogView}
use Rattle.recursor_types.specs.declared.reply.Reply.{Reply}
use Rattle.recursor_walk.specs.ZoneQuery.{LastHolds, LastComes}
use Rattle.recursor_walk.specs.Replies.{CameTo}
use Rattle.recursor_walk.specs.Way.{WalkHolds, WalkComes}
use Rattle.recursor_walk.specs.declared.walk.WalkOutcome.{WalkOutcome}
use Rattle.recursor_question.specs.declared.resolving.State.{State}
use Rattle.recursor_question.specs.declared.resolving.State.TheVariants.{New, Walking, Asking, Done, Ended}
use Rattle.recursor_question.specs.declared.resolving.Resolution.{Resolution}

abbrev pub StateHolds : LogView → ℕ → Question → State → Type 0
StateHolds view asked_at question New = question.query.name.fqdn ≡ true
StateHolds view asked_at question (Walking w) = WalkHolds view asked_at question.query w.value
StateHolds view asked_at question (Asking a) = LastHolds view asked_at question.query a.value
StateHolds view asked_at question (Done reply) = CameTo view asked_at question reply.value
StateHolds view asked_at question Ended = Unit {0}

-- so it stands where memory did not run out
abbrev pub StandsSo : LogView → ℕ → Question → Result State NoMemory → Type 0
StandsSo view asked_at question result = IfOk result (StateHolds view asked_at question)

-- Its walk goes so.
abbrev pub StateComes : LogView → ℕ → Question → State → WalkOutcome → Type 0
StateComes view asked_at question New course = ⊥
StateComes view asked_at question (Walking w) course = WalkComes view asked_at question w.value course
StateComes view asked_at question (Asking a) course = ⊥
StateComes view asked_at question (Done reply) course = ⊥
StateComes view asked_at question Ended course = ⊥

-- It asks at last, and goes on, or has its reply.
abbrev pub AnswerComes : LogView → ℕ → Question → State → Option (Box Reply) → Type 0
AnswerComes view asked_at question New came = ⊥
AnswerComes view asked_at question (Walking w) came = ⊥
AnswerComes view asked_at question (Asking a) came = LastComes view asked_at question a.value came
AnswerComes view asked_at question (Done reply) came = ⊥
AnswerComes view asked_at question Ended came = ⊥

pub record ResolutionHolds (view : LogView) (r : Resolution) : Type 0 where
  pub begun : r.begun ≤ view.moment
  pub state : StateHolds view r.begun r.question r.state
