-- What became of each question of a run, and how a question begins.
use Rattle.std.specs.Prelude.{◌≡◌, ℕ, List, [], Option, Some, None, Err, slice_get, sum_by, ◌⊎◌, Bool, true, false}
use Rattle.dns_core.specs.declared.request.Question.{Question}
use Rattle.recursor_types.specs.declared.reply.Reply.{Reply}
use Rattle.recursor_core.specs.declared.machine.resolutions.RecursorCore.{RecursorCore}
use Rattle.recursor_core.specs.declared.machine.plays.QuestionState.{QuestionState}
use Rattle.recursor_core.specs.Machine as machine
use Rattle.recursor_types.specs.declared.error.MessageKind.TheVariants as kind
use Rattle.recursor_types.specs.declared.error.RecursorError.TheVariants as error
use Rattle.recursor_core.specs.declared.machine.plays.QuestionState.TheVariants as played

-- the question has not begun
abbrev pub is_waiting : Option QuestionState → Bool
is_waiting None = false
is_waiting (Some played.Waiting) = true
is_waiting (Some (played.Begun r)) = false
is_waiting (Some (played.Answered reply)) = false
is_waiting (Some played.Unanswered) = false

abbrev pub open_play : QuestionState → ℕ
open_play played.Waiting = 0
open_play (played.Begun r) = 1
open_play (played.Answered reply) = 0
open_play played.Unanswered = 0

-- how many questions are under way
abbrev pub open_plays : List QuestionState → ℕ
open_plays plays = sum_by open_play plays

-- the question at a place is under way
abbrev pub IsBegunAt : List QuestionState → ℕ → Type 0
IsBegunAt plays q = (r : ℕ) × (slice_get plays q ≡ Some (played.Begun r))

abbrev pub IsUnderWay : List QuestionState → ℕ → Option ℕ → Type 0
IsUnderWay plays q None = Unit {0}
IsUnderWay plays q (Some r) = slice_get plays q ≡ Some (played.Begun r)

-- The reply refuses the question, whose name is not fully qualified; or memory runs out.
abbrev pub IsRefused : Question → Reply → Type 0
IsRefused question reply =
    (reply.grounds ≡ []) × ((reply.outcome ≡ Err error.NoMemory) ⊎ ((reply.outcome ≡ Err (error.Message kind.NotQualified)) × (question.query.name.fqdn ≡ false)))

-- A question as it begins: under way, or refused.
abbrev pub Begins : Question → ℕ → RecursorCore → QuestionState → Type 0
Begins question now core played.Waiting = ⊥
Begins question now core (played.Begun r) = machine.IsBegunAt core r question now
Begins question now core (played.Answered reply) = IsRefused question reply.value
Begins question now core played.Unanswered = Unit {0}

-- the reply of a question, or out of memory where it has none
abbrev pub ReplyOf : Option QuestionState → Reply → Type 0
ReplyOf (Some (played.Answered reply)) given = given ≡ reply.value
ReplyOf _ given = (given.outcome ≡ Err error.NoMemory) × (given.grounds ≡ [])

abbrev pub BeginsIf : Option Question → ℕ → RecursorCore → Option QuestionState → Option QuestionState → Type 0
BeginsIf (Some question) now core (Some played.Waiting) (Some new) = Begins question now core new
BeginsIf question now core old new = new ≡ old

-- Where the question at a place waits it begins; else its place stays as it is.
abbrev pub BeginsAt : List Question → ℕ → ℕ → RecursorCore → Option QuestionState → Option QuestionState → Type 0
BeginsAt questions q now core old new = BeginsIf (slice_get questions q) now core old new
