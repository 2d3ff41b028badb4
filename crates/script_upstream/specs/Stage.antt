-- What is to be done at a poll.
use Rattle.std.specs.Prelude.{◌≡◌, false, IfSome, Result, Ok, Err}
use Rattle.dns_core.specs.declared.net_error.NetError.{NetError}
use Rattle.dns_core.specs.declared.message.Message.{Message as Response}
use Rattle.script_upstream.specs.declared.courses.index.Endpoint.{Endpoint}
use Rattle.dns_core.specs.NetError.{is_memory, is_no_records, negative_query}
use Rattle.dns_core.specs.declared.message.Query.{Query}
use Rattle.dns_core.specs.declared.log.ToldOutcome.{ToldOutcome}
use Rattle.dns_core.specs.declared.log.ToldOutcome.TheVariants.{Connected, Message, Error}
use Rattle.script_upstream.specs.Course.{IsWaiting}
use Rattle.script_upstream.specs.declared.courses.course.ScriptedReply.{ScriptedReply}
use Rattle.script_upstream.specs.declared.courses.course.ScriptedReply.TheVariants.{Never, After}
use Rattle.script_upstream.specs.declared.courses.course.Stage.{Stage}
use Rattle.script_upstream.specs.declared.courses.course.Stage.TheVariants.{Unknown, Waits, Due}

-- it can be told a connection
abbrev pub TellsConnection : ToldOutcome → Type 0
TellsConnection Connected = Unit {0}
TellsConnection (Message m) = ⊥
TellsConnection (Error e) = (is_memory e ≡ false) × (is_no_records e ≡ false)

-- it can be told who asked this
abbrev pub TellsQuestion : Query → ToldOutcome → Type 0
TellsQuestion query Connected = ⊥
TellsQuestion query (Message m) = m.query ≡ query
TellsQuestion query (Error e) = (is_memory e ≡ false) × IfSome (negative_query e) (λ n. n ≡ query)

-- there is an outcome, and it is such
abbrev pub OutcomeIs : (ToldOutcome → Type 0) → ScriptedReply → Type 0
OutcomeIs P Never = ⊥
OutcomeIs P (After polls outcome) = P outcome

-- nothing is left to be waited, and the outcome is such
abbrev pub IsDueOf : (ToldOutcome → Type 0) → ScriptedReply → Type 0
IsDueOf P Never = ⊥
IsDueOf P (After polls outcome) = (polls ≡ 0) × P outcome

-- what a stage says of a course, where F says that the outcome can be told
abbrev pub IsStageOf : Type 0 → Stage → ScriptedReply → Type 0
IsStageOf F Unknown c = Unit {0}
IsStageOf F Waits c = IsWaiting c
IsStageOf F Due c = IsDueOf (λ o. F) c

-- it can be told some question
abbrev pub IsReply : ToldOutcome → Type 0
IsReply Connected = ⊥
IsReply (Message m) = Unit {0}
IsReply (Error e) = is_memory e ≡ false

-- the outcome, as what the poll of a connection answers
abbrev pub IsConnectionTold : ToldOutcome → Endpoint → Result Endpoint NetError → Type 0
IsConnectionTold Connected p r = r ≡ Ok p
IsConnectionTold (Message m) p r = ⊥
IsConnectionTold (Error e) p r = r ≡ Err e

-- the outcome, as what the poll of a question answers
abbrev pub IsReplyTold : ToldOutcome → Result Response NetError → Type 0
IsReplyTold Connected r = ⊥
IsReplyTold (Message m) r = r ≡ Ok m
IsReplyTold (Error e) r = r ≡ Err e
