-- What the replies rest on.
use Rattle.std.specs.Prelude.{◌≡◌, ℕ, true, List, [], ◌∷◌, Result, Err, Option, Some, None, IfOk}
use Rattle.std.specs.Global.{Box}
use Rattle.dns_core.specs.Log.{Log}
use Rattle.dns_core.specs.declared.message.Query.{Query}
use Rattle.dns_core.specs.declared.message.Message.{Message}
use Rattle.dns_core.specs.declared.request.Question.{Question}
use Rattle.dns_core.specs.declared.errors.NoMemory.{NoMemory}
use Rattle.recursor_types.specs.declared.policy.Policy.{Policy}
use Rattle.resolution.specs.Theorem.{ErrorIsSound, OutcomeIsSound}
use Rattle.recursor_types.specs.declared.error.RecursorError.{RecursorError}
use Rattle.recursor_types.specs.declared.reply.Reply.{Reply}
use Rattle.walk_lookup.specs.LogView.{LogView}
use Rattle.walk_lookup.specs.Tried.{Timer, machine_timer}
use Rattle.resolver_cache.specs.Cached.{Cached}
use Rattle.walk_response.specs.Answer.{outcome_of}
use Rattle.recursor_walk.specs.SourcedVerdict.{from_cache, may_answer}
use Rattle.recursor_walk.specs.declared.zone_query.sourced_verdict.SourcedVerdict.{SourcedVerdict}
use Rattle.recursor_types.specs.declared.error.RecursorError.TheVariants as error

-- The reply is sound by the log, and by what is known of the moments of its lookups.
abbrev pub ReplyHolds : Policy → Timer → Log → ℕ → Question → Reply → Type 0
ReplyHolds policy timer log asked_at question reply = OutcomeIsSound policy (timer log asked_at) log asked_at question reply.grounds reply.outcome

-- The reply is sound by what the machine that gives it sees.
abbrev pub Replied : LogView → ℕ → Question → Reply → Type 0
Replied view asked_at question reply = ReplyHolds view.policy (machine_timer view.moment) view.log asked_at question reply

-- Memory did not run out.
abbrev pub HadMemory : Result Message RecursorError → Type 0
HadMemory (Err error.NoMemory) = ⊥
HadMemory _ = Unit {0}

-- What is answered holds by what a machine sees, and memory did not run out for it.
abbrev pub OutcomeCame : LogView → ℕ → Question → List ℕ → Result Message RecursorError → Type 0
OutcomeCame view asked_at question grounds o = OutcomeIsSound view.policy (machine_timer view.moment view.log asked_at) view.log asked_at question grounds o × HadMemory o

-- A question has come to this reply.
abbrev pub CameTo : LogView → ℕ → Question → Reply → Type 0
CameTo view asked_at question reply = OutcomeCame view asked_at question reply.grounds reply.outcome

-- it is given in a box
abbrev pub IsReply : Reply → Option (Box Reply) → Type 0
IsReply reply None = ⊥
IsReply reply (Some given) = given.value ≡ reply

-- what is given is such a reply
abbrev pub RepliesSo : LogView → ℕ → Question → Result (Box Reply) NoMemory → Type 0
RepliesSo view asked_at question result = IfOk result (λ reply. CameTo view asked_at question reply.value)

-- A question has come to this error, by its cause.
abbrev pub ErrorCame : LogView → ℕ → Query → List ℕ → RecursorError → Type 0
ErrorCame view asked_at query grounds error = ErrorIsSound view.policy (machine_timer view.moment view.log asked_at) view.log asked_at query grounds error

-- the reply to a question with what counts for it, by the entry that told it
abbrev pub reply_with : Question → SourcedVerdict → Reply
reply_with question c = record { outcome = outcome_of question c.verdict; grounds = c.entry ∷ [] }

-- Where there is what may be answered, the reply is the one with that; else there is none.
abbrev pub RepliesWith : Question → Option SourcedVerdict → Option (Box Reply) → Type 0
RepliesWith question None reply = reply ≡ None
RepliesWith question (Some c) reply = IsReply (reply_with question c) reply

-- The reply is the one with what the cache has for the question that is current at the moment, and it may be answered.
pub record IsReplyKept (cache : Cached) (question : Question) (now : ℕ) (reply : Reply) : Type 0 where
  pub counted : SourcedVerdict
  pub is : from_cache cache question.query now ≡ Some counted
  pub may : may_answer counted.verdict ≡ true
  pub gives : reply ≡ reply_with question counted
