-- Outcomes that are sound: an error by its cause, and what is sound by another log.
use Rattle.std.proofs.Common.{ℕ, List, [], Result, Ok, Err, refl}
use Rattle.dns_core.specs.Log.{Log}
use Rattle.dns_core.specs.declared.message.Query.{Query}
use Rattle.dns_core.specs.declared.message.Message.{Message}
use Rattle.dns_core.specs.declared.request.Question.{Question}
use Rattle.recursor_types.specs.declared.policy.Policy.{Policy}
use Rattle.recursor_types.specs.declared.error.RecursorError.{RecursorError}
use Rattle.recursor_types.specs.declared.error.RecursorError.TheVariants as error
use Rattle.recursor_types.specs.declared.error.MessageKind.TheVariants as kind
use Rattle.resolution.specs.Ending.{LookupTiming}
use Rattle.resolution.specs.Causes.{CauseOf}
use Rattle.resolution.specs.Theorem.{AnswerIsSound, ErrorIsSound, OutcomeIsSound}
use Rattle.resolution.proofs.NoLinks.{leads-here, leads-anywhere}

-- an error with a cause for the question itself is sound
pub error-sound : {policy : Policy} {timing : LookupTiming} {log : Log} {asked_at : ℕ} {query : Query} {grounds : List ℕ} {e : RecursorError}
    → CauseOf policy timing log asked_at query grounds e → ErrorIsSound policy timing log asked_at query grounds e
error-sound {query = query} {grounds = grounds} cause = record { links = []; last = query; rest = grounds; leads = leads-here; grounds_are = refl; cause = cause }

-- no entry shows that memory ran out or that a name is not qualified; any other error that is sound is a sound outcome
pub outcome-sound : (policy : Policy) (timing : LookupTiming) (log : Log) (asked_at : ℕ) (question : Question) (grounds : List ℕ) (e : RecursorError)
    → ErrorIsSound policy timing log asked_at question.query grounds e → OutcomeIsSound policy timing log asked_at question grounds (Err e)
outcome-sound policy timing log asked_at question grounds error.NoMemory h = absurd h.cause
outcome-sound policy timing log asked_at question grounds (error.Message kind.NotQualified) h = absurd h.cause
outcome-sound policy timing log asked_at question grounds _ h = h

-- An outcome goes from one log to another with its answers and the causes of its errors.
module _ (policy other : Policy) (timing wider : LookupTiming) (log longer : Log) (asked_at earlier : ℕ) (question : Question) (grounds : List ℕ)
    (answers : (reply : Message) → AnswerIsSound policy log asked_at question grounds reply → AnswerIsSound other longer earlier question grounds reply)
    (causes : (query : Query) (rest : List ℕ) (e : RecursorError) → CauseOf policy timing log asked_at query rest e → CauseOf other wider longer earlier query rest e) where
  error-carried : (e : RecursorError) → ErrorIsSound policy timing log asked_at question.query grounds e → ErrorIsSound other wider longer earlier question.query grounds e
  error-carried e h = record {
    links = h.links;
    last = h.last;
    rest = h.rest;
    leads = leads-anywhere h.leads;
    grounds_are = h.grounds_are;
    cause = causes h.last h.rest e h.cause;
  }

  pub outcome-carried : (outcome : Result Message RecursorError) → OutcomeIsSound policy timing log asked_at question grounds outcome
      → OutcomeIsSound other wider longer earlier question grounds outcome
  outcome-carried (Ok reply) h = answers reply h
  outcome-carried (Err error.NoMemory) h = h
  outcome-carried (Err (error.Message kind.NotQualified)) h = h
  outcome-carried (Err e) h = error-carried e h
