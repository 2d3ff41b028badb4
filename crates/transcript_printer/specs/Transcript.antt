-- The text of a transcript.
use Rattle.std.specs.Prelude.{ℕ, Bool, true, ◌&&◌, List, [], ◌∷◌, ◌++◌, Result, Ok, Err, codes, decimal}
use Rattle.std.specs.List.{list_all}
use Rattle.dns_core.specs.declared.message.Message.{Message}
use Rattle.recursor_types.specs.declared.error.RecursorError.{RecursorError}
use Rattle.recursor_types.specs.declared.reply.Reply.{Reply}
use Rattle.transcript_printer.specs.declared.transcript.Transcript.{Transcript}
use Rattle.text_lines.specs.Texts.{line_of, record_lines, message_words, message_records}
use Rattle.transcript_printer.specs.Errors.{error_words, error_tail, has_words}
use Rattle.transcript_printer.specs.Log.{numbered_text, log_text, has_log_words}

-- the message of the reply to a question
unfoldable pub answer_text : ℕ → Message → List ℕ
answer_text n m = line_of (codes "reply" ∷ decimal n ∷ message_words m) ++ record_lines (message_records m)

-- the error of the reply to a question
unfoldable pub failure_text : ℕ → RecursorError → List ℕ
failure_text n error = line_of (codes "reply" ∷ decimal n ∷ codes "error" ∷ error_words error) ++ error_tail error

-- either of the two
abbrev pub outcome_text : ℕ → Result Message RecursorError → List ℕ
outcome_text n (Ok m) = answer_text n m
outcome_text n (Err e) = failure_text n e

-- the reply to the question of a number
unfoldable pub reply_text : ℕ → Reply → List ℕ
reply_text n r = outcome_text n r.outcome

-- the log, the replies, and the word that shows that nothing is cut off
unfoldable pub transcript_text : Transcript → List ℕ
transcript_text t = log_text t.log ++ numbered_text reply_text 1 t.replies ++ line_of (codes "end" ∷ [])

-- the error has its words, if it is one
abbrev pub has_result_words : Result Message RecursorError → Bool
has_result_words (Ok m) = true
has_result_words (Err e) = has_words e

-- likewise a reply
abbrev pub has_reply_words : Reply → Bool
has_reply_words r = has_result_words r.outcome

-- each error in it has its words
abbrev pub has_transcript_words : Transcript → Bool
has_transcript_words t = has_log_words t.log && list_all has_reply_words t.replies
