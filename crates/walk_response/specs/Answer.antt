-- What a question is answered with by what counts for it.
use Rattle.std.specs.Prelude.{Bool, ◌==◌, ◌&&◌, Some, None, Result, Ok, Err}
use Rattle.std.specs.Option.{is_none}
use Rattle.dns_core.specs.Stripping.{strip_of}
use Rattle.dns_core.specs.declared.message.Message.{Message}
use Rattle.dns_core.specs.declared.request.Question.{Question}
use Rattle.dns_core.specs.declared.net_error.NoRecords.{NoRecords}
use Rattle.resolution.specs.Negatives.{received_negative, made_negative}
use Rattle.resolution.specs.declared.verdict.Verdict.{Verdict}
use Rattle.resolution.specs.declared.verdict.Verdict.TheVariants.{Pos, Neg, Made}
use Rattle.recursor_types.specs.declared.error.RecursorError.{RecursorError}
use Rattle.recursor_types.specs.declared.error.RecursorError.TheVariants.{Negative, ForwardNS}

-- A negative that was told, or a referral where it names servers.
abbrev pub told_negative : NoRecords → RecursorError
told_negative found = elim (found.ns) [
  | Some forward ↦ ForwardNS forward
  | None ↦ Negative (received_negative found)
]

-- Nothing exists at or below a candidate for which a denial of the name came, and no referral (RFC 8020).
abbrev pub ends_walk : NoRecords → Bool
ends_walk found = found.response_code.code == 3 && is_none found.ns

-- A message is answered less the DNSSEC records that the question does not want, and any other verdict with its denial.
abbrev pub outcome_of : Question → Verdict → Result Message RecursorError
outcome_of question (Pos kept) = Ok (strip_of kept question.dnssec_ok)
outcome_of question (Neg found) = Err (told_negative found)
outcome_of question (Made cause) = Err (Negative (made_negative question.query cause))
