-- What each line of a scenario says that is no record line.
use Rattle.std.specs.Prelude.{ℕ, List, [], ◌∷◌, Bool, true, false, Option, Some, None, Result, Ok, Err, if◌then◌else◌, codes}
use Rattle.std.specs.Result.{result_err}
use Rattle.std.specs.Str.{bytes_eq}
use Rattle.std.specs.declared.net.ip_addr.IpAddr.{IpAddr}
use Rattle.dns_core.specs.Name.{DomainName}
use Rattle.dns_core.specs.declared.codes.RecordType.{RecordType}
use Rattle.dns_core.specs.declared.codes.ResponseCode.{ResponseCode}
use Rattle.dns_core.specs.declared.connection.Protocol.{Protocol}
use Rattle.dns_core.specs.declared.connection.Protocol.TheVariants.{Udp, Tcp}
use Rattle.dns_core.specs.declared.message.Message.{Message}
use Rattle.dns_core.specs.declared.net_error.IoKind.TheVariants.{Closed, Refused, Other}
use Rattle.dns_core.specs.declared.net_error.NetError.{NetError}
use Rattle.dns_core.specs.declared.net_error.NetError.TheVariants.{Busy, Io, Timeout, NoConnections, QueryCaseMismatch}
use Rattle.dns_core.specs.declared.request.Question.{Question}
use Rattle.dns_core.specs.declared.request.Turn.{Turn}
use Rattle.script_upstream.specs.declared.script.script.ScriptLine.TheVariants.{Connect, Refuse, Reply}
use Rattle.text_lines.specs.declared.lines.lines.Form.{Form}
use Rattle.text_lines.specs.declared.lines.lines.Form.TheVariants as form
use Rattle.text_lines.specs.declared.lines.rules.Counts.{Counts}
use Rattle.text_lines.specs.declared.lines.rules.MessageHead.{MessageHead}
use Rattle.text_lines.specs.Addresses.{ip_of}
use Rattle.text_lines.specs.Codes.{type_of, response_code_of, class_in}
use Rattle.text_lines.specs.Fields.{Fields, field, in_table, end_of, both, skip, whole, nothing, wide_field}
use Rattle.text_lines.specs.Names.{relaxed_name, full_name}
use Rattle.text_lines.specs.Numbers.{◌>>=◌, number_within}
use Rattle.text_lines.specs.OptionForm.{option_line_of}
use Rattle.text_lines.specs.Pieces.{pieces}
use Rattle.text_lines.specs.LineSpelling.{most_delay}

-- ---- words that stand for values

-- the transports that lines of a script are for
abbrev pub protocols : List (List ℕ × Protocol)
protocols = (codes "udp", Udp) ∷ (codes "tcp", Tcp) ∷ []

-- the errors that lines of a script tell
abbrev pub failures : List (List ℕ × NetError)
failures =
    (codes "busy", Busy) ∷ (codes "io", Io Other) ∷ (codes "closed", Io Closed) ∷ (codes "refused", Io Refused)
    ∷ (codes "timeout", Timeout) ∷ (codes "noconnections", NoConnections) ∷ (codes "mismatch", QueryCaseMismatch) ∷ []

-- the flags AA and TC that messages have
abbrev pub flags : List (List ℕ × (Bool × Bool))
flags = (codes "none", (false, false)) ∷ (codes "aa", (true, false)) ∷ (codes "tc", (false, true)) ∷ (codes "aa+tc", (true, true)) ∷ []

-- whether DNSSEC records are asked for
abbrev pub dnssec_words : List (List ℕ × Bool)
dnssec_words = (codes "plain", false) ∷ (codes "dnssec", true) ∷ []

-- ---- the fields of each kind of line, after its first word

abbrev pub head_fields : Fields (Unit {0})
head_fields = skip (codes "1") nothing

abbrev pub patience_fields : Fields ℕ
patience_fields = field (number_within 1 1000)

abbrev pub told_fields : Fields (Unit {0})
told_fields = skip (codes "script") nothing

abbrev pub count_field : Fields ℕ
count_field = field (number_within 0 65535)

abbrev pub three_counts : Fields (ℕ × (ℕ × ℕ))
three_counts = both count_field (both count_field count_field)

abbrev pub counts_from : ℕ × (ℕ × ℕ) → Counts
counts_from x = record { answers = x.0; authorities = x.1.0; additionals = x.1.1 }

abbrev pub counts_fields : Fields Counts
counts_fields ws = three_counts ws >>= λ x. Some (counts_from x.0, x.1)

abbrev pub head_parts : Type 0
head_parts = ResponseCode × ((Bool × Bool) × Counts)

abbrev pub head_from : head_parts → MessageHead
head_from x = record { response_code = x.0; authoritative = x.1.0.0; truncation = x.1.0.1; owed = x.1.1 }

abbrev pub head_parts_fields : Fields head_parts
head_parts_fields = both (field response_code_of) (both (field (in_table flags)) counts_fields)

-- a message, after its first word
abbrev pub message_fields : Fields MessageHead
message_fields ws = head_parts_fields ws >>= λ x. Some (head_from x.0, x.1)

-- how many polls find nothing yet
abbrev pub delay_field : Fields ℕ
delay_field = field (number_within 0 most_delay)

abbrev pub failure_field : Fields NetError
failure_field = field (in_table failures)

-- what a connection or a question comes to: fields behind a word of their own, or an error
abbrev pub outcome_fields : {X : Type 0} → List ℕ → Fields X → Fields (Result X NetError)
outcome_fields key p [] = None
outcome_fields key p (w ∷ ws) =
    if bytes_eq w key then p ws >>= (λ x. Some (Ok x.0, x.1))
    else if bytes_eq w (codes "error") then failure_field ws >>= (λ e. Some (Err e.0, e.1))
    else None

abbrev pub connected_fields : Fields (Result (Unit {0}) NetError)
connected_fields = outcome_fields (codes "ok") nothing

abbrev pub answered_fields : Fields (Result MessageHead NetError)
answered_fields = outcome_fields (codes "message") message_fields

abbrev pub refuse_fields : Fields (IpAddr × Protocol)
refuse_fields = both (field ip_of) (field (in_table protocols))

abbrev pub connect_parts : Type 0
connect_parts = IpAddr × (Protocol × (ℕ × Result (Unit {0}) NetError))

abbrev pub connect_fields : Fields connect_parts
connect_fields = both (field ip_of) (both (field (in_table protocols)) (both delay_field connected_fields))

abbrev pub connect_from : connect_parts → Form
connect_from x = form.Rule (Connect x.0 x.1.0 x.1.1.0 (result_err x.1.1.1))

-- the rule of a connection, where no word is left
abbrev pub connect_rule : List (List ℕ) → connect_parts → Option Form
connect_rule ws x = end_of ws >>= λ e. Some (connect_from x)

abbrev pub reply_parts : Type 0
reply_parts = IpAddr × (Protocol × (DomainName × (RecordType × (ℕ × Result MessageHead NetError))))

abbrev pub reply_fields : Fields reply_parts
reply_fields = both (field ip_of) (both (field (in_table protocols)) (both (field full_name) (both (field type_of) (both delay_field answered_fields))))

-- a message without records
abbrev pub bare_message : DomainName → RecordType → MessageHead → Message
bare_message n t h = record {
  query = record { name = n; query_type = t; query_class = class_in };
  response_code = h.response_code;
  authoritative = h.authoritative;
  truncation = h.truncation;
  answers = [];
  authorities = [];
  additionals = [];
}

-- a rule that tells a message, none of whose records is there yet, or an error
abbrev pub rule_by : IpAddr → Protocol → DomainName → RecordType → ℕ → Result MessageHead NetError → Form
rule_by ip protocol n t delay (Ok h) = form.Reply (record { ip = ip; protocol = protocol; delay = delay; message = bare_message n t h; owed = h.owed })
rule_by ip protocol n t delay (Err e) = form.Rule (Reply ip protocol n t delay (Err e))

abbrev pub reply_from : reply_parts → Form
reply_from x = rule_by x.0 x.1.0 x.1.1.0 x.1.1.1.0 x.1.1.1.1.0 x.1.1.1.1.1

abbrev pub question_fields : Fields (DomainName × (RecordType × Bool))
question_fields = both (field relaxed_name) (both (field type_of) (field (in_table dnssec_words)))

abbrev pub question_from : DomainName × (RecordType × Bool) → Question
question_from x = record { query = record { name = x.0; query_type = x.1.0; query_class = class_in }; dnssec_ok = x.1.1 }

abbrev pub turn_fields : Fields (ℕ × ℕ)
turn_fields = both wide_field (field (number_within 0 4611686018427387903))

abbrev pub turn_from : ℕ × ℕ → Turn
turn_from x = record { question = x.0; moment = x.1 }

unfoldable pub head_of : List (List ℕ) → Option Form
head_of = whole head_fields (λ x. form.Head)

unfoldable pub root_of : List (List ℕ) → Option Form
root_of = whole (field ip_of) form.Root

unfoldable pub option_of : List (List ℕ) → Option Form
option_of ws = option_line_of ws >>= λ o. Some (form.Option o)

unfoldable pub patience_of : List (List ℕ) → Option Form
patience_of = whole patience_fields form.Patience

unfoldable pub told_of : List (List ℕ) → Option Form
told_of = whole told_fields (λ x. form.ToldScript)

unfoldable pub connect_of : List (List ℕ) → Option Form
connect_of = whole connect_fields connect_from

unfoldable pub refuse_of : List (List ℕ) → Option Form
refuse_of = whole refuse_fields (λ x. form.Rule (Refuse x.0 x.1))

unfoldable pub reply_of : List (List ℕ) → Option Form
reply_of = whole reply_fields reply_from

unfoldable pub question_of : List (List ℕ) → Option Form
question_of = whole question_fields (λ x. form.Question (question_from x))

unfoldable pub turn_of : List (List ℕ) → Option Form
turn_of = whole turn_fields (λ x. form.Turn (turn_from x))

unfoldable pub end_line_of : List (List ℕ) → Option Form
end_line_of = whole nothing (λ x. form.End)

-- the line of the kind that the first word names
unfoldable pub forms_of : List (List ℕ) → Option Form
forms_of [] = None
forms_of (w ∷ ws) =
    if bytes_eq w (codes "reply") then reply_of ws
    else if bytes_eq w (codes "recursor") then head_of ws
    else if bytes_eq w (codes "root") then root_of ws
    else if bytes_eq w (codes "option") then option_of ws
    else if bytes_eq w (codes "patience") then patience_of ws
    else if bytes_eq w (codes "told") then told_of ws
    else if bytes_eq w (codes "question") then question_of ws
    else if bytes_eq w (codes "turn") then turn_of ws
    else if bytes_eq w (codes "connect") then connect_of ws
    else if bytes_eq w (codes "refuse") then refuse_of ws
    else if bytes_eq w (codes "end") then end_line_of ws
    else None

abbrev pub form_of : List ℕ → Option Form
form_of line = forms_of (pieces 32 line)
