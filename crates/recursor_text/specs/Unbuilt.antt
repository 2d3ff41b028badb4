-- Lines that the format has and that are not read yet: options, rules for transports, and questions of
-- too many labels. All others are read wherever the format has them.
use Rattle.std.specs.Prelude.{ℕ, Bool, true, false, ◌&&◌, nat_lt, List, [], ◌∷◌, length, Option, None, is_some, if◌then◌else◌, codes}
use Rattle.std.specs.Str.{bytes_eq}
use Rattle.recursor_text.specs.declared.reading.draft.Draft.{Draft}
use Rattle.recursor_text.specs.declared.reading.draft.Stage.{Stage}
use Rattle.recursor_text.specs.declared.reading.draft.Stage.TheVariants.{Rooted, Optioned, Scripted, Asked}
use Rattle.recursor_text.specs.declared.reading.draft.Place.{Place}
use Rattle.recursor_text.specs.declared.reading.draft.Refusal.{Refusal}
use Rattle.recursor_text.specs.declared.reading.draft.Refusal.TheVariants.{Bad, NotBuilt}
use Rattle.text_lines.specs.Addresses.{ip_of}
use Rattle.text_lines.specs.Codes.{type_of}
use Rattle.text_lines.specs.Fields.{checked, field, both, whole}
use Rattle.text_lines.specs.Lines.{delay_field, connected_fields, answered_fields, question_fields}
use Rattle.text_lines.specs.Names.{full_name}
use Rattle.recursor_text.specs.OptionLines.{Line, option_line}
use Rattle.text_lines.specs.Pieces.{pieces}
use Rattle.text_lines.specs.LineSpelling.{last_rank}
use Rattle.recursor_text.specs.Spelling.{most_questions}

-- ---- words

-- one of these words
abbrev pub is_among : List (List ℕ) → List ℕ → Bool
is_among [] w = false
is_among (t ∷ ts) w = if bytes_eq w t then true else is_among ts w

unfoldable pub is_protocol : List ℕ → Bool
is_protocol w = is_among (codes "udp" ∷ codes "tcp" ∷ codes "tls" ∷ codes "https" ∷ codes "quic" ∷ codes "h3" ∷ []) w

-- ---- lines, each after its first word

unfoldable pub refuse_line : Line
refuse_line = whole (both (field ip_of) (checked is_protocol)) (λ x. tt)

unfoldable pub connect_line : Line
connect_line = whole (both (field ip_of) (both (checked is_protocol) (both delay_field connected_fields))) (λ x. tt)

unfoldable pub reply_line : Line
reply_line = whole (both (field ip_of) (both (checked is_protocol) (both (field full_name) (both (field type_of) (both delay_field answered_fields))))) (λ x. tt)

unfoldable pub question_line : Line
question_line = whole question_fields (λ x. tt)

-- ---- where a line can stand

abbrev pub is_at_options : Stage → Bool
is_at_options Rooted = true
is_at_options Optioned = true
is_at_options _ = false

abbrev pub is_at_rules : Stage → Bool
is_at_rules Scripted = true
is_at_rules _ = false

abbrev pub is_at_questions : Stage → Bool
is_at_questions Scripted = true
is_at_questions Asked = true
is_at_questions _ = false

abbrev pub stands : Bool → Option (Unit {0}) → Option (Unit {0})
stands may read = if may then read else None

-- a line of a script, by its first word
unfoldable pub rule_line : List ℕ → Line
rule_line w ws =
    if bytes_eq w (codes "connect") then connect_line ws
    else if bytes_eq w (codes "refuse") then refuse_line ws
    else if bytes_eq w (codes "reply") then reply_line ws
    else None

-- a line of a script, or a question, where there is room for one more
unfoldable pub late_line : Place → List ℕ → Line
late_line place w ws =
    if bytes_eq w (codes "question") then stands (is_at_questions place.stage && place.room) (question_line ws)
    else stands (is_at_rules place.stage) (rule_line w ws)

-- a line that is no record line
unfoldable pub other_line : Place → Line
other_line place [] = None
other_line place (w ∷ ws) =
    if bytes_eq w (codes "option") then stands (is_at_options place.stage) (option_line place.option ws)
    else late_line place w ws

-- a line of the format, where it stands; all records are read
unfoldable pub line_at : Place → List ℕ → Option (Unit {0})
line_at place line = if place.owes then None else other_line place (pieces 32 line)

-- ---- refusals

abbrev pub place_of : Draft → Place
place_of d = record { stage = d.stage; option = last_rank 0 d.written; owes = is_some d.pending; room = nat_lt (length d.questions) most_questions }

abbrev pub refusal_at : Place → List ℕ → Refusal
refusal_at place line = if is_some (line_at place line) then NotBuilt else Bad
