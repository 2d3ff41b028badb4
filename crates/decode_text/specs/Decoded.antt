-- The text of a message in wire form.
use Rattle.std.specs.Prelude.{◌≡◌, ℕ, Bool, true, false, List, [], ◌∷◌, ◌++◌, length, Option, Some, None, codes, decimal}
use Rattle.std.specs.List.{flat_map}
use Rattle.dns_core.specs.CodeTexts.{type_text, class_text, response_code_text}
use Rattle.dns_core.specs.NameText.{text_of}
use Rattle.dns_core.specs.declared.codes.ResponseCode.{ResponseCode}
use Rattle.dns_core.specs.declared.message.Query.{Query}
use Rattle.dns_core.specs.declared.record.Record.{Record}
use Rattle.text_lines.specs.Texts.{flags_text, flag_text, hex_text, line_of, record_lines}
use Rattle.wire_records.specs.declared.edns.Edns.{Edns}
use Rattle.dns_wire.specs.Wire.{Wire}
use Rattle.dns_wire.specs.declared.message.WireMessage.{WireMessage}

-- a message asks or answers
abbrev pub direction_text : Bool → List ℕ
direction_text false = codes "query"
direction_text true = codes "response"

-- the response code, whose upper bits an OPT record may hold
abbrev pub code_of : WireMessage → ResponseCode
code_of m = record { code = m.code }

-- the words of the first line: the id, whether it asks or answers, the opcode and the code
abbrev pub wire_words : WireMessage → List (List ℕ)
wire_words m = codes "wire" ∷ decimal m.id ∷ direction_text m.response ∷ decimal m.opcode ∷ response_code_text (code_of m) ∷ []

-- the words of a question: its name, its type and its class
abbrev pub question_words : Query → List (List ℕ)
question_words q = codes "question" ∷ text_of q.name ∷ type_text q.query_type ∷ class_text q.query_class ∷ []

-- the line of a question
unfoldable pub question_line : Query → List ℕ
question_line q = line_of (question_words q)

-- how many records each section has
abbrev pub section_counts : WireMessage → List (List ℕ)
section_counts m = decimal (length m.answers) ∷ decimal (length m.authorities) ∷ decimal (length m.additionals) ∷ []

-- the words of the head over the records, as a transcript has them: the code, the flags AA and TC, and how many records each section has
abbrev pub head_words : WireMessage → List (List ℕ)
head_words m = codes "message" ∷ response_code_text (code_of m) ∷ flags_text m.authoritative m.truncation ∷ section_counts m

-- the records, section by section
abbrev pub all_records : WireMessage → List Record
all_records m = m.answers ++ m.authorities ++ m.additionals

-- the words of what an OPT record says: the payload size, the version, the DO bit and the options
abbrev pub edns_words : Edns → List (List ℕ)
edns_words e = codes "edns" ∷ decimal e.payload ∷ decimal e.version ∷ flag_text e.dnssec_ok ∷ hex_text e.options ∷ []

-- its line, where there is one
abbrev pub edns_lines : Option Edns → List ℕ
edns_lines None = []
edns_lines (Some e) = line_of (edns_words e)

-- a message: its lines, and the word that shows that nothing is cut off
unfoldable pub decoded : WireMessage → List ℕ
decoded m =
    line_of (wire_words m) ++ (flat_map question_line m.questions ++ (line_of (head_words m) ++ (record_lines (all_records m) ++ (edns_lines m.edns ++ line_of (codes "end" ∷ [])))))

-- the bytes are a message, and the text is the message's
abbrev pub IsDecoded : List ℕ → List ℕ → Type 0
IsDecoded bytes text = (m : WireMessage) × Wire bytes m × (text ≡ decoded m)
