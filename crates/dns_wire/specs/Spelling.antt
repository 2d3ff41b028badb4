-- A message written out, without pointers.
use Rattle.std.specs.Prelude.{◌≡◌, ◌<◌, ◌+◌, ◌*◌, ◌/◌, ◌++◌, ℕ, true, false, List, [], length, Option, Some, None}
use Rattle.std.specs.List.{All, flat_map}
use Rattle.dns_core.specs.declared.message.Query.{Query}
use Rattle.wire_records.specs.Numbers.{two}
use Rattle.wire_records.specs.Records.{bit}
use Rattle.wire_records.specs.Spelling.{spelled_question, spelled_record, spelled_opt, CanWrite, FitQuestion, FitRecord}
use Rattle.wire_records.specs.declared.edns.Edns.{Edns}
use Rattle.dns_wire.specs.Wire.{flags}
use Rattle.dns_wire.specs.declared.message.WireMessage.{WireMessage}

-- the flags above the bit that is ignored
abbrev pub upper_flags : WireMessage → ℕ
upper_flags message =
    32768 * bit message.response + 2048 * message.opcode + 1024 * bit message.authoritative + 512 * bit message.truncation + 256 * bit message.recursion_desired
    + 128 * bit message.recursion_available

-- the OPT record with these upper bits of the code
abbrev pub spelled_edns : ℕ → Option Edns → List ℕ
spelled_edns upper None = []
spelled_edns upper (Some edns) = spelled_opt upper edns

abbrev pub edns_count : Option Edns → ℕ
edns_count None = 0
edns_count (Some edns) = 1

abbrev pub spelled_counts : ℕ → ℕ → ℕ → ℕ → List ℕ
spelled_counts questions answers authorities extras = two questions ++ (two answers ++ (two authorities ++ two extras))

abbrev pub spelled_header : WireMessage → List ℕ
spelled_header message =
    two message.id ++ (two (flags message false) ++ spelled_counts (length message.questions) (length message.answers) (length message.authorities) (length message.additionals + edns_count message.edns))

abbrev pub spelled_sections : WireMessage → List ℕ
spelled_sections message =
    flat_map spelled_question message.questions ++ (flat_map spelled_record message.answers ++ (flat_map spelled_record message.authorities
    ++ (flat_map spelled_record message.additionals ++ spelled_edns (message.code / 16) message.edns)))

-- the bytes of a message without pointers
abbrev pub spelled : WireMessage → List ℕ
spelled message = spelled_header message ++ spelled_sections message

-- ---- what can be written

abbrev pub IsAbsolute : Query → Type 0
IsAbsolute query = query.name.fqdn ≡ true

-- without an OPT record the code has the four bits of the header
abbrev pub IsCode : ℕ → Option Edns → Type 0
IsCode code None = code < 16
IsCode code (Some edns) = code < 4096

-- a message whose numbers fit and whose names are fully qualified
pub record CanSpell (message : WireMessage) : Type 0 where
  pub opcode : message.opcode < 16
  pub code : IsCode message.code message.edns
  pub questions : All IsAbsolute message.questions
  pub answers : All CanWrite message.answers
  pub authorities : All CanWrite message.authorities
  pub additionals : All CanWrite message.additionals
  pub few_questions : length message.questions < 65536
  pub few_answers : length message.answers < 65536
  pub few_authorities : length message.authorities < 65536
  pub few_extras : length message.additionals + edns_count message.edns < 65536

-- ---- what the types say of a message that is written: labels of names, and lengths of addresses

pub record FitMessage (message : WireMessage) : Type 0 where
  pub questions : All FitQuestion message.questions
  pub answers : All FitRecord message.answers
  pub authorities : All FitRecord message.authorities
  pub additionals : All FitRecord message.additionals
