-- Messages in wire form (RFC 1035 section 4.1, RFC 6891 section 6.1).
use Rattle.std.specs.Prelude.{◌≡◌, ◌<◌, ◌+◌, ◌*◌, ◌/◌, ◌%◌, ◌++◌, ℕ, Bool, List, [], length, Option, Some, None}
use Rattle.std.specs.List.{flat_map}
use Rattle.wire_records.specs.Numbers.{two}
use Rattle.wire_records.specs.Records.{bit, InTurn, QuestionAt, RecordAt, ExtraAt, plain_of, said_of, IsSaid}
use Rattle.wire_records.specs.Sections.{Told}
use Rattle.wire_records.specs.declared.edns.Edns.{Edns}
use Rattle.wire_records.specs.declared.edns.Extra.{Extra}
use Rattle.dns_wire.specs.declared.message.WireMessage.{WireMessage}

-- the two bytes of flags as one number (section 4.1.1); one bit is ignored
abbrev pub flags : WireMessage → Bool → ℕ
flags message ignored =
    32768 * bit message.response + 2048 * message.opcode + 1024 * bit message.authoritative + 512 * bit message.truncation + 256 * bit message.recursion_desired
    + 128 * bit message.recursion_available + 64 * bit ignored + 32 * bit message.authentic + 16 * bit message.checking + message.code % 16

-- the upper bits of the code, which are 0 without an OPT record
abbrev pub upper_of : Told → ℕ
upper_of None = 0
upper_of (Some said) = said.0

abbrev pub edns_of : Told → Option Edns
edns_of None = None
edns_of (Some said) = Some said.1

-- The bytes are the message, and nothing follows: a header, so many questions, answers and authorities, and the records of the
-- last section, those that have data and the OPT record.
pub record Wire (bytes : List ℕ) (message : WireMessage) : Type 0 where
  pub ignored : Bool
  pub body : List ℕ
  pub extras : List Extra
  pub told : Told
  pub at_answers : List ℕ
  pub at_authorities : List ℕ
  pub at_extras : List ℕ
  pub opcode : message.opcode < 16
  pub header : bytes ≡ two message.id ++ (two (flags message ignored) ++ (two (length message.questions) ++ (two (length message.answers) ++ (two (length message.authorities) ++ (two (length extras) ++ body)))))
  pub questions : InTurn QuestionAt bytes body message.questions at_answers
  pub answers : InTurn RecordAt bytes at_answers message.answers at_authorities
  pub authorities : InTurn RecordAt bytes at_authorities message.authorities at_extras
  pub extra : InTurn ExtraAt bytes at_extras extras []
  pub additionals : message.additionals ≡ flat_map plain_of extras
  pub said : IsSaid (flat_map said_of extras) told
  pub code : message.code / 16 ≡ upper_of told
  pub edns : message.edns ≡ edns_of told
