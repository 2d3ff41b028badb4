-- Reading a message from the left: what is read, or the first item that cannot be.
use Rattle.std.specs.Prelude.{ℕ, ◌+◌, ◌*◌, ◌/◌, ◌%◌, ◌==◌, Bool, List, length, None, Result, Ok, Err, if◌then◌else◌}
use Rattle.dns_core.specs.declared.message.Query.{Query}
use Rattle.dns_core.specs.declared.record.Record.{Record}
use Rattle.wire_names.specs.Reading.{◌>>=◌}
use Rattle.wire_names.specs.declared.errors.WireError.{WireError}
use Rattle.wire_names.specs.declared.errors.WireError.TheVariants.{Trailing}
use Rattle.wire_records.specs.Numbers.{Read, two_of}
use Rattle.wire_records.specs.Reading.{question_of, record_of}
use Rattle.wire_records.specs.Sections.{in_turn, Told, extras_of}
use Rattle.dns_wire.specs.Wire.{upper_of, edns_of}
use Rattle.dns_wire.specs.declared.header.Header.{Header}
use Rattle.dns_wire.specs.declared.message.WireMessage.{WireMessage}

abbrev pub header_of : List ℕ → Read Header
header_of bytes =
    two_of bytes >>= λ i. two_of i.1 >>= λ f. two_of f.1 >>= λ q. two_of q.1 >>= λ a. two_of a.1 >>= λ u. two_of u.1 >>= λ x.
    Ok (record { id = i.0; flags = f.0; questions = q.0; answers = a.0; authorities = u.0; extras = x.0 }, x.1)

-- the bit at a place, a power of 2, is set
abbrev pub is_set : ℕ → ℕ → Bool
is_set flags place = flags / place % 2 == 1

-- the message of a header and of what the sections hold
abbrev pub message_of : Header → List Query → List Record → List Record → List Record × Told → WireMessage
message_of header questions answers authorities last = record {
  id = header.id;
  response = is_set header.flags 32768;
  opcode = header.flags / 2048 % 16;
  authoritative = is_set header.flags 1024;
  truncation = is_set header.flags 512;
  recursion_desired = is_set header.flags 256;
  recursion_available = is_set header.flags 128;
  authentic = is_set header.flags 32;
  checking = is_set header.flags 16;
  code = 16 * upper_of last.1 + header.flags % 16;
  questions = questions;
  answers = answers;
  authorities = authorities;
  additionals = last.0;
  edns = edns_of last.1;
}

-- the sections behind a header, and nothing behind them
unfoldable pub sections_of : List ℕ → Header → List ℕ → Result WireMessage WireError
sections_of message header body =
    in_turn question_of header.questions message body >>= λ q. in_turn record_of header.answers message q.1 >>= λ a.
    in_turn record_of header.authorities message a.1 >>= λ u. extras_of header.extras None message u.1 >>= λ x.
    if length x.1 == 0 then Ok (message_of header q.0 a.0 u.0 x.0) else Err Trailing

abbrev pub reading : List ℕ → Result WireMessage WireError
reading bytes = header_of bytes >>= λ h. sections_of bytes h.0 h.1
