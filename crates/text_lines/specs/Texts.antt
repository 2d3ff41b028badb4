-- The texts of numbers, addresses, names, codes, errors of transport, records and messages. A line
-- is its words, with a space between any two, and a line feed.
use Rattle.std.specs.Prelude.{ℕ, ◌/◌, ◌%◌, Bool, true, false, List, [], ◌∷◌, ◌++◌, length, Option, Some, None, unwrap_or, is_some, codes, decimal}
use Rattle.std.specs.List.{flat_map, join_with_byte}
use Rattle.std.specs.Char.{digit_char}
use Rattle.std.specs.declared.net.ip_addr.IpAddr.{IpAddr}
use Rattle.std.specs.declared.net.ip_addr.IpAddr.TheVariants as ip
use Rattle.std.specs.Net.Addr.{ipv4_octets, ipv6_segments}
use Rattle.std.specs.Net.Text.{ipv4_text, hex_groups_text}
use Rattle.dns_core.specs.CodeTexts.{type_text, class_text, response_code_text}
use Rattle.dns_core.specs.NameText.{text_of}
use Rattle.dns_core.specs.declared.connection.Protocol.{Protocol}
use Rattle.dns_core.specs.declared.connection.Protocol.TheVariants.{Udp, Tcp, Tls, Https, Quic, H3}
use Rattle.dns_core.specs.declared.net_error.IoKind.TheVariants.{Closed, Refused, Other}
use Rattle.dns_core.specs.declared.net_error.NetError.{NetError}
use Rattle.dns_core.specs.declared.net_error.NetError.TheVariants.{Busy, Io, Timeout, NoConnections, Truncated, QueryCaseMismatch, ForeignClassRecord, Dns, Msg, NoMemory}
use Rattle.dns_core.specs.declared.record.RData.{RData}
use Rattle.dns_core.specs.declared.record.RData.TheVariants.{A, AAAA, NS, CNAME, SOA, RRSIG, Opaque}
use Rattle.dns_core.specs.declared.record.Record.{Record}
use Rattle.dns_core.specs.declared.message.Message.{Message}

-- an address: IPv6 by RFC 5952 section 4, without dots
abbrev pub ip_text : IpAddr → List ℕ
ip_text (ip.V4 a) = ipv4_text (ipv4_octets a)
ip_text (ip.V6 a) = hex_groups_text (ipv6_segments a)

-- a byte as two digits in base 16
unfoldable pub hex_pair : ℕ → List ℕ
hex_pair b = digit_char (b / 16) ∷ digit_char (b % 16) ∷ []

-- bytes, and a dash where there are none
abbrev pub hex_text : List ℕ → List ℕ
hex_text [] = codes "-"
hex_text (b ∷ bs) = flat_map hex_pair (b ∷ bs)

-- the word of a transport
abbrev pub protocol_text : Protocol → List ℕ
protocol_text Udp = codes "udp"
protocol_text Tcp = codes "tcp"
protocol_text Tls = codes "tls"
protocol_text Https = codes "https"
protocol_text Quic = codes "quic"
protocol_text H3 = codes "h3"

-- the word of an error that a connection or an exchange ends in
abbrev pub error_word_of : NetError → Option (List ℕ)
error_word_of Busy = Some (codes "busy")
error_word_of (Io Other) = Some (codes "io")
error_word_of (Io Closed) = Some (codes "closed")
error_word_of (Io Refused) = Some (codes "refused")
error_word_of Timeout = Some (codes "timeout")
error_word_of NoConnections = Some (codes "noconnections")
error_word_of QueryCaseMismatch = Some (codes "mismatch")
error_word_of Truncated = None
error_word_of (ForeignClassRecord name dns_class record_type) = None
error_word_of (Dns e) = None
error_word_of (Msg text) = None
error_word_of NoMemory = None

-- it has one
abbrev pub has_error_word : NetError → Bool
has_error_word error = is_some (error_word_of error)

-- the word, and nothing where there is none
abbrev pub error_word : NetError → List ℕ
error_word error = unwrap_or (error_word_of error) []

-- the flags AA and TC of a message
abbrev pub flags_text : Bool → Bool → List ℕ
flags_text false false = codes "none"
flags_text true false = codes "aa"
flags_text false true = codes "tc"
flags_text true true = codes "aa+tc"

-- a flag as a digit
abbrev pub flag_text : Bool → List ℕ
flag_text false = codes "0"
flag_text true = codes "1"

-- a line that has these words
abbrev pub line_of : List (List ℕ) → List ℕ
line_of words = join_with_byte 32 words ++ 10 ∷ []

-- the data of a record
abbrev pub data_words : RData → List (List ℕ)
data_words (A a) = ipv4_text (ipv4_octets a) ∷ []
data_words (AAAA a) = hex_groups_text (ipv6_segments a) ∷ []
data_words (NS target) = text_of target ∷ []
data_words (CNAME target) = text_of target ∷ []
data_words (SOA soa) = text_of soa.mname ∷ text_of soa.rname ∷ decimal soa.serial ∷ decimal soa.refresh ∷ decimal soa.retry ∷ decimal soa.expire ∷ decimal soa.minimum ∷ []
data_words (RRSIG covered rest) = type_text covered ∷ hex_text rest ∷ []
data_words (Opaque bytes) = hex_text bytes ∷ []

-- what stands behind the name of a record
abbrev pub record_details : Record → List (List ℕ)
record_details r = decimal r.ttl ∷ class_text r.dns_class ∷ type_text r.record_type ∷ data_words r.rdata

-- a record: its name, its TTL, its class, its type and its data
abbrev pub record_words : Record → List (List ℕ)
record_words r = text_of r.name ∷ record_details r

-- the line of a record
unfoldable pub record_line : Record → List ℕ
record_line r = line_of (record_words r)

-- the lines of records, in their order
abbrev pub record_lines : List Record → List ℕ
record_lines rs = flat_map record_line rs

-- a message: its code, its flags, and how many records each section has
abbrev pub message_details : Message → List (List ℕ)
message_details m = response_code_text m.response_code ∷ flags_text m.authoritative m.truncation ∷ decimal (length m.answers) ∷ decimal (length m.authorities) ∷ decimal (length m.additionals) ∷ []

-- the words of a message's line
abbrev pub message_words : Message → List (List ℕ)
message_words m = codes "message" ∷ message_details m

-- the records of a message, section by section
abbrev pub message_records : Message → List Record
message_records m = m.answers ++ m.authorities ++ m.additionals

-- a message, its line and those of its records
unfoldable pub message_text : Message → List ℕ
message_text m = line_of (message_words m) ++ record_lines (message_records m)
