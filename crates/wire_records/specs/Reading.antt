-- Reading questions and records from the left: what is read, or the first item that cannot be.
use Rattle.std.specs.Prelude.{◌≡◌, ℕ, ◌+◌, ◌-◌, ◌*◌, ◌/◌, ◌%◌, ◌==◌, ◌++◌, Bool, true, false, not, ◌||◌, ◌&&◌, nat_lt, nat_le, List, [], ◌∷◌, length, take, drop, Result, Ok, Err, if◌then◌else◌, refl}
use Rattle.std.specs.Net.Addr.{segments_of}
use Rattle.dns_core.specs.Name.{DomainName}
use Rattle.dns_core.specs.Record.{is_typed}
use Rattle.dns_core.specs.declared.codes.DnsClass.{DnsClass}
use Rattle.dns_core.specs.declared.codes.RecordType.{RecordType}
use Rattle.dns_core.specs.declared.message.Query.{Query}
use Rattle.dns_core.specs.declared.record.Record.{Record}
use Rattle.dns_core.specs.declared.record.RData.{RData}
use Rattle.dns_core.specs.declared.record.RData.TheVariants.{A, AAAA, NS, CNAME, SOA, RRSIG, Opaque}
use Rattle.dns_core.specs.declared.record.Soa.{Soa}
use Rattle.wire_names.specs.Names.{written}
use Rattle.wire_names.specs.Reading.{◌>>=◌, name_of}
use Rattle.wire_names.specs.declared.errors.WireError.{WireError}
use Rattle.wire_names.specs.declared.errors.WireError.TheVariants.{Short, BadData, BadOpt}
use Rattle.wire_records.specs.Numbers.{Read, two_of, four_of}
use Rattle.wire_records.specs.declared.edns.Extra.{Extra}
use Rattle.wire_records.specs.declared.edns.Extra.TheVariants.{Plain, Opt}

abbrev pub question_of : List ℕ → List ℕ → Read Query
question_of message bytes =
    name_of message bytes >>= λ n. two_of n.1 >>= λ t. two_of t.1 >>= λ c. Ok (record { name = n.0; query_type = record { code = t.0 }; query_class = record { code = c.0 } }, c.1)

-- ---- data: so many bytes at the front of these, which are a rest of the message

-- a name that fills the data
abbrev pub target_of : List ℕ → ℕ → List ℕ → Result DomainName WireError
target_of message count bytes = name_of message bytes >>= λ n. if length n.1 == length bytes - count then Ok n.0 else Err BadData

-- a name that fills the data, written out
abbrev pub written_of : List ℕ → ℕ → List ℕ → Result (List ℕ) WireError
written_of message count bytes = target_of message count bytes >>= λ n. Ok (written n.labels)

-- a preference of two bytes and a name that fills the others, written out
abbrev pub exchange_of : List ℕ → ℕ → List ℕ → Result (List ℕ) WireError
exchange_of message count bytes =
    if nat_lt count 2 then Err BadData else (written_of message (count - 2) (drop 2 bytes) >>= λ target. Ok (take 2 bytes ++ target))

-- five numbers
abbrev pub Lives : Type 0
Lives = ℕ × (ℕ × (ℕ × (ℕ × ℕ)))

abbrev pub lives_of : List ℕ → Read Lives
lives_of bytes =
    four_of bytes >>= λ s. four_of s.1 >>= λ f. four_of f.1 >>= λ t. four_of t.1 >>= λ e. four_of e.1 >>= λ m. Ok ((s.0, (f.0, (t.0, (e.0, m.0)))), m.1)

abbrev pub soa_from : DomainName → DomainName → Lives → Soa
soa_from mname rname lives =
    record { mname = mname; rname = rname; serial = lives.0; refresh = lives.1.0; retry = lives.1.1.0; expire = lives.1.1.1.0; minimum = lives.1.1.1.1 }

-- two names and five numbers that fill the data
abbrev pub soa_of : List ℕ → ℕ → List ℕ → Result Soa WireError
soa_of message count bytes =
    name_of message bytes >>= λ m. name_of message m.1 >>= λ r.
    if nat_le 20 count && length r.1 == length bytes - (count - 20) then (lives_of r.1 >>= λ l. Ok (soa_from m.0 r.0 l.0)) else Err BadData

-- the type that is covered, and the others
abbrev pub signature_of : List ℕ → Result RData WireError
signature_of [] = Err BadData
signature_of (high ∷ []) = Err BadData
signature_of (high ∷ low ∷ kept) = Ok (RRSIG (record { code = 256 * high + low }) kept)

abbrev pub address4_of : List ℕ → Result RData WireError
address4_of held = if length held == 4 then Ok (A (record { octets = held })) else Err BadData

abbrev pub address6_of : List ℕ → Result RData WireError
address6_of held = if length held == 16 then Ok (AAAA (record { segments = segments_of held })) else Err BadData

-- the data of the types that have no variant of their own
unfoldable pub kept_of : List ℕ → ℕ → ℕ → List ℕ → Result (List ℕ) WireError
kept_of message code count bytes =
    if code == 12 then written_of message count bytes else (if code == 15 then exchange_of message count bytes else Ok (take count bytes))

-- the data of the types whose data holds names, and of those that have no variant of their own
unfoldable pub named_of : List ℕ → ℕ → ℕ → List ℕ → Result RData WireError
named_of message code count bytes =
    if code == 2 then (target_of message count bytes >>= λ n. Ok (NS n)) else
    (if code == 5 then (target_of message count bytes >>= λ n. Ok (CNAME n)) else
    (if code == 6 then (soa_of message count bytes >>= λ s. Ok (SOA s)) else
    (kept_of message code count bytes >>= λ k. Ok (Opaque k))))

unfoldable pub data_of : List ℕ → ℕ → ℕ → List ℕ → Result RData WireError
data_of message code count bytes =
    if code == 1 then address4_of (take count bytes) else
    (if code == 28 then address6_of (take count bytes) else
    (if code == 46 then signature_of (take count bytes) else
    named_of message code count bytes))

-- ---- records

-- an owner and a type
abbrev pub head_of : List ℕ → List ℕ → Read (DomainName × ℕ)
head_of message bytes = name_of message bytes >>= λ n. two_of n.1 >>= λ t. Ok ((n.0, t.0), t.1)

-- a class, a TTL and how many bytes of data follow
abbrev pub fixed_of : List ℕ → Read (ℕ × (ℕ × ℕ))
fixed_of bytes =
    two_of bytes >>= λ c. four_of c.1 >>= λ t. two_of t.1 >>= λ n. if nat_lt (length n.1) n.0 then Err Short else Ok ((c.0, (t.0, n.0)), n.1)

-- a record, where the test whether its type is that of its data came out so
abbrev pub typed_record : DomainName → ℕ → DnsClass → (record_type : RecordType) → (data_is : RData) → (typed : Bool) → is_typed record_type data_is ≡ typed → Result Record WireError
typed_record name ttl class record_type data_is true typed = Ok (record { name = name; ttl = ttl; dns_class = class; record_type = record_type; rdata = data_is; typed = typed })
typed_record name ttl class record_type data_is false typed = Err BadData

-- the record of this owner and type
abbrev pub body_of : List ℕ → DomainName → ℕ → List ℕ → Read Record
body_of message name code bytes =
    fixed_of bytes >>= λ f. data_of message code f.0.1.1 f.1 >>= λ d.
    typed_record name f.0.1.0 (record { code = f.0.0 }) (record { code = code }) d (is_typed (record { code = code }) d) refl >>= λ r. Ok (r, drop f.0.1.1 f.1)

-- a record of a section that has no OPT record
abbrev pub record_of : List ℕ → List ℕ → Read Record
record_of message bytes = head_of message bytes >>= λ h. if h.0.1 == 41 then Err BadOpt else body_of message h.0.0 h.0.1 h.1

-- what an OPT record says: its class and its TTL in four bytes
abbrev pub opt_of : List ℕ → Read Extra
opt_of bytes =
    fixed_of bytes >>= λ f. Ok (Opt (f.0.1.0 / 16777216) (record { payload = f.0.0; version = f.0.1.0 / 65536 % 256; dnssec_ok = nat_le 32768 (f.0.1.0 % 65536); options = take f.0.1.1 f.1 }), drop f.0.1.1 f.1)

-- a record of the additional section: an OPT record where there was one before, or not at the root, is none
abbrev pub extra_of : Bool → List ℕ → List ℕ → Read Extra
extra_of seen message bytes =
    head_of message bytes >>= λ h. if h.0.1 == 41 then
    (if seen || not (length h.0.0.labels == 0) then Err BadOpt else opt_of h.1)
    else (body_of message h.0.0 h.0.1 h.1 >>= λ r. Ok (Plain r.0, r.1))
