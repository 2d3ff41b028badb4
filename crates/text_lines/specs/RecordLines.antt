-- What each line of a record says.
use Rattle.std.specs.Prelude.{◌≡◌, ℕ, List, ◌==◌, Bool, true, false, Option, Some, None, if◌then◌else◌, refl}
use Rattle.dns_core.specs.Name.{DomainName}
use Rattle.dns_core.specs.Record.{is_typed}
use Rattle.dns_core.specs.declared.codes.RecordType.{RecordType}
use Rattle.dns_core.specs.declared.codes.DnsClass.{DnsClass}
use Rattle.dns_core.specs.declared.record.RData.{RData}
use Rattle.dns_core.specs.declared.record.RData.TheVariants.{A, AAAA, NS, CNAME, SOA, RRSIG, Opaque}
use Rattle.dns_core.specs.declared.record.Record.{Record}
use Rattle.dns_core.specs.declared.record.Soa.{Soa}
use Rattle.text_lines.specs.Addresses.{ipv6_of}
use Rattle.text_lines.specs.Codes.{type_of, class_of}
use Rattle.text_lines.specs.Fields.{Fields, field, both, whole, wide_field}
use Rattle.text_lines.specs.Hex.{bytes_of}
use Rattle.text_lines.specs.Names.{full_name}
use Rattle.text_lines.specs.Numbers.{◌>>=◌, ipv4_of}
use Rattle.text_lines.specs.Pieces.{pieces}

-- what stands before the data
unfoldable pub record_head : Fields (DomainName × (ℕ × (DnsClass × RecordType)))
record_head = both (field full_name) (both wide_field (both (field class_of) (field type_of)))

-- the last three numbers of an SOA
abbrev pub soa_lives : Fields (ℕ × (ℕ × ℕ))
soa_lives = both wide_field (both wide_field wide_field)

-- the five numbers of an SOA
abbrev pub soa_numbers : Fields (ℕ × (ℕ × (ℕ × (ℕ × ℕ))))
soa_numbers = both wide_field (both wide_field soa_lives)

abbrev pub soa_parts : Type 0
soa_parts = DomainName × (DomainName × (ℕ × (ℕ × (ℕ × (ℕ × ℕ)))))

abbrev pub soa_fields : Fields soa_parts
soa_fields = both (field full_name) (both (field full_name) soa_numbers)

abbrev pub soa_from : soa_parts → Soa
soa_from x = record { mname = x.0; rname = x.1.0; serial = x.1.1.0; refresh = x.1.1.1.0; retry = x.1.1.1.1.0; expire = x.1.1.1.1.1.0; minimum = x.1.1.1.1.1.1 }

unfoldable pub soa_of : List (List ℕ) → Option RData
soa_of = whole soa_fields (λ x. SOA (soa_from x))

-- the type that is covered, and the rest as bytes
unfoldable pub signature_of : List (List ℕ) → Option RData
signature_of = whole (both (field type_of) (field bytes_of)) (λ x. RRSIG x.0 x.1)

-- the data of a type; each that has no form of its own has bytes
unfoldable pub data_of : RecordType → List (List ℕ) → Option RData
data_of t ws =
    if t.code == 1 then whole (field ipv4_of) A ws
    else if t.code == 2 then whole (field full_name) NS ws
    else if t.code == 5 then whole (field full_name) CNAME ws
    else if t.code == 6 then soa_of ws
    else if t.code == 28 then whole (field ipv6_of) AAAA ws
    else if t.code == 46 then signature_of ws
    else whole (field bytes_of) Opaque ws

-- a record, where the test whether its type is that of its data came out so
abbrev pub record_from : DomainName → ℕ → DnsClass → (t : RecordType) → (x : RData) → (b : Bool) → is_typed t x ≡ b → Option Record
record_from n life c t x true typed = Some (record { name = n; ttl = life; dns_class = c; record_type = t; rdata = x; typed = typed })
record_from n life c t x false typed = None

abbrev pub record_of_data : DomainName × (ℕ × (DnsClass × RecordType)) → RData → Option Record
record_of_data h x = record_from h.0 h.1.0 h.1.1.0 h.1.1.1 x (is_typed h.1.1.1 x) refl

unfoldable pub records_of : List (List ℕ) → Option Record
records_of ws = record_head ws >>= λ h. data_of h.0.1.1.1 h.1 >>= record_of_data h.0

abbrev pub record_of : List ℕ → Option Record
record_of line = records_of (pieces 32 line)
