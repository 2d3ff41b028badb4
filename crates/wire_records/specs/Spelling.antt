-- Questions and records written out, without pointers.
use Rattle.std.specs.Prelude.{◌≡◌, ◌≢◌, ◌+◌, ◌-◌, ◌*◌, ◌++◌, ◌==◌, ℕ, Bool, true, false, IsTrue, List, ◌∷◌, length, nat_lt, Option, Some, None, if◌then◌else◌}
use Rattle.std.specs.Net.Addr.{ipv4_octets, ipv6_octets}
use Rattle.dns_core.specs.Labels.{AreLabels}
use Rattle.dns_core.specs.Message.{is_qualified_record}
use Rattle.dns_core.specs.declared.message.Query.{Query}
use Rattle.dns_core.specs.declared.record.Record.{Record}
use Rattle.dns_core.specs.declared.record.RData.{RData}
use Rattle.dns_core.specs.declared.record.RData.TheVariants.{A, AAAA, NS, CNAME, SOA, RRSIG, Opaque}
use Rattle.dns_core.specs.declared.record.Soa.{Soa}
use Rattle.wire_names.specs.Names.{written}
use Rattle.wire_records.specs.Numbers.{two, four}
use Rattle.wire_records.specs.Records.{bit}
use Rattle.wire_records.specs.declared.edns.Edns.{Edns}

abbrev pub spelled_question : Query → List ℕ
spelled_question query = written query.name.labels ++ (two query.query_type.code ++ two query.query_class.code)

abbrev pub spelled_soa : Soa → List ℕ
spelled_soa soa =
    written soa.mname.labels ++ (written soa.rname.labels ++ (four soa.serial ++ (four soa.refresh ++ (four soa.retry ++ (four soa.expire ++ four soa.minimum)))))

abbrev pub spelled_data : RData → List ℕ
spelled_data (A address) = ipv4_octets address
spelled_data (AAAA address) = ipv6_octets address
spelled_data (NS name) = written name.labels
spelled_data (CNAME name) = written name.labels
spelled_data (SOA soa) = spelled_soa soa
spelled_data (RRSIG covered kept) = two covered.code ++ kept
spelled_data (Opaque kept) = kept

-- a type, a class, a TTL and a length
abbrev pub spelled_fixed : ℕ → ℕ → ℕ → ℕ → List ℕ
spelled_fixed code class ttl count = two code ++ (two class ++ (four ttl ++ two count))

abbrev pub spelled_record : Record → List ℕ
spelled_record plain =
    written plain.name.labels ++ (spelled_fixed plain.record_type.code plain.dns_class.code plain.ttl (length (spelled_data plain.rdata)) ++ spelled_data plain.rdata)

-- an OPT record at the root, with these upper bits of the code
abbrev pub spelled_opt : ℕ → Edns → List ℕ
spelled_opt upper edns =
    0 ∷ (two 41 ++ (two edns.payload ++ (upper ∷ edns.version ∷ (two (32768 * bit edns.dnssec_ok) ++ (two (length edns.options) ++ edns.options)))))

-- ---- what can be written

-- data as reading keeps it: a name written out in PTR, and behind a preference in MX
abbrev pub IsKeptName : List ℕ → Type 0
IsKeptName kept = (labels : List (List ℕ)) × AreLabels labels × (kept ≡ written labels)

abbrev pub IsKeptData : (is_pointer is_exchange : Bool) → List ℕ → Type 0
IsKeptData true is_exchange kept = IsKeptName kept
IsKeptData false true kept = (high low : ℕ) × (name : List ℕ) × (kept ≡ high ∷ low ∷ name) × IsKeptName name
IsKeptData false false kept = Unit {0}

abbrev pub IsKeptAs : ℕ → RData → Type 0
IsKeptAs code (Opaque kept) = IsKeptData (code == 12) (code == 15) kept
IsKeptAs code other = Unit {0}

-- a record whose names are fully qualified, no OPT record
pub record CanWrite (plain : Record) : Type 0 where
  pub qualified : IsTrue (is_qualified_record plain)
  pub no_opt : plain.record_type.code ≢ 41
  pub kept : IsKeptAs plain.record_type.code plain.rdata

-- ---- room

-- the room that is left behind so many bytes
abbrev pub room_after : ℕ → ℕ → Option ℕ
room_after room count = if nat_lt room count then None else Some (room - count)

-- ---- what the types say of data that is written: labels of names, and lengths of addresses

abbrev pub FitData : RData → Type 0
FitData (A address) = length (ipv4_octets address) ≡ 4
FitData (AAAA address) = length (ipv6_octets address) ≡ 16
FitData (NS name) = AreLabels name.labels
FitData (CNAME name) = AreLabels name.labels
FitData (SOA soa) = AreLabels soa.mname.labels × AreLabels soa.rname.labels
FitData (RRSIG covered kept) = Unit {0}
FitData (Opaque kept) = Unit {0}

abbrev pub FitRecord : Record → Type 0
FitRecord plain = AreLabels plain.name.labels × FitData plain.rdata

abbrev pub FitQuestion : Query → Type 0
FitQuestion query = AreLabels query.name.labels
