-- Questions and records in wire form (RFC 1035 sections 3.3 and 4.1, RFC 3596 section 2.2, RFC 4034 section 3.1, RFC 6891
-- section 6.1.2). Each of these says of a message and a rest of it, `bytes`, what stands at their front, and what follows it.
use Rattle.std.specs.Prelude.{◌≡◌, ◌≢◌, ◌<◌, ◌+◌, ◌*◌, ◌++◌, ◌==◌, ℕ, Bool, true, false, List, [], ◌∷◌, length, Option, Some, None}
use Rattle.std.specs.Net.Addr.{ipv4_octets, ipv6_octets}
use Rattle.dns_core.specs.Name.{DomainName}
use Rattle.dns_core.specs.declared.codes.RecordType.{RecordType}
use Rattle.dns_core.specs.declared.message.Query.{Query}
use Rattle.dns_core.specs.declared.record.Record.{Record}
use Rattle.dns_core.specs.declared.record.RData.{RData}
use Rattle.dns_core.specs.declared.record.RData.TheVariants.{A, AAAA, NS, CNAME, SOA, RRSIG, Opaque}
use Rattle.dns_core.specs.declared.record.Soa.{Soa}
use Rattle.wire_names.specs.Names.{IsName, NameAt, written}
use Rattle.wire_records.specs.Numbers.{two, four}
use Rattle.wire_records.specs.declared.edns.Edns.{Edns}
use Rattle.wire_records.specs.declared.edns.Extra.{Extra}
use Rattle.wire_records.specs.declared.edns.Extra.TheVariants.{Plain, Opt}

-- several of these, one after the other
abbrev pub InTurn : {X : Type 0} → (List ℕ → List ℕ → X → List ℕ → Type 0) → List ℕ → List ℕ → List X → List ℕ → Type 0
InTurn At message bytes [] rest = bytes ≡ rest
InTurn At message bytes (x ∷ xs) rest = (after : List ℕ) × At message bytes x after × InTurn At message after xs rest

-- a question (section 4.1.2)
abbrev pub QuestionAt : List ℕ → List ℕ → Query → List ℕ → Type 0
QuestionAt message bytes query rest =
    (after : List ℕ) × IsName message bytes query.name after × (after ≡ two query.query_type.code ++ (two query.query_class.code ++ rest))

-- two names and five numbers (section 3.3.13)
abbrev pub SoaAt : List ℕ → List ℕ → Soa → List ℕ → Type 0
SoaAt message bytes soa rest =
    (second numbers : List ℕ) × IsName message bytes soa.mname second × IsName message second soa.rname numbers
    × (numbers ≡ four soa.serial ++ (four soa.refresh ++ (four soa.retry ++ (four soa.expire ++ (four soa.minimum ++ rest)))))

-- one name, kept as it is written out
abbrev pub TargetAt : List ℕ → List ℕ → List ℕ → List ℕ → Type 0
TargetAt message bytes kept rest = (name : DomainName) × IsName message bytes name rest × (kept ≡ written name.labels)

-- a preference of two bytes and a name (section 3.3.9)
abbrev pub ExchangeAt : List ℕ → List ℕ → List ℕ → List ℕ → Type 0
ExchangeAt message bytes kept rest =
    (high low : ℕ) × (after target : List ℕ) × (bytes ≡ high ∷ low ∷ after) × TargetAt message after target rest × (kept ≡ high ∷ low ∷ target)

-- Data that has no variant of its own: that of PTR, of MX, and of all other types.
abbrev pub KeptData : (is_pointer is_exchange : Bool) → List ℕ → List ℕ → List ℕ → List ℕ → Type 0
KeptData true is_exchange message held rest kept = TargetAt message (held ++ rest) kept rest
KeptData false true message held rest kept = ExchangeAt message (held ++ rest) kept rest
KeptData false false message held rest kept = kept ≡ held

-- What data of a type says: names in it fill it exactly; `held ++ rest` is a rest of the message.
abbrev pub IsData : List ℕ → List ℕ → List ℕ → RecordType → RData → Type 0
IsData message held rest record_type (A address) = (held ≡ ipv4_octets address) × (length held ≡ 4)
IsData message held rest record_type (AAAA address) = (held ≡ ipv6_octets address) × (length held ≡ 16)
IsData message held rest record_type (NS name) = IsName message (held ++ rest) name rest
IsData message held rest record_type (CNAME name) = IsName message (held ++ rest) name rest
IsData message held rest record_type (SOA soa) = SoaAt message (held ++ rest) soa rest
IsData message held rest record_type (RRSIG covered kept) = held ≡ two covered.code ++ kept
IsData message held rest record_type (Opaque kept) = KeptData (record_type.code == 12) (record_type.code == 15) message held rest kept

-- a record (section 4.1.3), not the one that only says what its sender can do
abbrev pub RecordAt : List ℕ → List ℕ → Record → List ℕ → Type 0
RecordAt message bytes record_at rest =
    (after held : List ℕ) × IsName message bytes record_at.name after
    × (after ≡ two record_at.record_type.code ++ (two record_at.dns_class.code ++ (four record_at.ttl ++ (two (length held) ++ (held ++ rest)))))
    × (record_at.record_type.code ≢ 41) × IsData message held rest record_at.record_type record_at.rdata

abbrev pub bit : Bool → ℕ
bit true = 1
bit false = 0

-- an OPT record (RFC 6891 section 6.1.2): at the root; the class is the payload; the TTL is upper bits of the code, a version and flags
abbrev pub OptAt : List ℕ → List ℕ → ℕ → Edns → List ℕ → Type 0
OptAt message bytes upper edns rest =
    (after : List ℕ) × (ignored : ℕ) × NameAt message bytes [] after × (ignored < 32768)
    × (after ≡ two 41 ++ (two edns.payload ++ (upper ∷ edns.version ∷ (two (32768 * bit edns.dnssec_ok + ignored) ++ (two (length edns.options) ++ (edns.options ++ rest))))))

-- a record of the additional section
abbrev pub ExtraAt : List ℕ → List ℕ → Extra → List ℕ → Type 0
ExtraAt message bytes (Plain plain) rest = RecordAt message bytes plain rest
ExtraAt message bytes (Opt upper edns) rest = OptAt message bytes upper edns rest

-- the record with data, and what an OPT record says
abbrev pub plain_of : Extra → List Record
plain_of (Plain plain) = plain ∷ []
plain_of (Opt upper edns) = []

abbrev pub said_of : Extra → List (ℕ × Edns)
said_of (Plain plain) = []
said_of (Opt upper edns) = (upper, edns) ∷ []

-- at most one OPT record says something
abbrev pub IsSaid : List (ℕ × Edns) → Option (ℕ × Edns) → Type 0
IsSaid [] told = told ≡ None
IsSaid (said ∷ []) told = told ≡ Some said
IsSaid (said ∷ other ∷ more) told = ⊥
