-- What is written out stands there, in every message.
use Rattle.std.proofs.Common.{◌≡◌, ℕ, ◌+◌, ◌*◌, Bool, true, false, eqb, List, ◌∷◌, ◌++◌, length, refl, sym, ap, subst, arith, append_assoc}
use Rattle.std.proofs.lemmas.Bool.{and_parts}
use Rattle.dns_core.specs.Labels.{AreLabels}
use Rattle.dns_core.specs.Name.{DomainName}
use Rattle.dns_core.specs.Record.{is_qualified_data}
use Rattle.dns_core.specs.declared.codes.RecordType.{RecordType}
use Rattle.dns_core.specs.declared.message.Query.{Query}
use Rattle.dns_core.specs.declared.record.Record.{Record}
use Rattle.dns_core.specs.declared.record.RData.{RData}
use Rattle.dns_core.specs.declared.record.RData.TheVariants.{A, AAAA, NS, CNAME, SOA, RRSIG, Opaque}
use Rattle.dns_core.specs.declared.record.Soa.{Soa}
use Rattle.wire_names.specs.Names.{IsName, written}
use Rattle.wire_names.specs.Names.NameAt.{whole}
use Rattle.wire_names.proofs.WrittenNames.{name_written}
use Rattle.wire_records.specs.Numbers.{two, four}
use Rattle.wire_records.specs.Records.{bit, QuestionAt, SoaAt, TargetAt, KeptData, IsData, RecordAt, OptAt}
use Rattle.wire_records.specs.Spelling.{spelled_question, spelled_soa, spelled_data, spelled_fixed, spelled_record, spelled_opt, IsKeptName, IsKeptData, IsKeptAs, CanWrite, FitData, FitRecord, FitQuestion}
use Rattle.wire_records.specs.declared.edns.Edns.{Edns}

-- a name that is written out, and what is written behind it
name_before : (message : List ℕ) (name : DomainName) (behind rest : List ℕ) → AreLabels name.labels → name.fqdn ≡ true → IsName message ((written name.labels ++ behind) ++ rest) name (behind ++ rest)
name_before message name behind rest fit absolute =
    subst (λ (b : List ℕ). IsName message b name (behind ++ rest)) (sym (append_assoc (written name.labels) behind rest)) (name_written message name (behind ++ rest) fit absolute)

pub question_written : (query : Query) → FitQuestion query → query.name.fqdn ≡ true → (message rest : List ℕ) → QuestionAt message (spelled_question query ++ rest) query rest
question_written query fit absolute message rest =
    let behind : List ℕ = two query.query_type.code ++ two query.query_class.code in
    (behind ++ rest, name_before message query.name behind rest fit absolute, refl)

abbrev lives : Soa → List ℕ
lives soa = four soa.serial ++ (four soa.refresh ++ (four soa.retry ++ (four soa.expire ++ four soa.minimum)))

soa_written : (soa : Soa) → AreLabels soa.mname.labels → AreLabels soa.rname.labels → soa.mname.fqdn ≡ true → soa.rname.fqdn ≡ true → (message rest : List ℕ) → SoaAt message (spelled_soa soa ++ rest) soa rest
soa_written soa first second one other message rest =
    let behind : List ℕ = written soa.rname.labels ++ lives soa in
    (behind ++ rest, lives soa ++ rest, name_before message soa.mname behind rest first one, name_before message soa.rname (lives soa) rest second other, refl)

target_written : (kept : List ℕ) → IsKeptName kept → (message rest : List ℕ) → TargetAt message (kept ++ rest) kept rest
target_written kept is message rest =
    let name : DomainName = record { labels = is.0; fqdn = true } in
    (name, subst (λ (k : List ℕ). IsName message (k ++ rest) name rest) (sym is.2) (name_written message name rest is.1 refl), is.2)

kept_written : (pointer exchange : Bool) (kept : List ℕ) → IsKeptData pointer exchange kept → (message rest : List ℕ) → KeptData pointer exchange message kept rest kept
kept_written true exchange kept is message rest = target_written kept is message rest
kept_written false true kept is message rest = (is.0, is.1, is.2 ++ rest, is.2, ap (λ (k : List ℕ). k ++ rest) is.3, target_written is.2 is.4 message rest, is.3)
kept_written false false kept is message rest = refl

data_written : (record_type : RecordType) (data_is : RData) → FitData data_is → is_qualified_data data_is ≡ true → IsKeptAs record_type.code data_is → (message rest : List ℕ) → IsData message (spelled_data data_is) rest record_type data_is
data_written t (A address) fit qualified kept message rest = (refl, fit)
data_written t (AAAA address) fit qualified kept message rest = (refl, fit)
data_written t (NS name) fit qualified kept message rest = name_written message name rest fit qualified
data_written t (CNAME name) fit qualified kept message rest = name_written message name rest fit qualified
data_written t (SOA soa) fit qualified kept message rest =
    let both = and_parts soa.mname.fqdn soa.rname.fqdn qualified in
    soa_written soa fit.0 fit.1 both.0 both.1 message rest
data_written t (RRSIG covered more) fit qualified kept message rest = refl
data_written t (Opaque bytes) fit qualified kept message rest = kept_written (eqb t.code 12) (eqb t.code 15) bytes kept message rest

pub record_written : (plain : Record) → CanWrite plain → FitRecord plain → (message rest : List ℕ) → RecordAt message (spelled_record plain ++ rest) plain rest
record_written plain can fit message rest =
    let held : List ℕ = spelled_data plain.rdata in
    let fixed : List ℕ = spelled_fixed plain.record_type.code plain.dns_class.code plain.ttl (length held) in
    let both = and_parts plain.name.fqdn (is_qualified_data plain.rdata) can.qualified in
    let named = name_before message plain.name (fixed ++ held) rest fit.0 both.0 in
    ((fixed ++ held) ++ rest, held, named, refl, can.no_opt, data_written plain.record_type plain.rdata fit.1 both.1 can.kept message rest)

pub opt_written : (upper : ℕ) (edns : Edns) (message rest : List ℕ) → OptAt message (spelled_opt upper edns ++ rest) upper edns rest
opt_written upper edns message rest =
    let flags : 32768 * bit edns.dnssec_ok ≡ 32768 * bit edns.dnssec_ok + 0 = omega arith in
    let tail : ℕ → List ℕ = λ k. two 41 ++ (two edns.payload ++ (upper ∷ edns.version ∷ (two k ++ (two (length edns.options) ++ (edns.options ++ rest))))) in
    (tail (32768 * bit edns.dnssec_ok), 0, whole tt refl, omega arith, ap tail flags)
