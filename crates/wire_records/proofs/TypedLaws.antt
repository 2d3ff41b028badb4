-- A record whose type is that of its data.
use Rattle.std.proofs.Common.{◌≡◌, ℕ, Bool, true, false, Ok, sym, ap, ◌∙◌}
use Rattle.std.proofs.Math.Bool.{Bool-set}
use Rattle.dns_core.specs.Name.{DomainName}
use Rattle.dns_core.specs.Record.{is_typed}
use Rattle.dns_core.specs.declared.codes.DnsClass.{DnsClass}
use Rattle.dns_core.specs.declared.codes.RecordType.{RecordType}
use Rattle.dns_core.specs.declared.record.Record.{Record}
use Rattle.dns_core.specs.declared.record.RData.{RData}
use Rattle.wire_records.specs.Reading.{typed_record}

abbrev pub made : DomainName → ℕ → DnsClass → (record_type : RecordType) → (data_is : RData) → is_typed record_type data_is ≡ true → Record
made name ttl class record_type data_is typed = record { name = name; ttl = ttl; dns_class = class; record_type = record_type; rdata = data_is; typed = typed }

pub typed_made : (name : DomainName) (ttl : ℕ) (class : DnsClass) (record_type : RecordType) (data_is : RData) (test : Bool) (is : is_typed record_type data_is ≡ test) (typed : is_typed record_type data_is ≡ true)
    → typed_record name ttl class record_type data_is test is ≡ Ok (made name ttl class record_type data_is typed)
typed_made name ttl class record_type data_is true is typed = ap (λ (p : is_typed record_type data_is ≡ true). Ok (made name ttl class record_type data_is p)) (Bool-set (is_typed record_type data_is) true is typed)
typed_made name ttl class record_type data_is false is typed = absurd (let both : true ≡ false = sym typed ∙ is in cc)
