use Rattle.std.proofs.Common.{refl}
use Rattle.wire_records.proofs.TypedLaws.{typed_made}
use Rattle.wire_records.proofs.records.record_from.Goals as goal

pub returns : goal.returns
returns c = typed_made c.args.name c.args.ttl c.args.dns_class c.args.record_type c.args.rdata _ refl _
