use Rattle.std.proofs.Common.{sym}
use Rattle.text_lines.proofs.RecordLaws.{record_made}
use Rattle.text_lines.proofs.lines.record_lines.record_from.Goals as goal

pub returns : goal.returns
returns c = sym (record_made (c.args.name, (c.args.ttl, (c.args.dns_class, c.args.record_type))) c.args.rdata _)
