use Rattle.text_lines.proofs.RecordLaws.{read_typed}
use Rattle.text_lines.proofs.lines.record_lines.record_line.Goals as goal

pub record_from-record-requires : goal.record_from-record-requires
record_from-record-requires c = read_typed _ _ _ c.in_ok-rdata.ensures
