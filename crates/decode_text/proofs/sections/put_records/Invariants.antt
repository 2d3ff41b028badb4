use Rattle.std.proofs.Common.{◌≡◌, ◌++◌, take}
use Rattle.text_lines.specs.Texts.{record_lines}
use Rattle.decode_text.proofs.sections.put_records.Given as goal

abbrev pub invariant-loop-entry : goal.invariant-loop-entry
invariant-loop-entry l = l.out.items ≡ l.fn.out.items ++ record_lines (take l.entry-index l.records)
