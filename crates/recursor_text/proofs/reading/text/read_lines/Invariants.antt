use Rattle.std.proofs.Common.{◌≡◌, ◌+◌, ◌≤◌, length}
use Rattle.text_lines.specs.Pieces.{pieces}
use Rattle.recursor_text.specs.Whole.{start}
use Rattle.recursor_text.specs.Reading.{read_from}
use Rattle.recursor_text.proofs.reading.text.read_lines.Given as goal

abbrev pub invariant-lines : goal.invariant-lines
invariant-lines l = record {
  so_far : read_from l.draft l.number (pieces 10 l.rest) ≡ read_from start 1 (pieces 10 l.bytes);
  short : l.number + length l.rest ≤ 16777217;
}

abbrev pub decreases-lines : goal.decreases-lines
decreases-lines l = length l.rest
