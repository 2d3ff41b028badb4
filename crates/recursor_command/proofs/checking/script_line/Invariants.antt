use Rattle.std.proofs.Common.{◌≡◌, ◌+◌, ◌≤◌, length}
use Rattle.text_lines.specs.Pieces.{pieces}
use Rattle.recursor_command.specs.Checking.{first_told}
use Rattle.recursor_command.proofs.checking.script_line.Given as goal

abbrev pub invariant-lines : goal.invariant-lines
invariant-lines l = record {
  so_far : first_told l.number (pieces 10 l.rest) ≡ first_told 1 (pieces 10 l.bytes);
  short : l.number + length l.rest ≤ 16777217;
}

abbrev pub decreases-lines : goal.decreases-lines
decreases-lines l = length l.rest
