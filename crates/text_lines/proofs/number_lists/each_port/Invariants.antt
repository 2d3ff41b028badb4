use Rattle.std.proofs.Common.{◌≡◌, ◌≤◌, length}
use Rattle.text_lines.specs.Pieces.{pieces}
use Rattle.text_lines.specs.NumberLists.{each_port}
use Rattle.text_lines.proofs.StepsThatFail.{behind}
use Rattle.text_lines.proofs.number_lists.each_port.Given as goal

abbrev pub invariant-items : goal.invariant-items
invariant-items l = record {
  so_far : behind l.ports (each_port l.low (pieces 44 l.rest)) ≡ each_port 0 (pieces 44 l.word);
  small : l.low ≤ 65536;
}

abbrev pub decreases-items : goal.decreases-items
decreases-items l = length l.rest
