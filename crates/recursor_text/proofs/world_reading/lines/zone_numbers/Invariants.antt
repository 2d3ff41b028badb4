use Rattle.std.proofs.Common.{◌≡◌, ◌≤◌, length}
use Rattle.text_lines.proofs.StepsThatFail.{behind}
use Rattle.recursor_text.specs.Lines.{zone_numbers}
use Rattle.recursor_text.proofs.world_reading.lines.zone_numbers.Given as goal

abbrev pub invariant-numbers : goal.invariant-numbers
invariant-numbers l = record {
  so_far : behind l.numbers (zone_numbers l.low l.words) ≡ zone_numbers 1 l.fn.words;
  small : l.low ≤ 10001;
}

abbrev pub decreases-numbers : goal.decreases-numbers
decreases-numbers l = length l.words
