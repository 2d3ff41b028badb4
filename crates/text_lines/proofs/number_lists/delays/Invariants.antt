use Rattle.std.proofs.Common.{◌≡◌, length}
use Rattle.text_lines.specs.Pieces.{pieces}
use Rattle.text_lines.specs.NumberLists.{each_delay}
use Rattle.text_lines.proofs.StepsThatFail.{behind}
use Rattle.text_lines.proofs.number_lists.delays.Given as goal

abbrev pub invariant-items : goal.invariant-items
invariant-items l = behind l.delays (each_delay (pieces 44 l.rest)) ≡ each_delay (pieces 44 l.word)

abbrev pub decreases-items : goal.decreases-items
decreases-items l = length l.rest
