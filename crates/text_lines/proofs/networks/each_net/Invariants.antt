use Rattle.std.proofs.Common.{◌≡◌, length}
use Rattle.text_lines.specs.Pieces.{pieces}
use Rattle.text_lines.specs.Networks.{each_net}
use Rattle.text_lines.proofs.StepsThatFail.{behind}
use Rattle.text_lines.proofs.networks.each_net.Given as goal

abbrev pub invariant-items : goal.invariant-items
invariant-items l = behind l.nets (each_net (pieces 44 l.rest)) ≡ each_net (pieces 44 l.word)

abbrev pub decreases-items : goal.decreases-items
decreases-items l = length l.rest
