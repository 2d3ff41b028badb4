use Rattle.std.proofs.Common.{◌≡◌, [], length}
use Rattle.text_lines.specs.Hex.{pairs_after}
use Rattle.text_lines.proofs.hex.pairs.Given as goal

abbrev pub invariant-pairs : goal.invariant-pairs
invariant-pairs l = pairs_after l.bytes l.rest ≡ pairs_after [] l.word

abbrev pub decreases-pairs : goal.decreases-pairs
decreases-pairs l = length l.rest
