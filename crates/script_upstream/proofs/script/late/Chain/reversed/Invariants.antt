use Rattle.std.proofs.Common.{◌≡◌, ◌++◌, reverse, length}
use Rattle.script_upstream.specs.Late.{chained}
use Rattle.script_upstream.proofs.script.late.Chain.reversed.Given as goal

abbrev pub invariant-turning : goal.invariant-turning
invariant-turning l = reverse (chained l.self) ++ chained l.turned ≡ reverse (chained l.fn.self)

abbrev pub decreases-turning : goal.decreases-turning
decreases-turning l = length (chained l.self)
