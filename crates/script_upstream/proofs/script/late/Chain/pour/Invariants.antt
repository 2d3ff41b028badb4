use Rattle.std.proofs.Common.{◌≡◌, ◌++◌, length}
use Rattle.script_upstream.specs.Late.{chained}
use Rattle.script_upstream.proofs.script.late.Chain.pour.Given as goal

abbrev pub invariant-pouring : goal.invariant-pouring
invariant-pouring l = l.log ++ chained l.self ≡ l.fn.log ++ chained l.fn.self

abbrev pub decreases-pouring : goal.decreases-pouring
decreases-pouring l = length (chained l.self)
