use Rattle.std.proofs.Common.{◌++◌, take}
use Rattle.walk_response.specs.Lending.{SameElements, lent_by}
use Rattle.walk_response.proofs.glue.add_addresses.Given as goal

abbrev pub invariant-loop-r : goal.invariant-loop-r
invariant-loop-r l = SameElements l.ips.items (l.fn.ips.items ++ lent_by l.target (take l.r-index l.section))
