use Rattle.std.proofs.Common.{◌++◌, take}
use Rattle.resolution.specs.Records.{records}
use Rattle.walk_response.specs.Lending.{SameElements, lent_for}
use Rattle.walk_response.proofs.glue.lend_section.Given as goal

abbrev pub invariant-loop-r : goal.invariant-loop-r
invariant-loop-r l = SameElements l.ips.items (l.fn.ips.items ++ lent_for (records l.message) l.base (take l.r-index l.section))
