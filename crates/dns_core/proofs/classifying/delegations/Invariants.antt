use Rattle.std.proofs.Common.{◌≡◌, take}
use Rattle.dns_core.specs.Classifying.{delegations}
use Rattle.dns_core.proofs.classifying.delegations.Given as goal

abbrev pub invariant-loop-r : goal.invariant-loop-r
invariant-loop-r l = l.found.items ≡ delegations (take l.r-index l.authorities) l.additionals
