use Rattle.std.proofs.Common.{◌≡◌, take}
use Rattle.std.specs.Prelude.{map}
use Rattle.kept_responses.specs.Lowering.{lowered_delegation}
use Rattle.kept_responses.proofs.lowering.lowered_all.Given as goal

abbrev pub invariant-loop-delegation : goal.invariant-loop-delegation
invariant-loop-delegation l = l.copies.items ≡ map (lowered_delegation l.seconds) (take l.delegation-index l.delegations)
