use Rattle.std.proofs.Common.{◌≡◌, take}
use Rattle.std.specs.Prelude.{map}
use Rattle.kept_responses.specs.Lowering.{lowered_record}
use Rattle.kept_responses.proofs.lowering.lowered_records.Given as goal

abbrev pub invariant-loop-r : goal.invariant-loop-r
invariant-loop-r l = l.copies.items ≡ map (lowered_record l.seconds) (take l.r-index l.rs)
