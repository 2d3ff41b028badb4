use Rattle.std.proofs.Common.{◌≡◌, map, filter, take}
use Rattle.dns_core.specs.Stripping.{is_kept}
use Rattle.kept_responses.specs.Lowering.{lowered_record}
use Rattle.kept_responses.proofs.reading.staying_records.Given as goal

abbrev pub invariant-loop-r : goal.invariant-loop-r
invariant-loop-r l = l.copies.items ≡ filter (is_kept l.asked) (map (lowered_record l.seconds) (take l.r-index l.rs))
