use Rattle.std.proofs.Common.{◌≡◌, take}
use Rattle.std.specs.Prelude.{filter}
use Rattle.resolution.specs.Following.{is_owned}
use Rattle.zone_worlds.proofs.answer.records_at.Given as goal

abbrev pub invariant-loop-r : goal.invariant-loop-r
invariant-loop-r l = l.found.items ≡ filter (is_owned l.asked l.name) (take l.r-index l.r-items)
