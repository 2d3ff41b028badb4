use Rattle.std.proofs.Common.{◌≡◌, drop}
use Rattle.std.specs.List.{list_all}
use Rattle.world_layout.specs.Layout.{is_in_place}
use Rattle.world_check.proofs.looked_up.are_in_place.Given as goal

abbrev pub invariant-loop-r : goal.invariant-loop-r
invariant-loop-r l = list_all (is_in_place l.world l.zone) (drop l.r-index l.r-items) ≡ list_all (is_in_place l.world l.zone) l.zone.records
