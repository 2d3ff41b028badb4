use Rattle.std.proofs.Common.{◌≡◌, drop}
use Rattle.std.specs.Prelude.{◌&&◌}
use Rattle.std.specs.List.{list_all}
use Rattle.world_layout.specs.Layout.{is_in_place, has_authority, is_laid_out}
use Rattle.world_check.proofs.looked_up.is_laid_out.Given as goal

abbrev pub invariant-loop-zone : goal.invariant-loop-zone
invariant-loop-zone l = list_all (λ zone. list_all (is_in_place l.world zone) zone.records && has_authority zone) (drop l.zone-index l.world.zones) ≡ is_laid_out l.world
