use Rattle.std.proofs.Common.{◌≡◌, length, None, ap, sym, ◌∙◌}
use Rattle.std.specs.Option.{option_copied}
use Rattle.zone_rules.specs.Tree.{first_cut}
use Rattle.world_layout.specs.Layout.{left_name}
use Rattle.world_check.proofs.NoZoneOnTheWay.{left_by_all}
use Rattle.world_check.proofs.looked_up.is_left.Goals as goal

pub returns-in-None : goal.returns-in-None
returns-in-None c =
    let zones = c.args.world.now.zones in
    let r = c.args.r.now in
    let met : first_cut zones (length c.labels-apex.result.now) c.in_ok-name.name.labels ≡ None = sym c.in_ok-cut.ensures ∙ ap option_copied c.in-None.is in
    let none : first_cut zones (length (c.args.zone.now.apex).labels) (left_name r).labels ≡ None = let a = c.labels-apex.ensures.labels in let n = c.in_ok-name.ensures in cc in
    sym (left_by_all c.args.zone.now r zones none)
