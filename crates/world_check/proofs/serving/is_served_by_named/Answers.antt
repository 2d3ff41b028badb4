use Rattle.std.proofs.Common.{List, ap, ◌∙◌}
use Rattle.std.specs.List.{list_all}
use Rattle.dns_core.specs.declared.record.Record.{Record}
use Rattle.world_check.specs.Serving.{is_served_by}
use Rattle.world_check.proofs.ServedByRecords.{served_named}
use Rattle.world_check.proofs.serving.is_served_by_named.Goals as goal

pub returns : goal.returns
returns c =
    let zone = c.args.zone.now in
    let target = c.args.target.now in
    c.are_serving.ensures ∙ ap (λ (rs : List Record). list_all (is_served_by c.args.world.now zone target) rs) c.named-records.ensures ∙ served_named c.args.world.now zone target
