use Rattle.std.proofs.Common.{◌≡◌, List, true, length, ap, sym, ◌∙◌}
use Rattle.std.specs.Prelude.{filter, ◌==◌}
use Rattle.dns_core.specs.Name.{same_names}
use Rattle.dns_core.specs.declared.record.Record.{Record}
use Rattle.zone_worlds.specs.Index.{all_records}
use Rattle.world_layout.proofs.NameByRecords.{one_owner}
use Rattle.world_layout.proofs.naming.owns_one_by.Goals as goal

pub returns-then-is_single : goal.returns-then-is_single
returns-then-is_single c =
    let n = c.args.name.now in
    let single : (length (filter (λ r. same_names r.name n) (all_records c.args.world.now.zones)) == 1) ≡ true = ap (λ (rs : List Record). length rs == 1) (sym c.named-records.ensures) ∙ sym c.is_single.ensures ∙ c.if-is_single.true in
    sym (one_owner c.args.world.now n single)
