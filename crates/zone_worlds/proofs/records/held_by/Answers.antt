use Rattle.std.proofs.Common.{List, sym, subst, arith}
use Rattle.dns_core.specs.declared.record.Record.{Record}
use Rattle.zone_worlds.specs.Index.{FindsRecords}
use Rattle.zone_worlds.proofs.RecordsUnderNames.{zones_next}
use Rattle.zone_worlds.proofs.records.held_by.Goals as goal

pub loop-zone-preserved : goal.loop-zone-preserved
loop-zone-preserved c =
    subst (λ (rs : List Record). FindsRecords rs c.add_zone.new.kept) (sym (zones_next c.args.zones.now c.loop-zone.zone-index c.zone-item.result (omega arith) c.zone-item.is)) (c.in_ok-add_zone.ensures _ c.loop-zone.invariant)
