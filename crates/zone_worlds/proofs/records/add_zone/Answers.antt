use Rattle.std.proofs.Common.{List, sym, subst, arith}
use Rattle.std.proofs.lemmas.List.{append-nil}
use Rattle.dns_core.specs.declared.record.Record.{Record}
use Rattle.zone_worlds.specs.Index.{FindsRecords}
use Rattle.zone_worlds.proofs.RecordsUnderNames.{records_next}
use Rattle.zone_worlds.proofs.records.add_zone.Goals as goal

pub loop-r-init : goal.loop-r-init
loop-r-init c = λ seen h. subst (λ (rs : List Record). FindsRecords rs c.args.kept.now) (sym (append-nil seen)) h

pub loop-r-preserved : goal.loop-r-preserved
loop-r-preserved c = λ seen h.
    records_next seen c.items-r-items.result.now c.loop-r.r-index c.loop-r.kept c.add_record.new.kept c.r-item.result _ _ (omega arith) c.r-item.is c.in_ok-copy.ensures c.in_ok-name.ensures
    (c.loop-r.invariant seen h) c.in_ok-add_record.ensures
