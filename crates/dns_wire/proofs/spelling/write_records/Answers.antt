use Rattle.std.proofs.Common.{length, arith, ap}
use Rattle.dns_core.specs.declared.record.Record.{Record}
use Rattle.wire_records.specs.Spelling.{spelled_record, FitRecord}
use Rattle.wire_records.proofs.RoomLaws.{length_record}
use Rattle.dns_wire.proofs.Lists.{part_few, out_more, all_more}
use Rattle.dns_wire.proofs.spelling.write_records.Goals as goal

pub data_length-count-requires : goal.data_length-count-requires
data_length-count-requires c =
    let few = part_few spelled_record c.args.records.now c.loop-plain.plain-index c.plain-item.result c.loop-plain-test.true in
    let same = ap (λ (r : Record). length (spelled_record r)) c.plain-item.is in
    omega (arith, few, same, length_record c.plain-item.result, c.requires)

pub loop-plain-preserved : goal.loop-plain-preserved
loop-plain-preserved c = record {
  out = out_more spelled_record c.args.records.now c.loop-plain.plain-index c.plain-item.result c.args.out.now.items c.loop-plain.out.items c.write_record.new.out.items c.loop-plain-test.true c.plain-item.is c.loop-plain.invariant.out c.in_ok-write_record.ensures.ok;
  fit = all_more FitRecord c.args.records.now c.loop-plain.plain-index c.plain-item.result c.loop-plain-test.true c.plain-item.is c.loop-plain.invariant.fit c.in_ok-write_record.ensures.fit;
}
