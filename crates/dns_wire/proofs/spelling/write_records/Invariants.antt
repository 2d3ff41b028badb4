use Rattle.std.proofs.Common.{◌≡◌, ◌++◌, take}
use Rattle.std.specs.List.{All, flat_map}
use Rattle.wire_records.specs.Spelling.{spelled_record, FitRecord}
use Rattle.dns_wire.proofs.spelling.write_records.Given as goal

abbrev pub invariant-loop-plain : goal.invariant-loop-plain
invariant-loop-plain l = record {
  out : l.out.items ≡ l.fn.out.items ++ flat_map spelled_record (take l.plain-index l.records);
  fit : All FitRecord (take l.plain-index l.records);
}
