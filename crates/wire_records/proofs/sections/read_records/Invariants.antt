use Rattle.std.proofs.Common.{◌≡◌}
use Rattle.wire_names.specs.Kept.{IsRest, AreKept}
use Rattle.wire_records.specs.Reading.{record_of}
use Rattle.wire_records.specs.Sections.{in_turn, with_items}
use Rattle.wire_records.proofs.sections.read_records.Given as goal

abbrev pub invariant-records : goal.invariant-records
invariant-records l = record {
  read : with_items l.records.items (in_turn record_of l.left l.message l.rest) ≡ in_turn record_of l.fn.count l.fn.message l.fn.bytes;
  rest : IsRest l.message l.rest;
  kept : AreKept l.message l.kept;
}

abbrev pub decreases-records : goal.decreases-records
decreases-records l = l.left
