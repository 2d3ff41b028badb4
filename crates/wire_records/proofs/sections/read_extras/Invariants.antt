use Rattle.std.proofs.Common.{◌≡◌, None}
use Rattle.wire_names.specs.Kept.{IsRest, AreKept}
use Rattle.wire_records.specs.Sections.{extras_of, with_records}
use Rattle.wire_records.proofs.sections.read_extras.Given as goal

abbrev pub invariant-extras : goal.invariant-extras
invariant-extras l = record {
  read : with_records l.records.items (extras_of l.left l.told l.message l.rest) ≡ extras_of l.fn.count None l.fn.message l.fn.bytes;
  rest : IsRest l.message l.rest;
  kept : AreKept l.message l.kept;
}

abbrev pub decreases-extras : goal.decreases-extras
decreases-extras l = l.left
