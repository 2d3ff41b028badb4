use Rattle.std.proofs.Common.{◌≡◌, length}
use Rattle.wire_names.specs.Kept.{AreEnds}
use Rattle.wire_names.proofs.ends.ends_of.Given as goal

abbrev pub invariant-loop-place : goal.invariant-loop-place
invariant-loop-place l = record {
  all : length l.ends.items ≡ l.place;
  ends : AreEnds l.message l.ends.items;
}
