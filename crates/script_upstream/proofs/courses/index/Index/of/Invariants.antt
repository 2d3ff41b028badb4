use Rattle.std.proofs.Common.{◌≡◌, take}
use Rattle.script_upstream.specs.Index.{IsIndexed, used_at}
use Rattle.script_upstream.specs.declared.courses.index.Asking.{Asking}
use Rattle.script_upstream.proofs.courses.index.Index.of.Given as goal

abbrev pub invariant-loop-place : goal.invariant-loop-place
invariant-loop-place l = record {
  indexed : IsIndexed l.lines (take l.place l.lines) l.index;
  unused : (a : Asking) → used_at l.index a ≡ 0;
}
