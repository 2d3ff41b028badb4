use Rattle.std.proofs.Common.{◌≡◌, ◌*◌, ◌≤◌, take, length}
use Rattle.std.specs.Prelude.{sum_by}
use Rattle.zone_rules.proofs.short.weight.Given as goal

abbrev pub invariant-loop-name : goal.invariant-loop-name
invariant-loop-name l = record {
  labels : l.labels ≡ sum_by (λ n. length n.labels) (take l.name-index l.names);
  small : l.labels ≤ 254 * l.name-index;
}
