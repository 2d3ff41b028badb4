use Rattle.std.proofs.Common.{◌≡◌, ◌+◌, drop}
use Rattle.dns_core.specs.NameText.{wire_length}
use Rattle.wire_names.proofs.labels.is_long.Given as goal

abbrev pub invariant-loop-label : goal.invariant-loop-label
invariant-loop-label l = wire_length (drop l.label-index l.labels) + 254 ≡ wire_length l.labels + l.left
