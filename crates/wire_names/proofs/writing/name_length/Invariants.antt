use Rattle.std.proofs.Common.{◌≡◌, ◌+◌, drop}
use Rattle.dns_core.specs.NameText.{wire_length}
use Rattle.wire_names.proofs.writing.name_length.Given as goal

abbrev pub invariant-loop-label : goal.invariant-loop-label
invariant-loop-label l = l.length + wire_length (drop l.label-index l.labels) ≡ wire_length l.labels + 1
