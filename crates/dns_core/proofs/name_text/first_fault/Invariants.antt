use Rattle.std.proofs.Common.{◌≡◌, drop}
use Rattle.dns_core.specs.NameText.{first_fault}
use Rattle.dns_core.proofs.name_text.first_fault.Given as goal

abbrev pub invariant-loop-label : goal.invariant-loop-label
invariant-loop-label l = first_fault l.strict (drop l.label-index l.labels) ≡ first_fault l.strict l.labels
