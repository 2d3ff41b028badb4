use Rattle.std.proofs.Common.{◌≡◌, ◌++◌, take}
use Rattle.dns_core.specs.NameText.{dotted}
use Rattle.dns_core.proofs.name_text.push_text.Given as goal

abbrev pub invariant-loop-i : goal.invariant-loop-i
invariant-loop-i l = l.out.items ≡ l.fn.out.items ++ dotted (take l.i l.labels)
