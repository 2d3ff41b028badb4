use Rattle.std.proofs.Common.{◌≡◌, suc, length}
use Rattle.alias_rules.proofs.Rings.{steps_from}
use Rattle.alias_rules.proofs.following.restart_from.Given as goal

abbrev pub invariant-links : goal.invariant-links
invariant-links l = steps_from l.answers l.asked (suc l.left) l.current ≡ steps_from l.answers l.asked (suc (length l.answers)) l.fn.name

abbrev pub decreases-links : goal.decreases-links
decreases-links l = l.left
