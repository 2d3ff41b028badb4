use Rattle.std.proofs.Common.{◌≡◌, drop}
use Rattle.resolution.specs.Following.{alias_at}
use Rattle.alias_rules.proofs.following.alias_at.Given as goal

abbrev pub invariant-loop-r : goal.invariant-loop-r
invariant-loop-r l = alias_at (drop l.r-index l.answers) l.name ≡ alias_at l.answers l.name
