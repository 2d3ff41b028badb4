use Rattle.std.proofs.Common.{length}
use Rattle.zone_rules.proofs.tree.+nearest.Given as goal

abbrev pub decreases-nearest : goal.decreases-nearest
decreases-nearest l = length l.labels.now
