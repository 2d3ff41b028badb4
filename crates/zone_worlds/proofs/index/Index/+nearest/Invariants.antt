use Rattle.std.proofs.Common.{length}
use Rattle.zone_worlds.proofs.index.Index.+nearest.Given as goal

abbrev pub decreases-nearest : goal.decreases-nearest
decreases-nearest l = length l.name.now.labels
