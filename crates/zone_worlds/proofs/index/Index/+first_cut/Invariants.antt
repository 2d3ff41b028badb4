use Rattle.std.proofs.Common.{length}
use Rattle.zone_worlds.proofs.index.Index.+first_cut.Given as goal

abbrev pub decreases-first_cut : goal.decreases-first_cut
decreases-first_cut l = length l.name.now.labels
