use Rattle.std.proofs.Common.{length}
use Rattle.zone_rules.proofs.tree.+first_cut.Given as goal

abbrev pub decreases-first_cut : goal.decreases-first_cut
decreases-first_cut l = length l.labels.now
