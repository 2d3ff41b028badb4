use Rattle.resolution_reference.proofs.LeastLeft.{least_left}
use Rattle.resolution_reference.proofs.kept.kept.Kept.least_ttl.Goals as goal

pub returns : goal.returns
returns c = let e = least_left c.args.self.now in cc
