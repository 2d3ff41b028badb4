use Rattle.std.proofs.Common.{rules}
use Rattle.walk_lookup.proofs.order_targets.first_of.Goals as goal

pub returns-in-Sleep : goal.returns-in-Sleep
returns-in-Sleep c = search rules
