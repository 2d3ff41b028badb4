use Rattle.std.proofs.Common.{rules}
use Rattle.walk_lookup.proofs.order_targets.is_still.Goals as goal

pub returns-in-Some : goal.returns-in-Some
returns-in-Some c = search rules
