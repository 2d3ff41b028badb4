use Rattle.std.proofs.Common.{rules}
use Rattle.walk_tables.proofs.lookup.Lookup.want.Goals as goal

pub returns-in-InPool : goal.returns-in-InPool
returns-in-InPool c = search rules
