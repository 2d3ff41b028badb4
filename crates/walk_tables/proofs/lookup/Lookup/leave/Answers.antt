use Rattle.std.proofs.Common.{rules}
use Rattle.walk_tables.proofs.lookup.Lookup.leave.Goals as goal

pub returns-in-InPool-clause-pools : goal.returns-in-InPool-clause-pools
returns-in-InPool-clause-pools c view h = c.leave.ensures.holds view h

pub returns-in-InPool-clause-left : goal.returns-in-InPool-clause-left
returns-in-InPool-clause-left c = search rules
