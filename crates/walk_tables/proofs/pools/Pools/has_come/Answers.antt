use Rattle.std.proofs.Common.{rules}
use Rattle.walk_tables.proofs.pools.Pools.has_come.Goals as goal

pub returns-in-Some : goal.returns-in-Some
returns-in-Some c = search rules
