use Rattle.std.proofs.Common.{rules}
use Rattle.walk_tables.proofs.pools.Pools.awaited.Goals as goal

pub returns-then-is_open_at : goal.returns-then-is_open_at
returns-then-is_open_at c = search rules
