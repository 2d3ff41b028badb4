use Rattle.std.proofs.Common.{rules}
use Rattle.pool_lookup.proofs.lookup.Lookup.is_late.Goals as goal

pub returns-then-self-now : goal.returns-then-self-now
returns-then-self-now c = search rules
