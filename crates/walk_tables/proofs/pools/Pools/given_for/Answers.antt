use Rattle.std.proofs.Common.{rules}
use Rattle.walk_tables.proofs.pools.Pools.given_for.Goals as goal

pub returns-then-may_take-clause-some : goal.returns-then-may_take-clause-some
returns-then-may_take-clause-some c = search rules

pub returns-else-given-number-clause-none : goal.returns-else-given-number-clause-none
returns-else-given-number-clause-none c = search rules
