use Rattle.std.proofs.Common.{rules}
use Rattle.pool_rules.proofs.key.same_key.Goals as goal

pub returns-then-same_query : goal.returns-then-same_query
returns-then-same_query c = search rules
