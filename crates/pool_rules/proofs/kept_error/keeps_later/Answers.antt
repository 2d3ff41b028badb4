use Rattle.std.proofs.Common.{rules}
use Rattle.pool_rules.proofs.kept_error.keeps_later.Goals as goal

pub returns-then-is_timeout : goal.returns-then-is_timeout
returns-then-is_timeout c = search rules
