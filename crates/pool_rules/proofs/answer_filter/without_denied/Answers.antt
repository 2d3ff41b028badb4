use Rattle.std.proofs.Common.{rules}
use Rattle.pool_rules.proofs.answer_filter.without_denied.Goals as goal

pub returns : goal.returns
returns c = search rules
