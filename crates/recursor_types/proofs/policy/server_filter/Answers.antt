use Rattle.std.proofs.Common.{rules}
use Rattle.recursor_types.proofs.policy.server_filter.Goals as goal

pub returns : goal.returns
returns c = search rules
