use Rattle.std.proofs.Common.{rules}
use Rattle.recursor_types.proofs.policy.resolver_options.Goals as goal

pub returns : goal.returns
returns c = search rules
