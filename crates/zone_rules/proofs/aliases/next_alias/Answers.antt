use Rattle.std.proofs.Common.{rules}
use Rattle.zone_rules.proofs.aliases.next_alias.Goals as goal

pub returns-then-not-is_met-clause-some : goal.returns-then-not-is_met-clause-some
returns-then-not-is_met-clause-some c = search rules
