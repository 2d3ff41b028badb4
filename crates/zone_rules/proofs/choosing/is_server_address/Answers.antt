use Rattle.std.proofs.Common.{rules}
use Rattle.zone_rules.proofs.choosing.is_server_address.Goals as goal

pub returns-then-is_above : goal.returns-then-is_above
returns-then-is_above c = search rules

pub returns-else-is_above : goal.returns-else-is_above
returns-else-is_above c = search rules
