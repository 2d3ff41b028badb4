use Rattle.std.proofs.Common.{rules}
use Rattle.walk_lookup.proofs.pending_lookup.PendingLookup.sends.Goals as goal

pub returns-in-None : goal.returns-in-None
returns-in-None c = search rules
