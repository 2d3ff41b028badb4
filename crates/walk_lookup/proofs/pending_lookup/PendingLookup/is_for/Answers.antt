use Rattle.std.proofs.Common.{rules}
use Rattle.walk_lookup.proofs.pending_lookup.PendingLookup.is_for.Goals as goal

pub returns-then-is_identical : goal.returns-then-is_identical
returns-then-is_identical c = search rules
