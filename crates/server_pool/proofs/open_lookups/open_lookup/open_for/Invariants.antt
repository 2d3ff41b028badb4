use Rattle.std.proofs.Common.{◌≡◌}
use Rattle.server_pool.specs.OpenLookups.{open_for}
use Rattle.server_pool.proofs.open_lookups.open_lookup.open_for.Given as goal

-- those that are left tell the same
abbrev pub invariant-loop-number : goal.invariant-loop-number
invariant-loop-number l = open_for l.pool l.request l.number-iterator ≡ open_for l.pool l.request l.lookups.entries
