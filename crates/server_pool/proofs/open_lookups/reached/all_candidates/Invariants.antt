use Rattle.std.proofs.Common.{◌≡◌, take}
use Rattle.std.specs.Prelude.{map}
use Rattle.server_pool.specs.UsableServers.{candidate_of}
use Rattle.server_pool.proofs.open_lookups.reached.all_candidates.Given as goal

-- those before are added
abbrev pub invariant-loop-number : goal.invariant-loop-number
invariant-loop-number l = l.found.items ≡ map (candidate_of l.table) (take l.number-index l.servers)
