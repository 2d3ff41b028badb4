use Rattle.std.proofs.Common.{◌≡◌, take}
use Rattle.server_pool.proofs.interest.copy_of.Given as goal

-- those before are copied
abbrev pub invariant-loop-number : goal.invariant-loop-number
invariant-loop-number l = l.copy ≡ take l.number-index l.servers
