use Rattle.std.proofs.Common.{take}
use Rattle.server_core.specs.Choice.{Picks}
use Rattle.server_core.specs.Policy.{allows_connection, is_before}
use Rattle.server_core.proofs.sends.policy.ConnectionPolicy.select_connection.Given as goal

abbrev pub invariant-loop-place : goal.invariant-loop-place
invariant-loop-place l = Picks (allows_connection l.self) (is_before l.now) (take l.place l.connections) l.best
