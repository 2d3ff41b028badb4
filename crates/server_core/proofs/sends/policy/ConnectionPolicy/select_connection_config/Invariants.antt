use Rattle.std.proofs.Common.{take}
use Rattle.server_core.specs.Choice.{Picks}
use Rattle.server_core.specs.Policy.{allows_config, is_config_before}
use Rattle.server_core.proofs.sends.policy.ConnectionPolicy.select_connection_config.Given as goal

abbrev pub invariant-loop-place : goal.invariant-loop-place
invariant-loop-place l = Picks (allows_config l.self) is_config_before (take l.place l.configs) l.best
