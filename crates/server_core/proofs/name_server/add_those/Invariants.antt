use Rattle.std.proofs.Common.{◌≡◌, ◌++◌, take}
use Rattle.std.specs.Bool.{beq}
use Rattle.std.specs.List.{filter}
use Rattle.server_core.specs.Servers.{is_udp}
use Rattle.server_core.proofs.name_server.add_those.Given as goal

abbrev pub invariant-loop-one : goal.invariant-loop-one
invariant-loop-one l = l.ordered.items ≡ l.fn.ordered.items ++ filter (λ o. beq (is_udp o.0) l.of_udp) (take l.one-index l.opened)
