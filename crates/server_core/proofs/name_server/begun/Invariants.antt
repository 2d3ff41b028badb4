use Rattle.std.proofs.Common.{◌≡◌, take}
use Rattle.std.specs.Prelude.{map}
use Rattle.server_core.specs.NewServer.{begun}
use Rattle.server_core.proofs.name_server.begun.Given as goal

abbrev pub invariant-loop-one : goal.invariant-loop-one
invariant-loop-one l = l.connections.items ≡ map (begun l.first_delay) (take l.one-index l.opened)
