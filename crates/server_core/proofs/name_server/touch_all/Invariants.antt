use Rattle.std.proofs.Common.{◌≡◌, ◌++◌, take, drop}
use Rattle.std.specs.Prelude.{map}
use Rattle.server_core.specs.Hearing.{touched}
use Rattle.server_core.proofs.name_server.touch_all.Given as goal

abbrev pub invariant-loop-connection : goal.invariant-loop-connection
invariant-loop-connection l =
    l.connection-items ≡ map (touched l.number l.status l.heard l.now) (take l.connection-index l.fn.connections.items) ++ drop l.connection-index l.fn.connections.items
