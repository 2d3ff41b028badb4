-- Over which protocols a server is reached.
use Rattle.std.specs.Prelude.{List, map}
use Rattle.dns_core.specs.Connection.{protocol_of}
use Rattle.dns_core.specs.declared.connection.ConnectionConfig.{ConnectionConfig}
use Rattle.dns_core.specs.declared.connection.Protocol.{Protocol}

-- the protocols of ways to reach it, in their order
abbrev pub protocols_of : List ConnectionConfig → List Protocol
protocols_of configs = map (λ c. protocol_of c.protocol) configs
