-- Which connections a policy allows, and which of them comes first.
use Rattle.std.specs.Prelude.{ℕ, Bool, not, ◌&&◌, ◌||◌, ◌==◌, nat_lt, if◌then◌else◌}
use Rattle.std.specs.List.{list_any}
use Rattle.dns_core.specs.Connection.{protocol_of}
use Rattle.dns_core.specs.declared.connection.Protocol.{Protocol}
use Rattle.dns_core.specs.declared.connection.ConnectionConfig.{ConnectionConfig}
use Rattle.server_core.specs.declared.name_server.Connection.{Connection}
use Rattle.server_core.specs.declared.sends.policy.ConnectionPolicy.{ConnectionPolicy}
use Rattle.server_core.specs.Delays.{read_fixed}
use Rattle.server_core.specs.Servers.{Server, is_udp}

-- each protocol, but UDP where it is turned off
abbrev pub allows : ConnectionPolicy → Protocol → Bool
allows policy protocol = not (policy.disable_udp && is_udp protocol)

abbrev pub allows_connection : ConnectionPolicy → Connection → Bool
allows_connection policy c = allows policy c.protocol

abbrev pub allows_config : ConnectionPolicy → ConnectionConfig → Bool
allows_config policy c = allows policy (protocol_of c.protocol)

-- one of the ways to reach the server
abbrev pub allows_server : ConnectionPolicy → Server → Bool
allows_server policy server = list_any (allows_config policy) server.config.connections

-- UDP is before the rest
abbrev pub rank : Protocol → ℕ
rank protocol = if is_udp protocol then 0 else 1

-- UDP first, and of the same rank the lesser delay
abbrev pub is_before : ℕ → Connection → Connection → Bool
is_before now a b =
    nat_lt (rank a.protocol) (rank b.protocol) || (rank a.protocol == rank b.protocol && nat_lt (read_fixed a.delay now) (read_fixed b.delay now))

-- UDP first
abbrev pub is_config_before : ConnectionConfig → ConnectionConfig → Bool
is_config_before a b = nat_lt (rank (protocol_of a.protocol)) (rank (protocol_of b.protocol))
