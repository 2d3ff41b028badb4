-- The connections of a server, as it begins.
use Rattle.std.specs.Prelude.{ℕ, not, None, List, ◌++◌, map}
use Rattle.std.specs.List.{filter}
use Rattle.dns_core.specs.declared.connection.Protocol.{Protocol}
use Rattle.resolver_settings.specs.NameServer.{NameServer}
use Rattle.resolver_settings.specs.declared.options.ServerOrderingStrategy.{ServerOrderingStrategy}
use Rattle.resolver_settings.specs.declared.options.ServerOrderingStrategy.TheVariants.{QueryStatistics, UserProvidedOrder, RoundRobin}
use Rattle.server_core.specs.Delays.{Delay}
use Rattle.server_core.specs.declared.status.Status.TheVariants.{Init}
use Rattle.server_core.specs.declared.name_server.Connection.{Connection}
use Rattle.server_core.specs.Servers.{Server, is_udp}

-- those of UDP, and then the others, each in their order
abbrev pub udp_first : List (Protocol × ℕ) → List (Protocol × ℕ)
udp_first opened = filter (λ o. is_udp o.0) opened ++ filter (λ o. not (is_udp o.0)) opened

-- the order in which they were given is kept where it is the user's
abbrev pub in_order : ServerOrderingStrategy → List (Protocol × ℕ) → List (Protocol × ℕ)
in_order QueryStatistics opened = udp_first opened
in_order UserProvidedOrder opened = opened
in_order RoundRobin opened = udp_first opened

abbrev pub first_srtt : ℕ → Delay
first_srtt micros = record { micros = micros; since = None }

-- the connection of a protocol that the order of this number opened
abbrev pub begun : ℕ → Protocol × ℕ → Connection
begun micros o = record { number = o.1; protocol = o.0; status = Init; delay = first_srtt micros }

-- the server with no answer yet
abbrev pub new_server : List (Protocol × ℕ) → NameServer → ServerOrderingStrategy → ℕ → Server
new_server opened config strategy micros =
    record { config = config; connections = map (begun micros) (in_order strategy opened); delay = first_srtt micros; first_delay = micros }
