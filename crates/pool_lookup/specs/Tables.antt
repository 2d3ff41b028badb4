-- What no step of a lookup changes in the table of the servers.
use Rattle.std.specs.Prelude.{List, map}
use Rattle.resolver_settings.specs.NameServer.{NameServer}
use Rattle.server_core.specs.Servers.{Server}

-- how each server is reached: its address, and the ways to it
abbrev pub configs : List Server → List NameServer
configs table = map (λ s. s.config) table
