-- How fast the servers of a table answer.
use Rattle.std.specs.Prelude.{ℕ, List, Option, Some, None}
use Rattle.server_core.specs.Delays.{read_fixed}
use Rattle.server_core.specs.Servers.{Server, server_of}

abbrev pub delay_at : ℕ → Option Server → ℕ
delay_at now None = 0
delay_at now (Some server) = read_fixed server.delay now

-- the delay of the server of a number at a moment, in units of 2 ^ -60 microseconds: 0 where there is none
abbrev pub delay_of : List Server → ℕ → ℕ → ℕ
delay_of table now number = delay_at now (server_of table number)
