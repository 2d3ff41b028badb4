-- A server of a table, lent to be changed.
use Rattle.std.specs.Prelude.{ℕ, List, slice_set}
use Rattle.std.specs.Borrow.{Lends, MutBor, Fml}
use Rattle.server_core.specs.Servers.{Server, place_of}
use Rattle.server_core.specs.contracts.server_table.ServerTable.{the_row as table_row}
use Rattle.server_core.specs.contracts.name_server.NameServer.{the_row as server_row}

-- the table ends with the last value behind the reference as the server of this number, and is otherwise as it was
abbrev pub LendsServer : MutBor (List Server) → ℕ → MutBor Server → Fml
LendsServer table number r = Lends table_row server_row table r (slice_set table.now (place_of number))
