-- What is kept of a name server.
use Rattle.std.specs.Prelude.{ℕ, ◌≤◌, ◌-◌, ◌==◌, if◌then◌else◌, Bool, true, false, List, Option, slice_get}
use Rattle.dns_core.specs.declared.connection.Protocol.{Protocol}
use Rattle.dns_core.specs.declared.connection.Protocol.TheVariants.{Udp}
use Rattle.resolver_settings.specs.NameServer.{NameServer}
use Rattle.server_core.specs.Delays.{Delay}
use Rattle.server_core.specs.declared.status.Status.TheVariants.{Failed, Init, Established}
use Rattle.server_core.specs.declared.name_server.Connection.{Connection}

-- how it is reached, the connections that are kept to it, its delay, and the delay with which it and its connections start
pub record Server : Type 0 where
  pub config : NameServer
  pub connections : List Connection
  pub delay : Delay
  pub first_delay : ℕ

-- the place of the server of a number in the table, from 0: servers are numbered from 1, and no table that is made has one at the place of 0
abbrev pub place_of : ℕ → ℕ
place_of number = if number == 0 then 4294967295 else number - 1

-- the server of a number, if there is one
abbrev pub server_of : List Server → ℕ → Option Server
server_of table number = slice_get table (place_of number)

-- delays start with 1 to 31 microseconds
pub record IsFirstDelay (micros : ℕ) : Type 0 where
  pub low : 1 ≤ micros
  pub high : micros ≤ 31

abbrev pub is_udp : Protocol → Bool
is_udp Udp = true
is_udp _ = false

-- a connection is open, or is about to be
abbrev pub is_live : Connection → Bool
is_live c = elim (c.status) [ Failed ↦ false | Init ↦ true | Established ↦ true ]
