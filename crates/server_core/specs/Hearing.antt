-- What an answer, or a failure, of a connection does to its server.
use Rattle.std.specs.Prelude.{◌==◌, ℕ, zero, suc, if◌then◌else◌, List, [], ◌∷◌, ◌++◌, map, filter, Result, Ok, Err}
use Rattle.dns_core.specs.declared.connection.Protocol.{Protocol}
use Rattle.dns_core.specs.declared.message.Message.{Message}
use Rattle.dns_core.specs.declared.net_error.DnsError.{DnsError}
use Rattle.dns_core.specs.declared.net_error.DnsError.TheVariants.{NoRecordsFound, ResponseCode}
use Rattle.dns_core.specs.declared.net_error.NetError.{NetError}
use Rattle.dns_core.specs.declared.net_error.NetError.TheVariants.{Busy, Io, Timeout, NoConnections, Truncated, QueryCaseMismatch, ForeignClassRecord, Dns, Msg, NoMemory}
use Rattle.server_core.specs.declared.status.Status.{Status}
use Rattle.server_core.specs.declared.status.Status.TheVariants.{Failed, Established}
use Rattle.server_core.specs.declared.heard.Heard.{Heard}
use Rattle.server_core.specs.declared.heard.Heard.TheVariants.{Answer, Failure, Nothing}
use Rattle.server_core.specs.declared.name_server.Connection.{Connection}
use Rattle.server_core.specs.Delays.{Delay, recorded, failed}
use Rattle.server_core.specs.NewServer.{begun}
use Rattle.server_core.specs.Servers.{Server, is_live, place_of}

-- what counts of a response without an answer: a denial as a failure, and each other code not at all
abbrev pub heard_dns : DnsError → Heard
heard_dns (NoRecordsFound n) = Failure
heard_dns (ResponseCode code) = Nothing

-- what counts of a response: its time where it is one with data, or a cut one
abbrev pub heard_of : ℕ → Result Message DnsError → Heard
heard_of took (Ok m) = Answer took
heard_of took (Err e) = heard_dns e

-- what counts of an error: of those of transport these three are failures, and a response that is told as an error counts as in a message
abbrev pub heard_error : NetError → Heard
heard_error Busy = Failure
heard_error (Io kind) = Failure
heard_error Timeout = Failure
heard_error NoConnections = Nothing
heard_error Truncated = Nothing
heard_error QueryCaseMismatch = Nothing
heard_error (ForeignClassRecord name dns_class record_type) = Nothing
heard_error (Dns e) = heard_dns e
heard_error (Msg text) = Nothing
heard_error NoMemory = Nothing

-- the delay with what was heard
abbrev pub counted : Heard → ℕ → Delay → Delay
counted (Answer took) now d = recorded d took now
counted Failure now d = failed d now
counted Nothing now d = d

-- the connection with what was heard, where it is of this number
abbrev pub touched : ℕ → Status → Heard → ℕ → Connection → Connection
touched number status heard now c =
    if c.number == number then record c { status = status; delay = counted heard now c.delay } else c

-- the server with what was heard of its connection of this number
abbrev pub after_heard : ℕ → Status → Heard → ℕ → Server → Server
after_heard number status heard now s =
    record s { connections = map (touched number status heard now) s.connections; delay = counted heard now s.delay }

-- A response came over the connection: it stands, and its delay and that of the server count it.
abbrev pub after_told : ℕ → ℕ → ℕ → Result Message DnsError → Server → Server
after_told number took now class s = after_heard number Established (heard_of took class) now s

-- A question over the connection failed, and so has the connection.
abbrev pub after_failed : ℕ → NetError → ℕ → Server → Server
after_failed number error now s = after_heard number Failed (heard_error error) now s

-- the server without the connections that failed
abbrev pub without_dead : Server → Server
without_dead s = record s { connections = filter is_live s.connections }

-- the server with the connection that the order of this number opened
abbrev pub with_opened : ℕ → Protocol → Server → Server
with_opened number protocol s = record s { connections = s.connections ++ begun s.first_delay (protocol, number) ∷ [] }

-- the list with the server of a place changed, if it is there, and the others as they were
abbrev pub changed_place : (Server → Server) → ℕ → List Server → List Server
changed_place f place [] = []
changed_place f zero (s ∷ table) = f s ∷ table
changed_place f (suc place) (s ∷ table) = s ∷ changed_place f place table

-- the table with the server of a number changed
abbrev pub changed_at : (Server → Server) → ℕ → List Server → List Server
changed_at f number table = changed_place f (place_of number) table
