-- One send of a request to a server: where it stands, and what each of its steps does.
use Rattle.std.specs.Prelude.{◌≡◌, ℕ, ◌+◌, ◌-◌, Bool, true, false, ◌&&◌, not, if◌then◌else◌, ◌⊎◌, Option, Some, None, Result, Ok, Err}
use Rattle.dns_core.specs.declared.connection.ConnectionConfig.{ConnectionConfig}
use Rattle.dns_core.specs.declared.connection.Protocol.{Protocol}
use Rattle.dns_core.specs.declared.message.Message.{Message}
use Rattle.dns_core.specs.declared.net_error.DnsError.{DnsError}
use Rattle.dns_core.specs.declared.net_error.IoKind.TheVariants.{Other}
use Rattle.dns_core.specs.declared.net_error.NetError.{NetError}
use Rattle.dns_core.specs.declared.net_error.NetError.TheVariants.{Io, Timeout, NoConnections, Dns}
use Rattle.dns_core.specs.Classifying.{classify_of}
use Rattle.dns_core.specs.Connection.{protocol_of}
use Rattle.dns_core.specs.NetError.{is_closed}
use Rattle.server_core.specs.Choice.{IsFirstLeast, Picks}
use Rattle.server_core.specs.Policy.{allows_connection, allows_config, is_before, is_config_before}
use Rattle.server_core.specs.Servers.{Server}
use Rattle.server_core.specs.Hearing.{after_told, after_failed, without_dead, with_opened}
use Rattle.server_core.specs.Order.{ends_patience}
use Rattle.server_core.specs.declared.orders.order.After.{After}
use Rattle.server_core.specs.declared.orders.order.After.TheVariants.{Kept, Ended, GiveUp, Late}
use Rattle.server_core.specs.declared.orders.order.Order.TheVariants.{Open, Ask, Sleep}
use Rattle.server_core.specs.declared.orders.order.Outcome.{Outcome}
use Rattle.server_core.specs.declared.orders.order.Outcome.TheVariants.{Pending, Connected, Told, Failed, Slept}
use Rattle.server_core.specs.declared.sends.server_send.Asked.{Asked}
use Rattle.server_core.specs.declared.sends.server_send.Stage.{Stage}
use Rattle.server_core.specs.declared.sends.server_send.Stage.TheVariants as stage
use Rattle.server_core.specs.declared.sends.server_send.Want.{Want}
use Rattle.server_core.specs.declared.sends.server_send.Want.TheVariants as want
use Rattle.server_core.specs.declared.sends.server_send.SendStep.{SendStep}
use Rattle.server_core.specs.declared.sends.server_send.SendStep.TheVariants as step
use Rattle.server_core.specs.declared.sends.server_send.ServerSend.{ServerSend}

-- ---- where a send stands

-- an order of the send is open
abbrev pub is_open : Stage → Bool
is_open stage.Ready = false
is_open (stage.Opening protocol order polls) = true
is_open (stage.Opened protocol conn) = false
is_open (stage.Asking asked polls) = true
is_open (stage.Ended result) = false
is_open stage.Over = false

-- the question that is under way, if there is one
abbrev pub asked_of : Stage → Option Asked
asked_of stage.Ready = None
asked_of (stage.Opening protocol order polls) = None
asked_of (stage.Opened protocol conn) = None
asked_of (stage.Asking asked polls) = Some asked
asked_of (stage.Ended result) = None
asked_of stage.Over = None

-- the connection that is being opened, if there is one, by its protocol and the number of its order
abbrev pub opening_of : Stage → Option (Protocol × ℕ)
opening_of stage.Ready = None
opening_of (stage.Opening protocol order polls) = Some (protocol, order)
opening_of (stage.Opened protocol conn) = None
opening_of (stage.Asking asked polls) = None
opening_of (stage.Ended result) = None
opening_of stage.Over = None

-- what the send comes to next
abbrev pub want_of : Stage → Want
want_of stage.Ready = want.Begin
want_of (stage.Opening protocol order polls) = want.Wait
want_of (stage.Opened protocol conn) = want.Ask protocol conn
want_of (stage.Asking asked polls) = want.Wait
want_of (stage.Ended result) = want.Tell
want_of stage.Over = want.Wait

-- how many polls of the open order found nothing
abbrev pub pendings : Stage → ℕ
pendings stage.Ready = 0
pendings (stage.Opening protocol order polls) = polls
pendings (stage.Opened protocol conn) = 0
pendings (stage.Asking asked polls) = polls
pendings (stage.Ended result) = 0
pendings stage.Over = 0

-- how many of so many questions a send that stands so may still ask
abbrev pub left_of : ℕ → Stage → ℕ
left_of most stage.Ready = most
left_of most (stage.Opening protocol order polls) = most
left_of most (stage.Opened protocol conn) = most
left_of most (stage.Asking asked polls) = most - 1
left_of most (stage.Ended result) = 0
left_of most stage.Over = 0

-- how many questions the send may still ask: one for each of its two tries
abbrev pub asks_left : ServerSend → ℕ
asks_left s = left_of (if s.retried then 1 else 2) s.stage

-- what the send ended with, where that is not told yet
abbrev pub end_of : Stage → Option (Result Message NetError)
end_of stage.Ready = None
end_of (stage.Opening protocol order polls) = None
end_of (stage.Opened protocol conn) = None
end_of (stage.Asking asked polls) = None
end_of (stage.Ended result) = Some result
end_of stage.Over = None

-- a send is over once its end is told
abbrev pub after_end : Stage → Stage
after_end stage.Ready = stage.Ready
after_end (stage.Opening protocol order polls) = stage.Opening protocol order polls
after_end (stage.Opened protocol conn) = stage.Opened protocol conn
after_end (stage.Asking asked polls) = stage.Asking asked polls
after_end (stage.Ended result) = stage.Over
after_end stage.Over = stage.Over

-- ---- its next step

-- what a step does to the server: connections that failed are dropped where one is chosen, and the one that was opened is kept
abbrev pub after_step : Stage → Server → Server
after_step stage.Ready server = without_dead server
after_step (stage.Opening protocol order polls) server = server
after_step (stage.Opened protocol conn) server = with_opened conn protocol server
after_step (stage.Asking asked polls) server = server
after_step (stage.Ended result) server = server
after_step stage.Over server = server

-- what a step does to the server out of memory: connections that failed are dropped, and the one that was opened is not kept yet
abbrev pub after_want : Stage → Server → Server
after_want stage.Ready server = without_dead server
after_want (stage.Opening protocol order polls) server = server
after_want (stage.Opened protocol conn) server = server
after_want (stage.Asking asked polls) server = server
after_want (stage.Ended result) server = server
after_want stage.Over server = server

-- what the attempt of a step does to the server, by whether memory was there
abbrev pub after_next : {T E : Type 0} → Stage → Result T E → Server → Server
after_next at (Ok made) server = after_step at server
after_next at (Err error) server = after_want at server

-- the step asks the request over a connection
abbrev pub IsAskedOver : ServerSend → ℕ → Bool → Protocol → ℕ → Server → SendStep → Stage → Type 0
IsAskedOver s now again protocol conn server made next =
    (made ≡ step.Order (Ask conn server.config.ip protocol s.request)) × (next ≡ stage.Asking (record { conn = conn; at = now; again = again }) 0)

-- the step opens a connection by a configuration
abbrev pub IsOpenedOver : ℕ → ConnectionConfig → Server → SendStep → Stage → Type 0
IsOpenedOver number config server made next =
    (made ≡ step.Order (Open server.config.ip config)) × (next ≡ stage.Opening (protocol_of config.protocol) number 0)

-- the step asks the request over the connection that the policy selects
pub record IsAskedAgain (s : ServerSend) (now : ℕ) (server : Server) (made : SendStep) (next : Stage) : Type 0 where
  pub place : ℕ
  pub chosen : IsFirstLeast (allows_connection s.policy) (is_before now) server.connections place
  pub over : IsAskedOver s now true chosen.item.protocol chosen.item.number server made next

-- the step opens a connection by the configuration that the policy selects
pub record IsOpened (s : ServerSend) (number : ℕ) (server : Server) (made : SendStep) (next : Stage) : Type 0 where
  pub place : ℕ
  pub chosen : IsFirstLeast (allows_config s.policy) is_config_before server.config.connections place
  pub over : IsOpenedOver number chosen.item server made next

-- the policy allows no configuration, and the send is done
pub record IsClosedOff (s : ServerSend) (server : Server) (made : SendStep) (next : Stage) : Type 0 where
  pub unreached : Picks (allows_config s.policy) is_config_before server.config.connections None
  pub done : made ≡ step.Done (Err NoConnections)
  pub over : next ≡ stage.Over

-- the step opens a connection, where the policy allows a configuration
abbrev pub OpensSelected : ServerSend → ℕ → Server → SendStep → Stage → Type 0
OpensSelected s number server made next = IsOpened s number server made next ⊎ IsClosedOff s server made next

-- the policy selects no connection, so that one has to be opened
abbrev pub IsWithoutConnection : ServerSend → ℕ → ℕ → Server → SendStep → Stage → Type 0
IsWithoutConnection s number now server made next =
    Picks (allows_connection s.policy) (is_before now) server.connections None × OpensSelected s number server made next

-- the first step, or the one of the second try, at a server without connections that failed
abbrev pub Begins : ServerSend → ℕ → ℕ → Server → SendStep → Stage → Type 0
Begins s number now server made next = IsAskedAgain s now server made next ⊎ IsWithoutConnection s number now server made next

-- the step of a send that stands so, at its server, and where it stands then
abbrev pub StepIs : ServerSend → Stage → ℕ → ℕ → Server → SendStep → Stage → Type 0
StepIs s stage.Ready number now server made next = Begins s number now (without_dead server) made next
StepIs s (stage.Opening protocol order polls) number now server made next = (made ≡ step.Waiting) × (next ≡ stage.Opening protocol order polls)
StepIs s (stage.Opened protocol conn) number now server made next = IsAskedOver s now false protocol conn server made next
StepIs s (stage.Asking asked polls) number now server made next = (made ≡ step.Waiting) × (next ≡ stage.Asking asked polls)
StepIs s (stage.Ended result) number now server made next = (made ≡ step.Done result) × (next ≡ stage.Over)
StepIs s stage.Over number now server made next = (made ≡ step.Waiting) × (next ≡ stage.Over)

-- the step tells what the send ended with
abbrev pub TellsEnd : Stage → SendStep → Stage → Type 0
TellsEnd stage.Ready made next = ⊥
TellsEnd (stage.Opening protocol order polls) made next = ⊥
TellsEnd (stage.Opened protocol conn) made next = ⊥
TellsEnd (stage.Asking asked polls) made next = ⊥
TellsEnd (stage.Ended result) made next = (made ≡ step.Done result) × (next ≡ stage.Over)
TellsEnd stage.Over made next = ⊥

-- a step that asks takes one of the questions that are left, and any other takes none
abbrev pub asks_of : SendStep → ℕ
asks_of (step.Order (Ask conn ip protocol request)) = 1
asks_of (step.Order (Open ip config)) = 0
asks_of (step.Order (Sleep until)) = 0
asks_of step.Waiting = 0
asks_of (step.Done result) = 0

-- ---- an outcome of the open order

-- a poll that finds nothing is the last one that patience allows
abbrev pub is_last_poll : ℕ → Stage → Bool
is_last_poll patience at = ends_patience patience (pendings at)

-- what a poll that found nothing does to its order: the last one that patience allows gives it up, and one before it keeps it
abbrev pub after_poll : ℕ → Stage → After
after_poll patience at = if is_last_poll patience at then GiveUp else Kept

-- what an outcome does to an order that is open
abbrev pub after_outcome : ℕ → Stage → Outcome → After
after_outcome patience at (Pending entry of) = after_poll patience at
after_outcome patience at (Connected entry sent) = Ended
after_outcome patience at (Told entry sent message) = Ended
after_outcome patience at (Failed entry sent refused error) = Ended
after_outcome patience at Slept = Ended

-- an outcome is late exactly where no order is open
abbrev pub after_put : ℕ → Stage → Outcome → After
after_put patience at outcome = if is_open at then after_outcome patience at outcome else Late

-- only a message that is told to an open order takes memory
abbrev pub takes_memory : Stage → Outcome → Bool
takes_memory at (Pending entry of) = false
takes_memory at (Connected entry sent) = false
takes_memory at (Told entry sent message) = is_open at
takes_memory at (Failed entry sent refused error) = false
takes_memory at Slept = false

-- ---- what it makes of the send

-- the send has ended with a result, which is still to be told
abbrev pub ended : Result Message NetError → ServerSend → ServerSend
ended result s = record s { stage = stage.Ended result }

-- the send begins its second try
abbrev pub tried_again : ServerSend → ServerSend
tried_again s = record s { retried = true; stage = stage.Ready }

-- a question is tried once more where a connection that was used again was closed, for the first time
abbrev pub is_tried_again : Bool → Asked → NetError → Bool
is_tried_again retried asked error = asked.again && (not retried && is_closed error)

-- an error of an opening ends the send, and one of a question ends it or is followed by one more try
abbrev pub after_error : Option Asked → NetError → ServerSend → ServerSend
after_error None error s = ended (Err error) s
after_error (Some asked) error s = if is_tried_again s.retried asked error then tried_again s else ended (Err error) s

-- the open order is lost with an error
abbrev pub lost : NetError → ServerSend → ServerSend
lost error s = after_error (asked_of s.stage) error s

-- what a response to a question ends the send with: its message, or the error that it is
abbrev pub result_of : Result Message DnsError → Result Message NetError
result_of (Ok message) = Ok message
result_of (Err error) = Err (Dns error)

-- what any response ends the send with: one that no question asked for is a fault of transport
abbrev pub response_end : Option Asked → Result Message DnsError → Result Message NetError
response_end None class = Err (Io Other)
response_end (Some asked) class = result_of class

-- a response is told, and ends the send
abbrev pub told : Result Message DnsError → ServerSend → ServerSend
told class s = ended (response_end (asked_of s.stage) class) s

-- a connection that was being opened is asked over next, and one that was not is a fault of transport
abbrev pub after_opening : Option (Protocol × ℕ) → ServerSend → ServerSend
after_opening None s = lost (Io Other) s
after_opening (Some opening) s = record s { stage = stage.Opened opening.0 opening.1 }

-- the connection of the open order is there
abbrev pub connected : ServerSend → ServerSend
connected s = after_opening (opening_of s.stage) s

-- one poll more of the open order found nothing
abbrev pub polled_once : Stage → Stage
polled_once stage.Ready = stage.Ready
polled_once (stage.Opening protocol order polls) = stage.Opening protocol order (polls + 1)
polled_once (stage.Opened protocol conn) = stage.Opened protocol conn
polled_once (stage.Asking asked polls) = stage.Asking asked (polls + 1)
polled_once (stage.Ended result) = stage.Ended result
polled_once stage.Over = stage.Over

-- a poll that found nothing is counted, but the last one that patience allows is a timeout
abbrev pub polled : ℕ → ServerSend → ServerSend
polled patience s = if is_last_poll patience s.stage then lost Timeout s else record s { stage = polled_once s.stage }

-- the outcome of the open order is taken, and one that such an order cannot have is a fault of transport
abbrev pub taken : ℕ → Outcome → ServerSend → ServerSend
taken patience (Pending entry of) s = polled patience s
taken patience (Connected entry sent) s = connected s
taken patience (Told entry sent message) s = told (classify_of message) s
taken patience (Failed entry sent refused error) s = lost error s
taken patience Slept s = lost (Io Other) s

-- what a send comes to by an outcome: a late one changes nothing
abbrev pub come_to : ℕ → Outcome → ServerSend → ServerSend
come_to patience outcome s = if is_open s.stage then taken patience outcome s else s

-- ---- what it does to the server

-- an error of a question counts for the server, and one of an opening does not
abbrev pub lost_put : Option Asked → ℕ → NetError → Server → Server
lost_put None now error server = server
lost_put (Some asked) now error server = after_failed asked.conn error now server

-- a response to a question counts for the server, by what it is
abbrev pub told_put : Option Asked → ℕ → Result Message DnsError → Server → Server
told_put None now class server = server
told_put (Some asked) now class server = after_told asked.conn (now - asked.at) now class server

-- the last poll that patience allows counts as a timeout, and one before it does not count
abbrev pub polled_put : ℕ → Stage → ℕ → Server → Server
polled_put patience at now server = if is_last_poll patience at then lost_put (asked_of at) now Timeout server else server

-- what an outcome does to the server: one that a question cannot have counts as a fault of transport
abbrev pub heard_put : ℕ → Stage → ℕ → Outcome → Server → Server
heard_put patience at now (Pending entry of) server = polled_put patience at now server
heard_put patience at now (Connected entry sent) server = lost_put (asked_of at) now (Io Other) server
heard_put patience at now (Told entry sent message) server = told_put (asked_of at) now (classify_of message) server
heard_put patience at now (Failed entry sent refused error) server = lost_put (asked_of at) now error server
heard_put patience at now Slept server = lost_put (asked_of at) now (Io Other) server
