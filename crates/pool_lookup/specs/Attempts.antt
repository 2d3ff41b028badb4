-- An attempt: one server that is tried once.
use Rattle.std.specs.Prelude.{◌≡◌, ℕ, Bool, false, ◌&&◌, ◌==◌, not, IsTrue, List, Some}
use Rattle.dns_core.specs.declared.request.DnsRequest.{DnsRequest}
use Rattle.server_core.specs.Policy.{allows_server}
use Rattle.server_core.specs.Sending.{is_open}
use Rattle.server_core.specs.Servers.{Server, server_of}
use Rattle.server_core.specs.declared.sends.server_send.Stage.{Stage}
use Rattle.server_core.specs.declared.sends.server_send.Stage.TheVariants as stage
use Rattle.pool_rules.specs.RetryQueue.{may_ask}
use Rattle.pool_rules.specs.declared.pool_server.PoolServer.{PoolServer}
use Rattle.pool_lookup.specs.declared.attempt.Attempt.{Attempt}

-- the request is sent to the server for the first time, over UDP too or without it
abbrev pub first_attempt : DnsRequest → Bool → PoolServer → Attempt
first_attempt request udp_off c =
    record { candidate = c; order = 0; send = record { server = c.server; request = request; policy = record { disable_udp = udp_off }; retried = false; stage = stage.Ready } }

-- its open order has the number
abbrev pub is_open_at : ℕ → Attempt → Bool
is_open_at number a = (a.order == number) && is_open a.send.stage

-- no order of it is open, so the next one is to be given
abbrev pub is_idle : Attempt → Bool
is_idle a = not (is_open a.send.stage)

-- its send goes on: it has no end that is still to be heard
abbrev pub IsInFlight : Stage → Type 0
IsInFlight stage.Ready = Unit {0}
IsInFlight (stage.Opening protocol order polls) = Unit {0}
IsInFlight (stage.Opened protocol conn) = Unit {0}
IsInFlight (stage.Asking asked polls) = Unit {0}
IsInFlight (stage.Ended result) = ⊥
IsInFlight stage.Over = ⊥

-- it goes to its server with the request, over what the server may be asked over
pub record GoesTo (request : DnsRequest) (a : Attempt) : Type 0 where
  pub on : IsInFlight a.send.stage
  pub server : a.send.server ≡ a.candidate.server
  pub asks : a.send.request ≡ request
  pub allowed : IsTrue (may_ask a.send.policy.disable_udp a.candidate)

-- An order can be given: none of it is open, and its server is reached over what it may be asked over.
pub record CanGive (table : List Server) (a : Attempt) : Type 0 where
  pub on : IsInFlight a.send.stage
  pub idle : IsTrue (is_idle a)
  pub server : Server
  pub there : server_of table a.send.server ≡ Some server
  pub over : IsTrue (allows_server a.send.policy server)
