-- What an order and an outcome make of an attempt.
use Rattle.std.proofs.Common.{◌≡◌, ◌∙◌, ℕ, Bool, true, false, cond, ◌||◌, inl, inr, List, [], ◌∷◌, slice_get, zero, suc, refl, sym, subst, Option, Some, None, Err}
use Rattle.std.specs.Prelude.{IsFalse, IsTrue}
use Rattle.std.specs.List.{list_any}
use Rattle.dns_core.specs.declared.connection.ConnectionConfig.{ConnectionConfig}
use Rattle.dns_core.specs.declared.connection.Protocol.{Protocol}
use Rattle.dns_core.specs.declared.net_error.IoKind.TheVariants.{Other}
use Rattle.dns_core.specs.declared.net_error.NetError.{NetError}
use Rattle.dns_core.specs.declared.net_error.NetError.TheVariants.{Io, Timeout}
use Rattle.dns_core.specs.declared.request.DnsRequest.{DnsRequest}
use Rattle.resolution.specs.Lookups.{Answered}
use Rattle.server_core.specs.Policy.{allows_server, allows_config}
use Rattle.server_core.specs.Sending.{is_open, end_of, StepIs, asked_of, opening_of, is_last_poll, ended, tried_again, is_tried_again, after_error, lost, after_opening, polled_once, polled, taken, come_to}
use Rattle.server_core.specs.Servers.{Server}
use Rattle.server_core.specs.declared.orders.order.Order.{Order}
use Rattle.server_core.specs.declared.orders.order.Outcome.{Outcome}
use Rattle.server_core.specs.declared.orders.order.Outcome.TheVariants as outcome
use Rattle.server_core.specs.declared.sends.policy.ConnectionPolicy.{ConnectionPolicy}
use Rattle.server_core.specs.declared.sends.server_send.Asked.{Asked}
use Rattle.server_core.specs.declared.sends.server_send.SendStep.{SendStep}
use Rattle.server_core.specs.declared.sends.server_send.SendStep.TheVariants as made
use Rattle.server_core.specs.declared.sends.server_send.ServerSend.{ServerSend}
use Rattle.server_core.specs.declared.sends.server_send.Stage.{Stage}
use Rattle.server_core.specs.declared.sends.server_send.Stage.TheVariants as stage
use Rattle.pool_rules.specs.RetryQueue.{may_ask}
use Rattle.pool_lookup.specs.declared.attempt.Attempt.{Attempt}
use Rattle.pool_lookup.specs.Attempts.{IsInFlight, GoesTo}
use Rattle.pool_lookup.specs.Giving.{ordered}

-- ---- an order is given

-- an order is a question or an opening, so the send goes on
pub stays_on : (s : ServerSend) (at : Stage) (number now : ℕ) (server : Server) (order : Order) (next : Stage) → IsInFlight at → StepIs s at number now server (made.Order order) next → IsInFlight next
stays_on s stage.Ready number now server order next on (inl a) = subst IsInFlight (sym a.over.1) tt
stays_on s stage.Ready number now server order next on (inr (none, inl o)) = subst IsInFlight (sym o.over.1) tt
stays_on s stage.Ready number now server order next on (inr (none, inr c)) = let e = c.done in cc
stays_on s (stage.Opening protocol at polls) number now server order next on h = let e = h.0 in cc
stays_on s (stage.Opened protocol conn) number now server order next on h = subst IsInFlight (sym h.1) tt
stays_on s (stage.Asking asked polls) number now server order next on h = let e = h.0 in cc
stays_on s (stage.Ended result) number now server order next on h = absurd on
stays_on s stage.Over number now server order next on h = absurd on

-- a policy that allows one of the ways to reach a server picks one
none_picked : (policy : ConnectionPolicy) (cs : List ConnectionConfig) → list_any (allows_config policy) cs ≡ true → ((k : ℕ) (x : ConnectionConfig) → slice_get cs k ≡ Some x → IsFalse (allows_config policy x)) → ⊥
none_picked policy [] h none = cc
none_picked policy (c ∷ cs) h none = at_head (allows_config policy c) refl h (λ k. none_picked policy cs k (λ n x. none (suc n) x))
  where
    at_head : (b : Bool) → allows_config policy c ≡ b → (b || list_any (allows_config policy) cs) ≡ true → (list_any (allows_config policy) cs ≡ true → ⊥) → ⊥
    at_head true e h next = let n : allows_config policy c ≡ false = none zero c refl in let wrong : false ≡ true = sym n ∙ e in cc
    at_head false e h next = next h

-- the step of an attempt without an open order at a server that is reached gives an order
pub gives_order : (s : ServerSend) (at : Stage) (number now : ℕ) (server : Server) (step : SendStep) (next : Stage) → IsInFlight at → is_open at ≡ false → IsTrue (allows_server s.policy server)
    → StepIs s at number now server step next → (order : Order) × (step ≡ made.Order order)
gives_order s stage.Ready number now server step next on idle over (inl a) = (_, a.over.0)
gives_order s stage.Ready number now server step next on idle over (inr (none, inl o)) = (_, o.over.0)
gives_order s stage.Ready number now server step next on idle over (inr (none, inr c)) = absurd (none_picked s.policy server.config.connections over c.unreached)
gives_order s (stage.Opening protocol at polls) number now server step next on idle over h = cc
gives_order s (stage.Opened protocol conn) number now server step next on idle over h = (_, h.0)
gives_order s (stage.Asking asked polls) number now server step next on idle over h = cc
gives_order s (stage.Ended result) number now server step next on idle over h = absurd on
gives_order s stage.Over number now server step next on idle over h = absurd on

-- the attempt that gave it goes to its server as before
pub ordered_goes : (request : DnsRequest) (a : Attempt) (number : ℕ) (next : Stage) → GoesTo request a → IsInFlight next → GoesTo request (ordered number next a)
ordered_goes request a number next g on = record { on = on; server = g.server; asks = g.asks; allowed = g.allowed }

-- ---- an outcome is taken

-- its server, its request and its policy stay, and it goes on as long as it has not ended
pub record StaysOn (s t : ServerSend) : Type 0 where
  pub server : t.server ≡ s.server
  pub request : t.request ≡ s.request
  pub policy : t.policy ≡ s.policy
  pub on : IsInFlight s.stage → end_of t.stage ≡ None → IsInFlight t.stage

none_ended : {T U : Type 0} (o : Answered) → U → Some o ≡ None → T
none_ended o u h = cc

error_stays : (asked : Option Asked) (e : NetError) (s : ServerSend) → StaysOn s (after_error asked e s)
error_stays None e s = record { server = refl; request = refl; policy = refl; on = none_ended (Err e) }
error_stays (Some asked) e s = by_test (is_tried_again s.retried asked e)
  where
    by_test : (again : Bool) → StaysOn s (cond again (tried_again s) (ended (Err e) s))
    by_test true = record { server = refl; request = refl; policy = refl; on = λ on h. tt }
    by_test false = record { server = refl; request = refl; policy = refl; on = none_ended (Err e) }

opening_stays : (opening : Option (Protocol × ℕ)) (s : ServerSend) → StaysOn s (after_opening opening s)
opening_stays None s = error_stays (asked_of s.stage) (Io Other) s
opening_stays (Some opening) s = record { server = refl; request = refl; policy = refl; on = λ on h. tt }

once_on : (at : Stage) → IsInFlight at → IsInFlight (polled_once at)
once_on stage.Ready on = tt
once_on (stage.Opening protocol order polls) on = tt
once_on (stage.Opened protocol conn) on = tt
once_on (stage.Asking asked polls) on = tt
once_on (stage.Ended result) on = absurd on
once_on stage.Over on = absurd on

polled_stays : (patience : ℕ) (s : ServerSend) → StaysOn s (polled patience s)
polled_stays patience s = by_test (is_last_poll patience s.stage)
  where
    by_test : (last : Bool) → StaysOn s (cond last (lost Timeout s) (record s { stage = polled_once s.stage }))
    by_test true = error_stays (asked_of s.stage) Timeout s
    by_test false = record { server = refl; request = refl; policy = refl; on = λ on h. once_on s.stage on }

taken_stays : (patience : ℕ) (o : Outcome) (s : ServerSend) → StaysOn s (taken patience o s)
taken_stays patience (outcome.Pending entry of) s = polled_stays patience s
taken_stays patience (outcome.Connected entry sent) s = opening_stays (opening_of s.stage) s
taken_stays patience (outcome.Told entry sent message) s = record { server = refl; request = refl; policy = refl; on = none_ended _ }
taken_stays patience (outcome.Failed entry sent refused error) s = error_stays (asked_of s.stage) error s
taken_stays patience outcome.Slept s = error_stays (asked_of s.stage) (Io Other) s

pub come_stays : (patience : ℕ) (o : Outcome) (s : ServerSend) → StaysOn s (come_to patience o s)
come_stays patience o s = by_test (is_open s.stage)
  where
    by_test : (is : Bool) → StaysOn s (cond is (taken patience o s) s)
    by_test true = taken_stays patience o s
    by_test false = record { server = refl; request = refl; policy = refl; on = λ on h. on }

-- an attempt that has not ended goes to its server as before
pub come_goes : (request : DnsRequest) (patience : ℕ) (o : Outcome) (a : Attempt) → GoesTo request a → end_of (come_to patience o a.send).stage ≡ None → GoesTo request (record a { send = come_to patience o a.send })
come_goes request patience o a g none =
    let s = come_stays patience o a.send in
    record {
      on = s.on g.on none;
      server = s.server ∙ g.server;
      asks = s.request ∙ g.asks;
      allowed = subst (λ (p : ConnectionPolicy). IsTrue (may_ask p.disable_udp a.candidate)) (sym s.policy) g.allowed;
    }
