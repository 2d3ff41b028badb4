-- What a send comes to by an outcome: its server, its request and its policy stay, and its order is open as long as it is kept.
use Rattle.std.proofs.Common.{◌≡◌, ◌∙◌, ℕ, Bool, true, false, if◌then◌else◌, Option, Some, None, Err, refl}
use Rattle.dns_core.specs.declared.connection.Protocol.{Protocol}
use Rattle.dns_core.specs.declared.net_error.IoKind.TheVariants.{Other}
use Rattle.dns_core.specs.declared.net_error.NetError.{NetError}
use Rattle.dns_core.specs.declared.net_error.NetError.TheVariants.{Io, Timeout}
use Rattle.server_core.specs.Sending.{is_open, asked_of, opening_of, is_last_poll, after_poll, after_outcome, after_put, ended, tried_again, is_tried_again, after_error, lost, after_opening, polled_once, polled, taken, come_to}
use Rattle.server_core.specs.declared.orders.order.After.{After}
use Rattle.server_core.specs.declared.orders.order.After.TheVariants as after
use Rattle.server_core.specs.declared.orders.order.Outcome.{Outcome}
use Rattle.server_core.specs.declared.orders.order.Outcome.TheVariants as outcome
use Rattle.server_core.specs.declared.sends.server_send.Asked.{Asked}
use Rattle.server_core.specs.declared.sends.server_send.Stage.{Stage}
use Rattle.server_core.specs.declared.sends.server_send.Stage.TheVariants as stage
use Rattle.server_core.specs.declared.sends.server_send.ServerSend.{ServerSend}

-- ---- its server, its request and its policy

-- only the stage and the second try may differ
abbrev pub IsSameSend : ServerSend → ServerSend → Type 0
IsSameSend s next = next ≡ record s { retried = next.retried; stage = next.stage }

error_same : (asked : Option Asked) (error : NetError) (s : ServerSend) → IsSameSend s (after_error asked error s)
error_same None error s = refl
error_same (Some asked) error s = by_test (is_tried_again s.retried asked error)
  where
    by_test : (again : Bool) → IsSameSend s (if again then tried_again s else ended (Err error) s)
    by_test true = refl
    by_test false = refl

opening_same : (opening : Option (Protocol × ℕ)) (s : ServerSend) → IsSameSend s (after_opening opening s)
opening_same None s = error_same (asked_of s.stage) (Io Other) s
opening_same (Some opening) s = refl

polled_same : (patience : ℕ) (s : ServerSend) → IsSameSend s (polled patience s)
polled_same patience s = by_test (is_last_poll patience s.stage)
  where
    by_test : (last : Bool) → IsSameSend s (if last then lost Timeout s else record s { stage = polled_once s.stage })
    by_test true = error_same (asked_of s.stage) Timeout s
    by_test false = refl

taken_same : (patience : ℕ) (o : Outcome) (s : ServerSend) → IsSameSend s (taken patience o s)
taken_same patience (outcome.Pending entry of) s = polled_same patience s
taken_same patience (outcome.Connected entry sent) s = opening_same (opening_of s.stage) s
taken_same patience (outcome.Told entry sent message) s = refl
taken_same patience (outcome.Failed entry sent refused error) s = error_same (asked_of s.stage) error s
taken_same patience outcome.Slept s = error_same (asked_of s.stage) (Io Other) s

-- the send goes to the same server, with the same request and policy
pub come_same : (patience : ℕ) (o : Outcome) (s : ServerSend) → IsSameSend s (come_to patience o s)
come_same patience o s = by_test (is_open s.stage)
  where
    by_test : (is : Bool) → IsSameSend s (if is then taken patience o s else s)
    by_test true = taken_same patience o s
    by_test false = refl

-- ---- its order

-- the order goes on
abbrev pub is_kept : After → Bool
is_kept after.Kept = true
is_kept after.Ended = false
is_kept after.GiveUp = false
is_kept after.Late = false

error_ends : (asked : Option Asked) (error : NetError) (s : ServerSend) → is_open (after_error asked error s).stage ≡ false
error_ends None error s = refl
error_ends (Some asked) error s = by_test (is_tried_again s.retried asked error)
  where
    by_test : (again : Bool) → is_open (if again then tried_again s else ended (Err error) s).stage ≡ false
    by_test true = refl
    by_test false = refl

opening_ends : (opening : Option (Protocol × ℕ)) (s : ServerSend) → is_open (after_opening opening s).stage ≡ false
opening_ends None s = error_ends (asked_of s.stage) (Io Other) s
opening_ends (Some opening) s = refl

once_open : (at : Stage) → is_open (polled_once at) ≡ is_open at
once_open stage.Ready = refl
once_open (stage.Opening protocol order polls) = refl
once_open (stage.Opened protocol conn) = refl
once_open (stage.Asking asked polls) = refl
once_open (stage.Ended result) = refl
once_open stage.Over = refl

polled_kept : (patience : ℕ) (s : ServerSend) → is_open s.stage ≡ true → is_open (polled patience s).stage ≡ is_kept (after_poll patience s.stage)
polled_kept patience s open_now = by_test (is_last_poll patience s.stage)
  where
    by_test :
        (last : Bool) →
        is_open (if last then lost Timeout s else record s { stage = polled_once s.stage }).stage ≡ is_kept (if last then after.GiveUp else after.Kept)
    by_test true = error_ends (asked_of s.stage) Timeout s
    by_test false = once_open s.stage ∙ open_now

taken_kept : (patience : ℕ) (o : Outcome) (s : ServerSend) → is_open s.stage ≡ true → is_open (taken patience o s).stage ≡ is_kept (after_outcome patience s.stage o)
taken_kept patience (outcome.Pending entry of) s open_now = polled_kept patience s open_now
taken_kept patience (outcome.Connected entry sent) s open_now = opening_ends (opening_of s.stage) s
taken_kept patience (outcome.Told entry sent message) s open_now = refl
taken_kept patience (outcome.Failed entry sent refused error) s open_now = error_ends (asked_of s.stage) error s
taken_kept patience outcome.Slept s open_now = error_ends (asked_of s.stage) (Io Other) s

-- an order is open after its outcome exactly where it is kept
pub come_kept : (patience : ℕ) (o : Outcome) (s : ServerSend) → is_open (come_to patience o s).stage ≡ is_kept (after_put patience s.stage o)
come_kept patience o s = by_test (is_open s.stage) refl
  where
    by_test :
        (is : Bool) → is_open s.stage ≡ is →
        is_open (if is then taken patience o s else s).stage ≡ is_kept (if is then after_outcome patience s.stage o else after.Late)
    by_test true e = taken_kept patience o s e
    by_test false e = e
