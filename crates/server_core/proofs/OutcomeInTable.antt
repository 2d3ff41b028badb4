-- What an outcome does to the table, and to the questions that are left.
use Rattle.std.proofs.Common.{◌≡◌, ◌≤◌, ◌-◌, ◌∙◌, ℕ, Bool, true, false, ◌&&◌, not, if◌then◌else◌, List, Option, Some, None, Result, Err, refl, sym, arith}
use Rattle.dns_core.specs.declared.connection.Protocol.{Protocol}
use Rattle.dns_core.specs.declared.message.Message.{Message}
use Rattle.dns_core.specs.declared.net_error.DnsError.{DnsError}
use Rattle.dns_core.specs.declared.net_error.IoKind.TheVariants.{Other}
use Rattle.dns_core.specs.declared.net_error.NetError.{NetError}
use Rattle.dns_core.specs.declared.net_error.NetError.TheVariants.{Io, Timeout}
use Rattle.dns_core.specs.Classifying.{classify_of}
use Rattle.dns_core.specs.NetError.{is_closed}
use Rattle.server_core.specs.Servers.{Server}
use Rattle.server_core.specs.Hearing.{changed_at}
use Rattle.server_core.specs.Sending.{is_open, asked_of, opening_of, asks_left, left_of, is_last_poll, ended, tried_again, after_error, lost, after_opening, connected, polled_once, polled, lost_put, told_put, polled_put, heard_put}
use Rattle.server_core.specs.declared.orders.order.Outcome.{Outcome}
use Rattle.server_core.specs.declared.orders.order.Outcome.TheVariants as outcome
use Rattle.server_core.specs.declared.sends.server_send.Asked.{Asked}
use Rattle.server_core.specs.declared.sends.server_send.Stage.{Stage}
use Rattle.server_core.specs.declared.sends.server_send.Stage.TheVariants as stage
use Rattle.server_core.specs.declared.sends.server_send.ServerSend.{ServerSend}
use Rattle.server_core.proofs.TableChanged.{changed_same}

-- ---- the table

-- an error without a question changes nothing
pub lost_nothing : (asked : Option Asked) (now : ℕ) (error : NetError) (n : ℕ) (xs : List Server) → asked ≡ None → xs ≡ changed_at (lost_put asked now error) n xs
lost_nothing None now error n xs e = sym (changed_same n xs)
lost_nothing (Some a) now error n xs e = cc

-- nor does a response without one
pub told_nothing : (asked : Option Asked) (now : ℕ) (class : Result Message DnsError) (n : ℕ) (xs : List Server) → asked ≡ None → xs ≡ changed_at (told_put asked now class) n xs
told_nothing None now class n xs e = sym (changed_same n xs)
told_nothing (Some a) now class n xs e = cc

-- nor a poll
polled_nothing : (last : Bool) (asked : Option Asked) (now n : ℕ) (xs : List Server) → asked ≡ None → xs ≡ changed_at (λ server. if last then lost_put asked now Timeout server else server) n xs
polled_nothing true asked now n xs e = lost_nothing asked now Timeout n xs e
polled_nothing false asked now n xs e = sym (changed_same n xs)

-- where no order is open there is no question
late_asks : (at : Stage) → is_open at ≡ false → asked_of at ≡ None
late_asks stage.Ready e = refl
late_asks (stage.Opening protocol order polls) e = refl
late_asks (stage.Opened protocol conn) e = refl
late_asks (stage.Asking asked polls) e = cc
late_asks (stage.Ended result) e = refl
late_asks stage.Over e = refl

-- nor where a connection is being opened
pub opening_asks : (at : Stage) (opening : Protocol × ℕ) → opening_of at ≡ Some opening → asked_of at ≡ None
opening_asks stage.Ready opening e = refl
opening_asks (stage.Opening protocol order polls) opening e = refl
opening_asks (stage.Opened protocol conn) opening e = refl
opening_asks (stage.Asking asked polls) opening e = cc
opening_asks (stage.Ended result) opening e = refl
opening_asks stage.Over opening e = refl

-- an outcome without a question changes nothing
heard_nothing : (patience : ℕ) (at : Stage) (now : ℕ) (o : Outcome) (n : ℕ) (xs : List Server) → asked_of at ≡ None → xs ≡ changed_at (heard_put patience at now o) n xs
heard_nothing patience at now (outcome.Pending entry of) n xs e = polled_nothing (is_last_poll patience at) (asked_of at) now n xs e
heard_nothing patience at now (outcome.Connected entry sent) n xs e = lost_nothing (asked_of at) now (Io Other) n xs e
heard_nothing patience at now (outcome.Told entry sent message) n xs e = told_nothing (asked_of at) now (classify_of message) n xs e
heard_nothing patience at now (outcome.Failed entry sent refused error) n xs e = lost_nothing (asked_of at) now error n xs e
heard_nothing patience at now outcome.Slept n xs e = lost_nothing (asked_of at) now (Io Other) n xs e

-- nor does a late one
pub heard_late : (patience : ℕ) (at : Stage) (now : ℕ) (o : Outcome) (n : ℕ) (xs : List Server) → is_open at ≡ false → xs ≡ changed_at (heard_put patience at now o) n xs
heard_late patience at now o n xs e = heard_nothing patience at now o n xs (late_asks at e)

-- what a poll does to the table is what it does to the server
pub polled_change :
    (patience : ℕ) (at : Stage) (now n : ℕ) (xs ys : List Server) →
    ys ≡ (if is_last_poll patience at then changed_at (lost_put (asked_of at) now Timeout) n xs else xs) →
    ys ≡ changed_at (polled_put patience at now) n xs
polled_change patience at now n xs ys is = by_test (is_last_poll patience at) is
  where
    by_test :
        (last : Bool) → ys ≡ (if last then changed_at (lost_put (asked_of at) now Timeout) n xs else xs) →
        ys ≡ changed_at (λ server. if last then lost_put (asked_of at) now Timeout server else server) n xs
    by_test true e = e
    by_test false e = e ∙ sym (changed_same n xs)

-- ---- the questions that are left

-- the second try takes the question of the first
error_asks :
    (retried again closed : Bool) (error : NetError) (s : ServerSend) →
    asks_left (if again && (not retried && closed) then tried_again s else ended (Err error) s) ≤ (if retried then 1 else 2) - 1
error_asks true true closed error s = omega arith
error_asks true false closed error s = omega arith
error_asks false true true error s = omega arith
error_asks false true false error s = omega arith
error_asks false false closed error s = omega arith

lost_at : (error : NetError) (s : ServerSend) (at : Stage) → asks_left (after_error (asked_of at) error s) ≤ left_of (if s.retried then 1 else 2) at
lost_at error s stage.Ready = omega arith
lost_at error s (stage.Opening protocol order polls) = omega arith
lost_at error s (stage.Opened protocol conn) = omega arith
lost_at error s (stage.Asking asked polls) = error_asks s.retried asked.again (is_closed error) error s
lost_at error s (stage.Ended result) = omega arith
lost_at error s stage.Over = omega arith

-- an error leaves no more questions
pub lost_asks : (error : NetError) (s : ServerSend) → asks_left (lost error s) ≤ asks_left s
lost_asks error s = lost_at error s s.stage

opening_left : (most : ℕ) (at : Stage) (opening : Protocol × ℕ) → opening_of at ≡ Some opening → most ≤ left_of most at
opening_left most stage.Ready opening e = omega arith
opening_left most (stage.Opening protocol order polls) opening e = omega arith
opening_left most (stage.Opened protocol conn) opening e = omega arith
opening_left most (stage.Asking asked polls) opening e = cc
opening_left most (stage.Ended result) opening e = cc
opening_left most stage.Over opening e = cc

-- nor does a connection
pub connected_asks : (s : ServerSend) → asks_left (connected s) ≤ asks_left s
connected_asks s = by_opening (opening_of s.stage) refl
  where
    by_opening : (o : Option (Protocol × ℕ)) → opening_of s.stage ≡ o → asks_left (after_opening o s) ≤ asks_left s
    by_opening None e = lost_asks (Io Other) s
    by_opening (Some opening) e = opening_left (if s.retried then 1 else 2) s.stage opening e

once_left : (most : ℕ) (at : Stage) → left_of most (polled_once at) ≤ left_of most at
once_left most stage.Ready = omega arith
once_left most (stage.Opening protocol order polls) = omega arith
once_left most (stage.Opened protocol conn) = omega arith
once_left most (stage.Asking asked polls) = omega arith
once_left most (stage.Ended result) = omega arith
once_left most stage.Over = omega arith

-- nor does a poll
pub polled_asks : (patience : ℕ) (s : ServerSend) → asks_left (polled patience s) ≤ asks_left s
polled_asks patience s = by_test (is_last_poll patience s.stage)
  where
    by_test : (last : Bool) → asks_left (if last then lost Timeout s else record s { stage = polled_once s.stage }) ≤ asks_left s
    by_test true = lost_asks Timeout s
    by_test false = once_left (if s.retried then 1 else 2) s.stage
