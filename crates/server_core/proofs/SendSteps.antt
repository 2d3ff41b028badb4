-- What the steps of a send come to.
use Rattle.std.proofs.Common.{◌≡◌, ◌∙◌, ◌<◌, ◌≤◌, ◌+◌, ℕ, zero, suc, Bool, true, false, if◌then◌else◌, List, [], ◌∷◌, Some, Result, Ok, Err, length, slice_get, IfOk, OnOk, OnErr, MatchResult, inl, inr, refl, sym, ap, subst, arith}
use Rattle.std.proofs.lemmas.Result.{IfOk-weaker}
use Rattle.dns_core.specs.declared.connection.ConnectionConfig.{ConnectionConfig}
use Rattle.dns_core.specs.declared.connection.Protocol.{Protocol}
use Rattle.server_core.specs.declared.name_server.Connection.{Connection}
use Rattle.server_core.specs.declared.sends.server_send.Stage.{Stage}
use Rattle.server_core.specs.declared.sends.server_send.Stage.TheVariants as stage
use Rattle.server_core.specs.declared.sends.server_send.SendStep.{SendStep}
use Rattle.server_core.specs.declared.sends.server_send.ServerSend.{ServerSend}
use Rattle.server_core.specs.Choice.{IsFirstLeast}
use Rattle.server_core.specs.Policy.{allows_connection, allows_config, is_before, is_config_before}
use Rattle.server_core.specs.Servers.{Server, place_of, server_of}
use Rattle.server_core.specs.Hearing.{changed_at, without_dead, with_opened}
use Rattle.server_core.specs.Sending.{left_of, asks_left, asks_of, after_step, after_want, after_next, IsAskedOver, IsOpenedOver, OpensSelected, Begins, StepIs}
use Rattle.server_core.proofs.TableChanged.{changed_length, changed_get, changed_same}

at_place : (n : ℕ) (xs : List Server) → n < length xs → (s : Server) × (slice_get xs n ≡ Some s)
at_place n [] h = absurd (omega arith)
at_place zero (x ∷ xs) h = (x, refl)
at_place (suc n) (x ∷ xs) h = at_place n xs (omega arith)

-- a live number has its server
pub there_is : (n : ℕ) (xs : List Server) → place_of n < length xs → (s : Server) × (server_of xs n ≡ Some s)
there_is n xs h = at_place (place_of n) xs h

-- a change keeps the count of servers
pub length_changed : (f : Server → Server) (n : ℕ) (xs ys : List Server) → ys ≡ changed_at f n xs → length ys ≡ length xs
length_changed f n xs ys is = ap length is ∙ changed_length f n xs

-- an outcome keeps the count of servers
pub put_kept :
    {T E : Type 0} (f : Server → Server) (n : ℕ) (xs ys : List Server) (made : Result T E) →
    MatchResult made (λ done. ys ≡ changed_at f n xs) (λ error. ys ≡ xs) → length ys ≡ length xs
put_kept f n xs ys (Ok done) changed = length_changed f n xs ys changed
put_kept f n xs ys (Err error) same = ap length same

-- a number stays live where a server was changed
pub live_changed : (f : Server → Server) (n k : ℕ) (xs ys : List Server) → ys ≡ changed_at f n xs → k < length xs → k < length ys
live_changed f n k xs ys is h = let same = length_changed f n xs ys is in omega arith

-- the server that was changed
pub read_changed :
    (f : Server → Server) (n : ℕ) (xs ys : List Server) (s t : Server) → ys ≡ changed_at f n xs → server_of xs n ≡ Some s →
    server_of ys n ≡ Some t → t ≡ f s
read_changed f n xs ys s t is was now = let changed = changed_get f n xs s was in cc

-- the configuration that was selected is opened
pub opens_selected :
    {E : Type 0} (s : ServerSend) (number place : ℕ) (server : Server) (made : Result SendStep E) (next : Stage) →
    IsFirstLeast (allows_config s.policy) is_config_before server.config.connections place →
    ((c : ConnectionConfig) → slice_get server.config.connections place ≡ Some c → IfOk made (λ step. IsOpenedOver number c server step next)) →
    IfOk made (λ step. OpensSelected s number server step next)
opens_selected s number place server made next chosen each =
    IfOk-weaker made (λ step. IsOpenedOver number chosen.item server step next) (λ step. OpensSelected s number server step next)
    (λ step over. inl (record { place = place; chosen = chosen; over = over }))
    (each chosen.item chosen.there)

-- the request is asked over the connection that was selected
pub begins_again :
    {E : Type 0} (s : ServerSend) (number now place : ℕ) (server : Server) (made : Result SendStep E) (next : Stage) →
    IsFirstLeast (allows_connection s.policy) (is_before now) server.connections place →
    ((c : Connection) → slice_get server.connections place ≡ Some c → IfOk made (λ step. IsAskedOver s now true c.protocol c.number server step next)) →
    IfOk made (λ step. Begins s number now server step next)
begins_again s number now place server made next chosen each =
    IfOk-weaker made (λ step. IsAskedOver s now true chosen.item.protocol chosen.item.number server step next) (λ step. Begins s number now server step next)
    (λ step over. inl (record { place = place; chosen = chosen; over = over }))
    (each chosen.item chosen.there)

-- the step of a send that is ready
pub step_begins :
    {E : Type 0} (s : ServerSend) (at next : Stage) (number now : ℕ) (server : Server) (made : Result SendStep E) → at ≡ stage.Ready →
    IfOk made (λ step. Begins s number now (without_dead server) step next) → IfOk made (λ step. StepIs s at number now server step next)
step_begins {E} s at next number now server made is begins =
    subst (λ (x : Stage). IfOk made (λ step. StepIs s x number now server step next)) (sym is) begins

-- the step of one whose connection was opened
pub step_asks :
    {E : Type 0} (s : ServerSend) (at next : Stage) (number now conn : ℕ) (protocol : Protocol) (server : Server) (made : Result SendStep E) →
    at ≡ stage.Opened protocol conn → IfOk made (λ step. IsAskedOver s now false protocol conn server step next) →
    IfOk made (λ step. StepIs s at number now server step next)
step_asks {E} s at next number now conn protocol server made is asked =
    subst (λ (x : Stage). IfOk made (λ step. StepIs s x number now server step next)) (sym is) asked

-- the table after the first step
pub table_begins :
    {T E : Type 0} (at : Stage) (n : ℕ) (xs ys : List Server) (made : Result T E) → at ≡ stage.Ready →
    ys ≡ changed_at without_dead n xs → ys ≡ changed_at (after_next at made) n xs
table_begins at n xs ys (Ok step) ready dropped = subst (λ (x : Stage). ys ≡ changed_at (after_step x) n xs) (sym ready) dropped
table_begins at n xs ys (Err error) ready dropped = subst (λ (x : Stage). ys ≡ changed_at (after_want x) n xs) (sym ready) dropped

-- the table after the opened connection is kept, and where memory runs out before
pub table_asks :
    {T E : Type 0} (at : Stage) (n conn : ℕ) (protocol : Protocol) (xs ys : List Server) (made : Result T E) → at ≡ stage.Opened protocol conn →
    OnOk made (ys ≡ changed_at (with_opened conn protocol) n xs) → OnErr made (ys ≡ xs) → ys ≡ changed_at (after_next at made) n xs
table_asks at n conn protocol xs ys (Ok step) opened kept same =
    subst (λ (x : Stage). ys ≡ changed_at (after_step x) n xs) (sym opened) kept
table_asks at n conn protocol xs ys (Err error) opened kept same =
    subst (λ (x : Stage). ys ≡ changed_at (after_want x) n xs) (sym opened) (same ∙ sym (changed_same n xs))

-- a question over a connection is one of those that are left
over_asks :
    (s : ServerSend) (now conn most : ℕ) (again : Bool) (protocol : Protocol) (server : Server) (made : SendStep) (next : Stage) →
    1 ≤ most → IsAskedOver s now again protocol conn server made next → left_of most next + asks_of made ≤ most
over_asks s now conn most again protocol server made next some asked =
    rw (asked.0, asked.1) (omega arith)

-- an opening takes no question
over_opens :
    (number most : ℕ) (config : ConnectionConfig) (server : Server) (made : SendStep) (next : Stage) →
    IsOpenedOver number config server made next → left_of most next + asks_of made ≤ most
over_opens number most config server made next opened = rw (opened.0, opened.1) (omega arith)

begins_within :
    (s : ServerSend) (number now most : ℕ) (server : Server) (made : SendStep) (next : Stage) → 1 ≤ most →
    Begins s number now server made next → left_of most next + asks_of made ≤ most
begins_within s number now most server made next some (inl again) =
    over_asks s now again.chosen.item.number most true again.chosen.item.protocol server made next some again.over
begins_within s number now most server made next some (inr without) = by_opening without.1
  where
    by_opening : OpensSelected s number server made next → left_of most next + asks_of made ≤ most
    by_opening (inl opened) = over_opens number most opened.chosen.item server made next opened.over
    by_opening (inr closed) = rw (closed.done, closed.over) (omega arith)

-- one question at least is left before the end
most_of : (retried : Bool) → 1 ≤ (if retried then 1 else 2)
most_of true = omega arith
most_of false = omega arith

-- the questions that a send may still ask after it began
pub asks_begun :
    {E : Type 0} (old new : ServerSend) (number now : ℕ) (server : Server) (made : Result SendStep E) → old.stage ≡ stage.Ready →
    new.retried ≡ old.retried → IfOk made (λ step. Begins old number now server step new.stage) →
    IfOk made (λ step. asks_left new + asks_of step ≤ asks_left old)
asks_begun old new number now server made ready same begins =
    IfOk-weaker made (λ step. Begins old number now server step new.stage) (λ step. asks_left new + asks_of step ≤ asks_left old)
    (λ step b. rw (ready, same) (begins_within old number now (if old.retried then 1 else 2) server step new.stage (most_of old.retried) b))
    begins

-- and after it asked over the opened connection
pub asks_asked :
    {E : Type 0} (old new : ServerSend) (now conn : ℕ) (protocol : Protocol) (server : Server) (made : Result SendStep E) →
    old.stage ≡ stage.Opened protocol conn → new.retried ≡ old.retried →
    IfOk made (λ step. IsAskedOver old now false protocol conn server step new.stage) →
    IfOk made (λ step. asks_left new + asks_of step ≤ asks_left old)
asks_asked old new now conn protocol server made opened same asked =
    IfOk-weaker made (λ step. IsAskedOver old now false protocol conn server step new.stage) (λ step. asks_left new + asks_of step ≤ asks_left old)
    (λ step a. rw (opened, same) (over_asks old now conn (if old.retried then 1 else 2) false protocol server step new.stage (most_of old.retried) a))
    asked
