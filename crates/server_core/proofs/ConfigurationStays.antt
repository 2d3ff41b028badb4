-- Nothing that is done to a server changes how it is reached.
use Rattle.std.proofs.Common.{◌≡◌, ◌∙◌, ◌∷◌, ℕ, zero, suc, List, [], map, Bool, true, false, if◌then◌else◌, Option, Some, None, option_map, Result, Ok, Err, refl, sym, ap, slice_get}
use Rattle.std.proofs.lemmas.Option.{slice_get-map}
use Rattle.dns_core.specs.declared.connection.Protocol.{Protocol}
use Rattle.dns_core.specs.declared.message.Message.{Message}
use Rattle.dns_core.specs.declared.net_error.DnsError.{DnsError}
use Rattle.dns_core.specs.declared.net_error.IoKind.TheVariants.{Other}
use Rattle.dns_core.specs.declared.net_error.NetError.{NetError}
use Rattle.dns_core.specs.declared.net_error.NetError.TheVariants.{Io, Timeout}
use Rattle.dns_core.specs.Classifying.{classify_of}
use Rattle.server_core.specs.Servers.{Server, place_of, server_of}
use Rattle.server_core.specs.Hearing.{after_heard, without_dead, with_opened, changed_place, changed_at}
use Rattle.server_core.specs.Sending.{asked_of, is_last_poll, lost_put, told_put, polled_put, heard_put, after_step, after_want, after_next}
use Rattle.server_core.specs.declared.heard.Heard.{Heard}
use Rattle.server_core.specs.declared.orders.order.Outcome.{Outcome}
use Rattle.server_core.specs.declared.orders.order.Outcome.TheVariants.{Pending, Connected, Told, Failed, Slept}
use Rattle.server_core.specs.declared.sends.server_send.Asked.{Asked}
use Rattle.server_core.specs.declared.sends.server_send.Stage.{Stage}
use Rattle.server_core.specs.declared.sends.server_send.Stage.TheVariants as stage
use Rattle.server_core.specs.declared.status.Status.{Status}

pub dead_configured : (s : Server) → (without_dead s).config ≡ s.config
dead_configured s = refl

pub opened_configured : (number : ℕ) (protocol : Protocol) (s : Server) → (with_opened number protocol s).config ≡ s.config
opened_configured number protocol s = refl

pub heard_configured : (number : ℕ) (status : Status) (heard : Heard) (now : ℕ) (s : Server) → (after_heard number status heard now s).config ≡ s.config
heard_configured number status heard now s = refl

pub lost_configured : (asked : Option Asked) (now : ℕ) (error : NetError) (s : Server) → (lost_put asked now error s).config ≡ s.config
lost_configured None now error s = refl
lost_configured (Some asked) now error s = refl

pub told_configured : (asked : Option Asked) (now : ℕ) (class : Result Message DnsError) (s : Server) → (told_put asked now class s).config ≡ s.config
told_configured None now class s = refl
told_configured (Some asked) now class s = refl

-- a poll
pub polled_configured : (patience : ℕ) (at : Stage) (now : ℕ) (s : Server) → (polled_put patience at now s).config ≡ s.config
polled_configured patience at now s = by_test (is_last_poll patience at)
  where
    by_test : (last : Bool) → (if last then lost_put (asked_of at) now Timeout s else s).config ≡ s.config
    by_test true = lost_configured (asked_of at) now Timeout s
    by_test false = refl

-- an outcome
pub put_configured : (patience : ℕ) (at : Stage) (now : ℕ) (outcome : Outcome) (s : Server) → (heard_put patience at now outcome s).config ≡ s.config
put_configured patience at now (Pending entry of) s = polled_configured patience at now s
put_configured patience at now (Connected entry sent) s = lost_configured (asked_of at) now (Io Other) s
put_configured patience at now (Told entry sent message) s = told_configured (asked_of at) now (classify_of message) s
put_configured patience at now (Failed entry sent refused error) s = lost_configured (asked_of at) now error s
put_configured patience at now Slept s = lost_configured (asked_of at) now (Io Other) s

-- a step
pub step_configured : (at : Stage) (s : Server) → (after_step at s).config ≡ s.config
step_configured stage.Ready s = refl
step_configured (stage.Opening protocol order polls) s = refl
step_configured (stage.Opened protocol conn) s = refl
step_configured (stage.Asking asked polls) s = refl
step_configured (stage.Ended result) s = refl
step_configured stage.Over s = refl

-- a step that runs out of memory
pub want_configured : (at : Stage) (s : Server) → (after_want at s).config ≡ s.config
want_configured stage.Ready s = refl
want_configured (stage.Opening protocol order polls) s = refl
want_configured (stage.Opened protocol conn) s = refl
want_configured (stage.Asking asked polls) s = refl
want_configured (stage.Ended result) s = refl
want_configured stage.Over s = refl

-- the attempt of a step
pub next_configured : {T E : Type 0} (at : Stage) (made : Result T E) (s : Server) → (after_next at made s).config ≡ s.config
next_configured at (Ok done) s = step_configured at s
next_configured at (Err error) s = want_configured at s

place_kept :
    (f : Server → Server) (n : ℕ) (table : List Server) → ((s : Server) → (f s).config ≡ s.config) →
    map (λ s. s.config) (changed_place f n table) ≡ map (λ s. s.config) table
place_kept f n [] keeps = refl
place_kept f zero (s ∷ table) keeps = ap (λ config. config ∷ map (λ s. s.config) table) (keeps s)
place_kept f (suc n) (s ∷ table) keeps = ap (λ configs. s.config ∷ configs) (place_kept f n table keeps)

-- the configurations of a table whose server of a number was changed by what keeps them
pub configs_kept :
    (f : Server → Server) (n : ℕ) (table : List Server) → ((s : Server) → (f s).config ≡ s.config) →
    map (λ s. s.config) (changed_at f n table) ≡ map (λ s. s.config) table
configs_kept f n table keeps = place_kept f (place_of n) table keeps

-- the configuration of each number
pub changed_configured :
    (f : Server → Server) (n : ℕ) (table : List Server) → ((s : Server) → (f s).config ≡ s.config) →
    (k : ℕ) → option_map (λ s. s.config) (server_of (changed_at f n table) k) ≡ option_map (λ s. s.config) (server_of table k)
changed_configured f n table keeps k =
    let config : Server → _ = λ s. s.config in
    sym (slice_get-map config (changed_at f n table) (place_of k)) ∙ (ap (λ configs. slice_get configs (place_of k)) (configs_kept f n table keeps) ∙ slice_get-map config table (place_of k))
