-- What an outcome of its order ends a send with, or leaves of it.
use Rattle.std.proofs.Common.{◌≡◌, ◌+◌, ℕ, Bool, true, false, cond, Option, Some, None, Err, refl, sym, ap, subst, ◌∙◌, if◌then◌else◌}
use Rattle.std.proofs.lemmas.Option.{same_Some, none-some}
use Rattle.dns_core.specs.declared.connection.Protocol.{Protocol}
use Rattle.dns_core.specs.declared.net_error.NetError.{NetError}
use Rattle.dns_core.specs.declared.net_error.NetError.TheVariants as net
use Rattle.resolution.specs.Lookups.{Answered}
use Rattle.server_core.specs.Sending.{is_open, asked_of, opening_of, pendings, end_of, is_last_poll, is_tried_again, after_error, after_opening, after_put, lost, polled, polled_once, taken, come_to}
use Rattle.server_core.specs.declared.orders.order.After.{After}
use Rattle.server_core.specs.declared.orders.order.After.TheVariants as after
use Rattle.server_core.specs.declared.orders.order.Outcome.{Outcome}
use Rattle.server_core.specs.declared.orders.order.Outcome.TheVariants.{Pending, Connected, Told, Failed, Slept}
use Rattle.server_core.specs.declared.sends.server_send.Asked.{Asked}
use Rattle.server_core.specs.declared.sends.server_send.Stage.{Stage}
use Rattle.server_core.specs.declared.sends.server_send.Stage.TheVariants as stage
use Rattle.server_core.specs.declared.sends.server_send.ServerSend.{ServerSend}
use Rattle.pool_lookup.specs.Running.{IsFor}

-- what an order that was lost leaves
lost_by : (o : Option Asked) (error : NetError) (s : ServerSend) (result : Answered) → end_of (after_error o error s).stage ≡ Some result → Err error ≡ result
lost_by None error s result is = same_Some _ _ is
lost_by (Some asked) error s result is = by (is_tried_again s.retried asked error) is
  where
    by : (again : Bool) → end_of (cond again (record s { retried = true; stage = stage.Ready }) (record s { stage = stage.Ended (Err error) })).stage ≡ Some result → Err error ≡ result
    by true h = cc
    by false h = same_Some _ _ h

pub lost_end : (error : NetError) (s : ServerSend) (result : Answered) → end_of (lost error s).stage ≡ Some result → Err error ≡ result
lost_end error s result is = lost_by (asked_of s.stage) error s result is

-- a poll before the last one ends nothing
pub once_open : (at : Stage) → is_open at ≡ true → end_of (polled_once at) ≡ None
once_open stage.Ready opened = cc
once_open (stage.Opening protocol order polls) opened = refl
once_open (stage.Opened protocol conn) opened = cc
once_open (stage.Asking asked polls) opened = refl
once_open (stage.Ended result) opened = cc
once_open stage.Over opened = cc

-- the last poll ends it with a timeout
pub polled_end : (patience : ℕ) (s : ServerSend) (result : Answered) → is_open s.stage ≡ true → end_of (polled patience s).stage ≡ Some result → (is_last_poll patience s.stage ≡ true) × (Err net.Timeout ≡ result)
polled_end patience s result opened is = by (is_last_poll patience s.stage) refl is
  where
    by : (b : Bool) → is_last_poll patience s.stage ≡ b → end_of (cond b (lost net.Timeout s) (record s { stage = polled_once s.stage })).stage ≡ Some result
        → (is_last_poll patience s.stage ≡ true) × (Err net.Timeout ≡ result)
    by true e h = (e, lost_end net.Timeout s result h)
    by false e h = absurd (none-some result (sym (once_open s.stage opened) ∙ h))

-- an order to open or to ask is open
pub is_open_for : (asks : Bool) (at : Stage) → IsFor asks at → is_open at ≡ true
is_open_for asks stage.Ready for = absurd for
is_open_for asks (stage.Opening protocol order polls) for = refl
is_open_for asks (stage.Opened protocol conn) for = absurd for
is_open_for asks (stage.Asking asked polls) for = refl
is_open_for asks (stage.Ended r) for = absurd for
is_open_for asks stage.Over for = absurd for

-- what it comes to is what the outcome makes of it
pub comes_open : (patience : ℕ) (o : Outcome) (s : ServerSend) → is_open s.stage ≡ true → come_to patience o s ≡ taken patience o s
comes_open patience o s opened = ap (λ (b : Bool). cond b (taken patience o s) s) opened

-- one that opens has an opening
opening_there : (at : Stage) → IsFor false at → (x : Protocol × ℕ) × (opening_of at ≡ Some x)
opening_there stage.Ready for = absurd for
opening_there (stage.Opening protocol order polls) for = ((protocol, order), refl)
opening_there (stage.Opened protocol conn) for = absurd for
opening_there (stage.Asking asked polls) for = cc
opening_there (stage.Ended r) for = absurd for
opening_there stage.Over for = absurd for

-- and one that asks a question
pub asked_there : (at : Stage) → IsFor true at → (x : Asked) × (asked_of at ≡ Some x)
asked_there stage.Ready for = absurd for
asked_there (stage.Opening protocol order polls) for = cc
asked_there (stage.Opened protocol conn) for = absurd for
asked_there (stage.Asking asked polls) for = (asked, refl)
asked_there (stage.Ended r) for = absurd for
asked_there stage.Over for = absurd for

-- a connection ends no send that opens
pub connected_goes_on : (s : ServerSend) (result : Answered) → IsFor false s.stage → end_of (after_opening (opening_of s.stage) s).stage ≡ Some result → ⊥
connected_goes_on s result for is =
    let x = opening_there s.stage for in
    none-some result (subst (λ (o : Option (Protocol × ℕ)). end_of (after_opening o s).stage ≡ Some result) x.1 is)

-- ---- where the order is kept

-- the polls of an order that stays open
pub once_pendings : (at : Stage) → is_open at ≡ true → pendings (polled_once at) ≡ pendings at + 1
once_pendings stage.Ready opened = cc
once_pendings (stage.Opening protocol order polls) opened = refl
once_pendings (stage.Opened protocol conn) opened = cc
once_pendings (stage.Asking asked polls) opened = refl
once_pendings (stage.Ended result) opened = cc
once_pendings stage.Over opened = cc

pub once_is_open : (at : Stage) → is_open at ≡ true → is_open (polled_once at) ≡ true
once_is_open stage.Ready opened = cc
once_is_open (stage.Opening protocol order polls) opened = refl
once_is_open (stage.Opened protocol conn) opened = cc
once_is_open (stage.Asking asked polls) opened = refl
once_is_open (stage.Ended result) opened = cc
once_is_open stage.Over opened = cc

pub once_for : (asks : Bool) (at : Stage) → IsFor asks at → IsFor asks (polled_once at)
once_for asks stage.Ready for = absurd for
once_for asks (stage.Opening protocol order polls) for = for
once_for asks (stage.Opened protocol conn) for = absurd for
once_for asks (stage.Asking asked polls) for = for
once_for asks (stage.Ended result) for = absurd for
once_for asks stage.Over for = absurd for

-- A poll that is kept found nothing, and was not the last one.
pub record IsKeptBy (patience : ℕ) (s : ServerSend) (o : Outcome) : Type 0 where
  pub entry : ℕ
  pub of : ℕ
  pub is : o ≡ Pending entry of
  pub comes : come_to patience o s ≡ record s { stage = polled_once s.stage }

pub kept_by : (patience : ℕ) (s : ServerSend) (o : Outcome) (did : After) → is_open s.stage ≡ true → did ≡ after_put patience s.stage o → did ≡ after.Kept → IsKeptBy patience s o
kept_by patience s (Pending entry of) did opened is kept = by (is_last_poll patience s.stage) refl
  where
    here : did ≡ (if is_last_poll patience s.stage then after.GiveUp else after.Kept)
    here = is ∙ ap (λ (b : Bool). if b then (if is_last_poll patience s.stage then after.GiveUp else after.Kept) else after.Late) opened

    by : (b : Bool) → is_last_poll patience s.stage ≡ b → IsKeptBy patience s (Pending entry of)
    by true e = let wrong : after.GiveUp ≡ after.Kept = sym (here ∙ ap (λ (c : Bool). if c then after.GiveUp else after.Kept) e) ∙ kept in cc
    by false e = record {
      entry = entry;
      of = of;
      is = refl;
      comes = comes_open patience (Pending entry of) s opened ∙ ap (λ (c : Bool). if c then lost net.Timeout s else record s { stage = polled_once s.stage }) e;
    }
kept_by patience s (Connected entry sent) did opened is kept = let wrong : after.Ended ≡ after.Kept = sym (is ∙ ap (λ (b : Bool). if b then after.Ended else after.Late) opened) ∙ kept in cc
kept_by patience s (Told entry sent message) did opened is kept = let wrong : after.Ended ≡ after.Kept = sym (is ∙ ap (λ (b : Bool). if b then after.Ended else after.Late) opened) ∙ kept in cc
kept_by patience s (Failed entry sent refused error) did opened is kept = let wrong : after.Ended ≡ after.Kept = sym (is ∙ ap (λ (b : Bool). if b then after.Ended else after.Late) opened) ∙ kept in cc
kept_by patience s Slept did opened is kept = let wrong : after.Ended ≡ after.Kept = sym (is ∙ ap (λ (b : Bool). if b then after.Ended else after.Late) opened) ∙ kept in cc
