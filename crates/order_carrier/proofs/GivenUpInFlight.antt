-- What a give-up leaves of the orders that are held.
use Rattle.std.proofs.Common.{◌≡◌, ◌≢◌, ℕ, ◌≤◌, ◌⊎◌, inl, inr, max, Bool, true, false, cond, List, Option, Some, None, refl, sym, ap, subst, ◌∙◌, arith}
use Rattle.std.proofs.lemmas.Option.{same_Some}
use Rattle.std.specs.Prelude.{is_some, IsSome}
use Rattle.dns_core.specs.declared.log.LogEntry.{LogEntry}
use Rattle.dns_core.specs.declared.provider.ConnectionProvider.{Ghosts}
use Rattle.resolution.specs.Ending.{waits}
use Rattle.recursor_types.specs.declared.policy.Policy.{Policy}
use Rattle.server_core.specs.declared.orders.order.SentBy.{SentBy}
use Rattle.order_carrier.specs.Carrying.{CarrierHolds, state}
use Rattle.order_carrier.specs.Did.{Stand, order_in, sent_in}
use Rattle.order_carrier.specs.Did.Stand.{Over}
use Rattle.order_carrier.specs.GivingUp.{GivesUp, give_up_entry, open_key}
use Rattle.order_carrier.specs.Growing.{TellsThat, with_entries}
use Rattle.order_carrier.specs.Key.{form_of}
use Rattle.order_carrier.specs.Stand.{stand_at}
use Rattle.order_carrier.specs.declared.carrier.Carrier.{Carrier}
use Rattle.order_carrier.specs.declared.key.Form.{Form}
use Rattle.order_carrier.specs.declared.key.Form.TheVariants as form
use Rattle.order_carrier.specs.declared.key.OrderKey.{OrderKey}
use Rattle.order_carrier.proofs.AsksOnlyServers.{given_up-asks}
use Rattle.order_carrier.proofs.LogGrowsByCalls.{given_up-grown, Grown-refl}
use Rattle.order_carrier.proofs.KeysCompareEqual.{key_cases}
use Rattle.order_carrier.proofs.LogWaitsOnceMore.{given_up-waits, patient-none, WaitsFor-refl}
use Rattle.order_carrier.specs.InFlight.{key_in, held_at, IsRunning, InFlightHolds, InFlightMoves, GoesNowhere, sent_for, sent_by}
use Rattle.order_carrier.specs.declared.in_flight.runner.InFlight.{InFlight}
use Rattle.order_carrier.specs.declared.in_flight.runner.InFlightOrder.{InFlightOrder}
use Rattle.order_carrier.proofs.CallCountsWaits.{order-sent}
use Rattle.order_carrier.proofs.OrderRunsOn.{same-elsewhere}
use Rattle.order_carrier.proofs.FreeNumberCarried.{is_some-none}

-- the key of what is given up, by which forms are under way
abbrev key_by : ℕ → Bool → Bool → Bool → Option OrderKey
key_by number a b c = cond a (Some (record { number = number; form = form.Open })) (cond b (Some (record { number = number; form = form.Ask })) (cond c (Some (record { number = number; form = form.Sleep })) None))

-- no form is under way, or one
none-open : (number : ℕ) (a b c : Bool) → key_by number a b c ≡ None → (a ≡ false) × (b ≡ false) × (c ≡ false)
none-open number true b c is = cc
none-open number false true c is = cc
none-open number false false true is = cc
none-open number false false false is = (refl, refl, refl)

-- the key has the number
open-number : (number : ℕ) (a b c : Bool) (key : OrderKey) → key_by number a b c ≡ Some key → key.number ≡ number
open-number number true b c key is = ap (λ (k : OrderKey). k.number) (sym (same_Some _ _ is))
open-number number false true c key is = ap (λ (k : OrderKey). k.number) (sym (same_Some _ _ is))
open-number number false false true key is = ap (λ (k : OrderKey). k.number) (sym (same_Some _ _ is))
open-number number false false false key is = cc

-- the order under the key is under way
open-order : (stands : OrderKey → Stand) (number : ℕ) (a b c : Bool) (key : OrderKey)
    → is_some (order_in (stands (record { number = number; form = form.Open }))) ≡ a
    → is_some (order_in (stands (record { number = number; form = form.Ask }))) ≡ b
    → is_some (order_in (stands (record { number = number; form = form.Sleep }))) ≡ c
    → key_by number a b c ≡ Some key → is_some (order_in (stands key)) ≡ true
open-order stands number true b c key x y z is = subst (λ (k : OrderKey). is_some (order_in (stands k)) ≡ true) (same_Some _ _ is) x
open-order stands number false true c key x y z is = subst (λ (k : OrderKey). is_some (order_in (stands k)) ≡ true) (same_Some _ _ is) y
open-order stands number false false true key x y z is = subst (λ (k : OrderKey). is_some (order_in (stands k)) ≡ true) (same_Some _ _ is) z
open-order stands number false false false key x y z is = cc

module _ (stands : OrderKey → Stand) (number : ℕ) where
  abbrev open_as : Form → Bool
  open_as f = is_some (order_in (stands (record { number = number; form = f })))

  -- where none is open, none of any form is under way
  pub open-none : open_key stands number ≡ None → (f : Form) → order_in (stands (record { number = number; form = f })) ≡ None
  open-none is form.Open = is_some-none (order_in (stands (record { number = number; form = form.Open }))) (none-open number (open_as form.Open) (open_as form.Ask) (open_as form.Sleep) is).0
  open-none is form.Ask = is_some-none (order_in (stands (record { number = number; form = form.Ask }))) (none-open number (open_as form.Open) (open_as form.Ask) (open_as form.Sleep) is).1
  open-none is form.Sleep = is_some-none (order_in (stands (record { number = number; form = form.Sleep }))) (none-open number (open_as form.Open) (open_as form.Ask) (open_as form.Sleep) is).2

  pub open-is : (key : OrderKey) → open_key stands number ≡ Some key → (key.number ≡ number) × (is_some (order_in (stands key)) ≡ true)
  open-is key is = (
    open-number number (open_as form.Open) (open_as form.Ask) (open_as form.Sleep) key is,
    open-order stands number (open_as form.Open) (open_as form.Ask) (open_as form.Sleep) key refl refl refl is,
  )

-- what is over has nothing under way
over-none : (stand : Stand) → stand ≡ Over → order_in stand ≡ None
over-none stand is = ap order_in is

module _ {P C F E : Type 0} (p : Ghosts P C F E) (number now : ℕ) (old new : Carrier P C F E p) where
  module _ (key : OrderKey) (g : GivesUp key now old new) where
    up-moves : (patience : ℕ) → InFlightMoves patience now GoesNowhere (p.log old.provider) (p.log new.provider)
    up-moves patience = record {
      grown = given_up-grown key now (state old) (state new) g.given_up;
      patient = patient-none (max 1 patience) (p.log old.provider) (p.log new.provider) (given_up-waits key now (state old) (state new) g.given_up);
      asks = λ policy right. given_up-asks policy key now (state old) (state new) g.given_up;
    }

    up-same : (k : OrderKey) → k ≢ key → stand_at new.slots k ≡ stand_at old.slots k
    up-same k differ = same-elsewhere key old.slots new.slots g.others k differ

    -- what runs runs on, or is over
    up-runs : (n : ℕ) (running : InFlightOrder) → IsRunning (stand_at old.slots) (p.log old.provider) n running → IsRunning (stand_at new.slots) (p.log new.provider) n running
    up-runs n running r = record { polled = λ s is. polled_of s (key_cases key (key_in n running)) is; alone = λ k at differ. alone_of k at differ (key_cases key k) }
      where
        polled_of : (s : SentBy) → (key_in n running ≡ key) ⊎ (key_in n running ≢ key) → sent_in (stand_at new.slots (key_in n running)) ≡ Some s → TellsThat (p.log new.provider) (λ log. waits log s.of log.next ≤ running.polls)
        polled_of s (inl same) is es t =
            let over : sent_in (stand_at new.slots (key_in n running)) ≡ None = ap sent_in (ap (stand_at new.slots) same ∙ g.given_up.stand) in
            let wrong : None ≡ Some s = sym over ∙ is in cc
        polled_of s (inr differ) is es t =
            let w = given_up-waits key now (state old) (state new) g.given_up es t in
            let was = r.polled s (ap sent_in (sym (up-same (key_in n running) differ)) ∙ is) w.before w.was in
            let longer = w.waited s.of in
            omega (arith, was, longer)

        alone_of : (k : OrderKey) → k.number ≡ n → k ≢ key_in n running → (k ≡ key) ⊎ (k ≢ key) → order_in (stand_at new.slots k) ≡ None
        alone_of k at differ (inl same) = over-none (stand_at new.slots k) (ap (stand_at new.slots) same ∙ g.given_up.stand)
        alone_of k at differ (inr other) = ap order_in (up-same k other) ∙ r.alone k at differ

    -- it gives up the order that is held under the number
    up-log : (running : InFlightOrder) → IsRunning (stand_at old.slots) (p.log old.provider) number running → open_key (stand_at old.slots) number ≡ Some key
        → p.log new.provider ≡ with_entries (give_up_entry now (sent_in (stand_at old.slots (key_in number running)))) (p.log old.provider)
    up-log running r is =
        subst (λ (k : OrderKey). p.log new.provider ≡ with_entries (give_up_entry now (sent_in (stand_at old.slots k))) (p.log old.provider)) (sym (by (key_cases key (key_in number running)))) g.given_up.log
      where
        by : (key_in number running ≡ key) ⊎ (key_in number running ≢ key) → key_in number running ≡ key
        by (inl same) = same
        by (inr differ) =
            let o = open-is (stand_at old.slots) number key is in
            let shut : is_some (order_in (stand_at old.slots key)) ≡ false = ap is_some (r.alone key o.0 (λ same. differ (sym same))) in
            let wrong : true ≡ false = sym o.1 ∙ shut in cc

  -- where none is under way, nothing was sent for the order that is held
  none-log : (running : InFlightOrder) → open_key (stand_at old.slots) number ≡ None → sent_in (stand_at old.slots (key_in number running)) ≡ None
  none-log running is = by (sent_in (stand_at old.slots (key_in number running))) refl
    where
      none : order_in (stand_at old.slots (key_in number running)) ≡ None
      none = open-none (stand_at old.slots) number is (form_of running.order.value)

      by : (x : Option SentBy) → sent_in (stand_at old.slots (key_in number running)) ≡ x → sent_in (stand_at old.slots (key_in number running)) ≡ None
      by None at = at
      by (Some s) at = absurd (order-sent (stand_at old.slots (key_in number running)) s none at)

-- a log that stays as it is has moved nowhere
pub runner-still : (patience now : ℕ) (goes : Policy → Type 0) (told : Option (List LogEntry)) → InFlightMoves patience now goes told told
runner-still patience now goes told = record { grown = Grown-refl now told; patient = patient-none (max 1 patience) told told (WaitsFor-refl told); asks = λ policy right asks. asks }

module _ {P C F E : Type 0} (p : Ghosts P C F E) (number now : ℕ) (r : InFlight P C F E p) (new : Carrier P C F E p)
    (ups : (key : OrderKey) → open_key (stand_at r.carrier.slots) number ≡ Some key → GivesUp key now r.carrier new) (none : open_key (stand_at r.carrier.slots) number ≡ None → new ≡ r.carrier) where
  pub give_up-holds : CarrierHolds p new → InFlightHolds p r → InFlightHolds p (record r { carrier = new })
  give_up-holds holds h = record { carrier = holds; held = λ n running is. by n running (h.held n running is) (open_key (stand_at r.carrier.slots) number) refl }
    where
      by : (n : ℕ) (running : InFlightOrder) → IsRunning (stand_at r.carrier.slots) (p.log r.carrier.provider) n running → (o : Option OrderKey) → open_key (stand_at r.carrier.slots) number ≡ o
          → IsRunning (stand_at new.slots) (p.log new.provider) n running
      by n running h None is = subst (λ (c : Carrier P C F E p). IsRunning (stand_at c.slots) (p.log c.provider) n running) (sym (none is)) h
      by n running h (Some key) is = up-runs p number now r.carrier new key (ups key is) n running h

  pub give_up-moves : (patience : ℕ) → InFlightMoves patience now GoesNowhere (p.log r.carrier.provider) (p.log new.provider)
  give_up-moves patience = by (open_key (stand_at r.carrier.slots) number) refl
    where
      by : (o : Option OrderKey) → open_key (stand_at r.carrier.slots) number ≡ o → InFlightMoves patience now GoesNowhere (p.log r.carrier.provider) (p.log new.provider)
      by None is = subst (λ (c : Carrier P C F E p). InFlightMoves patience now GoesNowhere (p.log r.carrier.provider) (p.log c.provider)) (sym (none is)) (runner-still patience now GoesNowhere (p.log r.carrier.provider))
      by (Some key) is = up-moves p number now r.carrier new key (ups key is) patience

  pub give_up-options : new.options ≡ r.carrier.options
  give_up-options = by (open_key (stand_at r.carrier.slots) number) refl
    where
      by : (o : Option OrderKey) → open_key (stand_at r.carrier.slots) number ≡ o → new.options ≡ r.carrier.options
      by None is = ap (λ (c : Carrier P C F E p). c.options) (none is)
      by (Some key) is = (ups key is).given_up.options

  pub give_up-log : InFlightHolds p r → IsSome (held_at r number) → p.log new.provider ≡ with_entries (give_up_entry now (sent_by r number)) (p.log r.carrier.provider)
  give_up-log h some = by (held_at r number) (h.held number) some (open_key (stand_at r.carrier.slots) number) refl
    where
      by : (x : Option InFlightOrder) → ((running : InFlightOrder) → x ≡ Some running → IsRunning (stand_at r.carrier.slots) (p.log r.carrier.provider) number running) → IsSome x
          → (o : Option OrderKey) → open_key (stand_at r.carrier.slots) number ≡ o
          → p.log new.provider ≡ with_entries (give_up_entry now (sent_for (stand_at r.carrier.slots) number x)) (p.log r.carrier.provider)
      by None h some o is = cc
      by (Some running) h some None is =
          ap (λ (c : Carrier P C F E p). p.log c.provider) (none is) ∙ sym (ap (λ (s : Option SentBy). with_entries (give_up_entry now s) (p.log r.carrier.provider)) (none-log p number now r.carrier new running is))
      by (Some running) h some (Some key) is = up-log p number now r.carrier new key (ups key is) running (h running refl) is
