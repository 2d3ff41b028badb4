-- What a log has once an outcome was put.
use Rattle.walk_lookup.proofs.Names.{◌≡◌, ℕ, ◌≤◌, ◌<◌, Bool, true, false, Option, Some, Result, Ok, Err, IsErr, refl, sym, ap, subst, ◌∙◌, arith, if◌then◌else◌, Log, Extends, NoMemory, entry_of, After, Outcome, Pending, SentBy, Tick, TellsOutcome, is_given_up, LogGoesOnIf, LogGoesOn, closing_of, last_if, last_entry, IsPut, seen_with, LogView, Advances}
use Rattle.order_carrier.proofs.LogGrowsByCalls.{Extends-refl, Extends-trans}

-- a log that stays goes on from itself
same-extends : (told longer : Log) → longer ≡ told → Extends told longer
same-extends told longer is = subst (Extends told) (sym is) (Extends-refl told)

-- the log goes on from what was told
goes-extends : (b : Bool) (now : ℕ) (waits : Option SentBy) (o : Outcome) (told longer : Log) → LogGoesOnIf b now waits o told longer → Extends told longer
goes-extends true now (Some s) (Pending entry of) told longer on = on.extends
goes-extends _ now _ _ told longer on = same-extends told longer on

-- after the outcome
pub goes-on : {E : Type 0} (now : ℕ) (waits : Option SentBy) (o : Outcome) (result : Result After E) (told longer : Log) → LogGoesOn now waits o result told longer → Extends told longer
goes-on now waits o result told longer on = goes-extends (is_given_up result) now waits o told longer on

-- so it does from what was there before
pub kept-extends : {E : Type 0} (moment : ℕ) (log : Log) (tick : Tick) (waits : Option SentBy) (o : Outcome) (result : Result After E) {told longer : Log}
    → TellsOutcome moment log tick waits o told → LogGoesOn tick.now waits o result told longer → Extends log longer
kept-extends moment log tick waits o result {told} {longer} tells on =
    Extends-trans log told longer tells.extends (goes-extends (is_given_up result) tick.now waits o told longer on)

-- so far a machine has come with it
pub later-put : (view : LogView) (tick : Tick) (waits : Option SentBy) (o : Outcome) (result : Result After NoMemory) (longer : Log) → IsPut view tick waits o result longer
    → Advances view (seen_with view tick waits o result longer)
later-put view tick waits o result longer put =
    record { policy = refl; patience = omega arith; greatest = omega arith; moment = put.on.tells.later; extends = kept-extends view.moment view.log tick waits o result put.on.tells put.on.goes_on }

-- the last entry that is put is in the log
last-in : (b : Bool) (now : ℕ) (waits : Option SentBy) (o : Outcome) (told longer : Log) → entry_of o < told.next → LogGoesOnIf b now waits o told longer → last_if b waits o < longer.next
last-in true now (Some s) (Pending entry of) told longer within on = let below = on.logged.below in let fits = on.numbered in omega (arith, below, fits)
last-in _ now _ o told longer within on = subst (λ (l : Log). entry_of o < l.next) (sym on) within

pub last-within : (view : LogView) (tick : Tick) (waits : Option SentBy) (o : Outcome) (result : Result After NoMemory) (longer : Log)
    → IsPut view tick waits o result longer → (seen_with view tick waits o result longer).greatest < longer.next
last-within view tick waits o result longer put =
    let x = (later-put view tick waits o result longer put).extends in
    let last = last-in (is_given_up result) tick.now waits o put.on.told longer put.on.tells.fits.within put.on.goes_on in
    let bound = put.bound in
    let later = x.later in
    omega (arith, bound, later, last)

-- it is no earlier than the outcome's
last-later : (b : Bool) (now : ℕ) (waits : Option SentBy) (o : Outcome) (told longer : Log) → LogGoesOnIf b now waits o told longer → entry_of o ≤ last_if b waits o
last-later true now (Some s) (Pending entry of) told longer on = let fits = on.numbered in omega (arith, fits)
last-later _ now _ _ told longer on = omega arith

pub put-later : (view : LogView) (tick : Tick) (waits : Option SentBy) (o : Outcome) (result : Result After NoMemory) (longer : Log)
    → IsPut view tick waits o result longer → entry_of o ≤ last_entry result waits o
put-later view tick waits o result longer put = last-later (is_given_up result) tick.now waits o put.on.told longer put.on.goes_on

-- which it is, by whether the order is given up
pub last-chosen : {E : Type 0} (result : Result After E) (waits : Option SentBy) (o : Outcome) (last entry closing : ℕ) → last ≡ (if is_given_up result then closing else entry)
    → entry ≡ entry_of o → closing ≡ closing_of waits o → last ≡ last_entry result waits o
last-chosen result waits o last entry closing is at_entry at_closing =
    is
    ∙ ap (λ (n : ℕ). if is_given_up result then n else entry) at_closing
    ∙ ap (λ (n : ℕ). if is_given_up result then closing_of waits o else n) at_entry

-- ---- out of memory

-- where memory runs out an order is given up
err-given_up : {E : Type 0} (result : Result After E) → IsErr result → is_given_up result ≡ true
err-given_up (Ok did) is = cc
err-given_up (Err e) is = refl

pub err-goes : {E : Type 0} (now : ℕ) (waits : Option SentBy) (o : Outcome) (result : Result After E) (told longer : Log) → IsErr result → LogGoesOn now waits o result told longer
    → LogGoesOnIf true now waits o told longer
err-goes now waits o result told longer is on = subst (λ (b : Bool). LogGoesOnIf b now waits o told longer) (err-given_up result is) on

pub err-last : {E : Type 0} (waits : Option SentBy) (o : Outcome) (result : Result After E) → IsErr result → last_entry result waits o ≡ closing_of waits o
err-last waits o result is = ap (λ (b : Bool). last_if b waits o) (err-given_up result is)

pub err-is : (view : LogView) (tick : Tick) (waits : Option SentBy) (o : Outcome) (result : Result After NoMemory) (e : NoMemory) (longer : Log) → IsErr result
    → IsPut view tick waits o result longer → IsPut view tick waits o (Err e) longer
err-is view tick waits o result e longer is put = record {
  patient = put.patient;
  bound = put.bound;
  next = put.next;
  on = record { told = put.on.told; tells = put.on.tells; goes_on = err-goes tick.now waits o result put.on.told longer is put.on.goes_on };
}

-- An outcome that did something before memory ran out was put by a log from which the other one goes on, and by no later entry.
pub record WasPut (view : LogView) (tick : Tick) (waits : Option SentBy) (o : Outcome) (result : Result After NoMemory) (longer : Log) : Type 0 where
  pub by : Log
  pub put : IsPut view tick waits o result by
  pub extends : Extends by longer
  pub last : last_entry result waits o ≤ closing_of waits o

pub was-put : (view : LogView) (tick : Tick) (waits : Option SentBy) (o : Outcome) (result fault : Result After NoMemory) (longer : Log) → IsErr fault
    → IsPut view tick waits o fault longer → WasPut view tick waits o result longer
was-put view tick waits o result fault longer is put = by_result (is_given_up result) refl
  where
    on : LogGoesOnIf true tick.now waits o put.on.told longer
    on = err-goes tick.now waits o fault put.on.told longer is put.on.goes_on

    by_result : (b : Bool) → is_given_up result ≡ b → WasPut view tick waits o result longer
    by_result true at = record {
      by = longer;
      put = record {
        patient = put.patient;
        bound = put.bound;
        next = put.next;
        on = record { told = put.on.told; tells = put.on.tells; goes_on = subst (λ (b : Bool). LogGoesOnIf b tick.now waits o put.on.told longer) (sym at) on };
      };
      extends = Extends-refl longer;
      last = let same = ap (λ (b : Bool). last_if b waits o) at in omega (arith, same);
    }
    by_result false at = record {
      by = put.on.told;
      put = record {
        patient = put.patient;
        bound = put.bound;
        next = put.next;
        on = record { told = put.on.told; tells = put.on.tells; goes_on = subst (λ (b : Bool). LogGoesOnIf b tick.now waits o put.on.told put.on.told) (sym at) refl };
      };
      extends = goes-extends true tick.now waits o put.on.told longer on;
      last = let same = ap (λ (b : Bool). last_if b waits o) at in let later = last-later true tick.now waits o put.on.told longer on in omega (arith, same, later);
    }
