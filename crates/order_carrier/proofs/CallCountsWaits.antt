-- What a call of the carrier with an order does to how often it is waited for, and how often each other order is.
use Rattle.std.proofs.Common.{◌≡◌, ◌≢◌, ◌==◌, ℕ, ◌+◌, ◌≤◌, ◌<◌, ◌^◌, ◌⊎◌, ⊎_elim, inl, inr, Bool, true, false, cond, List, length, length-append, max, Option, Some, None, refl, sym, ap, subst, ◌∙◌, arith}
use Rattle.std.proofs.lemmas.Bool.{eqb-true}
use Rattle.std.proofs.lemmas.Option.{same_Some}
use Rattle.dns_core.specs.Log.{Log, log_of}
use Rattle.dns_core.specs.declared.log.LogEntry.{LogEntry}
use Rattle.dns_core.specs.declared.log.LogEntry.TheVariants as line
use Rattle.resolution.specs.Ending.{waits}
use Rattle.resolution.specs.Telling.{Logged}
use Rattle.server_core.specs.declared.orders.order.Order.{Order}
use Rattle.server_core.specs.declared.orders.order.Order.TheVariants.{Open, Ask, Sleep}
use Rattle.server_core.specs.declared.orders.order.Outcome.{Outcome}
use Rattle.server_core.specs.declared.orders.order.Outcome.TheVariants.{Pending, Connected, Told, Failed, Slept}
use Rattle.server_core.specs.declared.orders.order.SentBy.{SentBy}
use Rattle.order_carrier.specs.Awaited.{IsSentFor, sent_for}
use Rattle.order_carrier.specs.Carrying.{StateHolds}
use Rattle.order_carrier.specs.Did.{Did, Stand, State, Carried, May, MayHear, HasNumbers, order_in, sent_in, start_entry, poll_entry, appended, told_by, handed, made_by, heard_stand, stand_after}
use Rattle.order_carrier.specs.Did.Did.{Barred, LacksMemory, Refused, Started, Polled}
use Rattle.order_carrier.specs.Did.Stand.{Unseen, UnderWay, Made, Over}
use Rattle.order_carrier.specs.Fits.{IsPendingOf, IsOutcome, WaitsBy}
use Rattle.order_carrier.specs.Growing.{TellsThat}
use Rattle.order_carrier.specs.Patience.{IsPatient, waited_by, waits_more}
use Rattle.order_carrier.specs.declared.key.OrderKey.{OrderKey}
use Rattle.order_carrier.specs.declared.polling.Heard.{Heard}
use Rattle.order_carrier.specs.declared.polling.Heard.TheVariants as hear
use Rattle.order_carrier.proofs.AsksOnlyServers.{carried-asks}
use Rattle.order_carrier.proofs.LogGrowsByCalls.{carried-grown}
use Rattle.order_carrier.proofs.OutcomeIsOfItsOrder.{sent_for-new, sent_for-sends, carried-outcome}
use Rattle.order_carrier.proofs.LogWaitsOnceMore.{carried-waits, carried-waited, carried-patient}
use Rattle.order_carrier.specs.InFlight.{InFlightMoves, GoesRight, HasTold, still_awaited}

-- what is under way has an order
pub order-sent : (stand : Stand) (s : SentBy) → order_in stand ≡ None → sent_in stand ≡ Some s → ⊥
order-sent Unseen s none is = cc
order-sent (UnderWay order sent) s none is = cc
order-sent (Made peer) s none is = cc
order-sent Over s none is = cc

-- ---- what stands for an order after a poll

-- nothing sent is under way where a connection was made
made-sent : (order : Order) (s : SentBy) → sent_in (made_by order) ≡ Some s → ⊥
made-sent (Open ip config) s is = cc
made-sent (Ask conn ip protocol request) s is = cc
made-sent (Sleep until) s is = cc

-- what is under way after a poll was under way before
heard-sent : (order : Order) (sent : Option SentBy) (heard : Heard) (s : SentBy) → sent_in (heard_stand order sent heard) ≡ Some s → sent ≡ Some s
heard-sent order sent (hear.Waiting of) s is = is
heard-sent order sent hear.OutOfMemory s is = is
heard-sent order sent (hear.Connected t) s is = absurd (made-sent order s is)
heard-sent order sent (hear.Answered t message) s is = cc
heard-sent order sent (hear.Failed t error) s is = cc
heard-sent order sent hear.Resting s is = is
heard-sent order sent hear.Slept s is = cc

-- A poll that found nothing names what was sent for the order, by the entry that says so.
pub record WaitsOn (now : ℕ) (heard : Heard) (n entry of : ℕ) (s : SentBy) : Type 0 where
  pub by_entry : s.of ≡ of
  pub entry_is : entry ≡ n
  pub one : length (poll_entry now heard) ≡ 1

-- nothing was sent for a sleep
sleep-sent : (order : Order) (until : ℕ) (s : SentBy) → order ≡ Sleep until → IsSentFor order (Some s) → ⊥
sleep-sent (Open ip config) until s is sends = cc
sleep-sent (Ask conn ip protocol request) until s is sends = cc
sleep-sent (Sleep until) u s is sends = cc

heard-pending : (now : ℕ) (order : Order) (s : SentBy) (heard : Heard) (n entry of : ℕ) → MayHear now order (Some s) heard → IsSentFor order (Some s)
    → Some (Some (Pending entry of)) ≡ told_by n heard → WaitsOn now heard n entry of s
heard-pending now order s (hear.Waiting k) n entry of may sends is =
    let same : s.of ≡ k = same_Some _ _ may in
    record { by_entry = same ∙ (let k_is : k ≡ of = cc in k_is); entry_is = cc; one = refl }
heard-pending now order s hear.OutOfMemory n entry of may sends is = cc
heard-pending now order s (hear.Connected t) n entry of may sends is = cc
heard-pending now order s (hear.Answered t message) n entry of may sends is = cc
heard-pending now order s (hear.Failed t error) n entry of may sends is = cc
heard-pending now order s hear.Resting n entry of may sends is = absurd (sleep-sent order may.0 s may.1 sends)
heard-pending now order s hear.Slept n entry of may sends is = cc

-- what is still under way was polled in vain
heard-ended : (order : Order) (sent : Option SentBy) (heard : Heard) (n : ℕ) (o : Outcome) (s : SentBy) → Some (Some o) ≡ told_by n heard → sent_in (heard_stand order sent heard) ≡ Some s
    → (entry : ℕ) × (of : ℕ) × (o ≡ Pending entry of)
heard-ended order sent (hear.Waiting k) n o s told is = (n, k, cc)
heard-ended order sent hear.OutOfMemory n o s told is = cc
heard-ended order sent (hear.Connected t) n o s told is = absurd (made-sent order s is)
heard-ended order sent (hear.Answered t message) n o s told is = cc
heard-ended order sent (hear.Failed t error) n o s told is = cc
heard-ended order sent hear.Resting n o s told is = (0, 0, cc)
heard-ended order sent hear.Slept n o s told is = cc

-- at most one more poll is counted
more-one : (polled : Option ℕ) (of : ℕ) → waits_more polled of ≤ 1
more-one None of = omega arith
more-one (Some k) of = by (k == of)
  where
    by : (b : Bool) → cond b 1 0 ≤ 1
    by true = omega arith
    by false = omega arith

-- one entry starts an order for which something is sent
start-length : (of now : ℕ) (order : Order) (s : SentBy) → sent_for of now order ≡ Some s → length (start_entry now None order) ≡ 1
start-length of now (Open ip config) s is = refl
start-length of now (Ask conn ip protocol request) s is = refl
start-length of now (Sleep until) s is = cc

-- the entry says that the poll waited
waits-logged : (log : Log) (now : ℕ) (order : Order) (entry of : ℕ) → 0 < entry → IsPendingOf log now order entry of → Logged log entry (line.Waited of) × (of < entry)
waits-logged log now (Open ip config) entry of some w = (w.waits.logged, let before = w.waits.before in let same = w.by_entry in omega (arith, before, same))
waits-logged log now (Ask conn ip protocol request) entry of some w = (w.waits.logged, let before = w.waits.before in let same = w.by_entry in omega (arith, before, same))
waits-logged log now (Sleep until) entry of some w = let none = w.0 in absurd (omega (arith, some, none))

module _ {P : Type 0} (key : OrderKey) (order : Order) (now : ℕ) (old new : State P) (h : StateHolds old) where
  -- numbers are left where something was waited for
  waited-numbers : (result : Option (Option Outcome)) (c : Carried key order now old new result) (of : ℕ) → waited_by c.did ≡ Some of → HasNumbers old.entries
  waited-numbers result c of = by c.did c.may
    where
      by : (d : Did) → May old key order now d → waited_by d ≡ Some of → HasNumbers old.entries
      by Barred may is = cc
      by LacksMemory may is = cc
      by (Refused sent error) may is = cc
      by (Started heard) may is = may.0.numbers
      by (Polled heard) may is = may.numbers

  -- the entry to come was not waited for
  unwaited : (of : ℕ) → HasNumbers old.entries → of ≡ old.entries + 1 → TellsThat old.log (λ log. waits log of log.next ≡ 0)
  unwaited of numbers is es t =
      let counted : length es ≡ old.entries = h.counted (omega arith) es t in
      let low : length es + 1 ≤ of = omega (arith, counted, is) in
      h.unwaited es t of low

  module _ (polls : ℕ) (polled : (s : SentBy) → sent_in (old.stands key) ≡ Some s → TellsThat old.log (λ log. waits log s.of log.next ≤ polls)) where
    run-patient : (most : ℕ) (result : Option (Option Outcome)) (c : Carried key order now old new result) → polls < most → IsPatient most old.log new.log
    run-patient most result c fewer = carried-patient most key order now old new result c (λ of is. ⊎_elim
        (λ before es t.
        let few = polled before.0 before.1 es t in
        subst (λ (k : ℕ). waits (log_of es) k (log_of es).next < most) before.2 (omega (arith, few, fewer)))
        (λ next es t. let none = unwaited of (waited-numbers result c of is) next es t in omega (arith, none, fewer))
        (carried-waited key order now old new result c of is))

    -- The log has grown as the order may make it grow.
    pub run-moves : (patience : ℕ) (result : Option (Option Outcome)) (c : Carried key order now old new result) → polls < max 1 patience
        → InFlightMoves patience now (λ policy. old.stands key ≡ Unseen → GoesRight old.log order policy) old.log new.log
    run-moves patience result c fewer = record {
      grown = carried-grown key order now old new result c;
      patient = run-patient (max 1 patience) result c fewer;
      asks = λ policy right. carried-asks policy key order now old new result c right;
    }

    -- what is under way was under way, or was just sent
    sent-there : (result : Option (Option Outcome)) (c : Carried key order now old new result) (s : SentBy) → sent_in (new.stands key) ≡ Some s
        → (sent_in (old.stands key) ≡ Some s) ⊎ (HasNumbers old.entries × (s.of ≡ old.entries + 1))
    sent-there result c s is = by c.did c.may (ap sent_in (sym c.stand) ∙ is)
      where
        by : (d : Did) → May old key order now d → sent_in (stand_after (old.entries + 1) now order (old.stands key) d) ≡ Some s
            → (sent_in (old.stands key) ≡ Some s) ⊎ (HasNumbers old.entries × (s.of ≡ old.entries + 1))
        by Barred may at = inl at
        by LacksMemory may at = inl at
        by (Refused sent error) may at = cc
        by (Started heard) may at = inr (may.0.numbers, (sent_for-new (old.entries + 1) now order s (heard-sent order (sent_for (old.entries + 1) now order) heard s at)).by_entry)
        by (Polled heard) may at = inl (heard-sent order (sent_in (old.stands key)) heard s at)

    -- and was waited for once more at most
    pub run-polled : (result : Option (Option Outcome)) (c : Carried key order now old new result) (s : SentBy) → sent_in (new.stands key) ≡ Some s
        → TellsThat new.log (λ log. waits log s.of log.next ≤ polls + 1)
    run-polled result c s is es t =
        let w = carried-waits key order now old new result c es t in
        let longer = w.waited s.of in
        let one = more-one (waited_by c.did) s.of in
        ⊎_elim
        (λ before. let few = polled s before w.before w.was in omega (arith, few, longer, one))
        (λ next. let none = unwaited s.of next.0 next.1 w.before w.was in omega (arith, none, longer, one))
        (sent-there result c s is)

  module _ (o : Outcome) (c : Carried key order now old new (Some (Some o))) where
    -- What is still under way was polled in vain.
    still-pending : (s : SentBy) → sent_in (new.stands key) ≡ Some s → (entry : ℕ) × (of : ℕ) × (o ≡ Pending entry of)
    still-pending s is = by c.did c.handed_out (ap sent_in (sym c.stand) ∙ is)
      where
        by : (d : Did) → Some (Some o) ≡ handed (old.entries + 1) d → sent_in (stand_after (old.entries + 1) now order (old.stands key) d) ≡ Some s → (entry : ℕ) × (of : ℕ) × (o ≡ Pending entry of)
        by Barred told at = cc
        by LacksMemory told at = cc
        by (Refused sent error) told at = cc
        by (Started heard) told at = heard-ended order (sent_for (old.entries + 1) now order) heard (old.entries + 1 + 1) o s told at
        by (Polled heard) told at = heard-ended order (sent_in (old.stands key)) heard (old.entries + 1) o s told at

  -- the last entry is the one of a poll that found nothing
  pub record IsNewest (entry of : ℕ) (s : SentBy) : Type 0 where
    pub by_entry : s.of ≡ of
    pub newest : entry ≡ new.entries
    pub some : 0 < entry
    pub fits : entry + 1 < 2 ^ 64

  newest-pending : (entry of : ℕ) (c : Carried key order now old new (Some (Some (Pending entry of)))) (s : SentBy) → sent_in (new.stands key) ≡ Some s → IsNewest entry of s
  newest-pending entry of c s is = by c.did c.may c.handed_out c.entries (ap sent_in (sym c.stand) ∙ is)
    where
      by : (d : Did) → May old key order now d → Some (Some (Pending entry of)) ≡ handed (old.entries + 1) d → new.entries ≡ old.entries + length (appended now order d)
          → sent_in (stand_after (old.entries + 1) now order (old.stands key) d) ≡ Some s → IsNewest entry of s
      by Barred may told grew at = cc
      by LacksMemory may told grew at = cc
      by (Refused sent error) may told grew at = cc
      by (Started heard) may told grew at =
          let sent = heard-sent order (sent_for (old.entries + 1) now order) heard s at in
          let hears = subst (λ (x : Option SentBy). MayHear now order x heard) sent may.1 in
          let sends = subst (IsSentFor order) sent (sent_for-sends (old.entries + 1) now order) in
          let w = heard-pending now order s heard (old.entries + 1 + 1) entry of hears sends told in
          let first = start-length (old.entries + 1) now order s sent in
          let both = length-append (start_entry now None order) (poll_entry now heard) in
          let one = w.one in
          let at_entry = w.entry_is in
          let numbers : old.entries + 4 < 2 ^ 64 = may.0.numbers in
          record { by_entry = w.by_entry; newest = omega (arith, grew, both, first, one, at_entry); some = omega (arith, at_entry); fits = omega (arith, at_entry, numbers) }
      by (Polled heard) may told grew at =
          let stood = ap sent_in may.stood in
          let sent : may.sent ≡ Some s = sym stood ∙ heard-sent order (sent_in (old.stands key)) heard s at in
          let hears = subst (λ (x : Option SentBy). MayHear now order x heard) sent may.hears in
          let sends = subst (IsSentFor order) sent may.sends in
          let w = heard-pending now order s heard (old.entries + 1) entry of hears sends told in
          let one = w.one in
          let at_entry = w.entry_is in
          let numbers : old.entries + 4 < 2 ^ 64 = may.numbers in
          record { by_entry = w.by_entry; newest = omega (arith, grew, one, at_entry); some = omega (arith, at_entry); fits = omega (arith, at_entry, numbers) }

  -- The log has the outcome, and what is still under way is waited for by its last entry.
  pub run-told : (o : Outcome) (c : Carried key order now old new (Some (Some o))) → StateHolds new → TellsThat new.log (HasTold now (sent_in (new.stands key)) o)
  run-told o c k es t = by_sent (sent_in (new.stands key)) refl
    where
      outcome : IsOutcome (log_of es) now order o
      outcome = carried-outcome key order now old new o h c es t

      by_sent : (waits_for : Option SentBy) → sent_in (new.stands key) ≡ waits_for → HasTold now waits_for o (log_of es)
      by_sent None is = record { fits = outcome.fits; waits_by = tt; last = tt }
      by_sent (Some s) is =
          let p = still-pending o c s is in
          subst (λ (x : Outcome). HasTold now (Some s) x (log_of es)) (sym p.2) (waiting p.0 p.1 p.2)
        where
          waiting : (entry of : ℕ) → o ≡ Pending entry of → HasTold now (Some s) (Pending entry of) (log_of es)
          waiting entry of at =
              let at_once = subst (λ (x : Outcome). IsOutcome (log_of es) now order x) at outcome in
              let n = newest-pending entry of (subst (λ (x : Outcome). Carried key order now old new (Some (Some x))) at c) s is in
              let logged = waits-logged (log_of es) now order entry of n.some at_once.of_order in
              let newest = n.newest in
              let fits = n.fits in
              let counted : length es ≡ new.entries = k.counted (omega (arith, newest, fits)) es t in
              let place : entry + 1 ≡ length es + 1 = omega (arith, counted, newest) in
              let before = logged.1 in
              let same = n.by_entry in
              record {
                fits = at_once.fits;
                waits_by = λ by_entry. record { sent = k.sent es t key s is; logged = logged.0; before = omega (arith, before, same) };
                last = (same, place, fits);
              }

  -- ---- what another order waits for

  -- what is not polled is not waited for once more
  no-more : (polled : Option ℕ) (of : ℕ) → (polled ≡ Some of → ⊥) → waits_more polled of ≡ 0
  no-more None of other = refl
  no-more (Some k) of other = by (k == of) refl
    where
      by : (b : Bool) → (k == of) ≡ b → ◌≡◌ {A = ℕ} (cond b 1 0) 0
      by true is = absurd (other (ap (λ (n : ℕ). Some n) (eqb-true k of is)))
      by false is = refl

  -- it is not what a call waits for under another key
  other-waited : (result : Option (Option Outcome)) (c : Carried key order now old new result) (k : OrderKey) → k ≢ key → (s : SentBy) → sent_in (old.stands k) ≡ Some s
      → (es : List LogEntry) → old.log ≡ Some es → waited_by c.did ≡ Some s.of → ⊥
  other-waited result c k differ s at es t is = ⊎_elim
      (λ before. differ (h.apart es t k key s before.0 at before.1 (sym before.2)))
      (λ next.
      let numbers = waited-numbers result c s.of is in
      let counted : length es ≡ old.entries = h.counted (omega (arith, numbers)) es t in
      let below : s.of < length es + 1 = (h.sent es t k s at).logged.below in
      absurd (omega (arith, counted, below, next)))
      (carried-waited key order now old new result c s.of is)

  -- so it is waited for as often as before
  pub other-polled : (polls : ℕ) (result : Option (Option Outcome)) (c : Carried key order now old new result) (k : OrderKey) → k ≢ key → (s : SentBy) → sent_in (old.stands k) ≡ Some s
      → TellsThat old.log (λ log. waits log s.of log.next ≤ polls) → TellsThat new.log (λ log. waits log s.of log.next ≤ polls)
  other-polled polls result c k differ s at few es t =
      let w = carried-waits key order now old new result c es t in
      let longer = w.waited s.of in
      let none = no-more (waited_by c.did) s.of (other-waited result c k differ s at w.before w.was) in
      let was = few w.before w.was in
      omega (arith, longer, none, was)

-- ---- what is waited for still

-- a poll that found nothing is in the log, also by what is waited for still
pub waits-still : (log : Log) (s : Option SentBy) (o : Outcome) → WaitsBy log s o → WaitsBy log (still_awaited o s) o
waits-still log s (Pending entry of) h = h
waits-still log s (Connected entry sent) h = tt
waits-still log s (Told entry sent message) h = tt
waits-still log s (Failed entry sent refused error) h = tt
waits-still log s Slept h = tt
