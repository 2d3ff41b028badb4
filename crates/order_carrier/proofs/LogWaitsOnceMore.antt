-- A log waits once more for what was polled, and found nothing, and for nothing else.
use Rattle.std.proofs.Common.{◌==◌, Bool, true, false, cond, ◌≡◌, ◌≤◌, ◌<◌, ◌+◌, ◌⊎◌, inl, inr, ℕ, suc, List, [], ◌∷◌, ◌++◌, length, length-append, max, Option, Some, None, refl, sym, ◌∙◌, ap, subst, arith}
use Rattle.std.proofs.lemmas.Bool.{eqb-true}
use Rattle.std.proofs.lemmas.Option.{same_Some}
use Rattle.dns_core.specs.Log.{log_of, added}
use Rattle.dns_core.specs.declared.log.LogEntry.{LogEntry}
use Rattle.dns_core.specs.declared.log.LogEntry.TheVariants as line
use Rattle.dns_core.specs.Connection.{protocol_of}
use Rattle.dns_core.specs.declared.log.ToldOutcome.TheVariants as said
use Rattle.dns_core.specs.declared.net_error.NetError.{NetError}
use Rattle.resolution.specs.Ending.{waits, is_wait_for}
use Rattle.resolution.proofs.FailuresKept.{waits-extend}
use Rattle.server_core.specs.declared.orders.order.Order.{Order}
use Rattle.server_core.specs.declared.orders.order.Order.TheVariants.{Open, Ask, Sleep}
use Rattle.server_core.specs.declared.orders.order.Outcome.{Outcome}
use Rattle.server_core.specs.declared.orders.order.Outcome.TheVariants as outcome
use Rattle.server_core.specs.declared.orders.order.SentBy.{SentBy}
use Rattle.order_carrier.specs.Did.{Did, State, Carried, May, MayHear, start_entry, poll_entry, appended, sent_in, told_by, handed}
use Rattle.order_carrier.specs.Did.Did.{Barred, LacksMemory, Refused, Started, Polled}
use Rattle.order_carrier.specs.Awaited.{sent_for}
use Rattle.order_carrier.specs.GivingUp.{GivenUp, give_up_entry}
use Rattle.order_carrier.specs.Growing.{TellsThat, with_entries}
use Rattle.order_carrier.specs.Patience.{IsPatient, WaitsFor, waits_more, waited_for, waited_by}
use Rattle.order_carrier.specs.declared.key.OrderKey.{OrderKey}
use Rattle.order_carrier.specs.declared.polling.Heard.{Heard}
use Rattle.order_carrier.specs.declared.polling.Heard.TheVariants.{Waiting, OutOfMemory, Connected, Answered, Failed, Resting, Slept}
use Rattle.order_carrier.proofs.LogGrowsByCalls.{Longer-from_added, Extends-added, Logged-newest}
use Rattle.order_carrier.proofs.OutcomeIsOfItsOrder.{sent_for-new}

-- for which entry an entry says that it is still waited for
abbrev entry_waits : LogEntry → Option ℕ
entry_waits (line.Opened ip protocol moment refused) = None
entry_waits (line.Asked ip protocol query moment refused) = None
entry_waits (line.Waited of) = Some of
entry_waits (line.Told of moment told) = None
entry_waits (line.GaveUp of moment) = None

-- what an entry adds to how often a number is waited for
entry_more : (e : LogEntry) (of : ℕ) → cond (is_wait_for of (Some e)) 1 0 ≡ waits_more (entry_waits e) of
entry_more (line.Opened ip protocol moment refused) of = refl
entry_more (line.Asked ip protocol query moment refused) of = refl
entry_more (line.Waited k) of = refl
entry_more (line.Told k moment told) of = refl
entry_more (line.GaveUp k moment) of = refl

-- a newest entry adds one where it says so
waits-added : (es : List LogEntry) (e : LogEntry) (of : ℕ)
    → waits (log_of (es ++ e ∷ [])) of (log_of (es ++ e ∷ [])).next ≡ waits (log_of es) of (log_of es).next + waits_more (entry_waits e) of
waits-added es e of =
    let new = log_of (es ++ e ∷ []) in
    let next : new.next ≡ suc (length es + 1) = omega (arith, length-append es (e ∷ [])) in
    let one : cond (is_wait_for of (new.entry (length es + 1))) 1 0 ≡ waits_more (entry_waits e) of =
    ap (λ (e : Option LogEntry). cond (is_wait_for of e) 1 0) ((Logged-newest es e).is) ∙ entry_more e of in
    let before : waits new of (length es + 1) ≡ waits (log_of es) of (length es + 1) = waits-extend (log_of es) new (Extends-added es e) of (length es + 1) (omega arith) in
    ap (waits new of) next ∙ ap (λ (k : ℕ). waits new of (length es + 1) + k) one ∙ ap (λ (k : ℕ). k + waits_more (entry_waits e) of) before

-- a log that stays as it is waits for none
pub WaitsFor-refl : (told : Option (List LogEntry)) → WaitsFor None told told
WaitsFor-refl told es t = record { before = es; was = t; waited = λ of. omega arith }

-- a log with one entry more
pub WaitsFor-added : (e : LogEntry) (old : Option (List LogEntry)) → WaitsFor (entry_waits e) old (added e old)
WaitsFor-added e old es told =
    let l = Longer-from_added e old es told in
    record {
      before = l.before;
      was = l.was;
      waited = λ of. subst
          (λ (es : List LogEntry). waits (log_of es) of (log_of es).next ≡ waits (log_of l.before) of (log_of l.before).next + waits_more (entry_waits e) of)
          (sym l.is) (waits-added l.before e of);
    }

-- a log that waited for none, and then for what was polled
pub WaitsFor-then : (polled : Option ℕ) (a b c : Option (List LogEntry)) → WaitsFor None a b → WaitsFor polled b c → WaitsFor polled a c
WaitsFor-then polled a b c x y es t =
    let two = y es t in
    let one = x two.before two.was in
    record { before = one.before; was = one.was; waited = λ of. omega (arith, one.waited of, two.waited of) }

-- ---- the laws

module _ (now : ℕ) (old new : Option (List LogEntry)) where
  -- a poll
  poll-waits : (heard : Heard) → new ≡ with_entries (poll_entry now heard) old → WaitsFor (waited_for heard) old new
  poll-waits (Waiting of) grew = subst (WaitsFor (Some of) old) (sym grew) (WaitsFor-added (line.Waited of) old)
  poll-waits OutOfMemory grew = subst (WaitsFor None old) (sym grew) (WaitsFor-refl old)
  poll-waits (Connected sent) grew = subst (WaitsFor None old) (sym grew) (WaitsFor-added (line.Told sent.of now said.Connected) old)
  poll-waits (Answered sent message) grew = subst (WaitsFor None old) (sym grew) (WaitsFor-added (line.Told sent.of now (said.Message message)) old)
  poll-waits (Failed sent error) grew = subst (WaitsFor None old) (sym grew) (WaitsFor-added (line.Told sent.of now (said.Error error)) old)
  poll-waits Resting grew = subst (WaitsFor None old) (sym grew) (WaitsFor-refl old)
  poll-waits Slept grew = subst (WaitsFor None old) (sym grew) (WaitsFor-refl old)

-- a start, before the entries that follow it
start-waits : (now : ℕ) (refusal : Option NetError) (order : Order) (polled : Option ℕ) (more : List LogEntry) (old new : Option (List LogEntry))
    → ((mid : Option (List LogEntry)) → new ≡ with_entries more mid → WaitsFor polled mid new)
    → new ≡ with_entries (start_entry now refusal order ++ more) old → WaitsFor polled old new
start-waits now refusal (Open ip config) polled more old new later grew =
    let e = line.Opened ip (protocol_of config.protocol) now refusal in
    WaitsFor-then polled old (added e old) new (WaitsFor-added e old) (later (added e old) grew)
start-waits now refusal (Ask conn ip protocol request) polled more old new later grew =
    let e = line.Asked ip protocol request.query now refusal in
    WaitsFor-then polled old (added e old) new (WaitsFor-added e old) (later (added e old) grew)
start-waits now refusal (Sleep until) polled more old new later grew = later old grew

-- a start alone
start-waits_alone : (now : ℕ) (refusal : Option NetError) (order : Order) (old new : Option (List LogEntry))
    → new ≡ with_entries (start_entry now refusal order) old → WaitsFor None old new
start-waits_alone now refusal (Open ip config) old new grew = subst (WaitsFor None old) (sym grew) (WaitsFor-added (line.Opened ip (protocol_of config.protocol) now refusal) old)
start-waits_alone now refusal (Ask conn ip protocol request) old new grew = subst (WaitsFor None old) (sym grew) (WaitsFor-added (line.Asked ip protocol request.query now refusal) old)
start-waits_alone now refusal (Sleep until) old new grew = subst (WaitsFor None old) (sym grew) (WaitsFor-refl old)

-- a call waits once more for what it polled, where it found nothing, and for nothing else
pub carried-waits : {P : Type 0} (key : OrderKey) (order : Order) (now : ℕ) (old new : State P) (result : Option (Option Outcome)) (c : Carried key order now old new result)
    → WaitsFor (waited_by c.did) old.log new.log
carried-waits key order now old new result c = by c.did c.log
  where
    by : (d : Did) → new.log ≡ with_entries (appended now order d) old.log → WaitsFor (waited_by d) old.log new.log
    by Barred grew = subst (WaitsFor None old.log) (sym grew) (WaitsFor-refl old.log)
    by LacksMemory grew = subst (WaitsFor None old.log) (sym grew) (WaitsFor-refl old.log)
    by (Refused sent error) grew = start-waits_alone now (Some error) order old.log new.log grew
    by (Started heard) grew =
        start-waits now None order (waited_for heard) (poll_entry now heard) old.log new.log (λ mid later. poll-waits now mid new.log heard later) grew
    by (Polled heard) grew = poll-waits now old.log new.log heard grew

-- a give-up waits for nothing
pub given_up-waits : {P : Type 0} (key : OrderKey) (now : ℕ) (old new : State P) → GivenUp key now old new → WaitsFor None old.log new.log
given_up-waits key now old new g = by (sent_in (old.stands key)) g.log
  where
    by : (sent : Option SentBy) → new.log ≡ with_entries (give_up_entry now sent) old.log → WaitsFor None old.log new.log
    by None grew = subst (WaitsFor None old.log) (sym grew) (WaitsFor-refl old.log)
    by (Some sent) grew = subst (WaitsFor None old.log) (sym grew) (WaitsFor-added (line.GaveUp sent.of now) old.log)

-- ---- patience

-- a log that waited for nothing is as patient as before
pub patient-none : (most : ℕ) (old new : Option (List LogEntry)) → WaitsFor None old new → IsPatient most old new
patient-none most old new w es t =
    let l = w es t in
    record { before = l.before; was = l.was; waited = λ of. omega (arith, l.waited of) }

-- a log that stays as it is waits for nothing
pub IsPatient-refl : (most : ℕ) (told : Option (List LogEntry)) → IsPatient most told told
IsPatient-refl most told = patient-none most told told (WaitsFor-refl told)

-- one that waited for what was waited for less often is patient
pub patient-polled : (most polled : ℕ) (old new : Option (List LogEntry)) → TellsThat old (λ log. waits log polled log.next < most)
    → WaitsFor (Some polled) old new → IsPatient most old new
patient-polled most polled old new fewer w es t =
    let l = w es t in
    let was : ℕ → ℕ = λ of. waits (log_of l.before) of (log_of l.before).next in
    record { before = l.before; was = l.was; waited = λ of. by_number was (fewer l.before l.was) of (l.waited of) (polled == of) refl }
  where
    by_number : (was : ℕ → ℕ) → was polled < most → (of : ℕ) {now : ℕ} → now ≡ was of + waits_more (Some polled) of → (b : Bool) → (polled == of) ≡ b
        → now ≤ max (was of) most
    by_number was few of at false is = omega (arith, at, ap {B = ℕ} (λ (b : Bool). cond b 1 0) is)
    by_number was few of at true is =
        let less : was of < most = subst (λ (k : ℕ). was k < most) (eqb-true polled of is) few in
        omega (arith, at, ap {B = ℕ} (λ (b : Bool). cond b 1 0) is, less)

-- two patient steps are one
pub IsPatient-trans : (most : ℕ) (a b c : Option (List LogEntry)) → IsPatient most a b → IsPatient most b c → IsPatient most a c
IsPatient-trans most a b c x y es t =
    let two = y es t in
    let one = x two.before two.was in
    record { before = one.before; was = one.was; waited = λ of. omega (arith, one.waited of, two.waited of) }

-- a call is patient where what it polled was waited for less often
pub carried-patient : {P : Type 0} (most : ℕ) (key : OrderKey) (order : Order) (now : ℕ) (old new : State P) (result : Option (Option Outcome)) (c : Carried key order now old new result)
    → ((of : ℕ) → waited_by c.did ≡ Some of → TellsThat old.log (λ log. waits log of log.next < most)) → IsPatient most old.log new.log
carried-patient most key order now old new result c fewer = by (waited_by c.did) fewer (carried-waits key order now old new result c)
  where
    by : (polled : Option ℕ) → ((of : ℕ) → polled ≡ Some of → TellsThat old.log (λ log. waits log of log.next < most)) → WaitsFor polled old.log new.log
        → IsPatient most old.log new.log
    by None fewer waited = patient-none most old.log new.log waited
    by (Some polled) fewer waited = patient-polled most polled old.log new.log (fewer polled refl) waited

-- ---- which entry is waited for

-- a poll waits for what was sent
heard-waited : (now : ℕ) (order : Order) (sent : Option SentBy) (heard : Heard) (of : ℕ) → MayHear now order sent heard → waited_for heard ≡ Some of
    → (s : SentBy) × (sent ≡ Some s) × (s.of ≡ of)
heard-waited now order None (Waiting k) of may is = cc
heard-waited now order (Some s) (Waiting k) of may is = (s, refl, same_Some _ _ (may ∙ is))
heard-waited now order sent OutOfMemory of may is = cc
heard-waited now order sent (Connected s) of may is = cc
heard-waited now order sent (Answered s message) of may is = cc
heard-waited now order sent (Failed s error) of may is = cc
heard-waited now order sent Resting of may is = cc
heard-waited now order sent Slept of may is = cc

-- what a call waits for is what was sent for the order before, or the entry that came next
pub carried-waited : {P : Type 0} (key : OrderKey) (order : Order) (now : ℕ) (old new : State P) (result : Option (Option Outcome)) (c : Carried key order now old new result) (of : ℕ)
    → waited_by c.did ≡ Some of → ((s : SentBy) × (sent_in (old.stands key) ≡ Some s) × (s.of ≡ of)) ⊎ (of ≡ old.entries + 1)
carried-waited key order now old new result c of = by c.did c.may
  where
    by : (d : Did) → May old key order now d → waited_by d ≡ Some of → ((s : SentBy) × (sent_in (old.stands key) ≡ Some s) × (s.of ≡ of)) ⊎ (of ≡ old.entries + 1)
    by Barred may is = cc
    by LacksMemory may is = cc
    by (Refused sent error) may is = cc
    by (Started heard) may is =
        let w = heard-waited now order (sent_for (old.entries + 1) now order) heard of may.1 is in
        inr (sym w.2 ∙ (sent_for-new (old.entries + 1) now order w.0 w.1).by_entry)
    by (Polled heard) may is =
        let w = heard-waited now order may.sent heard of may.hears is in
        inl (w.0, ap sent_in may.stood ∙ w.1, w.2)

-- a poll that is pending names what it waits for; a sleep waits for nothing
told-waits : (next entry of : ℕ) (heard : Heard) → Some (Some (outcome.Pending entry of)) ≡ told_by next heard
    → (waited_for heard ≡ Some of) ⊎ ((waited_for heard ≡ None) × (of ≡ 0))
told-waits next entry of (Waiting k) is = let same : k ≡ of = cc in inl (ap (λ (n : ℕ). Some n) same)
told-waits next entry of OutOfMemory is = cc
told-waits next entry of (Connected sent) is = cc
told-waits next entry of (Answered sent message) is = cc
told-waits next entry of (Failed sent error) is = cc
told-waits next entry of Resting is = inr (refl, (cc))
told-waits next entry of Slept is = cc

-- so does a call
pub pending-waits : {P : Type 0} (key : OrderKey) (order : Order) (now : ℕ) (old new : State P) (entry of : ℕ) (c : Carried key order now old new (Some (Some (outcome.Pending entry of))))
    → (waited_by c.did ≡ Some of) ⊎ ((waited_by c.did ≡ None) × (of ≡ 0))
pending-waits key order now old new entry of c = by c.did c.handed_out
  where
    by : (d : Did) → Some (Some (outcome.Pending entry of)) ≡ handed (old.entries + 1) d → (waited_by d ≡ Some of) ⊎ ((waited_by d ≡ None) × (of ≡ 0))
    by Barred is = cc
    by LacksMemory is = cc
    by (Refused sent error) is = cc
    by (Started heard) is = told-waits (old.entries + 1 + 1) entry of heard is
    by (Polled heard) is = told-waits (old.entries + 1) entry of heard is
