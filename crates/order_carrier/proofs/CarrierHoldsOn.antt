-- What holds of a carrier holds after each call.
use Rattle.std.proofs.Common.{Bool, true, false, cond, ◌≡◌, ◌==◌, ◌≤◌, ◌<◌, ◌+◌, ◌-◌, ◌^◌, ◌⊎◌, ⊎_elim, inl, inr, ℕ, List, ◌++◌, length, Option, Some, None, refl, sym, ◌∙◌, ap, subst, arith}
use Rattle.std.specs.Prelude.{◌≢◌}
use Rattle.std.proofs.lemmas.Bool.{eqb-true}
use Rattle.std.proofs.lemmas.Option.{same_Some}
use Rattle.dns_core.specs.Connection.{protocol_of}
use Rattle.dns_core.specs.Log.{Log, Extends, log_of, added}
use Rattle.dns_core.specs.declared.log.LogEntry.{LogEntry}
use Rattle.dns_core.specs.declared.log.LogEntry.TheVariants as line
use Rattle.dns_core.specs.declared.net_error.NetError.{NetError}
use Rattle.resolution.proofs.LongerLogs.{Logged-extend}
use Rattle.server_core.specs.declared.orders.order.Order.{Order}
use Rattle.server_core.specs.declared.orders.order.Order.TheVariants.{Open, Ask, Sleep}
use Rattle.server_core.specs.declared.orders.order.Outcome.{Outcome}
use Rattle.server_core.specs.declared.orders.order.SentBy.{SentBy}
use Rattle.order_carrier.specs.Awaited.{sent_for, counted_after}
use Rattle.order_carrier.specs.Carrying.{AllSent, AreApart, IsUnwaited, StateHolds}
use Rattle.order_carrier.specs.Closing.{AreClosedOnce, closings, closed_for, closed_by}
use Rattle.order_carrier.specs.Did.{Did, State, Carried, May, MayHear, HasNumbers, start_entry, poll_entry, appended, sent_in, made_by, heard_stand, stand_after}
use Rattle.order_carrier.specs.Did.Did.{Barred, LacksMemory, Refused, Started, Polled}
use Rattle.order_carrier.specs.Fits.{IsSent}
use Rattle.order_carrier.specs.GivingUp.{GivenUp, give_up_entry}
use Rattle.order_carrier.specs.Growing.{TellsThat, Counted, with_entries, Grown}
use Rattle.order_carrier.specs.Patience.{WaitsFor, waits_more, waited_for, waited_by}
use Rattle.order_carrier.specs.declared.key.OrderKey.{OrderKey}
use Rattle.order_carrier.specs.declared.polling.Heard.{Heard}
use Rattle.order_carrier.specs.declared.polling.Heard.TheVariants as hear
use Rattle.order_carrier.proofs.ClosedOnce.{appended-closes, closed_up, given_up-closes, closes-with, closed-once, still-open}
use Rattle.order_carrier.proofs.LogGrowsByCalls.{Counted-with, Grown-with, poll_at, carried-grown, given_up-grown}
use Rattle.order_carrier.proofs.KeysCompareEqual.{key_cases}
use Rattle.order_carrier.proofs.OutcomeIsOfItsOrder.{sent_for-new, start-sent}
use Rattle.order_carrier.proofs.LogWaitsOnceMore.{carried-waits, given_up-waits}

-- what was sent stays sent
pub IsSent-extend : (old new : Log) → Extends old new → (s : SentBy) (refusal : Option NetError) → IsSent old s refusal → IsSent new s refusal
IsSent-extend old new x s refusal h = record { protocol = h.protocol; logged = Logged-extend old new x _ _ h.logged }

-- an entry is not waited for more where the one that was polled is below it
waits_more-other : (polled : Option ℕ) (of : ℕ) → ((k : ℕ) → polled ≡ Some k → k < of) → waits_more polled of ≡ 0
waits_more-other None of below = refl
waits_more-other (Some k) of below = by (k == of) refl
  where
    by : (b : Bool) → (k == of) ≡ b → waits_more (Some k) of ≡ 0
    by false is = ap {B = ℕ} (λ (b : Bool). cond b 1 0) is
    by true is = absurd (omega (arith, below k refl, eqb-true k of is))

-- What is under way was started by the call, by the entry that came next.
record WasStarted {P : Type 0} (old new : State P) (s : SentBy) : Type 0 where
  numbers : HasNumbers old.entries
  next : s.of ≡ old.entries + 1
  sent : TellsThat new.log (λ log. IsSent log s None)

-- ---- a step in one place

module _ {P : Type 0} (key : OrderKey) (now : ℕ) (old new : State P) (h : StateHolds old) (grown : Grown now old.log new.log)
    (others : (k : OrderKey) → k ≢ key → new.stands k ≡ old.stands k)
    (there : (s : SentBy) → sent_in (new.stands key) ≡ Some s → (sent_in (old.stands key) ≡ Some s) ⊎ WasStarted old new s) where
  -- what is under way elsewhere was so before
  elsewhere : (k : OrderKey) → k ≢ key → (s : SentBy) → sent_in (new.stands k) ≡ Some s → sent_in (old.stands k) ≡ Some s
  elsewhere k differ s is = ap sent_in (sym (others k differ)) ∙ is

  -- what was under way before was sent
  was-sent : (es : List LogEntry) → new.log ≡ Some es → (k : OrderKey) (s : SentBy) → sent_in (old.stands k) ≡ Some s → IsSent (log_of es) s None
  was-sent es told k s is = let l = grown es told in IsSent-extend (log_of l.before) (log_of es) l.extends s None (h.sent l.before l.was k s is)

  -- and what is under way now
  all-sent : TellsThat new.log (AllSent new.stands)
  all-sent es told k s is = ⊎_elim
      (λ same. ⊎_elim
      (λ before. was-sent es told key s before)
      (λ started. started.sent es told)
      (there s (subst (λ (k : OrderKey). sent_in (new.stands k) ≡ Some s) same is)))
      (λ differ. was-sent es told k s (elsewhere k differ s is))
      (key_cases key k)

  -- what is under way there and elsewhere was sent by two entries
  there-apart : (es : List LogEntry) → new.log ≡ Some es → (k : OrderKey) → k ≢ key → (s t : SentBy)
      → sent_in (new.stands key) ≡ Some s → sent_in (new.stands k) ≡ Some t → s.of ≡ t.of → key ≡ k
  there-apart es told k differ s t at_key at same =
      let l = grown es told in
      let was = elsewhere k differ t at in
      let below = (h.sent l.before l.was k t was).logged.below in
      ⊎_elim
      (λ before. h.apart l.before l.was key k s t before was same)
      (λ started. absurd (omega (arith, started.next, same, below, started.numbers, h.counted (omega (arith, started.numbers)) l.before l.was)))
      (there s at_key)

  -- no two are by one
  all-apart : TellsThat new.log (λ log. AreApart new.stands)
  all-apart es told j k s t at_j at_k same = ⊎_elim
      (λ j_is. ⊎_elim
      (λ k_is. j_is ∙ sym k_is)
      (λ differ. j_is ∙ there-apart es told k differ s t (subst (λ (j : OrderKey). sent_in (new.stands j) ≡ Some s) j_is at_j) at_k same)
      (key_cases key k))
      (λ j_differs. ⊎_elim
      (λ k_is. sym (k_is ∙ there-apart es told j j_differs t s (subst (λ (k : OrderKey). sent_in (new.stands k) ≡ Some t) k_is at_k) at_j (sym same)))
      (λ k_differs.
      let l = grown es told in
      h.apart l.before l.was j k s t (elsewhere j j_differs s at_j) (elsewhere k k_differs t at_k) same)
      (key_cases key k))
      (key_cases key j)

  -- no entry to come was waited for
  all-unwaited : (polled : Option ℕ) → WaitsFor polled old.log new.log → ((of : ℕ) → polled ≡ Some of → TellsThat new.log (λ log. of < log.next))
      → TellsThat new.log IsUnwaited
  all-unwaited polled waits below es told of later =
      let w = waits es told in
      let l = grown es told in
      let from : (log_of w.before).next ≤ of =
      subst (λ (xs : List LogEntry). (log_of xs).next ≤ of) (same_Some _ _ (sym l.was ∙ w.was)) (omega (arith, l.extends.later, later)) in
      omega (
        arith,
        w.waited of,
        h.unwaited w.before w.was of from,
        waits_more-other polled of (λ k is. omega (arith, below k is es told, later)),
      )

  -- what was sent before has an old number
  sent-below : (es : List LogEntry) → old.log ≡ Some es → (k : OrderKey) (s : SentBy) → sent_in (old.stands k) ≡ Some s → s.of ≤ length es
  sent-below es was k s at = let below = (h.sent es was k s at).logged.below in omega (arith, below)

  -- what was started has the next one
  started-next : (es : List LogEntry) → old.log ≡ Some es → (s : SentBy) → WasStarted old new s → s.of ≡ length es + 1
  started-next es was s started = omega (arith, started.next, started.numbers, h.counted (omega (arith, started.numbers)) es was)

  -- neither was closed before
  opened-0 : (es : List LogEntry) → old.log ≡ Some es → (s : SentBy) → (sent_in (old.stands key) ≡ Some s) ⊎ WasStarted old new s → closings s.of es ≡ 0
  opened-0 es was s (inl at) = (h.closed es was).under_way key s at
  opened-0 es was s (inr started) = let next = started-next es was s started in (h.closed es was).ahead s.of (omega (arith, next))

  -- nor was what is under way now
  going-0 : (es : List LogEntry) → old.log ≡ Some es → (k : OrderKey) (s : SentBy) → sent_in (new.stands k) ≡ Some s → closings s.of es ≡ 0
  going-0 es was k s at = ⊎_elim
      (λ is. opened-0 es was s (there s (subst (λ (k : OrderKey). sent_in (new.stands k) ≡ Some s) is at)))
      (λ differ. (h.closed es was).under_way k s (elsewhere k differ s at))
      (key_cases key k)

  -- what is under way now is not what was closed
  not-closed : (es : List LogEntry) → old.log ≡ Some es → sent_in (new.stands key) ≡ None → (k : OrderKey) (s t : SentBy) → sent_in (new.stands k) ≡ Some s
      → (sent_in (old.stands key) ≡ Some t) ⊎ WasStarted old new t → t.of ≡ s.of → ⊥
  not-closed es was over k s t at opened same = ⊎_elim
      (λ is. let none = sym over ∙ subst (λ (k : OrderKey). sent_in (new.stands k) ≡ Some s) is at in cc)
      (λ differ. ⊎_elim
      (λ before. differ (sym (h.apart es was key k t s before (elsewhere k differ s at) same)))
      (λ started.
      let next = started-next es was t started in
      let below = sent-below es was k s (elsewhere k differ s at) in
      absurd (omega (arith, same, next, below)))
      opened)
      (key_cases key k)

  -- each entry is closed once, where what was closed was under way, and is over
  all-closed : (more : List LogEntry) (closed : Option ℕ) → ((of : ℕ) → closings of more ≡ waits_more closed of) → new.log ≡ with_entries more old.log
      → ((k : ℕ) → closed ≡ Some k → (s : SentBy) × (s.of ≡ k) × ((sent_in (old.stands key) ≡ Some s) ⊎ WasStarted old new s))
      → ((k : ℕ) → closed ≡ Some k → sent_in (new.stands key) ≡ None) → ((k : ℕ) → closed ≡ Some k → TellsThat new.log (λ log. k < log.next))
      → AreClosedOnce new.log new.stands
  all-closed more closed adds grew opened over below es told =
      let l = closes-with more closed old.log new.log adds grew es told in
      record {
        once = λ of. closed-once closed of (closings of l.0) (closings of es) (l.3 of) ((h.closed l.0 l.1).once of)
            (λ k is same.
            let o = opened k is in
            subst (λ (n : ℕ). closings n l.0 ≡ 0) (o.1 ∙ same) (opened-0 l.0 l.1 o.0 o.2));
        under_way = λ k s at. still-open closed s.of (closings s.of l.0) (closings s.of es) (l.3 s.of) (going-0 l.0 l.1 k s at)
            (λ n is same.
            let o = opened n is in
            not-closed l.0 l.1 (over n is) k s o.0 at o.2 (o.1 ∙ same));
        ahead = λ of later. still-open closed of (closings of l.0) (closings of es) (l.3 of) ((h.closed l.0 l.1).ahead of (omega (arith, l.2, later)))
            (λ k is same. absurd (omega (arith, same, later, below k is es told)));
      }

-- ---- a call

-- what is under way after a poll was so before
heard-sent : (order : Order) (sent : Option SentBy) (heard : Heard) (s : SentBy) → sent_in (heard_stand order sent heard) ≡ Some s → sent ≡ Some s
heard-sent order sent (hear.Waiting of) s is = is
heard-sent order sent hear.OutOfMemory s is = is
heard-sent (Open ip config) sent (hear.Connected x) s is = cc
heard-sent (Ask conn ip protocol request) sent (hear.Connected x) s is = cc
heard-sent (Sleep until) sent (hear.Connected x) s is = cc
heard-sent order sent (hear.Answered x message) s is = cc
heard-sent order sent (hear.Failed x error) s is = cc
heard-sent order sent hear.Resting s is = is
heard-sent order sent hear.Slept s is = cc

-- what a start sent is sent after its poll
started-sent : (now n : ℕ) (order : Order) (heard : Heard) (s : SentBy) (old new : Option (List LogEntry)) → sent_for (n + 1) now order ≡ Some s → Counted old n
    → new ≡ with_entries (start_entry now None order ++ poll_entry now heard) old → TellsThat new (λ log. IsSent log s None)
started-sent now n (Open ip config) heard s old new is counted grew es told =
    let mid = added (line.Opened ip (protocol_of config.protocol) now None) old in
    let l = Grown-with now (poll_entry now heard) mid new (poll_at now heard) grew es told in
    IsSent-extend (log_of l.before) (log_of es) l.extends s None (start-sent now n None (Open ip config) s old mid is refl counted l.before l.was)
started-sent now n (Ask conn ip protocol request) heard s old new is counted grew es told =
    let mid = added (line.Asked ip protocol request.query now None) old in
    let l = Grown-with now (poll_entry now heard) mid new (poll_at now heard) grew es told in
    IsSent-extend (log_of l.before) (log_of es) l.extends s None (start-sent now n None (Ask conn ip protocol request) s old mid is refl counted l.before l.was)
started-sent now n (Sleep until) heard s old new is counted grew es told = cc

-- what is waited for was sent
waited-below : (now : ℕ) (order : Order) (sent : Option SentBy) (heard : Heard) (new : Option (List LogEntry)) → MayHear now order sent heard
    → ((s : SentBy) → sent ≡ Some s → TellsThat new (λ log. IsSent log s None)) → (of : ℕ) → waited_for heard ≡ Some of → TellsThat new (λ log. of < log.next)
waited-below now order None (hear.Waiting k) new may was of is = cc
waited-below now order (Some s) (hear.Waiting k) new may was of is = λ es told.
    subst (λ (x : ℕ). x < (log_of es).next) (same_Some _ _ (may ∙ is)) (was s refl es told).logged.below
waited-below now order sent hear.OutOfMemory new may was of is = cc
waited-below now order sent (hear.Connected s) new may was of is = cc
waited-below now order sent (hear.Answered s message) new may was of is = cc
waited-below now order sent (hear.Failed s error) new may was of is = cc
waited-below now order sent hear.Resting new may was of is = cc
waited-below now order sent hear.Slept new may was of is = cc

-- what a poll closes was sent for the order, and is over
closed-sent : (now : ℕ) (order : Order) (sent : Option SentBy) (heard : Heard) (k : ℕ) → MayHear now order sent heard → closed_for heard ≡ Some k
    → (s : SentBy) × (s.of ≡ k) × (sent ≡ Some s)
closed-sent now order sent (hear.Waiting of) k may is = cc
closed-sent now order sent hear.OutOfMemory k may is = cc
closed-sent now order sent (hear.Connected s) k may is = (s, same_Some _ _ is, may.0)
closed-sent now order sent (hear.Answered s message) k may is = (s, same_Some _ _ is, may.0)
closed-sent now order sent (hear.Failed s error) k may is = (s, same_Some _ _ is, may.0)
closed-sent now order sent hear.Resting k may is = cc
closed-sent now order sent hear.Slept k may is = cc

-- a connection that was made is no more under way
made-over : (order : Order) → sent_in (made_by order) ≡ None
made-over (Open ip config) = refl
made-over (Ask conn ip protocol request) = refl
made-over (Sleep until) = refl

-- nor is anything that was closed
closed-over : (order : Order) (sent : Option SentBy) (heard : Heard) (k : ℕ) → closed_for heard ≡ Some k → sent_in (heard_stand order sent heard) ≡ None
closed-over order sent (hear.Waiting of) k is = cc
closed-over order sent hear.OutOfMemory k is = cc
closed-over order sent (hear.Connected s) k is = made-over order
closed-over order sent (hear.Answered s message) k is = refl
closed-over order sent (hear.Failed s error) k is = refl
closed-over order sent hear.Resting k is = cc
closed-over order sent hear.Slept k is = cc

module _ {P : Type 0} (key : OrderKey) (order : Order) (now : ℕ) (old new : State P) (result : Option (Option Outcome)) (h : StateHolds old)
    (c : Carried key order now old new result) where
  -- what is under way there was so before, or was started
  carried-there : (s : SentBy) → sent_in (new.stands key) ≡ Some s → (sent_in (old.stands key) ≡ Some s) ⊎ WasStarted old new s
  carried-there s is = by c.did c.may c.log (ap sent_in (sym c.stand) ∙ is)
    where
      by : (d : Did) → May old key order now d → new.log ≡ with_entries (appended now order d) old.log
          → sent_in (stand_after (old.entries + 1) now order (old.stands key) d) ≡ Some s → (sent_in (old.stands key) ≡ Some s) ⊎ WasStarted old new s
      by Barred may grew at = inl at
      by LacksMemory may grew at = inl at
      by (Refused x error) may grew at = cc
      by (Started heard) may grew at =
          let is = heard-sent order (sent_for (old.entries + 1) now order) heard s at in
          inr (record {
            numbers = may.0.numbers;
            next = (sent_for-new (old.entries + 1) now order s is).by_entry;
            sent = started-sent now old.entries order heard s old.log new.log is (h.counted (omega (arith, may.0.numbers))) grew;
          })
      by (Polled heard) may grew at = inl (heard-sent order (sent_in (old.stands key)) heard s at)

  -- what it waited for was sent
  carried-below : (of : ℕ) → waited_by c.did ≡ Some of → TellsThat new.log (λ log. of < log.next)
  carried-below = by c.did c.may c.log
    where
      by : (d : Did) → May old key order now d → new.log ≡ with_entries (appended now order d) old.log → (of : ℕ) → waited_by d ≡ Some of
          → TellsThat new.log (λ log. of < log.next)
      by Barred may grew of is = cc
      by LacksMemory may grew of is = cc
      by (Refused s error) may grew of is = cc
      by (Started heard) may grew of is = waited-below now order (sent_for (old.entries + 1) now order) heard new.log may.1
          (λ s at. started-sent now old.entries order heard s old.log new.log at (h.counted (omega (arith, may.0.numbers))) grew) of is
      by (Polled heard) may grew of is = waited-below now order may.sent heard new.log may.hears
          (λ s at es told.
          let l = Grown-with now (poll_entry now heard) old.log new.log (poll_at now heard) grew es told in
          IsSent-extend (log_of l.before) (log_of es) l.extends s None (h.sent l.before l.was key s (ap sent_in may.stood ∙ at))) of is

  -- what it closed was under way before, or was started
  carried-opened : (k : ℕ) → closed_by c.did ≡ Some k → (s : SentBy) × (s.of ≡ k) × ((sent_in (old.stands key) ≡ Some s) ⊎ WasStarted old new s)
  carried-opened = by c.did c.may c.log
    where
      by : (d : Did) → May old key order now d → new.log ≡ with_entries (appended now order d) old.log → (k : ℕ) → closed_by d ≡ Some k
          → (s : SentBy) × (s.of ≡ k) × ((sent_in (old.stands key) ≡ Some s) ⊎ WasStarted old new s)
      by Barred may grew k is = cc
      by LacksMemory may grew k is = cc
      by (Refused s error) may grew k is = cc
      by (Started heard) may grew k is =
          let x = closed-sent now order (sent_for (old.entries + 1) now order) heard k may.1 is in (
            x.0,
            x.1,
            inr (record {
              numbers = may.0.numbers;
              next = (sent_for-new (old.entries + 1) now order x.0 x.2).by_entry;
              sent = started-sent now old.entries order heard x.0 old.log new.log x.2 (h.counted (omega (arith, may.0.numbers))) grew;
            }),
          )
      by (Polled heard) may grew k is =
          let x = closed-sent now order may.sent heard k may.hears is in
          (x.0, x.1, inl (ap sent_in may.stood ∙ x.2))

  -- it is over
  carried-over : (k : ℕ) → closed_by c.did ≡ Some k → sent_in (new.stands key) ≡ None
  carried-over k is = ap sent_in c.stand ∙ by c.did is
    where
      by : (d : Did) → closed_by d ≡ Some k → sent_in (stand_after (old.entries + 1) now order (old.stands key) d) ≡ None
      by Barred is = cc
      by LacksMemory is = cc
      by (Refused s error) is = cc
      by (Started heard) is = closed-over order (sent_for (old.entries + 1) now order) heard k is
      by (Polled heard) is = closed-over order (sent_in (old.stands key)) heard k is

  -- and has a number of the log
  carried-closed : (k : ℕ) → closed_by c.did ≡ Some k → TellsThat new.log (λ log. k < log.next)
  carried-closed k is es told =
      let o = carried-opened k is in
      let l = carried-grown key order now old new result c es told in
      subst (λ (n : ℕ). n < (log_of es).next) o.1 (⊎_elim
      (λ before.
      let below = (h.sent l.before l.was key o.0 before).logged.below in
      omega (arith, below, l.extends.later))
      (λ started. (started.sent es told).logged.below)
      o.2)

  -- so all of it holds after a call that leaves every other order where it stood
  pub carried-holds : ((k : OrderKey) → k ≢ key → new.stands k ≡ old.stands k) → StateHolds new
  carried-holds others =
      let grown = carried-grown key order now old new result c in
      record {
        counted = λ room. subst (λ (told : Option (List LogEntry)). Counted told new.entries) (sym c.log) (subst (Counted (with_entries (appended now order c.did) old.log)) (sym c.entries)
            (Counted-with (appended now order c.did) old.log old.entries (h.counted (omega (arith, room, c.entries)))));
        sent = all-sent key now old new h grown others carried-there;
        apart = all-apart key now old new h grown others carried-there;
        unwaited = all-unwaited key now old new h grown others carried-there (waited_by c.did) (carried-waits key order now old new result c) carried-below;
        closed = all-closed key now old new h grown others carried-there (appended now order c.did) (closed_by c.did) (λ of. appended-closes of now order c.did) c.log
            carried-opened carried-over carried-closed;
      }

-- ---- a give-up

-- nor is anything under way that was given up
given_up-there : {P : Type 0} (key : OrderKey) (now : ℕ) (old new : State P) → GivenUp key now old new → (s : SentBy) → sent_in (new.stands key) ≡ Some s
    → (sent_in (old.stands key) ≡ Some s) ⊎ WasStarted old new s
given_up-there key now old new g s is = let none : None ≡ Some s = ap sent_in (sym g.stand) ∙ is in cc

-- what was given up was under way
given_up-opened : {P : Type 0} (old new : State P) (key : OrderKey) (sent : Option SentBy) → sent_in (old.stands key) ≡ sent → (k : ℕ) → closed_up sent ≡ Some k
    → (s : SentBy) × (s.of ≡ k) × ((sent_in (old.stands key) ≡ Some s) ⊎ WasStarted old new s)
given_up-opened old new key None at k is = cc
given_up-opened old new key (Some s) at k is = (s, same_Some _ _ is, inl at)

-- an entry more is counted, as far as the count goes
one_more : (now n m : ℕ) (sent : Option SentBy) → m ≡ counted_after n sent → m + 1 < 2 ^ 64 → m ≡ n + length (give_up_entry now sent)
one_more now n m None counts room = omega (arith, counts)
one_more now n m (Some sent) counts room = omega (arith, counts, room)

-- so all of it holds after a give-up
pub given_up-holds : {P : Type 0} (key : OrderKey) (now : ℕ) (old new : State P) → StateHolds old → GivenUp key now old new
    → ((k : OrderKey) → k ≢ key → new.stands k ≡ old.stands k) → StateHolds new
given_up-holds key now old new h g others =
    let grown = given_up-grown key now old new g in
    let there = given_up-there key now old new g in
    let more = give_up_entry now (sent_in (old.stands key)) in
    record {
      counted = λ room.
          let count = one_more now old.entries new.entries (sent_in (old.stands key)) g.entries room in
          subst (λ (told : Option (List LogEntry)). Counted told new.entries) (sym g.log) (subst (Counted (with_entries more old.log)) (sym count)
          (Counted-with more old.log old.entries (h.counted (omega (arith, room, count)))));
      sent = all-sent key now old new h grown others there;
      apart = all-apart key now old new h grown others there;
      unwaited = all-unwaited key now old new h grown others there None (given_up-waits key now old new g) (λ of is. cc);
      closed =
          let opened = given_up-opened old new key (sent_in (old.stands key)) refl in
          all-closed key now old new h grown others there more (closed_up (sent_in (old.stands key))) (λ of. given_up-closes of now (sent_in (old.stands key))) g.log opened
          (λ k is. ap sent_in g.stand)
          (λ k is es told.
          let o = opened k is in
          let l = grown es told in
          subst (λ (n : ℕ). n < (log_of es).next) o.1 (⊎_elim
          (λ before.
          let below = (h.sent l.before l.was key o.0 before).logged.below in
          omega (arith, below, l.extends.later))
          (λ started. (started.sent es told).logged.below)
          o.2));
    }
