-- What a call hands out is an outcome of its order, and the log has it.
use Rattle.std.proofs.Common.{◌≡◌, ◌<◌, ◌+◌, ℕ, false, List, [], ◌∷◌, ◌++◌, length, Option, Some, None, refl, sym, ◌∙◌, ap, subst, arith}
use Rattle.std.proofs.lemmas.Option.{same_Some}
use Rattle.dns_core.specs.Connection.{protocol_of}
use Rattle.dns_core.specs.Log.{Log, log_of, added}
use Rattle.dns_core.specs.declared.log.LogEntry.{LogEntry}
use Rattle.dns_core.specs.declared.log.LogEntry.TheVariants as line
use Rattle.dns_core.specs.declared.log.ToldOutcome.TheVariants as said
use Rattle.dns_core.specs.declared.message.Message.{Message}
use Rattle.dns_core.specs.declared.net_error.NetError.{NetError}
use Rattle.resolution.specs.Telling.{Logged}
use Rattle.resolution.proofs.LongerLogs.{Logged-extend}
use Rattle.server_core.specs.declared.orders.order.Order.{Order}
use Rattle.server_core.specs.declared.orders.order.Order.TheVariants.{Open, Ask, Sleep}
use Rattle.server_core.specs.declared.orders.order.Outcome.{Outcome}
use Rattle.server_core.specs.declared.orders.order.Outcome.TheVariants as outcome
use Rattle.server_core.specs.declared.orders.order.SentBy.{SentBy}
use Rattle.order_carrier.specs.Awaited.{target, IsSentFor, sent_for}
use Rattle.order_carrier.specs.Carrying.{StateHolds}
use Rattle.order_carrier.specs.Did.{Did, State, Carried, May, MayHear, HasNumbers, start_entry, poll_entry, appended, told_by, handed, sent_in}
use Rattle.order_carrier.specs.Did.Did.{Barred, LacksMemory, Refused, Started, Polled}
use Rattle.order_carrier.specs.Fits.{IsSent, Closes, WaitsStill, IsPendingOf, IsOutcome}
use Rattle.order_carrier.specs.Growing.{TellsThat, Counted, with_entries}
use Rattle.order_carrier.specs.declared.key.OrderKey.{OrderKey}
use Rattle.order_carrier.specs.declared.polling.Heard.{Heard}
use Rattle.order_carrier.specs.declared.polling.Heard.TheVariants as hear
use Rattle.order_carrier.proofs.LogGrowsByCalls.{Longer-from_added, Extends-added, Logged-newest, Counted-added}

-- What a start sends has the number of the entry, and its moment, and is sent for the order.
pub record IsNew (of now : ℕ) (order : Order) (s : SentBy) : Type 0 where
  pub by_entry : s.of ≡ of
  pub at : s.moment ≡ now
  pub sends : IsSentFor order (Some s)

-- so it is
pub sent_for-new : (of now : ℕ) (order : Order) (s : SentBy) → sent_for of now order ≡ Some s → IsNew of now order s
sent_for-new of now (Open ip config) s is =
    let same = same_Some _ _ is in
    record { by_entry = ap (λ (s : SentBy). s.of) (sym same); at = ap (λ (s : SentBy). s.moment) (sym same); sends = ap (λ (s : SentBy). Some (target s)) (sym same) }
sent_for-new of now (Ask conn ip protocol request) s is =
    let same = same_Some _ _ is in
    record { by_entry = ap (λ (s : SentBy). s.of) (sym same); at = ap (λ (s : SentBy). s.moment) (sym same); sends = ap (λ (s : SentBy). Some (target s)) (sym same) }
sent_for-new of now (Sleep until) s is = cc

-- for an order is sent what a start sends
pub sent_for-sends : (of now : ℕ) (order : Order) → IsSentFor order (sent_for of now order)
sent_for-sends of now (Open ip config) = refl
sent_for-sends of now (Ask conn ip protocol request) = refl
sent_for-sends of now (Sleep until) = refl

-- the entry that was just appended
newest : (e : LogEntry) (old new : Option (List LogEntry)) (n : ℕ) → new ≡ added e old → Counted old n → TellsThat new (λ log. Logged log (n + 1) e)
newest e old new n grew counted es told =
    let l = Longer-from_added e old es (sym grew ∙ told) in
    let at : length l.before + 1 ≡ n + 1 = omega (arith, counted l.before l.was) in
    subst (λ (es : List LogEntry). Logged (log_of es) (n + 1) e) (sym l.is)
    (subst (λ (k : ℕ). Logged (log_of (l.before ++ e ∷ [])) k e) at (Logged-newest l.before e))

-- what was just sent, or refused
pub start-sent : (now n : ℕ) (refusal : Option NetError) (order : Order) (s : SentBy) (old new : Option (List LogEntry)) → sent_for (n + 1) now order ≡ Some s
    → new ≡ with_entries (start_entry now refusal order) old → Counted old n → TellsThat new (λ log. IsSent log s refusal)
start-sent now n refusal (Open ip config) s old new is grew counted es told =
    let protocol = protocol_of config.protocol in
    subst (λ (s : SentBy). IsSent (log_of es) s refusal) (same_Some _ _ is)
    (record { protocol = protocol; logged = newest (line.Opened ip protocol now refusal) old new n grew counted es told })
start-sent now n refusal (Ask conn ip protocol request) s old new is grew counted es told =
    subst (λ (s : SentBy). IsSent (log_of es) s refusal) (same_Some _ _ is)
    (record { protocol = protocol; logged = newest (line.Asked ip protocol request.query now refusal) old new n grew counted es told })
start-sent now n refusal (Sleep until) s old new is grew counted es told = cc

-- what was sent stays sent
pub IsSent-added : (e : LogEntry) (es : List LogEntry) (s : SentBy) (refusal : Option NetError) → IsSent (log_of es) s refusal → IsSent (log_of (es ++ e ∷ [])) s refusal
IsSent-added e es s refusal h = record { protocol = h.protocol; logged = Logged-extend (log_of es) (log_of (es ++ e ∷ [])) (Extends-added es e) _ _ h.logged }

-- what was sent is spoken of by the entry that was just appended
closes : (e : LogEntry) (s : SentBy) (n : ℕ) (old new : Option (List LogEntry)) → new ≡ added e old → Counted old n
    → TellsThat old (λ log. IsSent log s None) → TellsThat new (λ log. Closes log s (n + 1) e)
closes e s n old new grew counted sent es told =
    let l = Longer-from_added e old es (sym grew ∙ told) in
    let was = sent l.before l.was in
    record {
      sent = subst (λ (es : List LogEntry). IsSent (log_of es) s None) (sym l.is) (IsSent-added e l.before s None was);
      logged = newest e old new n grew counted es told;
      before = omega (arith, was.logged.below, counted l.before l.was);
    }

-- what was sent for an order is waited for: no sleep was sent
pending_of : (log : Log) (now : ℕ) (order : Order) (s : SentBy) (entry of : ℕ) → IsSentFor order (Some s) → WaitsStill log order entry of
    → IsPendingOf log now order entry of
pending_of log now (Open ip config) s entry of sends waits = waits
pending_of log now (Ask conn ip protocol request) s entry of sends waits = waits
pending_of log now (Sleep until) s entry of sends waits = cc

-- a sleep that rests
resting : (log : Log) (now : ℕ) (order : Order) (until : ℕ) → order ≡ Sleep until → now < until → IsPendingOf log now order 0 0
resting log now order until is before = subst (λ (order : Order). IsPendingOf log now order 0 0) (sym is) (refl, refl, before)

module _ (now n : ℕ) (order : Order) (old new : Option (List LogEntry)) where
  -- What was sent for the order was sent by an entry of the log before, all of whose entries are counted.
  abbrev WasSent : SentBy → Type 0
  WasSent s = IsSentFor order (Some s) × TellsThat old (λ log. IsSent log s None) × Counted old n

  -- a poll that found nothing
  waiting-outcome : (s : SentBy) (of : ℕ) → s.of ≡ of → WasSent s → new ≡ added (line.Waited of) old
      → TellsThat new (λ log. IsOutcome log now order (outcome.Pending (n + 1) of))
  waiting-outcome s of by_entry was grew es told =
      let ends = closes (line.Waited of) s n old new grew was.2 was.1 es told in
      record {
        fits = record { within = ends.logged.below; is = tt };
        of_order = pending_of (log_of es) now order s (n + 1) of was.0 (record { sent = s; sends = was.0; by_entry = by_entry; waits = ends });
      }

  -- a connection
  connected-outcome : (s : SentBy) → s.query ≡ None → WasSent s → new ≡ added (line.Told s.of now said.Connected) old
      → TellsThat new (λ log. IsOutcome log now order (outcome.Connected (n + 1) s))
  connected-outcome s none was grew es told =
      let ends = closes (line.Told s.of now said.Connected) s n old new grew was.2 was.1 es told in
      record { fits = record { within = ends.logged.below; is = ends }; of_order = (was.0, none) }

  -- an answer
  told-outcome : (s : SentBy) (message : Message) → s.query ≡ Some message.query → WasSent s → new ≡ added (line.Told s.of now (said.Message message)) old
      → TellsThat new (λ log. IsOutcome log now order (outcome.Told (n + 1) s message))
  told-outcome s message asked was grew es told =
      let ends = closes (line.Told s.of now (said.Message message)) s n old new grew was.2 was.1 es told in
      record { fits = record { within = ends.logged.below; is = (ends, asked) }; of_order = (was.0, asked) }

  -- an error
  failed-outcome : (s : SentBy) (error : NetError) → WasSent s → new ≡ added (line.Told s.of now (said.Error error)) old
      → TellsThat new (λ log. IsOutcome log now order (outcome.Failed (n + 1) s false error))
  failed-outcome s error was grew es told =
      let ends = closes (line.Told s.of now (said.Error error)) s n old new grew was.2 was.1 es told in
      record { fits = record { within = ends.logged.below; is = ends }; of_order = was.0 }

  -- a sleep rests, or has ended
  resting-outcome : (until : ℕ) → order ≡ Sleep until → now < until → TellsThat new (λ log. IsOutcome log now order (outcome.Pending 0 0))
  resting-outcome until is before es told =
      record { fits = record { within = omega arith; is = tt }; of_order = resting (log_of es) now order until is before }

  -- what is handed out of a poll
  heard-outcome : (sent : Option SentBy) (heard : Heard) (o : Outcome) → MayHear now order sent heard → ((s : SentBy) → sent ≡ Some s → WasSent s)
      → new ≡ with_entries (poll_entry now heard) old → Some (Some o) ≡ told_by (n + 1) heard → TellsThat new (λ log. IsOutcome log now order o)
  heard-outcome None (hear.Waiting of) o may was grew is = cc
  heard-outcome (Some s) (hear.Waiting of) o may was grew is =
      subst (λ (o : Outcome). TellsThat new (λ log. IsOutcome log now order o)) (sym (same_Some _ _ (same_Some _ _ is)))
      (waiting-outcome s of (same_Some _ _ may) (was s refl) grew)
  heard-outcome sent hear.OutOfMemory o may was grew is = cc
  heard-outcome sent (hear.Connected s) o may was grew is =
      subst (λ (o : Outcome). TellsThat new (λ log. IsOutcome log now order o)) (sym (same_Some _ _ (same_Some _ _ is)))
      (connected-outcome s may.1 (was s may.0) grew)
  heard-outcome sent (hear.Answered s message) o may was grew is =
      subst (λ (o : Outcome). TellsThat new (λ log. IsOutcome log now order o)) (sym (same_Some _ _ (same_Some _ _ is)))
      (told-outcome s message may.1 (was s may.0) grew)
  heard-outcome sent (hear.Failed s error) o may was grew is =
      subst (λ (o : Outcome). TellsThat new (λ log. IsOutcome log now order o)) (sym (same_Some _ _ (same_Some _ _ is)))
      (failed-outcome s error (was s may.0) grew)
  heard-outcome sent hear.Resting o may was grew is =
      subst (λ (o : Outcome). TellsThat new (λ log. IsOutcome log now order o)) (sym (same_Some _ _ (same_Some _ _ is)))
      (resting-outcome may.0 may.1 may.2)
  heard-outcome sent hear.Slept o may was grew is =
      subst (λ (o : Outcome). TellsThat new (λ log. IsOutcome log now order o)) (sym (same_Some _ _ (same_Some _ _ is)))
      (λ es told. record { fits = record { within = omega arith; is = tt }; of_order = may })

-- what a start hands out
started-outcome : (now n : ℕ) (order : Order) (heard : Heard) (o : Outcome) (old new : Option (List LogEntry)) → MayHear now order (sent_for (n + 1) now order) heard
    → Counted old n → new ≡ with_entries (start_entry now None order ++ poll_entry now heard) old → Some (Some o) ≡ told_by (n + 1 + 1) heard
    → TellsThat new (λ log. IsOutcome log now order o)
started-outcome now n (Open ip config) heard o old new may counted grew is =
    let e = line.Opened ip (protocol_of config.protocol) now None in
    let mid = added e old in
    let was : (s : SentBy) → sent_for (n + 1) now (Open ip config) ≡ Some s → WasSent now (n + 1) (Open ip config) mid new s = λ s h.
    ((sent_for-new (n + 1) now (Open ip config) s h).sends, start-sent now n None (Open ip config) s old mid h refl counted, Counted-added e old n counted) in
    heard-outcome now (n + 1) (Open ip config) mid new (sent_for (n + 1) now (Open ip config)) heard o may was grew is
started-outcome now n (Ask conn ip protocol request) heard o old new may counted grew is =
    let order = Ask conn ip protocol request in
    let e = line.Asked ip protocol request.query now None in
    let mid = added e old in
    let was : (s : SentBy) → sent_for (n + 1) now order ≡ Some s → WasSent now (n + 1) order mid new s = λ s h.
    ((sent_for-new (n + 1) now order s h).sends, start-sent now n None order s old mid h refl counted, Counted-added e old n counted) in
    heard-outcome now (n + 1) order mid new (sent_for (n + 1) now order) heard o may was grew is
started-outcome now n (Sleep until) heard o old new may counted grew is =
    heard-outcome now (n + 1) (Sleep until) old new None heard o may (λ s h. cc) grew is

-- numbers that are left are counted
counted-numbers : {P : Type 0} (s : State P) → StateHolds s → HasNumbers s.entries → Counted s.log s.entries
counted-numbers s h numbers = h.counted (omega arith)

-- what a call hands out is an outcome of its order, and the log has it
pub carried-outcome : {P : Type 0} (key : OrderKey) (order : Order) (now : ℕ) (old new : State P) (o : Outcome) → StateHolds old → Carried key order now old new (Some (Some o))
    → TellsThat new.log (λ log. IsOutcome log now order o)
carried-outcome key order now old new o h c = by c.did c.may c.log c.handed_out
  where
    by : (d : Did) → May old key order now d → new.log ≡ with_entries (appended now order d) old.log → Some (Some o) ≡ handed (old.entries + 1) d
        → TellsThat new.log (λ log. IsOutcome log now order o)
    by Barred may grew is = cc
    by LacksMemory may grew is = cc
    by (Refused s error) may grew is =
        let counted = counted-numbers old h may.0.numbers in
        let fresh = sent_for-new (old.entries + 1) now order s may.1 in
        subst (λ (o : Outcome). TellsThat new.log (λ log. IsOutcome log now order o)) (sym (same_Some _ _ (same_Some _ _ is))) (λ es told.
        let sent = start-sent now old.entries (Some error) order s old.log new.log may.1 grew counted es told in
        record {
          fits = record {
            within = subst (λ (k : ℕ). k < (log_of es).next) fresh.by_entry sent.logged.below;
            is = record { sent = sent; at = fresh.by_entry; then = fresh.at };
          };
          of_order = fresh.sends;
        })
    by (Started heard) may grew is =
        started-outcome now old.entries order heard o old.log new.log may.1 (counted-numbers old h may.0.numbers) grew is
    by (Polled heard) may grew is =
        let counted = counted-numbers old h may.numbers in
        heard-outcome now old.entries order old.log new.log may.sent heard o may.hears
        (λ s at. (
          subst (IsSentFor order) at may.sends,
          λ es told. h.sent es told key s (ap sent_in may.stood ∙ at),
          counted,
        )) grew is
