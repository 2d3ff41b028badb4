-- What a send of a lookup ended with, as the log shows it.
use Rattle.walk_lookup.proofs.Names.{◌≡◌, ℕ, ◌+◌, ◌-◌, ◌^◌, ◌≤◌, min, Bool, true, false, Option, Some, None, Result, Ok, Err, refl, sym, ap, subst, ◌∙◌, arith, IsTrue, if◌then◌else◌, leb-true, same_Some, IpAddr, DomainName, Log, NoMemory, Query, Message, NetError, ToldOutcome, is_above, walk, class_of_error, Answered, class_of_answer, waits, EndsSend, answered, Serves, Heard, Serves-later, is_open, asked_of, pendings, end_of, is_last_poll, after_put, response_end, result_of, taken, come_to, After, SentBy, Outcome, Pending, Connected, Told, Failed, Slept, class_of_sent, closing_entry, Closes, WaitsBy, OutcomeIs, told_class_itself, IsFor, IsGivenUpIn, is_given_up, LogGoesOnIf, LogGoesOn, last_entry, AskedAs, LogView, is_response, told_of, is_denial, IsSentOver, MayTake, sent_to}
use Rattle.dns_core.specs.Classifying.{classify_of}
use Rattle.resolution.specs.Serving.Heard.{heard}
use Rattle.server_core.specs.declared.sends.server_send.Asked.{Asked}
use Rattle.server_core.specs.declared.sends.server_send.ServerSend.{ServerSend}
use Rattle.pool_lookup.proofs.SendEnds.{lost_end, polled_end, is_open_for, comes_open, asked_there, connected_goes_on}
use Rattle.walk_lookup.proofs.SentInLog.{asked-entry, same_query-refl, lost-failed, lost-gave_up}
use Rattle.pool_lookup.specs.Running.{IsFor as IsAt_stage}
use Rattle.dns_core.specs.declared.net_error.NetError.TheVariants as net
use Rattle.dns_core.specs.declared.net_error.DnsError.TheVariants as dns
use Rattle.dns_core.specs.declared.log.LogEntry.TheVariants as line
use Rattle.dns_core.specs.declared.log.ToldOutcome.TheVariants as said
use Rattle.server_core.specs.declared.orders.order.After.TheVariants as after

-- The send to the address ended so, by the entry, at the moment; what is a response was heard from a server of the zone.
pub record IsEndedBy (view : LogView) (now entry : ℕ) (zone : DomainName) (q : Query) (ip : IpAddr) (result : Answered) : Type 0 where
  pub outcome : Answered
  pub class : class_of_sent q result ≡ class_of_answer q outcome
  pub ends : EndsSend view.policy view.log q entry (record { server = ip; outcome = outcome }) now
  pub heard : IsTrue (is_response (class_of_answer q outcome)) → Heard view.policy view.log entry q (told_of outcome) now zone × AskedAs view.log entry q

-- what was sent is for the question
pub sent-for : (asks : Bool) (ip : IpAddr) (q : Query) (since : ℕ) (sent : SentBy) → IsSentOver asks ip q since sent → IsFor sent.query q
sent-for false ip q since sent over = subst (λ (o : Option Query). IsFor o q) (sym over.1) tt
sent-for true ip q since sent over = subst (λ (o : Option Query). IsFor o q) (sym over.1) refl

sent-to : (asks : Bool) (ip : IpAddr) (q : Query) (since : ℕ) (sent : SentBy) → IsSentOver asks ip q since sent → sent.ip ≡ ip
sent-to false ip q since sent over = over.0
sent-to true ip q since sent over = over.0

-- an error that is a response is a denial
error-denial : (e : NetError) → is_response (class_of_error e) ≡ true → is_denial e ≡ true
error-denial (net.Dns (dns.NoRecordsFound n)) h = refl
error-denial _ h = cc

-- ---- what the order of it came to

-- that it was done, as it is told
abbrev pub done-so : After → Result After NoMemory
done-so did = Ok did

module _ (view : LogView) (now since : ℕ) (zone : DomainName) (q : Query) (ip : IpAddr) (serves : Serves view.policy view.log (since + 1) ip zone) (above : IsTrue (is_above zone (walk q))) where
  -- what was told of a question was told of it as it was asked
  asked-as : (entry : ℕ) (sent : SentBy) (outcome : ToldOutcome) → Closes view.log sent entry (line.Told sent.of now outcome) → sent.query ≡ Some q → AskedAs view.log entry q
  asked-as entry sent outcome closes is = record {
    ask = sent.of;
    moment = now;
    outcome = outcome;
    ip = sent.ip;
    protocol = closes.sent.protocol;
    asked_at = sent.moment;
    told = closes.logged;
    question = asked-entry view.log q sent closes.sent.protocol None is closes.sent.logged;
  }

  -- a message
  told-end : (entry : ℕ) (sent : SentBy) (message : Message) → IsSentOver true ip q since sent → OutcomeIs view.log now (Told entry sent message)
      → IsEndedBy view now entry zone q ip (result_of (classify_of message))
  told-end entry sent message over fits =
      let question = asked-entry view.log q sent fits.0.sent.protocol None over.1 fits.0.sent.logged in
      let itself : message.query ≡ q = same_Some _ _ (sym fits.1 ∙ over.1) in
      let here = subst (λ (x : IpAddr). Serves view.policy view.log (since + 1) x zone) (sym over.0) serves in
      let late = over.2 in
      subst (λ (x : IpAddr). IsEndedBy view now entry zone q x (result_of (classify_of message))) over.0 (record {
        outcome = Ok message;
        class = told_class_itself q message itself;
        ends = answered fits.0.logged question (same_query-refl q);
        heard = λ response. (
          heard (record {
            protocol = fits.0.sent.protocol;
            asked = q;
            asked_at = sent.moment;
            told = fits.0.logged;
            question = question;
            before = fits.0.before;
            same = same_query-refl q;
          }) (Serves-later view.policy view.log (omega (arith, late)) here) above,
          asked-as entry sent _ fits.0 over.1,
        );
      })

  -- an error
  denial-heard : (entry : ℕ) (sent : SentBy) (error : NetError) → IsSentOver true ip q since sent → OutcomeIs view.log now (Failed entry sent false error)
      → Heard view.policy view.log entry q (said.Error error) now zone × AskedAs view.log entry q
  denial-heard entry sent error over fits =
      let question = asked-entry view.log q sent fits.sent.protocol None over.1 fits.sent.logged in
      let here = subst (λ (x : IpAddr). Serves view.policy view.log (since + 1) x zone) (sym over.0) serves in
      let late = over.2 in (
        heard (record {
          protocol = fits.sent.protocol;
          asked = q;
          asked_at = sent.moment;
          told = fits.logged;
          question = question;
          before = fits.before;
          same = same_query-refl q;
        }) (Serves-later view.policy view.log (omega (arith, late)) here) above,
        asked-as entry sent _ fits over.1,
      )

  failed-end : (asks : Bool) (entry : ℕ) (sent : SentBy) (refused : Bool) (error : NetError) → (IsTrue (is_denial error) → (asks ≡ true) × (refused ≡ false))
      → IsSentOver asks ip q since sent → OutcomeIs view.log now (Failed entry sent refused error) → IsEndedBy view now entry zone q ip (Err error)
  failed-end asks entry sent refused error may over fits =
      let lost = lost-failed view.policy view.log now entry sent refused error fits in record {
        outcome = Err error;
        class = refl;
        ends = subst (λ (x : IpAddr). EndsSend view.policy view.log q entry (record { server = x; outcome = Err error }) now) (sent-to asks ip q since sent over)
            (lost.ends q (sent-for asks ip q since sent over));
        heard = λ response.
            let m = may (error-denial error response) in
            denial-heard entry sent error (subst (λ (b : Bool). IsSentOver b ip q since sent) m.0 over) (subst (λ (b : Bool). OutcomeIs view.log now (Failed entry sent b error)) m.1 fits);
      }

  gave_up-end : (asks : Bool) (entry : ℕ) (sent : SentBy) (told : Log) → view.policy.patience ≤ waits view.log sent.of (entry + 1) → IsSentOver asks ip q since sent → Closes told sent entry (line.Waited sent.of)
      → IsGivenUpIn sent.of entry now told view.log → IsEndedBy view now (entry + 1) zone q ip (Err net.Timeout)
  gave_up-end asks entry sent told enough over waited up =
      let lost = lost-gave_up view.policy told view.log now entry sent enough waited up in record {
        outcome = Err net.Timeout;
        class = refl;
        ends = subst (λ (x : IpAddr). EndsSend view.policy view.log q (entry + 1) (record { server = x; outcome = Err net.Timeout }) now) (sent-to asks ip q since sent over)
            (lost.ends q (sent-for asks ip q since sent over));
        heard = λ response. cc;
      }

  module _ (patience start : ℕ) (first : Option IpAddr) (ended asks : Bool) (before : Option ℕ) (s : ServerSend) (told : Log) (did : After) (result : Answered) (patient : view.policy.patience ≤ patience)
      (for : IsAt_stage asks s.stage) where
    opened : is_open s.stage ≡ true
    opened = is_open_for asks s.stage for

    taken-end : (o : Outcome) → end_of (come_to patience o s).stage ≡ Some result → end_of (taken patience o s).stage ≡ Some result
    taken-end o is = sym (ap (λ (x : ServerSend). end_of x.stage) (comes_open patience o s opened)) ∙ is

    -- a poll that found nothing was the last one
    gives-up : (entry of : ℕ) → did ≡ after_put patience s.stage (Pending entry of) → is_last_poll patience s.stage ≡ true → did ≡ after.GiveUp
    gives-up entry of is last =
        is ∙ ap (λ (b : Bool). if b then (if is_last_poll patience s.stage then after.GiveUp else after.Kept) else after.Late) opened
        ∙ ap (λ (b : Bool). if b then after.GiveUp else after.Kept) last

    up-in : (entry of : ℕ) (w : SentBy) → did ≡ after.GiveUp → LogGoesOn now (Some w) (Pending entry of) (done-so did) told view.log → IsGivenUpIn w.of entry now told view.log
    up-in entry of w is goes = subst (λ (d : After). LogGoesOnIf (is_given_up (done-so d)) now (Some w) (Pending entry of) told view.log) is goes

    pending-end : (w : Option SentBy) (entry of : ℕ) → MayTake start q first ended since before asks ip w (Pending entry of) → WaitsBy told w (Pending entry of)
        → LogGoesOn now w (Pending entry of) (done-so did) told view.log → did ≡ after_put patience s.stage (Pending entry of) → pendings s.stage + 1 ≤ waits view.log of (entry + 1)
        → end_of (come_to patience (Pending entry of) s).stage ≡ Some result → IsEndedBy view now (closing_entry (Pending entry of)) zone q ip result × (sent_to w (Pending entry of) ≡ Some ip)
    pending-end None entry of may by goes is enough end = absurd may
    pending-end (Some w) entry of may by goes is enough end =
        let p = polled_end patience s result opened (taken-end (Pending entry of) end) in
        let up = up-in entry of w (gives-up entry of is p.0) goes in
        let most : patience ≤ pendings s.stage + 1 = leb-true patience (pendings s.stage + 1) p.0 in
        let many : view.policy.patience ≤ waits view.log w.of (entry + 1) = subst (λ (k : ℕ). view.policy.patience ≤ waits view.log k (entry + 1)) (sym may.0) (omega (arith, patient, most, enough)) in
        let waited : Closes told w entry (line.Waited w.of) = subst (λ (k : ℕ). Closes told w entry (line.Waited k)) (sym may.0) (by may.0) in
        let numbered = up.numbered in
        let closing : entry + 1 ≡ min (entry + 1) (2 ^ 64 - 1) = omega (arith, numbered) in (
          subst (λ (r : Answered). IsEndedBy view now (min (entry + 1) (2 ^ 64 - 1)) zone q ip r) p.1
              (subst (λ (k : ℕ). IsEndedBy view now k zone q ip (Err net.Timeout)) closing (gave_up-end asks entry w told many may.2.over waited up)),
          ap (λ (x : IpAddr). Some x) (sent-to asks ip q since w may.2.over),
        )

    -- What a send ended with by an outcome of its order.
    pub ended-by : (w : Option SentBy) (o : Outcome) → MayTake start q first ended since before asks ip w o → OutcomeIs view.log now o → WaitsBy told w o → LogGoesOn now w o (done-so did) told view.log
        → did ≡ after_put patience s.stage o → ((entry of : ℕ) → o ≡ Pending entry of → pendings s.stage + 1 ≤ waits view.log of (entry + 1)) → end_of (come_to patience o s).stage ≡ Some result
        → IsEndedBy view now (closing_entry o) zone q ip result × (sent_to w o ≡ Some ip)
    ended-by w (Pending entry of) may fits by goes is enough end = pending-end w entry of may by goes is (enough entry of refl) end
    ended-by w (Connected entry sent) may fits by goes is enough end =
        absurd (connected_goes_on s result (subst (λ (b : Bool). IsAt_stage b s.stage) may.0 for) (taken-end (Connected entry sent) end))
    ended-by w (Told entry sent message) may fits by goes is enough end =
        let x = asked_there s.stage (subst (λ (b : Bool). IsAt_stage b s.stage) may.0 for) in
        let told_end : response_end (asked_of s.stage) (classify_of message) ≡ result = same_Some _ _ (taken-end (Told entry sent message) end) in
        let result_is : result_of (classify_of message) ≡ result = sym (ap (λ (o : Option Asked). response_end o (classify_of message)) x.1) ∙ told_end in (
          subst (λ (r : Answered). IsEndedBy view now entry zone q ip r) result_is
              (told-end entry sent message (subst (λ (b : Bool). IsSentOver b ip q since sent) may.0 may.1.over) fits),
          ap (λ (x : IpAddr). Some x) (sent-to asks ip q since sent may.1.over),
        )
    ended-by w (Failed entry sent refused error) may fits by goes is enough end = (
      subst (λ (r : Answered). IsEndedBy view now entry zone q ip r) (lost_end error s result (taken-end (Failed entry sent refused error) end)) (failed-end asks entry sent refused error may.0 may.1.over fits),
      ap (λ (x : IpAddr). Some x) (sent-to asks ip q since sent may.1.over),
    )
    ended-by w Slept may fits by goes is enough end = absurd may

    -- an outcome that is no poll ends its order
    ended-is : did ≡ (if is_open s.stage then after.Ended else after.Late) → did ≡ after.Ended
    ended-is is = is ∙ ap (λ (b : Bool). if b then after.Ended else after.Late) opened

    -- The entry by which it ended is the last one that is put.
    pub ended-last : (w : Option SentBy) (o : Outcome) → MayTake start q first ended since before asks ip w o → did ≡ after_put patience s.stage o → end_of (come_to patience o s).stage ≡ Some result
        → last_entry (done-so did) w o ≡ closing_entry o
    ended-last None (Pending entry of) may is end = absurd may
    ended-last (Some w) (Pending entry of) may is end =
        ap (λ (d : After). last_entry (done-so d) (Some w) (Pending entry of)) (gives-up entry of is (polled_end patience s result opened (taken-end (Pending entry of) end)).0)
    ended-last w (Connected entry sent) may is end = ap (λ (d : After). last_entry (done-so d) w (Connected entry sent)) (ended-is is)
    ended-last w (Told entry sent message) may is end = ap (λ (d : After). last_entry (done-so d) w (Told entry sent message)) (ended-is is)
    ended-last w (Failed entry sent refused error) may is end = ap (λ (d : After). last_entry (done-so d) w (Failed entry sent refused error)) (ended-is is)
    ended-last w Slept may is end = absurd may
