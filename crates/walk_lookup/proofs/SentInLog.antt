-- What was sent, and what came of it, by a log.
use Rattle.walk_lookup.proofs.Names.{◌≡◌, ◌≤◌, ◌+◌, ℕ, Bool, true, false, Option, Some, None, Err, refl, subst, arith, ◌==◌, same_names, Log, Extends, Query, NetError, LogEntry, same_query, Logged, moment_of, waits, is_begun, EndsSend, open_refused, ask_refused, open_failed, ask_failed, given_up, both, Logged-extend, entry_for, IsSent, Closes, WaitsBy, OutcomeIs, IsFor, IsLost, IsGivenUpIn, BeganBy, SentBy, Outcome}
use Rattle.std.proofs.Common.{IsTrue}
use Rattle.std.specs.Prelude.{◌&&◌}
use Rattle.std.specs.Cmp.{nat_eq_equiv}
use Rattle.dns_core.specs.NameLaws.{same_names_equiv}
use Rattle.dns_core.specs.declared.connection.Protocol.{Protocol}
use Rattle.recursor_types.specs.declared.policy.Policy.{Policy}
use Rattle.resolution.specs.Timing.{is_send}
use Rattle.resolution.proofs.AddressesAreEqual.{same_ip-itself}
use Rattle.order_carrier.proofs.CarrierHoldsOn.{IsSent-extend}
use Rattle.dns_core.specs.declared.net_error.NetError.TheVariants as net
use Rattle.dns_core.specs.declared.log.LogEntry.TheVariants as line
use Rattle.dns_core.specs.declared.log.ToldOutcome.TheVariants as said
use Rattle.server_core.specs.declared.orders.order.Outcome.TheVariants as outcome

-- ---- what was sent

-- a question is the same as itself
pub same_query-refl : (q : Query) → IsTrue (same_query q q)
same_query-refl q =
    both (same_names q.name q.name && q.query_type.code == q.query_type.code) (q.query_class.code == q.query_class.code)
    (both (same_names q.name q.name) (q.query_type.code == q.query_type.code) (same_names_equiv.refl q.name) (nat_eq_equiv.refl q.query_type.code))
    (nat_eq_equiv.refl q.query_class.code)

-- it is the same as one that equals it
same_for : (asked q : Query) → asked ≡ q → IsTrue (same_query asked q)
same_for asked q e = subst (λ (p : Query). IsTrue (same_query asked p)) e (same_query-refl asked)

-- with this question, where it is one
abbrev for_query : SentBy → Option Query → SentBy
for_query s o = record s { query = o }

-- what was sent, refused or not, is a send of the question to its server
pub is_send-entry : (q : Query) (s : SentBy) (protocol : Protocol) (refusal : Option NetError) → IsFor s.query q
    → IsTrue (is_send q s.ip (entry_for s protocol refusal))
is_send-entry q s protocol refusal is = by s.query is
  where
    by : (o : Option Query) → IsFor o q → IsTrue (is_send q s.ip (entry_for (for_query s o) protocol refusal))
    by None h = same_ip-itself s.ip
    by (Some asked) h = both _ (same_query asked q) (same_ip-itself s.ip) (same_for asked q h)

-- what was sent and not refused is begun
is_begun-entry : (q : Query) (s : SentBy) (protocol : Protocol) → IsFor s.query q → IsTrue (is_begun q s.ip (entry_for s protocol None))
is_begun-entry q s protocol is = by s.query is
  where
    by : (o : Option Query) → IsFor o q → IsTrue (is_begun q s.ip (entry_for (for_query s o) protocol None))
    by None h = same_ip-itself s.ip
    by (Some asked) h = both _ (same_query asked q) (same_ip-itself s.ip) (same_for asked q h)

-- its entry carries its moment
moment-entry : (s : SentBy) (protocol : Protocol) (refusal : Option NetError) → moment_of (entry_for s protocol refusal) ≡ Some s.moment
moment-entry s protocol refusal = by s.query
  where
    by : (o : Option Query) → moment_of (entry_for (for_query s o) protocol refusal) ≡ Some s.moment
    by None = refl
    by (Some asked) = refl

-- a question's entry says what was asked
pub asked-entry : (log : Log) (q : Query) (s : SentBy) (protocol : Protocol) (refusal : Option NetError) → s.query ≡ Some q
    → Logged log s.of (entry_for s protocol refusal) → Logged log s.of (line.Asked s.ip protocol q s.moment refusal)
asked-entry log q s protocol refusal e h = subst (λ (o : Option Query). Logged log s.of (entry_for (for_query s o) protocol refusal)) e h

-- ---- what came of it

-- what was refused ended its send
refused-ends : (given : Policy) (log : Log) (q : Query) (s : SentBy) (protocol : Protocol) (error : NetError) → IsFor s.query q
    → Logged log s.of (entry_for s protocol (Some error)) → EndsSend given log q s.of (record { server = s.ip; outcome = Err error }) s.moment
refused-ends given log q s protocol error is h = by s.query is h
  where
    by : (o : Option Query) → IsFor o q → Logged log s.of (entry_for (for_query s o) protocol (Some error))
        → EndsSend given log q s.of (record { server = s.ip; outcome = Err error }) s.moment
    by None i k = open_refused k
    by (Some asked) i k = ask_refused k (same_for asked q i)

-- what was told an error ended its send
failed-ends : (given : Policy) (log : Log) (now entry : ℕ) (q : Query) (s : SentBy) (protocol : Protocol) (error : NetError) → IsFor s.query q
    → Logged log entry (line.Told s.of now (said.Error error)) → Logged log s.of (entry_for s protocol None)
    → EndsSend given log q entry (record { server = s.ip; outcome = Err error }) now
failed-ends given log now entry q s protocol error is told h = by s.query is h
  where
    by : (o : Option Query) → IsFor o q → Logged log s.of (entry_for (for_query s o) protocol None)
        → EndsSend given log q entry (record { server = s.ip; outcome = Err error }) now
    by None i k = open_failed told k
    by (Some asked) i k = ask_failed told k (same_for asked q i)

-- what failed is lost, refused or not
pub lost-failed : (given : Policy) (log : Log) (now entry : ℕ) (s : SentBy) (refused : Bool) (error : NetError)
    → OutcomeIs log now (outcome.Failed entry s refused error) → IsLost given log now entry s error
lost-failed given log now entry s true error h = record {
  refusal = Some error;
  sent = h.sent;
  before = let at = h.at in omega arith;
  ends = λ q is.
      subst (λ (n : ℕ). EndsSend given log q n (record { server = s.ip; outcome = Err error }) now) h.at
      (subst (λ (m : ℕ). EndsSend given log q s.of (record { server = s.ip; outcome = Err error }) m) h.then
      (refused-ends given log q s h.sent.protocol error is h.sent.logged));
}
lost-failed given log now entry s false error h = record {
  refusal = None;
  sent = h.sent;
  before = let b = h.before in omega arith;
  ends = λ q is. failed-ends given log now entry q s h.sent.protocol error is h.logged h.sent.logged;
}

-- what was given up, after as many polls as patience allows, is lost to a timeout
pub lost-gave_up : (given : Policy) (told log : Log) (now entry : ℕ) (s : SentBy) → given.patience ≤ waits log s.of (entry + 1) → Closes told s entry (line.Waited s.of)
    → IsGivenUpIn s.of entry now told log → IsLost given log now (entry + 1) s net.Timeout
lost-gave_up given told log now entry s enough waited up =
    let sent = IsSent-extend told log up.extends s None waited.sent in
    record {
      refusal = None;
      sent = sent;
      before = let b = waited.before in omega (arith, b);
      ends = λ q is. given_up up.logged sent.logged (is_begun-entry q s sent.protocol is) enough;
    }

-- what was sent so began a send
pub began-sent : (log : Log) (q : Query) (s : SentBy) (refusal : Option NetError) (last : ℕ) → IsSent log s refusal → IsFor s.query q
    → s.of ≤ last → BeganBy log q s.ip last s.moment
began-sent log q s refusal last sent is before = record {
  n = s.of;
  e = entry_for s sent.protocol refusal;
  begun = sent.logged;
  is = is_send-entry q s sent.protocol refusal is;
  at = moment-entry s sent.protocol refusal;
  early = before;
}

-- ---- by a longer log

pub closes-extend : (old new : Log) → Extends old new → (s : SentBy) (entry : ℕ) (e : LogEntry) → Closes old s entry e → Closes new s entry e
closes-extend old new x s entry e h = record { sent = IsSent-extend old new x s None h.sent; logged = Logged-extend old new x entry e h.logged; before = h.before }

-- what came of an order came of it
pub outcome-extend : (old new : Log) → Extends old new → (now : ℕ) (o : Outcome) → OutcomeIs old now o → OutcomeIs new now o
outcome-extend old new x now (outcome.Pending entry of) h = tt
outcome-extend old new x now (outcome.Connected entry s) h = closes-extend old new x s entry (line.Told s.of now said.Connected) h
outcome-extend old new x now (outcome.Told entry s message) h = (closes-extend old new x s entry (line.Told s.of now (said.Message message)) h.0, h.1)
outcome-extend old new x now (outcome.Failed entry s true error) h = record { sent = IsSent-extend old new x s (Some error) h.sent; at = h.at; then = h.then }
outcome-extend old new x now (outcome.Failed entry s false error) h = closes-extend old new x s entry (line.Told s.of now (said.Error error)) h
outcome-extend old new x now outcome.Slept h = tt

-- and a poll is in it
pub waits-extend_by : (old new : Log) → Extends old new → (w : Option SentBy) (o : Outcome) → WaitsBy old w o → WaitsBy new w o
waits-extend_by old new x (Some s) (outcome.Pending entry of) h = λ is. closes-extend old new x s entry (line.Waited of) (h is)
waits-extend_by old new x _ _ h = tt
