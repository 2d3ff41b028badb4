-- A call asks only servers, where what it starts goes to one.
use Rattle.std.proofs.Common.{◌≡◌, ◌≤◌, ◌+◌, ⊎_elim, ℕ, List, [], ◌∷◌, ◌++◌, Option, Some, None, sym, ◌∙◌, subst}
use Rattle.std.specs.declared.net.ip_addr.IpAddr.{IpAddr}
use Rattle.dns_core.specs.Connection.{protocol_of}
use Rattle.dns_core.specs.Log.{Log, Extends, log_of, added}
use Rattle.dns_core.specs.declared.log.LogEntry.{LogEntry}
use Rattle.dns_core.specs.declared.log.LogEntry.TheVariants.{Opened, Asked, Waited, Told, GaveUp}
use Rattle.dns_core.specs.declared.log.ToldOutcome.TheVariants as said
use Rattle.dns_core.specs.declared.message.Query.{Query}
use Rattle.dns_core.specs.declared.net_error.NetError.{NetError}
use Rattle.recursor_types.specs.declared.policy.Policy.{Policy}
use Rattle.recursor_types.specs.Policy.{with_patience}
use Rattle.resolution.specs.Asking.{IsServer, IsServerFor}
use Rattle.resolution.specs.Theorem.{OnlyServersAsked}
use Rattle.resolution.proofs.LongerLogs.{Serves-later, Serves-extend}
use Rattle.server_core.specs.declared.orders.order.Order.{Order}
use Rattle.server_core.specs.declared.orders.order.Order.TheVariants.{Open, Ask, Sleep}
use Rattle.server_core.specs.declared.orders.order.Outcome.{Outcome}
use Rattle.server_core.specs.declared.orders.order.SentBy.{SentBy}
use Rattle.order_carrier.specs.Did.{Did, State, Carried, May, start_entry, poll_entry, appended, sent_in}
use Rattle.order_carrier.specs.Did.Did.{Barred, LacksMemory, Refused, Started, Polled}
use Rattle.order_carrier.specs.Did.Stand.{Unseen}
use Rattle.order_carrier.specs.Fits.{GoesToServer}
use Rattle.order_carrier.specs.GivingUp.{GivenUp, give_up_entry}
use Rattle.order_carrier.specs.Growing.{TellsThat, with_entries}
use Rattle.order_carrier.specs.declared.key.OrderKey.{OrderKey}
use Rattle.order_carrier.specs.declared.polling.Heard.{Heard}
use Rattle.order_carrier.specs.declared.polling.Heard.TheVariants as hear
use Rattle.order_carrier.proofs.LogGrowsByCalls.{Extends-refl, Longer-from_added, Extends-added, entry_cases}

-- An entry that opens or asks goes to a server.
abbrev pub GoesRight : Policy → Log → LogEntry → Type 0
GoesRight policy log (Opened ip protocol moment refused) = IsServer policy log log.next ip
GoesRight policy log (Asked ip protocol q moment refused) = IsServerFor policy log log.next ip q
GoesRight policy log (Waited of) = Unit {0}
GoesRight policy log (Told of moment outcome) = Unit {0}
GoesRight policy log (GaveUp of moment) = Unit {0}

-- a server is one by a longer log
IsServer-extend : (policy : Policy) (old new : Log) → Extends old new → (n : ℕ) (ip : IpAddr) → IsServer policy old n ip → IsServer policy new n ip
IsServer-extend policy old new x n ip h = record { zone = h.zone; serves = Serves-extend policy policy.patience old new x h.serves }

-- so is one for a question
IsServerFor-extend : (policy : Policy) (old new : Log) → Extends old new → (n : ℕ) (ip : IpAddr) (q : Query)
    → IsServerFor policy old n ip q → IsServerFor policy new n ip q
IsServerFor-extend policy old new x n ip q h = record { zone = h.zone; above = h.above; serves = Serves-extend policy policy.patience old new x h.serves }

-- a log that asks only servers does so with one entry more that goes to one
OnlyServersAsked-append : (policy : Policy) (es : List LogEntry) (e : LogEntry)
    → GoesRight policy (log_of es) e → OnlyServersAsked policy (log_of es) → OnlyServersAsked policy (log_of (es ++ e ∷ []))
OnlyServersAsked-append policy es e right h =
    let x = Extends-added es e in
    record {
      opened = λ n ip protocol moment refused at. ⊎_elim
          (λ old. IsServer-extend policy (log_of es) (log_of (es ++ e ∷ [])) x n ip (h.opened n ip protocol moment refused old))
          (λ new. IsServer-extend policy (log_of es) (log_of (es ++ e ∷ [])) x n ip (rw (new.0) (subst (GoesRight policy (log_of es)) new.1 right)))
          (entry_cases es e n (Opened ip protocol moment refused) at);
      asked = λ n ip protocol q moment refused at. ⊎_elim
          (λ old. IsServerFor-extend policy (log_of es) (log_of (es ++ e ∷ [])) x n ip q (h.asked n ip protocol q moment refused old))
          (λ new. IsServerFor-extend policy (log_of es) (log_of (es ++ e ∷ [])) x n ip q (rw (new.0) (subst (GoesRight policy (log_of es)) new.1 right)))
          (entry_cases es e n (Asked ip protocol q moment refused) at);
    }

-- the same where the log is told
pub OnlyServersAsked-added : (policy : Policy) (e : LogEntry) (old : Option (List LogEntry)) → TellsThat old (λ log. GoesRight policy log e)
    → TellsThat old (OnlyServersAsked policy) → TellsThat (added e old) (OnlyServersAsked policy)
OnlyServersAsked-added policy e old right asks es told =
    let l = Longer-from_added e old es told in
    rw l.is (OnlyServersAsked-append policy l.before e (right l.before l.was) (asks l.before l.was))

-- the same log asks the same servers
OnlyServersAsked-same : (policy : Policy) (old new : Option (List LogEntry)) → new ≡ old → TellsThat old (OnlyServersAsked policy) → TellsThat new (OnlyServersAsked policy)
OnlyServersAsked-same policy old new same asks es told = asks es (sym same ∙ told)

-- an entry more that goes to a server
OnlyServersAsked-grown : (policy : Policy) (e : LogEntry) (old new : Option (List LogEntry)) → new ≡ added e old → TellsThat old (λ log. GoesRight policy log e)
    → TellsThat old (OnlyServersAsked policy) → TellsThat new (OnlyServersAsked policy)
OnlyServersAsked-grown policy e old new grew right asks = OnlyServersAsked-same policy (added e old) new grew (OnlyServersAsked-added policy e old right asks)

-- who is a server does not depend on patience
pub OnlyServersAsked-patience : (policy : Policy) (patience : ℕ) (log : Log) → OnlyServersAsked policy log → OnlyServersAsked (with_patience patience policy) log
OnlyServersAsked-patience policy patience log a =
    let x = Extends-refl log in
    record {
      opened = λ n ip protocol moment refused at. let s = a.opened n ip protocol moment refused at in record
          { zone = s.zone; serves = Serves-extend policy patience log log x s.serves };
      asked = λ n ip protocol q moment refused at.
          let s = a.asked n ip protocol q moment refused at in
          record { zone = s.zone; above = s.above; serves = Serves-extend policy patience log log x s.serves };
    }

-- an order that goes to a server by what was told before also does by what is told later
pub GoesToServer-later : (policy : Policy) (log : Log) (n m : ℕ) (order : Order) → n ≤ m → GoesToServer policy log n order → GoesToServer policy log m order
GoesToServer-later policy log n m (Open ip config) le h = record { zone = h.zone; serves = Serves-later policy log le h.serves }
GoesToServer-later policy log n m (Ask conn ip protocol request) le h = record { zone = h.zone; above = h.above; serves = Serves-later policy log le h.serves }
GoesToServer-later policy log n m (Sleep until) le h = tt

-- ---- the laws

module _ (policy : Policy) (now : ℕ) where
  -- a poll goes to nobody
  poll-asks : (heard : Heard) (old new : Option (List LogEntry)) → new ≡ with_entries (poll_entry now heard) old
      → TellsThat old (OnlyServersAsked policy) → TellsThat new (OnlyServersAsked policy)
  poll-asks (hear.Waiting of) old new grew = OnlyServersAsked-grown policy (Waited of) old new grew (λ es told. tt)
  poll-asks hear.OutOfMemory old new grew = OnlyServersAsked-same policy old new grew
  poll-asks (hear.Connected sent) old new grew = OnlyServersAsked-grown policy (Told sent.of now said.Connected) old new grew (λ es told. tt)
  poll-asks (hear.Answered sent message) old new grew = OnlyServersAsked-grown policy (Told sent.of now (said.Message message)) old new grew (λ es told. tt)
  poll-asks (hear.Failed sent error) old new grew = OnlyServersAsked-grown policy (Told sent.of now (said.Error error)) old new grew (λ es told. tt)
  poll-asks hear.Resting old new grew = OnlyServersAsked-same policy old new grew
  poll-asks hear.Slept old new grew = OnlyServersAsked-same policy old new grew

  -- a start goes where its order goes
  start-asks : (refusal : Option NetError) (order : Order) (heard : Heard) (old new : Option (List LogEntry))
      → new ≡ with_entries (start_entry now refusal order ++ poll_entry now heard) old → TellsThat old (λ log. GoesToServer policy log log.next order)
      → TellsThat old (OnlyServersAsked policy) → TellsThat new (OnlyServersAsked policy)
  start-asks refusal (Open ip config) heard old new grew right asks =
      let e = Opened ip (protocol_of config.protocol) now refusal in
      poll-asks heard (added e old) new grew (OnlyServersAsked-added policy e old right asks)
  start-asks refusal (Ask conn ip protocol request) heard old new grew right asks =
      let e = Asked ip protocol request.query now refusal in
      poll-asks heard (added e old) new grew (OnlyServersAsked-added policy e old right asks)
  start-asks refusal (Sleep until) heard old new grew right asks = poll-asks heard old new grew asks

  -- so does one that is refused
  refusal-asks : (error : NetError) (order : Order) (old new : Option (List LogEntry))
      → new ≡ with_entries (start_entry now (Some error) order) old → TellsThat old (λ log. GoesToServer policy log log.next order)
      → TellsThat old (OnlyServersAsked policy) → TellsThat new (OnlyServersAsked policy)
  refusal-asks error (Open ip config) old new grew right = OnlyServersAsked-grown policy (Opened ip (protocol_of config.protocol) now (Some error)) old new grew right
  refusal-asks error (Ask conn ip protocol request) old new grew right = OnlyServersAsked-grown policy (Asked ip protocol request.query now (Some error)) old new grew right
  refusal-asks error (Sleep until) old new grew right = OnlyServersAsked-same policy old new grew

-- a call asks only servers, where what it starts goes to one
pub carried-asks : {P : Type 0} (policy : Policy) (key : OrderKey) (order : Order) (now : ℕ) (old new : State P) (result : Option (Option Outcome))
    → Carried key order now old new result → (old.stands key ≡ Unseen → TellsThat old.log (λ log. GoesToServer policy log log.next order))
    → TellsThat old.log (OnlyServersAsked policy) → TellsThat new.log (OnlyServersAsked policy)
carried-asks policy key order now old new result c goes = by c.did c.may c.log
  where
    by : (d : Did) → May old key order now d → new.log ≡ with_entries (appended now order d) old.log
        → TellsThat old.log (OnlyServersAsked policy) → TellsThat new.log (OnlyServersAsked policy)
    by Barred may grew = OnlyServersAsked-same policy old.log new.log grew
    by LacksMemory may grew = OnlyServersAsked-same policy old.log new.log grew
    by (Refused sent error) may grew = refusal-asks policy now error order old.log new.log grew (goes may.0.unseen)
    by (Started heard) may grew = start-asks policy now None order heard old.log new.log grew (goes may.0.unseen)
    by (Polled heard) may grew = poll-asks policy now heard old.log new.log grew

-- a give-up asks nobody
pub given_up-asks : {P : Type 0} (policy : Policy) (key : OrderKey) (now : ℕ) (old new : State P) → GivenUp key now old new
    → TellsThat old.log (OnlyServersAsked policy) → TellsThat new.log (OnlyServersAsked policy)
given_up-asks policy key now old new g = by (sent_in (old.stands key)) g.log
  where
    by : (sent : Option SentBy) → new.log ≡ with_entries (give_up_entry now sent) old.log → TellsThat old.log (OnlyServersAsked policy) → TellsThat new.log (OnlyServersAsked policy)
    by None grew = OnlyServersAsked-same policy old.log new.log grew
    by (Some sent) grew = OnlyServersAsked-grown policy (GaveUp sent.of now) old.log new.log grew (λ es told. tt)
