-- What came of an order, by a log.
use Rattle.std.specs.Prelude.{◌≡◌, ℕ, ◌<◌, ◌≤◌, true, false, Option, Some, None}
use Rattle.dns_core.specs.Log.{Log}
use Rattle.dns_core.specs.declared.connection.Protocol.{Protocol}
use Rattle.dns_core.specs.declared.net_error.NetError.{NetError}
use Rattle.dns_core.specs.declared.log.LogEntry.{LogEntry}
use Rattle.dns_core.specs.declared.log.LogEntry.TheVariants as line
use Rattle.dns_core.specs.declared.log.ToldOutcome.TheVariants as said
use Rattle.recursor_types.specs.declared.policy.Policy.{Policy}
use Rattle.resolution.specs.Telling.{Logged}
use Rattle.resolution.specs.Asking.{IsServer, IsServerFor}
use Rattle.server_core.specs.Order.{entry_of}
use Rattle.server_core.specs.declared.orders.order.Order.{Order}
use Rattle.server_core.specs.declared.orders.order.Order.TheVariants.{Open, Ask, Sleep}
use Rattle.server_core.specs.declared.orders.order.SentBy.{SentBy}
use Rattle.server_core.specs.declared.orders.order.Outcome.{Outcome}
use Rattle.server_core.specs.declared.orders.order.Outcome.TheVariants.{Pending, Connected, Told, Failed, Slept}
use Rattle.order_carrier.specs.Awaited.{IsSentFor}

-- the entry of what was sent: an opening, or a question
abbrev pub entry_for : SentBy → Protocol → Option NetError → LogEntry
entry_for s protocol refusal = elim s.query [
  | None ↦ line.Opened s.ip protocol s.moment refusal
  | Some q ↦ line.Asked s.ip protocol q s.moment refusal
]

-- It was sent by its entry, or refused.
pub record IsSent (log : Log) (s : SentBy) (refusal : Option NetError) : Type 0 where
  pub protocol : Protocol
  pub logged : Logged log s.of (entry_for s protocol refusal)

-- The entry, which came later, speaks of what was sent.
pub record Closes (log : Log) (s : SentBy) (entry : ℕ) (e : LogEntry) : Type 0 where
  pub sent : IsSent log s None
  pub logged : Logged log entry e
  pub before : s.of < entry

-- It was refused, at the moment, by its own entry.
pub record WasRefused (log : Log) (now : ℕ) (s : SentBy) (entry : ℕ) (error : NetError) : Type 0 where
  pub sent : IsSent log s (Some error)
  pub at : s.of ≡ entry
  pub then : s.moment ≡ now

-- What came of an order is what the entry of its number says, at the moment.
abbrev pub OutcomeIs : Log → ℕ → Outcome → Type 0
OutcomeIs log now (Pending entry of) = Unit {0}
OutcomeIs log now (Connected entry s) = Closes log s entry (line.Told s.of now said.Connected)
OutcomeIs log now (Told entry s message) = Closes log s entry (line.Told s.of now (said.Message message)) × (s.query ≡ Some message.query)
OutcomeIs log now (Failed entry s true error) = WasRefused log now s entry error
OutcomeIs log now (Failed entry s false error) = Closes log s entry (line.Told s.of now (said.Error error))
OutcomeIs log now Slept = Unit {0}

-- The log has the outcome of an order, at the moment.
pub record Fits (log : Log) (now : ℕ) (outcome : Outcome) : Type 0 where
  pub within : entry_of outcome < log.next
  pub is : OutcomeIs log now outcome

-- A poll that found nothing is in the log as one of what it waits for, where that is known.
abbrev pub WaitsBy : Log → Option SentBy → Outcome → Type 0
WaitsBy log (Some s) (Pending entry of) = s.of ≡ of → Closes log s entry (line.Waited of)
WaitsBy log (Some s) (Connected entry sent) = Unit {0}
WaitsBy log (Some s) (Told entry sent message) = Unit {0}
WaitsBy log (Some s) (Failed entry sent refused error) = Unit {0}
WaitsBy log (Some s) Slept = Unit {0}
WaitsBy log None outcome = Unit {0}

-- The entry says that a poll of what entry `of` sent for the order found nothing.
pub record WaitsStill (log : Log) (order : Order) (entry of : ℕ) : Type 0 where
  pub sent : SentBy
  pub sends : IsSentFor order (Some sent)
  pub by_entry : sent.of ≡ of
  pub waits : Closes log sent entry (line.Waited of)

-- What was sent for an order is waited for, as the entry says; a sleep rests before its moment, and no entry says so.
abbrev pub IsPendingOf : Log → ℕ → Order → ℕ → ℕ → Type 0
IsPendingOf log now (Open ip config) entry of = WaitsStill log (Open ip config) entry of
IsPendingOf log now (Ask conn ip protocol request) entry of = WaitsStill log (Ask conn ip protocol request) entry of
IsPendingOf log now (Sleep until) entry of = (entry ≡ 0) × (of ≡ 0) × (now < until)

-- The outcome is one of the order: of its form, and of what was sent to its address, with its question, where it has one.
abbrev pub IsOf : Log → ℕ → Order → Outcome → Type 0
IsOf log now order (Pending entry of) = IsPendingOf log now order entry of
IsOf log now order (Connected entry s) = IsSentFor order (Some s) × (s.query ≡ None)
IsOf log now order (Told entry s message) = IsSentFor order (Some s) × (s.query ≡ Some message.query)
IsOf log now order (Failed entry s refused error) = IsSentFor order (Some s)
IsOf log now order Slept = (until : ℕ) × (order ≡ Sleep until) × (until ≤ now)

-- The outcome is one of the order, and the log has it, at the moment.
pub record IsOutcome (log : Log) (now : ℕ) (order : Order) (outcome : Outcome) : Type 0 where
  pub fits : Fits log now outcome
  pub of_order : IsOf log now order outcome

-- An order goes to a server by what was told below n; a question to one of a zone at or above its name.
abbrev pub GoesToServer : Policy → Log → ℕ → Order → Type 0
GoesToServer policy log n (Open ip config) = IsServer policy log n ip
GoesToServer policy log n (Ask conn ip protocol request) = IsServerFor policy log n ip request.query
GoesToServer policy log n (Sleep until) = Unit {0}
