-- What came of an order, as it is put, and how what was sent for it was lost, by a log.
use Rattle.std.specs.Prelude.{◌≡◌, ℕ, ◌+◌, ◌-◌, ◌^◌, ◌<◌, ◌≤◌, ◌⊎◌, Bool, true, false, min, max, if◌then◌else◌, Option, Some, None, Result, Ok, Err}
use Rattle.dns_core.specs.Log.{Log, Extends}
use Rattle.dns_core.specs.declared.errors.NoMemory.{NoMemory}
use Rattle.dns_core.specs.declared.message.Query.{Query}
use Rattle.dns_core.specs.declared.net_error.NetError.{NetError}
use Rattle.recursor_types.specs.declared.policy.Policy.{Policy}
use Rattle.resolution.specs.Telling.{Logged}
use Rattle.resolution.specs.Ending.{EndsSend}
use Rattle.server_core.specs.Order.{entry_of}
use Rattle.server_core.specs.declared.orders.order.After.{After}
use Rattle.server_core.specs.declared.orders.order.Outcome.{Outcome}
use Rattle.server_core.specs.declared.orders.order.Outcome.TheVariants.{Pending, Connected, Told, Failed, Slept}
use Rattle.server_core.specs.declared.orders.order.SentBy.{SentBy}
use Rattle.server_core.specs.declared.orders.order.Tick.{Tick}
use Rattle.order_carrier.specs.Fits.{Fits, WaitsBy, IsSent}
use Rattle.walk_lookup.specs.LogView.{LogView}
use Rattle.dns_core.specs.declared.log.LogEntry.TheVariants as line
use Rattle.server_core.specs.declared.orders.order.After.TheVariants as after

-- ---- what was lost

-- It is an opening, or asks the question.
abbrev pub IsFor : Option Query → Query → Type 0
IsFor None query = Unit {0}
IsFor (Some asked) query = asked ≡ query

-- What was sent came to nothing but the error, by the entry, at the moment.
pub record IsLost (policy : Policy) (log : Log) (now entry : ℕ) (s : SentBy) (error : NetError) : Type 0 where
  pub refusal : Option NetError
  pub sent : IsSent log s refusal
  pub before : s.of ≤ entry
  pub ends : (query : Query) → IsFor s.query query → EndsSend policy log query entry (record { server = s.ip; outcome = Err error }) now

-- ---- an outcome that is put

-- an entry is later than all that were put before, or there is none
abbrev pub IsNext : ℕ → ℕ → Type 0
IsNext greatest entry = (greatest < entry) ⊎ (entry ≡ 0)

-- The log has gone on to the moment of the step, which is no earlier than the last one, and tells the outcome.
pub record TellsOutcome (moment : ℕ) (log : Log) (tick : Tick) (waits : Option SentBy) (outcome : Outcome) (told : Log) : Type 0 where
  pub later : moment ≤ tick.now
  pub extends : Extends log told
  pub fits : Fits told tick.now outcome
  pub waits_by : WaitsBy told waits outcome

-- whether an order is given up by whoever carries it: after its last poll, or where memory runs out
abbrev pub is_given_up : {E : Type 0} → Result After E → Bool
is_given_up (Ok after.Kept) = false
is_given_up (Ok after.Ended) = false
is_given_up (Ok after.GiveUp) = true
is_given_up (Ok after.Late) = false
is_given_up (Err e) = true

-- After a poll by this entry the log says that what it waits for was given up, at the moment, by the next entry.
pub record IsGivenUpIn (of entry now : ℕ) (told longer : Log) : Type 0 where
  pub extends : Extends told longer
  pub logged : Logged longer (entry + 1) (line.GaveUp of now)
  pub numbered : entry + 1 < 2 ^ 64

-- The log goes on so where the order is given up that still waits for what was sent; else it stays.
abbrev pub LogGoesOnIf : Bool → ℕ → Option SentBy → Outcome → Log → Log → Type 0
LogGoesOnIf true now (Some s) (Pending entry of) told longer = IsGivenUpIn s.of entry now told longer
LogGoesOnIf true now (Some s) (Connected entry sent) told longer = longer ≡ told
LogGoesOnIf true now (Some s) (Told entry sent message) told longer = longer ≡ told
LogGoesOnIf true now (Some s) (Failed entry sent refused error) told longer = longer ≡ told
LogGoesOnIf true now (Some s) Slept told longer = longer ≡ told
LogGoesOnIf true now None outcome told longer = longer ≡ told
LogGoesOnIf false now waits outcome told longer = longer ≡ told

abbrev pub LogGoesOn : {E : Type 0} → ℕ → Option SentBy → Outcome → Result After E → Log → Log → Type 0
LogGoesOn now waits outcome result told longer = LogGoesOnIf (is_given_up result) now waits outcome told longer

-- the entry by which an order ends that is given up after the outcome: where it still waits for what was sent, the next one
abbrev pub closing_of : Option SentBy → Outcome → ℕ
closing_of (Some s) (Pending entry of) = min (entry + 1) (2 ^ 64 - 1)
closing_of (Some s) (Connected entry sent) = entry
closing_of (Some s) (Told entry sent message) = entry
closing_of (Some s) (Failed entry sent refused error) = entry
closing_of (Some s) Slept = 0
closing_of None outcome = entry_of outcome

-- the last entry that is put with an outcome
abbrev pub last_if : Bool → Option SentBy → Outcome → ℕ
last_if given_up waits outcome = if given_up then closing_of waits outcome else entry_of outcome

abbrev pub last_entry : {E : Type 0} → Result After E → Option SentBy → Outcome → ℕ
last_entry result waits outcome = last_if (is_given_up result) waits outcome

-- A log goes on to tell the outcome that is put, and the give-up where there is one.
pub record TellsOn (moment : ℕ) (log : Log) (tick : Tick) (waits : Option SentBy) (outcome : Outcome) (result : Result After NoMemory) (longer : Log) : Type 0 where
  pub told : Log
  pub tells : TellsOutcome moment log tick waits outcome told
  pub goes_on : LogGoesOn tick.now waits outcome result told longer

-- So it goes on, by an entry later than all before; patience is no less than what is set.
pub record IsPut (view : LogView) (tick : Tick) (waits : Option SentBy) (outcome : Outcome) (result : Result After NoMemory) (longer : Log) : Type 0 where
  pub patient : view.policy.patience ≤ tick.patience
  pub bound : view.greatest < view.log.next
  pub next : IsNext view.greatest (entry_of outcome)
  pub on : TellsOn view.moment view.log tick waits outcome result longer

-- so far a machine has come with it
abbrev pub seen_with : LogView → Tick → Option SentBy → Outcome → Result After NoMemory → Log → LogView
seen_with view tick waits outcome result longer = record { policy = view.policy; greatest = max view.greatest (last_entry result waits outcome); moment = tick.now; log = longer }

-- What holds by what a machine sees goes on holding, the one and then the other, by what it sees with the outcome, however the log tells that.
abbrev pub HoldsOn : Tick → Option SentBy → Outcome → Result After NoMemory → (LogView → Type 0) → (LogView → Type 0) → Type 0
HoldsOn tick waits outcome result Old New = (view : LogView) (longer : Log) → IsPut view tick waits outcome result longer → Old view → New (seen_with view tick waits outcome result longer)
