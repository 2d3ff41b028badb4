-- How often a log closes what was sent: by an entry that tells of it, or that gives it up.
use Rattle.std.specs.Prelude.{◌≡◌, ◌≤◌, ◌<◌, ◌+◌, ℕ, List, [], ◌∷◌, length, Option, Some, None, if◌then◌else◌}
use Rattle.dns_core.specs.declared.log.LogEntry.{LogEntry}
use Rattle.resolution.specs.Timing.{closes}
use Rattle.server_core.specs.declared.orders.order.SentBy.{SentBy}
use Rattle.order_carrier.specs.Did.{Stand, Did, sent_in}
use Rattle.order_carrier.specs.Did.Did.{Barred, LacksMemory, Refused, Started, Polled}
use Rattle.order_carrier.specs.declared.key.OrderKey.{OrderKey}
use Rattle.order_carrier.specs.declared.polling.Heard.{Heard}
use Rattle.order_carrier.specs.declared.polling.Heard.TheVariants.{Waiting, OutOfMemory, Connected, Answered, Failed, Resting, Slept}

-- how many of the entries close entry `of`
abbrev pub closings : ℕ → List LogEntry → ℕ
closings of [] = 0
closings of (e ∷ es) = (if closes of e then 1 else 0) + closings of es

-- Each entry is closed at most once; what is under way is open, and so is each entry to come.
pub record ClosesOnce (stands : OrderKey → Stand) (es : List LogEntry) : Type 0 where
  pub once : (of : ℕ) → closings of es ≤ 1
  pub under_way : (k : OrderKey) (s : SentBy) → sent_in (stands k) ≡ Some s → closings s.of es ≡ 0
  pub ahead : (of : ℕ) → length es < of → closings of es ≡ 0

-- It holds where the log is told.
abbrev pub AreClosedOnce : Option (List LogEntry) → (OrderKey → Stand) → Type 0
AreClosedOnce told stands = (es : List LogEntry) → told ≡ Some es → ClosesOnce stands es

-- which entry a poll closed, by what was heard
abbrev pub closed_for : Heard → Option ℕ
closed_for (Waiting of) = None
closed_for OutOfMemory = None
closed_for (Connected sent) = Some sent.of
closed_for (Answered sent message) = Some sent.of
closed_for (Failed sent error) = Some sent.of
closed_for Resting = None
closed_for Slept = None

-- which entry a call closed
abbrev pub closed_by : Did → Option ℕ
closed_by Barred = None
closed_by LacksMemory = None
closed_by (Refused sent error) = None
closed_by (Started heard) = closed_for heard
closed_by (Polled heard) = closed_for heard
