-- How often a log waits for what was sent.
use Rattle.std.specs.Prelude.{◌≡◌, ◌≤◌, ◌+◌, ◌==◌, ℕ, max, List, Option, Some, None, if◌then◌else◌}
use Rattle.dns_core.specs.Log.{log_of}
use Rattle.dns_core.specs.declared.log.LogEntry.{LogEntry}
use Rattle.resolution.specs.Ending.{waits}
use Rattle.order_carrier.specs.declared.polling.Heard.{Heard}
use Rattle.order_carrier.specs.declared.polling.Heard.TheVariants.{Waiting, OutOfMemory, Connected, Answered, Failed, Resting, Slept}
use Rattle.order_carrier.specs.Did.{Did}
use Rattle.order_carrier.specs.Did.Did.{Barred, LacksMemory, Refused, Started, Polled}

-- The log was told before, and each entry was waited for at most so often, or no more often than before.
pub record PatientSince (most : ℕ) (old : Option (List LogEntry)) (es : List LogEntry) : Type 0 where
  pub before : List LogEntry
  pub was : old ≡ Some before
  pub waited : (of : ℕ) → waits (log_of es) of (log_of es).next ≤ max (waits (log_of before) of (log_of before).next) most

-- No entry was waited for more often than so, or than before.
abbrev pub IsPatient : ℕ → Option (List LogEntry) → Option (List LogEntry) → Type 0
IsPatient most old new = (es : List LogEntry) → new ≡ Some es → PatientSince most old es

-- the entry for which a poll waited, by what was heard
abbrev pub waited_for : Heard → Option ℕ
waited_for (Waiting of) = Some of
waited_for OutOfMemory = None
waited_for (Connected sent) = None
waited_for (Answered sent message) = None
waited_for (Failed sent error) = None
waited_for Resting = None
waited_for Slept = None

-- the entry for which a call waited
abbrev pub waited_by : Did → Option ℕ
waited_by Barred = None
waited_by LacksMemory = None
waited_by (Refused sent error) = None
waited_by (Started heard) = waited_for heard
waited_by (Polled heard) = waited_for heard

-- how often more an entry is waited for, where a poll waited for this one, if for any
abbrev pub waits_more : Option ℕ → ℕ → ℕ
waits_more None of = 0
waits_more (Some polled) of = if polled == of then 1 else 0

-- The log was told before, and waits once more for the entry that was polled, and for no other.
pub record WaitsLonger (polled : Option ℕ) (old : Option (List LogEntry)) (es : List LogEntry) : Type 0 where
  pub before : List LogEntry
  pub was : old ≡ Some before
  pub waited : (of : ℕ) → waits (log_of es) of (log_of es).next ≡ waits (log_of before) of (log_of before).next + waits_more polled of

-- A log that is told waits once more for the entry that was polled, and for no other.
abbrev pub WaitsFor : Option ℕ → Option (List LogEntry) → Option (List LogEntry) → Type 0
WaitsFor polled old new = (es : List LogEntry) → new ≡ Some es → WaitsLonger polled old es
