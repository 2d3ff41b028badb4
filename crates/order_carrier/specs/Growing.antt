-- How a log grows.
use Rattle.std.specs.Prelude.{◌≡◌, ◌≤◌, ℕ, List, [], ◌∷◌, length, Contains, Option, Some}
use Rattle.dns_core.specs.Log.{Log, Extends, log_of, added}
use Rattle.dns_core.specs.declared.log.LogEntry.{LogEntry}
use Rattle.resolution.specs.Telling.{Logged, moment_of}

-- This holds of the log, where it is told.
abbrev pub TellsThat : Option (List LogEntry) → (Log → Type 0) → Type 0
TellsThat told Q = (es : List LogEntry) → told ≡ Some es → Q (log_of es)

-- The log has so many entries, where it is told.
abbrev pub Counted : Option (List LogEntry) → ℕ → Type 0
Counted told n = (es : List LogEntry) → told ≡ Some es → length es ≡ n

-- the log with these entries more, where there is a log
abbrev pub with_entries : List LogEntry → Option (List LogEntry) → Option (List LogEntry)
with_entries [] told = told
with_entries (e ∷ more) told = with_entries more (added e told)

-- The log was told before, and has grown by entries of the moment.
pub record LongerThan (now : ℕ) (old : Option (List LogEntry)) (es : List LogEntry) : Type 0 where
  pub before : List LogEntry
  pub was : old ≡ Some before
  pub extends : Extends (log_of before) (log_of es)
  pub at : (i moment : ℕ) (entry : LogEntry) → (log_of before).next ≤ i → Logged (log_of es) i entry → moment_of entry ≡ Some moment → moment ≡ now

-- A log that is told has grown by entries of the moment.
abbrev pub Grown : ℕ → Option (List LogEntry) → Option (List LogEntry) → Type 0
Grown now old new = (es : List LogEntry) → new ≡ Some es → LongerThan now old es

-- no entry carries a later moment
abbrev pub IsPast : ℕ → Log → Type 0
IsPast now log = (i moment : ℕ) (e : LogEntry) → Logged log i e → moment_of e ≡ Some moment → moment ≤ now

-- The moments of the entries numbered n or more do not fall.
abbrev pub RiseFrom : ℕ → Log → Type 0
RiseFrom n log = (i j earlier later : ℕ) (e f : LogEntry) → n ≤ i → i ≤ j → Logged log i e → Logged log j f → moment_of e ≡ Some earlier → moment_of f ≡ Some later → earlier ≤ later

-- The log was told before, and goes on by entries at these moments, none before the first one, which do not fall.
pub record LongerOver (moments : List ℕ) (from : ℕ) (old : Option (List LogEntry)) (es : List LogEntry) : Type 0 where
  pub before : List LogEntry
  pub was : old ≡ Some before
  pub extends : Extends (log_of before) (log_of es)
  pub at : (i moment : ℕ) (entry : LogEntry) → (log_of before).next ≤ i → Logged (log_of es) i entry → moment_of entry ≡ Some moment → Contains moments moment × (from ≤ moment)
  pub rises : RiseFrom (log_of before).next (log_of es)

abbrev pub GrownOver : List ℕ → ℕ → Option (List LogEntry) → Option (List LogEntry) → Type 0
GrownOver moments from old new = (es : List LogEntry) → new ≡ Some es → LongerOver moments from old es
