-- A run as a fold over its turns: which entries are appended in which turn, and when a question begins.
use Rattle.std.specs.Prelude.{◌≡◌, ◌≤◌, ◌<◌, ◌+◌, ◌==◌, ℕ, max, List, [], ◌∷◌, if◌then◌else◌, Some}
use Rattle.dns_core.specs.Log.{Log}
use Rattle.dns_core.specs.declared.log.LogEntry.{LogEntry}
use Rattle.dns_core.specs.declared.request.Turn.{Turn}
use Rattle.resolution.specs.Telling.{Logged, moment_of}

-- The entries from one number up to another carry the moment, if any.
pub record AreAt (moment from upto : ℕ) (log : Log) : Type 0 where
  pub rise : from ≤ upto
  pub at : (entry m : ℕ) (e : LogEntry) → from ≤ entry → entry < upto → Logged log entry e → moment_of e ≡ Some m → m ≡ moment

-- The turns are played in order, and append the entries from this number on: each turn at its moment, or at the greatest before it; what is
-- left of the questions is played behind the turns, at the greatest moment of all.
abbrev pub IsPlayed : ℕ → List Turn → ℕ → Log → Type 0
IsPlayed moment [] from log = AreAt moment from log.next log
IsPlayed moment (t ∷ ts) from log = (upto : ℕ) × AreAt (max moment t.moment) from upto log × IsPlayed (max moment t.moment) ts upto log

-- the moment at which the question at a place begins: that of its first turn, or behind the turns the greatest of all
abbrev pub begin_moment : ℕ → List Turn → ℕ → ℕ
begin_moment moment [] place = moment
begin_moment moment (t ∷ ts) place = if t.question == place + 1 then max moment t.moment else begin_moment (max moment t.moment) ts place

-- the moments of a run: the greatest before it, and those of its turns
abbrev pub run_moments : ℕ → List Turn → List ℕ
run_moments moment [] = moment ∷ []
run_moments moment (t ∷ ts) = moment ∷ run_moments (max moment t.moment) ts
