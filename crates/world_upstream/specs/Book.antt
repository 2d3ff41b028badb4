-- What a book of a world keeps, and what holds of it.
use Rattle.std.specs.Prelude.{◌≡◌, ℕ, ◌+◌, ◌<◌, IsTrue, List, ◌++◌, Option, Some, None, IsSomeAnd, nat_eq}
use Rattle.std.specs.HashMap.{get}
use Rattle.dns_core.specs.Log.{numbered}
use Rattle.dns_core.specs.declared.log.LogEntry.{LogEntry}
use Rattle.dns_core.specs.declared.log.LogEntry.TheVariants.{Opened, Asked, Waited, Told, GaveUp}
use Rattle.dns_core.specs.declared.log.ToldOutcome.{ToldOutcome}
use Rattle.script_upstream.specs.Giving.{waits, HasNoEnd}
use Rattle.world_upstream.specs.Giving.{Gives, ComesTo, delay}
use Rattle.world_upstream.specs.Qualified.{is_qualified_world}
use Rattle.world_upstream.specs.declared.book.WorldLog.{WorldLog}
use Rattle.zone_rules.specs.declared.world.World.{World}

-- the whole log: what found memory, and what waits for it
abbrev pub told : WorldLog → List LogEntry
told b = b.log ++ b.late

-- how many polls of the entry of a number find nothing yet, where it is open
abbrev pub open_at : WorldLog → ℕ → Option ℕ
open_at b n = get nat_eq b.open n

-- no entry ended it, and so many polls are left of its delay, after what was waited
pub record Awaits (w : World) (es : List LogEntry) (n polls : ℕ) : Type 0 where
  pub unended : HasNoEnd n es
  pub left : IsSomeAnd (numbered es n) (λ e. waits n es + polls ≡ delay w e)

-- the world gives the log, and each open entry is known by the polls that are left
pub record IsKept (w : World) (es : List LogEntry) (open_of : ℕ → Option ℕ) : Type 0 where
  pub gives : Gives w es
  pub awaited : (n polls : ℕ) → open_of n ≡ Some polls → Awaits w es n polls

pub record Holds (b : WorldLog) : Type 0 where
  pub keeps : IsKept b.world (told b) (open_at b)
  pub qualified : IsTrue (is_qualified_world b.world)

-- an entry that opened or asked, and was not refused
abbrev pub Begins : LogEntry → Type 0
Begins (Opened ip protocol moment refused) = refused ≡ None
Begins (Asked ip protocol q moment refused) = refused ≡ None
Begins (Waited of) = ⊥
Begins (Told of moment outcome) = ⊥
Begins (GaveUp of moment) = ⊥

-- some polls find nothing yet
abbrev pub Waits : Option ℕ → Type 0
Waits left = IsSomeAnd left (λ polls. 0 < polls)

-- the entry of a number, where it is open and nothing is left to be waited, comes to this outcome
pub record IsDue (b : WorldLog) (n : ℕ) (outcome : ToldOutcome) : Type 0 where
  pub due : open_at b n ≡ Some 0
  pub comes : IsSomeAnd (numbered (told b) n) (ComesTo b.world outcome)
