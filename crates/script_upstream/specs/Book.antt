-- What a book of a script keeps, and what holds of it.
use Rattle.std.specs.Prelude.{◌≡◌, ℕ, ◌-◌, IsTrue, List, ◌++◌, length, min, filter, Option, Some, None, count_by, nat_eq}
use Rattle.std.specs.HashMap.{get}
use Rattle.dns_core.specs.declared.log.LogEntry.{LogEntry}
use Rattle.dns_core.specs.declared.log.ToldOutcome.{ToldOutcome}
use Rattle.script_upstream.specs.Course.{lengthened, is_qualified_course, IsWaiting}
use Rattle.script_upstream.specs.Giving.{Gives, course, waits, HasNoEnd, asks, replies}
use Rattle.script_upstream.specs.Script.{is_qualified_script}
use Rattle.script_upstream.specs.Index.{IsIndexed, used_at}
use Rattle.script_upstream.specs.declared.courses.index.Asking.{Asking}
use Rattle.script_upstream.specs.declared.courses.index.Index.{Index}
use Rattle.script_upstream.specs.Stage.{IsDueOf}
use Rattle.script_upstream.specs.declared.courses.course.Stage.{Stage}
use Rattle.script_upstream.specs.declared.courses.course.Stage.TheVariants.{Unknown, Due}
use Rattle.script_upstream.specs.declared.courses.course.Stage.TheVariants as stage
use Rattle.script_upstream.specs.declared.courses.course.ScriptedReply.{ScriptedReply}
use Rattle.script_upstream.specs.declared.courses.course.ScriptedReply.TheVariants.{Never, After}
use Rattle.script_upstream.specs.declared.script.script.Script.{Script}
use Rattle.script_upstream.specs.declared.books.book.ScriptLog.{ScriptLog}

-- the whole log: what found memory, and what waits for it
abbrev pub told : ScriptLog → List LogEntry
told b = b.log ++ b.late

-- what the entry of a number comes to, where it is open
abbrev pub open_at : ScriptLog → ℕ → Option ScriptedReply
open_at b n = get nat_eq b.open n

-- no entry ended it, and what is left of the course that the script says, after what was waited
pub record Awaits (s : Script) (es : List LogEntry) (n : ℕ) (c : ScriptedReply) : Type 0 where
  pub unended : HasNoEnd n es
  pub due : course s es n ≡ Some (lengthened (waits n es) c)
  pub qualified : IsTrue (is_qualified_course c)

-- the script gives the log, and each open entry is known by what it still comes to
pub record IsKept (s : Script) (es : List LogEntry) (open_of : ℕ → Option ScriptedReply) : Type 0 where
  pub gives : Gives s es
  pub awaited : (n : ℕ) (c : ScriptedReply) → open_of n ≡ Some c → Awaits s es n c

abbrev pub Keeps : ScriptLog → Type 0
Keeps b = IsKept b.script (told b) (open_at b)

-- as many lines are used up as questions were asked, but for the last
abbrev pub Counts : Script → List LogEntry → Index → Type 0
Counts s es index = (a : Asking) → used_at index a ≡ min (count_by (asks a) es) (length (filter (replies a) s.lines) - 1)

-- the index has every line, and each name in the lines is qualified
pub record Knows (s : Script) (index : Index) : Type 0 where
  pub qualified : IsTrue (is_qualified_script s)
  pub indexed : IsIndexed s.lines s.lines index

pub record Holds (b : ScriptLog) : Type 0 where
  pub keeps : Keeps b
  pub counts : Counts b.script (told b) b.index
  pub knows : Knows b.script b.index

-- the two books differ at most in what was noted
pub record SameScript (old new : ScriptLog) : Type 0 where
  pub script : new.script ≡ old.script
  pub index : new.index ≡ old.index

-- nothing is left to be waited, and the outcome is such
abbrev pub IsDue : (ToldOutcome → Type 0) → Option ScriptedReply → Type 0
IsDue P None = ⊥
IsDue P (Some c) = IsDueOf P c

abbrev pub IsDueAs : ToldOutcome → Option ScriptedReply → Type 0
IsDueAs o None = ⊥
IsDueAs o (Some Never) = ⊥
IsDueAs o (Some (After polls outcome)) = o ≡ outcome

abbrev pub Waits : Option ScriptedReply → Type 0
Waits None = ⊥
Waits (Some c) = IsWaiting c

-- what a stage says of what is open
abbrev pub IsStage : (ToldOutcome → Type 0) → Stage → Option ScriptedReply → Type 0
IsStage P Unknown o = Unit {0}
IsStage P stage.Waits o = Waits o
IsStage P Due o = IsDue P o
