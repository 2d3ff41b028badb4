-- A run of questions: what holds of it, and what its steps do.
use Rattle.std.specs.Prelude.{◌≡◌, ◌≢◌, ◌≤◌, ◌+◌, ℕ, max, List, Option, Some, Contains}
use Rattle.dns_core.specs.Log.{Log, Extends, log_of}
use Rattle.dns_core.specs.declared.log.LogEntry.{LogEntry}
use Rattle.dns_core.specs.declared.provider.ConnectionProvider.{Ghosts}
use Rattle.dns_core.specs.declared.request.Question.{Question}
use Rattle.dns_core.specs.declared.request.Turn.{Turn}
use Rattle.resolution.specs.Turns.{IsPlayed, begin_moment, run_moments}
use Rattle.order_carrier.specs.Carrying.{CarriesOn}
use Rattle.order_carrier.specs.Growing.{Grown}
use Rattle.order_carrier.specs.Patience.{IsPatient}
use Rattle.order_carrier.specs.declared.in_flight.runner.InFlight.{InFlight}
use Rattle.recursor_core.specs.RecursorState.{Holds, PlaysHold}
use Rattle.recursor_core.specs.Turns.{due}
use Rattle.recursor_core.specs.Plays.{open_plays}
use Rattle.recursor_core.specs.declared.machine.resolutions.RecursorCore.{RecursorCore}
use Rattle.recursor_core.specs.declared.run.Run.{Run}

-- This holds of the log before and of the one after, where a log is known.
abbrev pub OnLogs : Option (List LogEntry) → Option (List LogEntry) → (Log → Log → Type 0) → Type 0
OnLogs old new Q = (es : List LogEntry) → new ≡ Some es → (before : List LogEntry) × (old ≡ Some before) × Q (log_of before) (log_of es)

-- The log has grown, turn by turn.
pub record IsPlayedOver (start : ℕ) (turns : List Turn) (before after : Log) : Type 0 where
  pub extends : Extends before after
  pub played : IsPlayed start turns before.next after

-- what the provider of a run has told so far
abbrev pub told_by : {P C F E : Type 0} (p : Ghosts P C F E) → Run P C F E p → Option (List LogEntry)
told_by p run = p.log run.runner.carrier.provider

-- its machine and what carries out the orders hold
abbrev pub Runs : {P C F E : Type 0} (p : Ghosts P C F E) → Run P C F E p → Type 0
Runs p run = Holds p run.patience run.core run.runner

-- By steps at one moment, which is that of the machine after them, machine and orders came to others that hold: the policy stays, the log has grown
-- at this moment, and none of its entries was waited for beyond patience; orders go on being carried alike.
pub record Leading {P C F E : Type 0} (p : Ghosts P C F E) (now most new_most : ℕ) (core new_core : RecursorCore) (r new : InFlight P C F E p) : Type 0 where
  pub carries_on : CarriesOn p r.carrier new.carrier
  pub runs : Holds p new_most new_core new
  pub policy : new_core.policy ≡ core.policy
  pub patience : new_most ≡ most
  pub patient : IsPatient (max 1 most) (p.log r.carrier.provider) (p.log new.carrier.provider)
  pub moment : new_core.moment ≡ now
  pub grown : Grown now (p.log r.carrier.provider) (p.log new.carrier.provider)

-- so it is with a run
abbrev pub Leads : {P C F E : Type 0} (p : Ghosts P C F E) → ℕ → Run P C F E p → Run P C F E p → Type 0
Leads p now run new = Leading p now run.patience new.patience run.core new.core run.runner new.runner

-- and with one at the moment that has come
abbrev pub GoesOn : {P C F E : Type 0} (p : Ghosts P C F E) → Run P C F E p → Run P C F E p → Type 0
GoesOn p run new = Leads p run.core.moment run new

-- Where what follows plays the turns that are left, all of them were played.
pub record IsPlayedTo (start : ℕ) (turns : List Turn) (moment : ℕ) (rest : List Turn) (before after : Log) : Type 0 where
  pub extends : Extends before after
  pub on : (end : Log) → Extends after end → IsPlayed moment rest after.next end → IsPlayed start turns before.next end

-- Some turns of a run are played, and these are left.
pub record Turning {P C F E : Type 0} (p : Ghosts P C F E) (turns rest : List Turn) (run new : Run P C F E p) : Type 0 where
  pub carries_on : CarriesOn p run.runner.carrier new.runner.carrier
  pub runs : Runs p new
  pub policy : new.core.policy ≡ run.core.policy
  pub patience : new.patience ≡ run.patience
  pub patient : IsPatient (max 1 run.patience) (told_by p run) (told_by p new)
  pub later : run.core.moment ≤ new.core.moment
  pub moments : (k : ℕ) → Contains (run_moments new.core.moment rest) k → Contains (run_moments run.core.moment turns) k
  pub grown : OnLogs (told_by p run) (told_by p new) (IsPlayedTo run.core.moment turns new.core.moment rest)

-- All turns of a run are played, and what was left of its questions; or nothing was.
pub record RunsOver {P C F E : Type 0} (p : Ghosts P C F E) (turns : List Turn) (run new : Run P C F E p) : Type 0 where
  pub carries_on : CarriesOn p run.runner.carrier new.runner.carrier
  pub runs : Runs p new
  pub policy : new.core.policy ≡ run.core.policy
  pub patient : IsPatient (max 1 run.patience) (told_by p run) (told_by p new)
  pub later : run.core.moment ≤ new.core.moment
  pub timely : Contains (run_moments run.core.moment turns) new.core.moment
  pub grown : OnLogs (told_by p run) (told_by p new) (IsPlayedOver run.core.moment turns)

-- What became of each question of a run holds, where `rest` are the turns that are not played yet.
abbrev pub Plays : {P C F E : Type 0} (p : Ghosts P C F E) → Run P C F E p → ℕ → List Turn → List Turn → List Question → Type 0
Plays p run start turns rest questions = PlaysHold run.core (told_by p run) start turns rest questions run.plays.items

-- What became of them goes on holding, where these are the turns that are left then.
abbrev pub PlaysOn : {P C F E : Type 0} (p : Ghosts P C F E) → ℕ → List Turn → List Turn → List Turn → List Question → Run P C F E p → Run P C F E p → Type 0
PlaysOn p start turns rest left questions run new = Plays p run start turns rest questions → Plays p new start turns left questions

-- A step at a moment of the run keeps that.
abbrev pub PlaysGoOn : {P C F E : Type 0} (p : Ghosts P C F E) → Run P C F E p → Run P C F E p → Type 0
PlaysGoOn p run new = (start : ℕ) (turns rest : List Turn) (questions : List Question) → Contains (run_moments start turns) run.core.moment → PlaysOn p start turns rest rest questions run new

-- Between these two, no question but the one at a place has its first turn; and its moment has come.
pub record IsDue (moment : ℕ) (rest left : List Turn) (q : ℕ) : Type 0 where
  pub others : (k : ℕ) → k ≢ q → begin_moment moment rest k ≡ begin_moment moment left k
  pub now : begin_moment moment rest q ≤ moment

-- what is left of the questions under way
abbrev pub work : {P C F E : Type 0} {p : Ghosts P C F E} → Run P C F E p → ℕ
work run = due run.patience run.core run.runner + open_plays run.plays.items
