-- What contracts see of a script as an upstream.
use Rattle.std.specs.Prelude.{◌≡◌, ℕ, List, [], ◌∷◌, ◌++◌, IsTrue, Result, Ok, Err}
use Rattle.dns_core.specs.declared.errors.NoMemory.{NoMemory}
use Rattle.dns_core.specs.declared.provider.Poll.{Poll}
use Rattle.dns_core.specs.declared.provider.Poll.TheVariants.{Ready, Pending}
use Rattle.dns_core.specs.declared.log.ToldOutcome.{ToldOutcome}
use Rattle.dns_core.specs.declared.log.LogEntry.TheVariants.{Waited, Told}
use Rattle.script_upstream.specs.Course.{is_qualified_told}
use Rattle.dns_core.specs.Connection.{Peer}
use Rattle.dns_core.specs.declared.log.LogEntry.{LogEntry}
use Rattle.script_upstream.specs.declared.courses.index.Endpoint.{Endpoint}
use Rattle.script_upstream.specs.declared.script.script.Script.{Script}

-- the script, the log that is lent, the give-ups that wait for memory, and the counts
pub record Upstream : Type 0 where
  pub script : Script
  pub noted : List LogEntry
  pub late : List LogEntry
  pub faults : ℕ
  pub pendings : ℕ

-- the whole log
abbrev pub told_by : Upstream → List LogEntry
told_by u = u.noted ++ u.late

abbrev pub peer_of : Endpoint → Peer
peer_of e = record { ip = e.ip; protocol = e.protocol }

-- the upstream noted an entry, and nothing else changed
pub record Notes (old new : Upstream) (entry : LogEntry) : Type 0 where
  pub script : new.script ≡ old.script
  pub log : told_by new ≡ told_by old ++ entry ∷ []
  pub faults : new.faults ≡ old.faults
  pub pendings : new.pendings ≡ old.pendings

-- the upstream noted nothing
pub record NotesNothing (old new : Upstream) : Type 0 where
  pub script : new.script ≡ old.script
  pub log : told_by new ≡ told_by old
  pub faults : new.faults ≡ old.faults
  pub pendings : new.pendings ≡ old.pendings

-- a poll that noted what it found, where P holds of what it tells
abbrev pub Polls : (ToldOutcome → Type 0) → Upstream → Upstream → ℕ → ℕ → Poll (Result ToldOutcome NoMemory) → Type 0
Polls P old new number moment Pending = Notes old new (Waited number)
Polls P old new number moment (Ready (Ok o)) = Notes old new (Told number moment o) × P o × IsTrue (is_qualified_told o)
Polls P old new number moment (Ready (Err e)) = NotesNothing old new
