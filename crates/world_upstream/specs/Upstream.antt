-- What contracts see of a world as an upstream.
use Rattle.std.specs.Prelude.{◌≡◌, ℕ, List, [], ◌∷◌, ◌++◌, IsTrue, Result, Ok, Err}
use Rattle.dns_core.specs.Message.{is_qualified_message}
use Rattle.dns_core.specs.declared.errors.NoMemory.{NoMemory}
use Rattle.dns_core.specs.declared.message.Query.{Query}
use Rattle.dns_core.specs.declared.message.Message.{Message as Response}
use Rattle.dns_core.specs.declared.provider.Poll.{Poll}
use Rattle.dns_core.specs.declared.provider.Poll.TheVariants.{Ready, Pending}
use Rattle.dns_core.specs.declared.log.ToldOutcome.TheVariants.{Message}
use Rattle.dns_core.specs.declared.log.LogEntry.{LogEntry}
use Rattle.dns_core.specs.declared.log.LogEntry.TheVariants.{Waited, Told}
use Rattle.zone_rules.specs.declared.world.World.{World}

-- the world, the log that is lent, the give-ups that wait for memory, and how many polls found nothing yet
pub record Upstream : Type 0 where
  pub world : World
  pub noted : List LogEntry
  pub late : List LogEntry
  pub pendings : ℕ

-- the whole log
abbrev pub told_by : Upstream → List LogEntry
told_by u = u.noted ++ u.late

-- the upstream noted an entry, and nothing else changed
pub record Notes (old new : Upstream) (entry : LogEntry) : Type 0 where
  pub world : new.world ≡ old.world
  pub log : told_by new ≡ told_by old ++ entry ∷ []
  pub pendings : new.pendings ≡ old.pendings

-- the upstream noted nothing
pub record NotesNothing (old new : Upstream) : Type 0 where
  pub world : new.world ≡ old.world
  pub log : told_by new ≡ told_by old
  pub pendings : new.pendings ≡ old.pendings

-- a poll of a question that noted what it found: a message tells this question, with fully qualified names alone
abbrev pub Polls : Query → Upstream → Upstream → ℕ → ℕ → Poll (Result Response NoMemory) → Type 0
Polls query old new number moment Pending = Notes old new (Waited number)
Polls query old new number moment (Ready (Ok m)) = Notes old new (Told number moment (Message m)) × (m.query ≡ query) × IsTrue (is_qualified_message m)
Polls query old new number moment (Ready (Err e)) = NotesNothing old new
