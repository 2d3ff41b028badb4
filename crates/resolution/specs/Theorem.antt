-- What a run promises, whatever the servers send. The other files say what these words mean.
use Rattle.std.specs.Prelude.{◌≡◌, ◌≤◌, ◌++◌, ℕ, max, false, List, [], ◌∷◌, Option, Some, Result, Ok, Err}
use Rattle.resolution.specs.Words.{IpAddr, DomainName, Log, Extends, strip_of, Query, Message, Question, Turn, Protocol, NetError, LogEntry, Opened, Asked, Policy, RecursorError, Logged, moment_of, MomentsRise, Same, IsServer, IsServerFor, Base, IsOwn, LookupTiming, waits, Walked, Pos, Link, AliasesLeadTo, entries_of_links, merged, CauseOf, IsPlayed}
use Rattle.recursor_types.specs.declared.error.RecursorError.TheVariants as error
use Rattle.recursor_types.specs.declared.error.MessageKind.TheVariants as kind

-- Whom a run asks: a root for the root zone; for any other zone an address that came with a delegation of it, received earlier from a server of a zone
-- at or above it, and that the server filter does not deny (RFC 1034 section 5.3.3). A query goes only to a server of a zone at or above its name.
pub record OnlyServersAsked (policy : Policy) (log : Log) : Type 0 where
  pub opened : (entry : ℕ) (ip : IpAddr) (protocol : Protocol) (moment : ℕ) (refused : Option NetError)
      → Logged log entry (Opened ip protocol moment refused) → IsServer policy log entry ip
  pub asked : (entry : ℕ) (ip : IpAddr) (protocol : Protocol) (query : Query) (moment : ℕ) (refused : Option NetError)
      → Logged log entry (Asked ip protocol query moment refused) → IsServerFor policy log entry ip query

-- When, and how long: the log grows turn by turn, each entry at the moment of its turn. No moment falls, and none is later than the last one. Only servers
-- are asked. Nothing is polled in vain more often than patience says, once at least, or than before the run.
pub record IsRun (policy : Policy) (patience start last : ℕ) (turns : List Turn) (before after : Log) : Type 0 where
  pub extends : Extends before after
  pub played : IsPlayed start turns before.next after
  pub asks : OnlyServersAsked policy after
  pub rises : MomentsRise after
  pub past : (entry moment : ℕ) (e : LogEntry) → Logged after entry e → moment_of e ≡ Some moment → moment ≤ last
  pub patient : (entry : ℕ) → waits after entry after.next ≤ max (waits before entry before.next) (max 1 patience)

-- What an answer is: along a chain of aliases, what the answer filter and the bailiwick leave of one response each, less DNSSEC records that nobody asked
-- for. Each is by a server of the deepest zone cut that the log shows. The last one is authoritative and, where it is older than the question, within its
-- TTL; or it was received since the question began, for NS records from the name's own servers (RFC 1034 section 4.2.1).
pub record AnswerIsSound (policy : Policy) (log : Log) (asked_at : ℕ) (question : Question) (grounds : List ℕ) (reply : Message) : Type 0 where
  pub links : List Link
  pub last : Query
  pub entry : ℕ
  pub zone : DomainName
  pub kept : Message
  pub leads : AliasesLeadTo policy log asked_at question.query links last
  pub rest : grounds ≡ entries_of_links links ++ (entry ∷ [])
  pub base : Base policy log asked_at last entry zone (Pos kept)
  pub deepest : Walked policy log last zone
  pub own : IsOwn policy log asked_at last zone base.moment kept
  pub same : Same reply (merged question.dnssec_ok links (strip_of kept question.dnssec_ok))

-- What an error means: its one listed cause, for the question at the end of the chain of aliases.
pub record ErrorIsSound (policy : Policy) (timing : LookupTiming) (log : Log) (asked_at : ℕ) (query : Query) (grounds : List ℕ) (e : RecursorError) : Type 0 where
  pub links : List Link
  pub last : Query
  pub rest : List ℕ
  pub leads : AliasesLeadTo policy log asked_at query links last
  pub grounds_are : grounds ≡ entries_of_links links ++ rest
  pub cause : CauseOf policy timing log asked_at last rest e

-- What a reply is: an answer or an error, each with the entries that show it. No entry shows that memory ran out or that a name is not fully qualified.
abbrev pub OutcomeIsSound : Policy → LookupTiming → Log → ℕ → Question → List ℕ → Result Message RecursorError → Type 0
OutcomeIsSound policy timing log asked_at question grounds (Ok reply) = AnswerIsSound policy log asked_at question grounds reply
OutcomeIsSound policy timing log asked_at question grounds (Err error.NoMemory) = grounds ≡ []
OutcomeIsSound policy timing log asked_at question grounds (Err (error.Message kind.NotQualified)) = (question.query.name.fqdn ≡ false) × (grounds ≡ [])
OutcomeIsSound policy timing log asked_at question grounds (Err e) = ErrorIsSound policy timing log asked_at question.query grounds e
