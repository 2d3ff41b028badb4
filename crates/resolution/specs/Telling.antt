-- What a log says was told, and by whom.
use Rattle.std.specs.Prelude.{◌≡◌, ℕ, ◌<◌, ◌≤◌, Bool, true, false, IsTrue, Option, Some, None, Contains}
use Rattle.std.specs.List.{filter_map}
use Rattle.std.specs.declared.net.ip_addr.IpAddr.{IpAddr}
use Rattle.dns_core.specs.Log.{Log}
use Rattle.dns_core.specs.Message.{is_qualified_message}
use Rattle.dns_core.specs.NetError.{is_qualified_error}
use Rattle.dns_core.specs.declared.message.Query.{Query}
use Rattle.dns_core.specs.declared.message.Message.{Message as Response}
use Rattle.dns_core.specs.declared.connection.Protocol.{Protocol}
use Rattle.dns_core.specs.declared.log.LogEntry.{LogEntry}
use Rattle.dns_core.specs.declared.log.LogEntry.TheVariants.{Opened, Asked, Waited, Told, GaveUp}
use Rattle.dns_core.specs.declared.log.ToldOutcome.{ToldOutcome}
use Rattle.dns_core.specs.declared.log.ToldOutcome.TheVariants.{Connected, Message, Error}
use Rattle.resolution.specs.Names.{same_query}
use Rattle.resolution.specs.Records.{address, records}

-- The log has this entry under n.
pub record Logged (log : Log) (n : ℕ) (entry : LogEntry) : Type 0 where
  pub below : n < log.next
  pub is : log.entry n ≡ Some entry

-- Entry `entry` tells the outcome for `query` at the moment: the address that was asked, by entry `ask`, is the teller.
pub record Tells (log : Log) (entry : ℕ) (query : Query) (outcome : ToldOutcome) (ask : ℕ) (teller : IpAddr) (moment : ℕ) : Type 0 where
  pub protocol : Protocol
  pub asked : Query
  pub asked_at : ℕ
  pub told : Logged log entry (Told ask moment outcome)
  pub question : Logged log ask (Asked teller protocol asked asked_at None)
  pub before : ask < entry
  pub same : IsTrue (same_query asked query)

-- Each entry below n of the first log is one of the second.
abbrev pub KeepsBelow : ℕ → Log → Log → Type 0
KeepsBelow n old new = (k : ℕ) (e : LogEntry) → k < n → Logged old k e → Logged new k e

-- The two logs have the same entries below n.
pub record AgreeBelow (n : ℕ) (a b : Log) : Type 0 where
  pub there : KeepsBelow n a b
  pub back : KeepsBelow n b a

-- A message that was told holds the address.
pub record IsTold (log : Log) (ip : IpAddr) : Type 0 where
  pub i : ℕ
  pub ask : ℕ
  pub moment : ℕ
  pub message : Response
  pub told : Logged log i (Told ask moment (Message message))
  pub held : Contains (filter_map address (records message)) ip

-- The question was asked of somebody.
pub record WasAsked (log : Log) (query : Query) : Type 0 where
  pub n : ℕ
  pub ip : IpAddr
  pub protocol : Protocol
  pub asked : Query
  pub moment : ℕ
  pub logged : Logged log n (Asked ip protocol asked moment None)
  pub same : IsTrue (same_query asked query)

-- the number that an entry names
abbrev pub named : LogEntry → Option ℕ
named (Opened ip protocol moment refused) = None
named (Asked ip protocol query moment refused) = None
named (Waited of) = Some of
named (Told of moment o) = Some of
named (GaveUp of moment) = Some of

-- the moment of an entry, where it has one
abbrev pub moment_of : LogEntry → Option ℕ
moment_of (Opened ip protocol moment refused) = Some moment
moment_of (Asked ip protocol query moment refused) = Some moment
moment_of (Waited of) = None
moment_of (Told of moment o) = Some moment
moment_of (GaveUp of moment) = Some moment

-- it began an open or an ask
abbrev pub is_start : LogEntry → Bool
is_start (Opened ip protocol moment refused) = true
is_start (Asked ip protocol query moment refused) = true
is_start (Waited of) = false
is_start (Told of moment o) = false
is_start (GaveUp of moment) = false

-- every name in what was told is fully qualified
abbrev pub is_qualified_outcome : ToldOutcome → Bool
is_qualified_outcome Connected = true
is_qualified_outcome (Message m) = is_qualified_message m
is_qualified_outcome (Error e) = is_qualified_error e

-- What an entry names was begun before, and names are fully qualified.
pub record IsLog (log : Log) : Type 0 where
  pub begun : (i k : ℕ) (entry : LogEntry) → Logged log i entry → named entry ≡ Some k → (k < i) × (s : LogEntry) × Logged log k s × IsTrue (is_start s)
  pub qualified : (i ask moment : ℕ) (outcome : ToldOutcome) → Logged log i (Told ask moment outcome) → IsTrue (is_qualified_outcome outcome)

-- No entry numbered k or more carries a moment below t.
abbrev pub NoneBefore : Log → ℕ → ℕ → Type 0
NoneBefore log k t = (i moment : ℕ) (e : LogEntry) → k ≤ i → Logged log i e → moment_of e ≡ Some moment → t ≤ moment

-- Moments don't fall.
abbrev pub MomentsRise : Log → Type 0
MomentsRise log = (i j earlier later : ℕ) (e f : LogEntry) → i ≤ j → Logged log i e → Logged log j f → moment_of e ≡ Some earlier → moment_of f ≡ Some later → earlier ≤ later
