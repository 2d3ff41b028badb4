-- What a lookup has behind it: how its sends ended, and when.
use Rattle.std.specs.Prelude.{◌≡◌, ℕ, ◌<◌, ◌≤◌, Bool, true, false, IsTrue, nat_le, List, [], ◌∷◌, length, Option, Some, None, Ok, Err, IfSome}
use Rattle.std.specs.List.{list_all, last_or}
use Rattle.std.specs.declared.net.ip_addr.IpAddr.{IpAddr}
use Rattle.dns_core.specs.Name.{DomainName}
use Rattle.dns_core.specs.Log.{Log}
use Rattle.dns_core.specs.declared.message.Query.{Query}
use Rattle.dns_core.specs.declared.log.LogEntry.{LogEntry}
use Rattle.dns_core.specs.declared.log.ToldOutcome.{ToldOutcome}
use Rattle.resolution.specs.Telling.{Logged, moment_of}
use Rattle.resolution.specs.Serving.{Heard}
use Rattle.resolution.specs.Lookups.{Answered, End, class_of_answer}
use Rattle.resolution.specs.Ending.{LookupTiming, EndSends, Rise, FinishedLookup}
use Rattle.resolution.specs.Timing.{is_send}
use Rattle.resolution.specs.declared.class.Class.{Class}
use Rattle.resolution.specs.declared.class.Class.TheVariants.{Error, Code, Truncated, Negative, Foreign, Positive}
use Rattle.resolution.specs.Negatives.{AskedAs}
use Rattle.walk_lookup.specs.LogView.{LogView}
use Rattle.dns_core.specs.declared.log.ToldOutcome.TheVariants as told

-- A send of the question to the server began at the moment, by an entry that is no later than this one.
pub record BeganBy (log : Log) (query : Query) (server : IpAddr) (last start : ℕ) : Type 0 where
  pub n : ℕ
  pub e : LogEntry
  pub begun : Logged log n e
  pub is : IsTrue (is_send query server e)
  pub at : moment_of e ≡ Some start
  pub early : n ≤ last

-- So began the send that ended first; or before there is one the first send, where it is known to which server that goes.
abbrev pub Began : Log → Query → ℕ → Option IpAddr → List ℕ → List (End IpAddr) → ℕ → Type 0
Began log query greatest first (n ∷ g) (e ∷ ends) start = BeganBy log query e.server n start
Began log query greatest first [] ends start = IfSome first (λ ip. BeganBy log query ip greatest start)
Began log query greatest first (n ∷ g) [] start = Unit {0}

-- an answer or a denial
abbrev pub is_response : Class → Bool
is_response (Positive m) = true
is_response (Negative n) = true
is_response (Error e) = false
is_response (Code c) = false
is_response Truncated = false
is_response (Foreign r) = false

-- what was told, where that is what a send ended with
abbrev pub told_of : Answered → ToldOutcome
told_of (Ok m) = told.Message m
told_of (Err e) = told.Error e

-- Each end that is an answer or a denial was heard for the question as it was asked, from a server of the zone.
abbrev pub AreHeard : LogView → DomainName → Query → List ℕ → List (End IpAddr) → List ℕ → Type 0
AreHeard view zone query (n ∷ g) (e ∷ ends) (m ∷ moments) =
    (IsTrue (is_response (class_of_answer query e.outcome)) → Heard view.policy view.log n query (told_of e.outcome) m zone × AskedAs view.log n query) × AreHeard view zone query g ends moments
AreHeard view zone query _ _ _ = Unit {0}

-- These entries ended sends of the question to some of the addresses, one after the other, since the start; the last of them came at this moment.
pub record Tried (view : LogView) (zone : DomainName) (query : Query) (ips : List IpAddr) (start : ℕ) (first : Option IpAddr)
    (grounds : List ℕ) (ends : List (End IpAddr)) (at : ℕ) : Type 0 where
  pub moments : List ℕ
  pub logged : EndSends view.policy view.log query ips grounds ends moments
  pub heard : AreHeard view zone query grounds ends moments
  pub rises : Rise grounds
  pub early : IsTrue (list_all (λ n. nat_le n view.greatest) grounds)
  pub began : Began view.log query view.greatest first grounds ends start
  pub since : IsTrue (list_all (nat_le start) moments)
  pub till : IsTrue (list_all (λ m. nat_le m view.moment) moments)
  pub last : (m : ℕ) → last_or None moments ≡ Some m → m ≡ at

-- The lookup began with a send no earlier than the question, and was answered no later than the moment.
pub record IsTimed (moment : ℕ) (log : Log) (asked_at : ℕ) (query : Query) (grounds : List ℕ) (ends : List (End IpAddr)) (start now : ℕ) : Type 0 where
  pub some : 0 < length grounds
  pub began : Began log query 0 None grounds ends start
  pub since : asked_at ≤ start
  pub answered : now ≤ moment

-- what is known of the moments of a finished lookup, by a log and the moment of the question
abbrev pub Timer : Type 1
Timer = Log → ℕ → LookupTiming

-- what the machine knows of the moments of a lookup, at a moment
abbrev pub machine_timer : ℕ → Timer
machine_timer moment log t0 = record { Timed = λ q ips g ends moments start now. IsTimed moment log t0 q g ends start now; exhausted = false }

-- A lookup for the question at servers of the zone came to this by the entries, no later than the moment.
abbrev pub Concluded : LogView → ℕ → DomainName → Query → List ℕ → Answered → Type 0
Concluded view asked_at zone query grounds result = FinishedLookup view.policy (machine_timer view.moment view.log asked_at) view.log asked_at query zone grounds result
