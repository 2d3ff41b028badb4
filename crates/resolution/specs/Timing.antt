-- When a finished lookup began and was answered, as a log shows it.
use Rattle.std.specs.Prelude.{◌≡◌, ℕ, ◌<◌, ◌≤◌, ◌⊎◌, Bool, true, false, ◌&&◌, ◌||◌, ◌==◌, nat_lt, IsTrue, List, ◌∷◌, Some, None, IsSomeAnd, Contains, slice_get, Err}
use Rattle.std.specs.List.{last_or}
use Rattle.std.specs.declared.net.ip_addr.IpAddr.{IpAddr}
use Rattle.dns_core.specs.Log.{Log}
use Rattle.dns_core.specs.declared.message.Query.{Query}
use Rattle.dns_core.specs.declared.net_error.NetError.TheVariants as net
use Rattle.dns_core.specs.declared.log.LogEntry.{LogEntry}
use Rattle.dns_core.specs.declared.log.LogEntry.TheVariants.{Opened, Asked, Told, GaveUp}
use Rattle.resolution.specs.Names.{same_query}
use Rattle.resolution.specs.Telling.{Logged, moment_of}
use Rattle.resolution.specs.Lookups.{End, Answered}
use Rattle.resolution.specs.Ending.{LookupTiming, same_ip, is_begun}

-- an open of the address, or an ask for `query` there, refused or not
abbrev pub is_send : Query → IpAddr → LogEntry → Bool
is_send query ip (Opened at protocol moment refused) = same_ip at ip
is_send query ip (Asked at protocol asked moment refused) = same_ip at ip && same_query asked query
is_send query ip _ = false

-- it tells entry k, or gives it up
abbrev pub closes : ℕ → LogEntry → Bool
closes k (Told of moment outcome) = of == k
closes k (GaveUp of moment) = of == k
closes k _ = false

-- A send for `query` to one of these addresses began before `asked_at`, and no entry up to `last` closes it before `asked_at`.
pub record WasOpen (log : Log) (query : Query) (ips : List IpAddr) (asked_at last : ℕ) : Type 0 where
  pub k : ℕ
  pub ip : IpAddr
  pub e : LogEntry
  pub moment : ℕ
  pub of : Contains ips ip
  pub begun : Logged log k e
  pub is : IsTrue (is_begun query ip e)
  pub at : moment_of e ≡ Some moment
  pub before : moment < asked_at
  pub open_at : (j m : ℕ) (f : LogEntry) → j ≤ last → Logged log j f → IsTrue (closes k f) → moment_of f ≡ Some m → asked_at ≤ m

abbrev pub is_busy : Answered → Bool
is_busy (Err net.Busy) = true
is_busy _ = false

-- a server was busy before `asked_at`, so the lookup may have slept at `asked_at`
abbrev pub was_busy : ℕ → List (End IpAddr) → List ℕ → Bool
was_busy asked_at (e ∷ ends) (m ∷ moments) = (is_busy e.outcome && nat_lt m asked_at) || was_busy asked_at ends moments
was_busy asked_at _ _ = false

-- In a run of `drive` with turns at these moments: a lookup was answered in a turn, and began with a send no later than
-- the first entry by which it ended; before `asked_at` only where the log shows it open or asleep then, or where memory was wanted.
pub record DriveTimed (turns : List ℕ) (wanted : Bool) (log : Log) (asked_at : ℕ) (query : Query) (ips : List IpAddr) (grounds : List ℕ) (ends : List (End IpAddr)) (moments : List ℕ) (start now : ℕ) : Type 0 where
  pub answered : Contains turns now
  pub n : ℕ
  pub e : LogEntry
  pub begun : Logged log n e
  pub is : IsSomeAnd (slice_get ends 0) (λ first. IsTrue (is_send query first.server e))
  pub at : moment_of e ≡ Some start
  pub early : IsSomeAnd (slice_get grounds 0) (λ first. n ≤ first)
  pub since : (asked_at ≤ start) ⊎ IsTrue (was_busy asked_at ends moments) ⊎ IsSomeAnd (last_or None grounds) (WasOpen log query ips asked_at) ⊎ IsTrue wanted

abbrev pub known_to_drive : List ℕ → Bool → Bool → Log → ℕ → LookupTiming
known_to_drive turns wanted exhausted log asked_at = record { Timed = DriveTimed turns wanted log asked_at; exhausted = exhausted }

-- In the contract of `next`: the lookup began at the moment that it keeps, and was answered in a step of this resolution.
abbrev pub known_to_next : (List ℕ → ℕ → Type 0) → List ℕ → Bool → LookupTiming
known_to_next Began steps exhausted = record { Timed = λ q ips g ends moments start now. Began g start × Contains steps now; exhausted = exhausted }

-- In a journal: it was answered no later than the reply.
abbrev pub known_to_journal : ℕ → LookupTiming
known_to_journal done = record { Timed = λ q ips g ends moments start now. now ≤ done; exhausted = false }
