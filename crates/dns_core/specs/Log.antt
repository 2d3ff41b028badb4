-- The log of a provider, and the entry that each call appends.
use Rattle.std.specs.Prelude.{◌≡◌, ◌≤◌, ◌<◌, ◌+◌, ℕ, zero, suc, List, [], ◌∷◌, ◌++◌, length, Option, Some, None, Result, Ok, Err, slice_get, if◌then◌else◌}
use Rattle.dns_core.specs.Connection.{Peer}
use Rattle.dns_core.specs.NetError.{is_memory}
use Rattle.dns_core.specs.declared.net_error.NetError.{NetError}
use Rattle.dns_core.specs.declared.message.Query.{Query}
use Rattle.dns_core.specs.declared.message.Message.{Message as Response}
use Rattle.dns_core.specs.declared.log.ToldOutcome.TheVariants as told
use Rattle.dns_core.specs.declared.log.LogEntry.{LogEntry}
use Rattle.dns_core.specs.declared.log.LogEntry.TheVariants.{Opened, Asked, Waited, Told, GaveUp}
use Rattle.dns_core.specs.declared.provider.Poll.{Poll}
use Rattle.dns_core.specs.declared.provider.Poll.TheVariants as poll

-- the log with one entry more, where there is a log
abbrev pub added : LogEntry → Option (List LogEntry) → Option (List LogEntry)
added entry None = None
added entry (Some es) = Some (es ++ entry ∷ [])

-- an Err leaves an entry with the error, but for that of memory, which leaves none
abbrev pub refused_by : (Option NetError → LogEntry) → NetError → Option (List LogEntry) → Option (List LogEntry)
refused_by entry error log = if is_memory error then log else added (entry (Some error)) log

abbrev pub after_open : {X : Type 0} → Peer → ℕ → Result X NetError → Option (List LogEntry) → Option (List LogEntry)
after_open peer now (Ok f) log = added (Opened peer.ip peer.protocol now None) log
after_open peer now (Err e) log = refused_by (Opened peer.ip peer.protocol now) e log

abbrev pub after_send : {X : Type 0} → Peer → Query → ℕ → Result X NetError → Option (List LogEntry) → Option (List LogEntry)
after_send peer query now (Ok e) log = added (Asked peer.ip peer.protocol query now None) log
after_send peer query now (Err e) log = refused_by (Asked peer.ip peer.protocol query now) e log

abbrev pub gave_up : ℕ → ℕ → Option (List LogEntry) → Option (List LogEntry)
gave_up of now log = added (GaveUp of now) log

abbrev pub told_error : ℕ → ℕ → NetError → Option (List LogEntry) → Option (List LogEntry)
told_error of now error log = if is_memory error then log else added (Told of now (told.Error error)) log

abbrev pub after_connect_poll : {X : Type 0} → ℕ → ℕ → Poll (Result X NetError) → Option (List LogEntry) → Option (List LogEntry)
after_connect_poll of now poll.Pending log = added (Waited of) log
after_connect_poll of now (poll.Ready (Ok conn)) log = added (Told of now told.Connected) log
after_connect_poll of now (poll.Ready (Err e)) log = told_error of now e log

abbrev pub after_poll : ℕ → ℕ → Poll (Result Response NetError) → Option (List LogEntry) → Option (List LogEntry)
after_poll of now poll.Pending log = added (Waited of) log
after_poll of now (poll.Ready (Ok m)) log = added (Told of now (told.Message m)) log
after_poll of now (poll.Ready (Err e)) log = told_error of now e log

-- the number that the next entry gets, where a log is told
abbrev pub Numbered : ℕ → Option (List LogEntry) → Type 0
Numbered n None = Unit {0}
Numbered n (Some es) = n ≡ length es + 1

-- the entry of a number, from 1
abbrev pub numbered : List LogEntry → ℕ → Option LogEntry
numbered es zero = None
numbered es (suc n) = slice_get es n

-- a log as derivations read it: what stands under a number, and the first number that is free
pub record Log : Type 0 where
  pub next : ℕ
  pub entry : ℕ → Option LogEntry

abbrev pub log_of : List LogEntry → Log
log_of es = record { next = length es + 1; entry = numbered es }

-- the new log is the old one with entries under greater numbers
pub record Extends (old new : Log) : Type 0 where
  pub later : old.next ≤ new.next
  pub kept : (n : ℕ) → n < old.next → new.entry n ≡ old.entry n
