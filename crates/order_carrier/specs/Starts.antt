-- By which entry an order starts.
use Rattle.std.specs.Prelude.{◌≡◌, ◌+◌, ℕ, List, length, Option, Some}
use Rattle.dns_core.specs.Connection.{protocol_of}
use Rattle.dns_core.specs.Log.{log_of}
use Rattle.dns_core.specs.declared.log.LogEntry.{LogEntry}
use Rattle.dns_core.specs.declared.log.LogEntry.TheVariants as line
use Rattle.dns_core.specs.declared.net_error.NetError.{NetError}
use Rattle.resolution.specs.Telling.{Logged}
use Rattle.server_core.specs.declared.orders.order.Order.{Order}
use Rattle.server_core.specs.declared.orders.order.Order.TheVariants.{Open, Ask, Sleep}

-- The log went on with the entry, refused or not.
pub record IsBegunBy (entry : Option NetError → LogEntry) (old : Option (List LogEntry)) (es : List LogEntry) : Type 0 where
  pub before : List LogEntry
  pub was : old ≡ Some before
  pub refusal : Option NetError
  pub logged : Logged (log_of es) (length before + 1) (entry refusal)

-- A log that is told went on with the entry.
abbrev pub BeginsWith : (Option NetError → LogEntry) → Option (List LogEntry) → Option (List LogEntry) → Type 0
BeginsWith entry old new = (es : List LogEntry) → new ≡ Some es → IsBegunBy entry old es

-- The entry that says what an order is was the first after the old log; a sleep has none.
abbrev pub Starts : ℕ → Order → Option (List LogEntry) → Option (List LogEntry) → Type 0
Starts now (Open ip config) old new = BeginsWith (line.Opened ip (protocol_of config.protocol) now) old new
Starts now (Ask conn ip protocol request) old new = BeginsWith (line.Asked ip protocol request.query now) old new
Starts now (Sleep until) old new = new ≡ old
