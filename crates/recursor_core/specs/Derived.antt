-- What the machine keeps, as derived from a log.
use Rattle.std.specs.Prelude.{Option, Some, None, ◌<◌, All}
use Rattle.recursor_walk.specs.Way.{CanWalk}
use Rattle.std.specs.Global.{Box}
use Rattle.dns_core.specs.Log.{Log}
use Rattle.walk_lookup.specs.LogView.{LogView, seen_at}
use Rattle.walk_tables.specs.Pools.{PoolsHold}
use Rattle.walk_lookup.specs.Remembered.{CacheHolds}
use Rattle.recursor_question.specs.Resolved.{ResolutionHolds}
use Rattle.recursor_question.specs.declared.resolving.Resolution.{Resolution}
use Rattle.recursor_core.specs.declared.machine.resolutions.RecursorCore.{RecursorCore}

-- so it is with the one that is kept at a place, if there is one
abbrev pub KeptHolds : LogView → Option (Box Resolution) → Type 0
KeptHolds view None = Unit {0}
KeptHolds view (Some r) = ResolutionHolds view r.value

-- what the machine sees of a log
abbrev pub seen_by : RecursorCore → Log → LogView
seen_by core log = seen_at core.policy core.greatest core.moment log

-- All that the machine keeps is derived from the log.
pub record Derived (core : RecursorCore) (log : Log) : Type 0 where
  pub bound : core.greatest < log.next
  pub walks : CanWalk core.policy
  pub cache : CacheHolds (seen_by core log) core.cache
  pub pools : PoolsHold (seen_by core log) core.pools
  pub resolutions : All (KeptHolds (seen_by core log)) core.resolutions.items
