-- How a lookup backs off before it asks the servers again that were busy.
use Rattle.std.specs.Prelude.{◌≡◌, ◌≤◌, ◌<◌, length, ℕ, ◌+◌, ◌==◌, nat_le, Bool, true, false, [], if◌then◌else◌, Option, Some, None}
use Rattle.pool_rules.specs.RetryQueue.{QueueState}
use Rattle.server_core.specs.declared.orders.order.Outcome.{Outcome}
use Rattle.server_core.specs.declared.orders.order.Outcome.TheVariants.{Pending, Connected, Told, Failed, Slept}
use Rattle.server_core.specs.declared.orders.order.After.{After}
use Rattle.server_core.specs.declared.orders.order.After.TheVariants.{Kept, Ended, GiveUp}
use Rattle.server_core.specs.declared.orders.order.Tick.{Tick}
use Rattle.pool_lookup.specs.declared.lookup.State.TheVariants.{Asking, BackingOff}
use Rattle.pool_lookup.specs.Lookup.{LookupState}
use Rattle.pool_lookup.specs.Rounds.{settled}

-- the order is the one of the number
abbrev pub is_order : ℕ → Option ℕ → Bool
is_order number None = false
is_order number (Some n) = n == number

-- a poll before the last one that patience allows
abbrev pub goes_on : ℕ → ℕ → Outcome → Bool
goes_on patience polls (Pending entry of) = if nat_le patience (polls + 1) then false else true
goes_on patience polls (Connected entry sent) = false
goes_on patience polls (Told entry sent message) = false
goes_on patience polls (Failed entry sent refused error) = false
goes_on patience polls Slept = false

-- what an outcome does to the order of a backoff: the last poll that patience allows gives it up, and each other one that is no poll ends it
abbrev pub after_backoff : ℕ → ℕ → Outcome → After
after_backoff patience polls (Pending entry of) = if nat_le patience (polls + 1) then GiveUp else Kept
after_backoff patience polls (Connected entry sent) = Ended
after_backoff patience polls (Told entry sent message) = Ended
after_backoff patience polls (Failed entry sent refused error) = Ended
after_backoff patience polls Slept = Ended

-- the busy servers wait to be asked again
abbrev pub asked_again : QueueState → QueueState
asked_again p = record p { waiting = p.busy; busy = []; sleeps = p.sleeps + 1 }

-- the backoff is over
abbrev pub woken : ℕ → LookupState → LookupState
woken now l = settled now (record l { queue = asked_again l.queue; state = Asking })

-- the outcome of its order, after so many polls of it
abbrev pub after_sleep : Tick → ℕ → Option ℕ → ℕ → Outcome → LookupState → LookupState
after_sleep tick until order polls outcome l =
    if goes_on tick.patience polls outcome then record l { state = BackingOff until order (polls + 1) } else woken tick.now l

-- The busy servers can be asked again, and there is room for them.
pub record CanWake (l : LookupState) : Type 0 where
  pub few : l.queue.sleeps < 4
  pub none : l.queue.waiting ≡ []
  pub some : 1 ≤ l.concurrency
  pub busy : length l.queue.busy ≤ length l.servers
