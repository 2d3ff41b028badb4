-- What is promised of each lookup, whatever its servers answer.
use Rattle.std.specs.Prelude.{◌≡◌, IsTrue, slice_get, Some, ℕ, ◌+◌, ◌*◌, ◌≤◌, List, length}
use Rattle.resolution.specs.Lookups.{IsBounded}
use Rattle.pool_rules.specs.RetryQueue.{rules_of, class_of_sent}
use Rattle.server_core.specs.Sending.{is_open}
use Rattle.pool_lookup.specs.declared.attempt.Attempt.{Attempt}
use Rattle.pool_lookup.specs.declared.lookup.State.{State}
use Rattle.pool_lookup.specs.declared.lookup.State.TheVariants.{Asking, BackingOff, Decided}
use Rattle.pool_lookup.specs.Holds.{HeardEnd, ends_of}
use Rattle.pool_lookup.specs.Lookup.{LookupState, question_of, deadline, under_way}

-- a backoff ends at the deadline at the latest
abbrev pub WakesInTime : State → ℕ → Type 0
WakesInTime Asking latest = Unit {0}
WakesInTime (BackingOff until order polls) latest = until ≤ latest
WakesInTime (Decided answer at) latest = Unit {0}

-- each server has at most five ends for each of its places, and the one that turned UDP off one more; at most five sends are made for each place of the pool, and one more
pub record IsFair (heard : List HeardEnd) (l : LookupState) : Type 0 where
  pub each : IsBounded (rules_of l.timeout) (class_of_sent (question_of l)) l.servers (ends_of heard)
  pub all : length l.closed_by + length (under_way l) ≤ 5 * length l.servers + 1
  pub wakes : WakesInTime l.state (deadline l)

-- an order of the lookup is open: of an attempt in flight, or of its backoff
abbrev pub HasOpen : State → List Attempt → Type 0
HasOpen Asking attempts = (place : ℕ) × ((a : Attempt) × (slice_get attempts place ≡ Some a) × IsTrue (is_open a.send.stage))
HasOpen (BackingOff until order polls) attempts = (number : ℕ) × (order ≡ Some number)
HasOpen (Decided answer at) attempts = ⊥
