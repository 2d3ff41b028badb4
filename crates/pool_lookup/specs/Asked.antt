-- Which orders of a lookup are open, and what it was answered.
use Rattle.std.specs.Prelude.{ℕ, Bool, false, List, count_by, if◌then◌else◌, Option, Some, None}
use Rattle.std.specs.List.{list_any}
use Rattle.resolution.specs.Lookups.{Answered}
use Rattle.pool_lookup.specs.declared.attempt.Attempt.{Attempt}
use Rattle.pool_lookup.specs.declared.lookup.State.{State}
use Rattle.pool_lookup.specs.declared.lookup.State.TheVariants.{Asking, BackingOff, Decided}
use Rattle.pool_lookup.specs.Attempts.{is_open_at}
use Rattle.pool_lookup.specs.Backoff.{is_order}
use Rattle.pool_lookup.specs.Lookup.{LookupState}

-- how often the order of the number is open, by what the lookup is at
abbrev pub opens_in : ℕ → List Attempt → State → ℕ
opens_in number attempts Asking = count_by (is_open_at number) attempts
opens_in number attempts (BackingOff until order polls) = if is_order number order then 1 else 0
opens_in number attempts (Decided answer at) = 0

abbrev pub opens : ℕ → LookupState → ℕ
opens number l = opens_in number l.attempts l.state

-- whether it is
abbrev pub has_in : ℕ → List Attempt → State → Bool
has_in number attempts Asking = list_any (is_open_at number) attempts
has_in number attempts (BackingOff until order polls) = is_order number order
has_in number attempts (Decided answer at) = false

-- the order of the number is open at it
abbrev pub has_order : ℕ → LookupState → Bool
has_order number l = has_in number l.attempts l.state

abbrev pub answer_in : State → Option Answered
answer_in Asking = None
answer_in (BackingOff until order polls) = None
answer_in (Decided answer at) = Some answer

-- what it was answered, once it is decided
abbrev pub answer_of : LookupState → Option Answered
answer_of l = answer_in l.state
