-- How much is left of the questions of a run.
use Rattle.std.specs.Prelude.{◌≡◌, ◌≤◌, ◌<◌, ◌+◌, ◌-◌, ◌*◌, ◌^◌, ℕ, max, Option, Some, IsSome, ◌⊎◌, true}
use Rattle.std.specs.BTreeSet.{BTreeSet, contains}
use Rattle.std.specs.Ordering.{nat_cmp}
use Rattle.dns_core.specs.declared.provider.ConnectionProvider.{Ghosts}
use Rattle.recursor_core.specs.Machine.{given_by, open_at}
use Rattle.order_carrier.specs.InFlight.{polls_left}
use Rattle.order_carrier.specs.declared.in_flight.runner.InFlight.{InFlight}
use Rattle.recursor_core.specs.declared.machine.resolutions.RecursorCore.{RecursorCore}
use Rattle.recursor_core.specs.declared.turns.TurnResult.{TurnResult}
use Rattle.recursor_core.specs.declared.turns.TurnResult.TheVariants as turned

-- A turn that leaves the question under way leaves less to do.
abbrev pub TurnFalls : ℕ → ℕ → TurnResult → Type 0
TurnFalls new old turned.Pending = new < old
TurnFalls new old (turned.Done reply) = new ≤ old
TurnFalls new old turned.Ended = new ≤ old

-- What was asked till it waits gave an order, which leaves less to do; else it waits for an order that was given before, and none was begun.
abbrev pub AskFalls : {S : Type 0} → ℕ → ℕ → Option ℕ → S → S → TurnResult → Type 0
AskFalls new old awaited begun begun_before turned.Pending = (new < old) ⊎ (IsSome awaited × (begun ≡ begun_before))
AskFalls new old awaited begun begun_before (turned.Done reply) = Unit {0}
AskFalls new old awaited begun begun_before turned.Ended = Unit {0}

-- Each order that the resolution at a place waits for is among these.
abbrev pub AllPolled : BTreeSet ℕ → RecursorCore → ℕ → Type 0
AllPolled polled core r = (number : ℕ) → open_at core r ≡ Some number → contains nat_cmp polled number ≡ true

-- What is left to do where so many orders were given, and the orders under way have so many polls and ends before them: each number that no order
-- has yet may be that of an order with as many polls as patience allows, and its end.
unfoldable pub due_of : ℕ → ℕ → ℕ → ℕ
due_of most given polls = (most + 2) * (2 ^ 64 - given) + polls

abbrev pub due : {P C F E : Type 0} {p : Ghosts P C F E} → ℕ → RecursorCore → InFlight P C F E p → ℕ
due patience core r = due_of (max 1 patience) (given_by core) (polls_left patience r)
