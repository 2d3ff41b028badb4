-- The orders that are under way, each under its number.
use Rattle.std.specs.Prelude.{◌≡◌, ◌≢◌, ◌≤◌, ◌<◌, ◌+◌, ◌-◌, ◌^◌, ℕ, max, List, Option, Some, None, is_some, IsSome, sum_by, ◌⊎◌}
use Rattle.std.specs.BTreeMap as tree
use Rattle.std.specs.Global.{Box}
use Rattle.std.specs.Option.{option_map}
use Rattle.std.specs.Ordering.{nat_cmp}
use Rattle.dns_core.specs.Log.{Log}
use Rattle.dns_core.specs.declared.log.LogEntry.{LogEntry}
use Rattle.dns_core.specs.declared.provider.ConnectionProvider.{Ghosts}
use Rattle.resolution.specs.Theorem.{OnlyServersAsked}
use Rattle.resolution.specs.Ending.{waits}
use Rattle.recursor_types.specs.declared.policy.Policy.{Policy}
use Rattle.server_core.specs.declared.orders.order.Order.{Order}
use Rattle.server_core.specs.declared.orders.order.Outcome.{Outcome}
use Rattle.server_core.specs.declared.orders.order.Outcome.TheVariants.{Pending, Connected, Told, Failed, Slept}
use Rattle.server_core.specs.declared.orders.order.SentBy.{SentBy}
use Rattle.order_carrier.specs.Carrying.{CarrierHolds}
use Rattle.order_carrier.specs.Did.{Stand, order_in, sent_in}
use Rattle.order_carrier.specs.Did.Stand.{Unseen}
use Rattle.order_carrier.specs.Fits.{Fits, WaitsBy, GoesToServer}
use Rattle.order_carrier.specs.Growing.{TellsThat, Grown}
use Rattle.order_carrier.specs.Key.{key_of}
use Rattle.order_carrier.specs.Patience.{IsPatient}
use Rattle.order_carrier.specs.Stand.{stand_at}
use Rattle.order_carrier.specs.declared.key.OrderKey.{OrderKey}
use Rattle.order_carrier.specs.declared.in_flight.runner.InFlightOrder.{InFlightOrder}
use Rattle.order_carrier.specs.declared.in_flight.runner.InFlight.{InFlight}

-- ---- what is held

-- by what the order of a number is known
abbrev pub key_in : ℕ → InFlightOrder → OrderKey
key_in number running = key_of number running.order.value

-- the order that is held under a number
abbrev pub held_at : {P C F E : Type 0} {p : Ghosts P C F E} → InFlight P C F E p → ℕ → Option InFlightOrder
held_at r number = tree.get nat_cmp r.orders number

-- What was sent for it was waited for no more often than it was polled, and no other order is under way under its number.
pub record IsRunning (stands : OrderKey → Stand) (told : Option (List LogEntry)) (number : ℕ) (running : InFlightOrder) : Type 0 where
  pub polled : (s : SentBy) → sent_in (stands (key_in number running)) ≡ Some s → TellsThat told (λ log. waits log s.of log.next ≤ running.polls)
  pub alone : (k : OrderKey) → k.number ≡ number → k ≢ key_in number running → order_in (stands k) ≡ None

-- Each of these orders is so.
abbrev pub AllRun : (OrderKey → Stand) → Option (List LogEntry) → (ℕ → Option InFlightOrder) → Type 0
AllRun stands told held = (number : ℕ) (running : InFlightOrder) → held number ≡ Some running → IsRunning stands told number running

-- The carrier holds, and so does each order that is held.
pub record InFlightHolds {P C F E : Type 0} (p : Ghosts P C F E) (r : InFlight P C F E p) : Type 0 where
  pub carrier : CarrierHolds p r.carrier
  pub held : AllRun (stand_at r.carrier.slots) (p.log r.carrier.provider) (held_at r)

-- The runner holds, and patience allows one more poll of the order of the number.
pub record CanRun {P C F E : Type 0} (p : Ghosts P C F E) (patience number : ℕ) (r : InFlight P C F E p) : Type 0 where
  pub holds : InFlightHolds p r
  pub running : InFlightOrder
  pub held : held_at r number ≡ Some running
  pub fewer : running.polls < max 1 patience

-- ---- how many polls are left

-- how many polls patience leaves to an order, and one more for its end
abbrev pub left_of : ℕ → InFlightOrder → ℕ
left_of patience running = (max 1 patience - running.polls) + 1

-- how many are left to all that are held
unfoldable pub polls_left : {P C F E : Type 0} {p : Ghosts P C F E} → ℕ → InFlight P C F E p → ℕ
polls_left patience r = sum_by (left_of patience) (tree.values r.orders)

-- the order, polled once more
abbrev pub polled_again : InFlightOrder → InFlightOrder
polled_again running = record running { polls = running.polls + 1 }

-- The order of the number was polled once more, so that fewer polls are left, and each other order is held as it was.
pub record IsCounted {P C F E : Type 0} {p : Ghosts P C F E} (patience number : ℕ) (old new : InFlight P C F E p) : Type 0 where
  pub counted : held_at new number ≡ option_map polled_again (held_at old number)
  pub falls : polls_left patience new < polls_left patience old
  pub others : (n : ℕ) → n ≢ number → held_at new n ≡ held_at old n

-- ---- what a start does

-- The order is held under the number, and was polled once.
pub record IsStarted {P C F E : Type 0} {p : Ghosts P C F E} (number : ℕ) (order : Box Order) (r : InFlight P C F E p) : Type 0 where
  pub held : IsSome (held_at r number)
  pub once : held_at r number ≡ Some (record { order = order; polls = 1 })

-- At most so many polls more are left as patience allows an order, and each other order is held as it was. Nothing was carried, or an order is
-- held under the number.
pub record Grows {P C F E : Type 0} {p : Ghosts P C F E} (patience number : ℕ) (old new : InFlight P C F E p) : Type 0 where
  pub most : polls_left patience new ≤ polls_left patience old + max 1 patience
  pub others : (n : ℕ) → n ≢ number → held_at new n ≡ held_at old n
  pub kept : (new.carrier ≡ old.carrier) ⊎ IsSome (held_at new number)

-- ---- what a poll does

-- The order of the number is held, was polled once more, and so fewer polls are left.
pub record IsPolled {P C F E : Type 0} {p : Ghosts P C F E} (patience number : ℕ) (old new : InFlight P C F E p) : Type 0 where
  pub held : IsSome (held_at new number)
  pub counted : held_at new number ≡ option_map polled_again (held_at old number)
  pub falls : polls_left patience new < polls_left patience old

-- No poll more is left, an order is held under the number if one was, and each other order is held as it was.
pub record Keeps {P C F E : Type 0} {p : Ghosts P C F E} (patience number : ℕ) (old new : InFlight P C F E p) : Type 0 where
  pub fewer : polls_left patience new ≤ polls_left patience old
  pub held : is_some (held_at new number) ≡ is_some (held_at old number)
  pub others : (n : ℕ) → n ≢ number → held_at new n ≡ held_at old n

-- ---- what an end does

-- No order is held under the number, and each other order is held as it was.
pub record IsForgotten {P C F E : Type 0} {p : Ghosts P C F E} (number : ℕ) (old new : InFlight P C F E p) : Type 0 where
  pub gone : held_at new number ≡ None
  pub others : (n : ℕ) → n ≢ number → held_at new n ≡ held_at old n

-- ---- what the log says

-- The log has grown by entries of the moment, none of which waits for an entry beyond patience, and where orders go right only servers were asked.
pub record InFlightMoves (patience now : ℕ) (goes : Policy → Type 0) (old new : Option (List LogEntry)) : Type 0 where
  pub grown : Grown now old new
  pub patient : IsPatient (max 1 patience) old new
  pub asks : (policy : Policy) → goes policy → TellsThat old (OnlyServersAsked policy) → TellsThat new (OnlyServersAsked policy)

-- an order goes to a server, by the log where it is told
abbrev pub GoesRight : Option (List LogEntry) → Order → Policy → Type 0
GoesRight told order policy = TellsThat told (λ log. GoesToServer policy log log.next order)

-- the order of the number does, where it was not started before
abbrev pub StartsRight : {P C F E : Type 0} {p : Ghosts P C F E} → ℕ → InFlight P C F E p → Policy → Type 0
StartsRight {p = p} number r policy =
    (running : InFlightOrder) → held_at r number ≡ Some running → stand_at r.carrier.slots (key_in number running) ≡ Unseen → GoesRight (p.log r.carrier.provider) running.order.value policy

-- nothing goes anywhere
abbrev pub GoesNowhere : Policy → Type 0
GoesNowhere policy = Unit {0}

-- what was sent for the order of a number, if it is under way still
abbrev pub sent_for : (OrderKey → Stand) → ℕ → Option InFlightOrder → Option SentBy
sent_for stands number None = None
sent_for stands number (Some running) = sent_in (stands (key_in number running))

abbrev pub sent_by : {P C F E : Type 0} {p : Ghosts P C F E} → InFlight P C F E p → ℕ → Option SentBy
sent_by r number = sent_for (stand_at r.carrier.slots) number (held_at r number)

-- what of it is waited for still after an outcome: only a poll that found nothing goes on
abbrev pub still_awaited : Outcome → Option SentBy → Option SentBy
still_awaited (Pending entry of) s = s
still_awaited (Connected entry sent) s = None
still_awaited (Told entry sent message) s = None
still_awaited (Failed entry sent refused error) s = None
still_awaited Slept s = None

-- What was sent is still waited for just where the last entry of the log says so.
abbrev pub IsLast : Log → Option SentBy → Outcome → Type 0
IsLast log None outcome = Unit {0}
IsLast log (Some s) (Pending entry of) = (s.of ≡ of) × (entry + 1 ≡ log.next) × (entry + 1 < 2 ^ 64)
IsLast log (Some s) (Connected entry sent) = ⊥
IsLast log (Some s) (Told entry sent message) = ⊥
IsLast log (Some s) (Failed entry sent refused error) = ⊥
IsLast log (Some s) Slept = ⊥

-- The log has the outcome of an order, at the moment.
pub record HasTold (now : ℕ) (waits : Option SentBy) (outcome : Outcome) (log : Log) : Type 0 where
  pub fits : Fits log now outcome
  pub waits_by : WaitsBy log waits outcome
  pub last : IsLast log waits outcome
