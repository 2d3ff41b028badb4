-- What a give-up leaves.
use Rattle.std.specs.Prelude.{◌≡◌, ℕ, List, [], ◌∷◌, Option, Some, None, is_some, if◌then◌else◌}
use Rattle.dns_core.specs.declared.log.LogEntry.{LogEntry}
use Rattle.dns_core.specs.declared.log.LogEntry.TheVariants as line
use Rattle.dns_core.specs.declared.provider.ConnectionProvider.{Ghosts}
use Rattle.server_core.specs.declared.orders.order.SentBy.{SentBy}
use Rattle.order_carrier.specs.Did.{State, Stand, order_in, sent_in}
use Rattle.order_carrier.specs.Did.Stand.{Over}
use Rattle.order_carrier.specs.Awaited.{counted_after}
use Rattle.order_carrier.specs.Carrying.{state}
use Rattle.order_carrier.specs.Growing.{with_entries}
use Rattle.order_carrier.specs.Stand.{IsSameElsewhere}
use Rattle.order_carrier.specs.declared.carrier.Carrier.{Carrier}
use Rattle.order_carrier.specs.declared.key.Form.TheVariants as form
use Rattle.order_carrier.specs.declared.key.OrderKey.{OrderKey}

-- under which key an order of a number is under way: an opening before an ask, and that before a sleep
abbrev pub open_key : (OrderKey → Stand) → ℕ → Option OrderKey
open_key stands number =
    let opening : OrderKey = record { number = number; form = form.Open } in
    let ask : OrderKey = record { number = number; form = form.Ask } in
    let sleep : OrderKey = record { number = number; form = form.Sleep } in
    if is_some (order_in (stands opening)) then Some opening
    else if is_some (order_in (stands ask)) then Some ask
    else if is_some (order_in (stands sleep)) then Some sleep
    else None

-- the entry by which was given up what was sent; a sleep has none
abbrev pub give_up_entry : ℕ → Option SentBy → List LogEntry
give_up_entry now None = []
give_up_entry now (Some sent) = line.GaveUp sent.of now ∷ []

-- What was under way under the key was given up at the moment, by an entry where it was sent, and is over.
pub record GivenUp {P : Type 0} (key : OrderKey) (now : ℕ) (old new : State P) : Type 0 where
  pub options : new.options ≡ old.options
  pub quiet : sent_in (old.stands key) ≡ None → new.provider ≡ old.provider
  pub log : new.log ≡ with_entries (give_up_entry now (sent_in (old.stands key))) old.log
  pub entries : new.entries ≡ counted_after old.entries (sent_in (old.stands key))
  pub stand : new.stands key ≡ Over

-- A carrier gave it up, and every other order stands where it stood.
pub record GivesUp {P C F E : Type 0} {p : Ghosts P C F E} (key : OrderKey) (now : ℕ) (old new : Carrier P C F E p) : Type 0 where
  pub given_up : GivenUp key now (state old) (state new)
  pub others : IsSameElsewhere key old.slots new.slots
