-- How many polls are left, where an order is put in, polled or taken out.
use Rattle.std.proofs.Common.{◌≡◌, ◌≤◌, ◌<◌, ◌+◌, ℕ, max, List, Some, ap, arith, sum_by}
use Rattle.std.specs.BTreeMap.{is_at, insert_entry, IsOrdered}
use Rattle.std.specs.Cmp.{nat_cmp_total}
use Rattle.std.specs.Map.{remove_entry, set_value, values_of}
use Rattle.std.specs.Ordering.{nat_cmp}
use Rattle.std.proofs.lemmas.Map.Entries.{sum_by-remove_entry, sum_by-set_value, sum_by-insert_entry}
use Rattle.dns_core.specs.declared.provider.ConnectionProvider.{Ghosts}
use Rattle.order_carrier.specs.InFlight.{held_at, left_of, polls_left, polled_again}
use Rattle.order_carrier.specs.declared.in_flight.runner.InFlight.{InFlight}
use Rattle.order_carrier.specs.declared.in_flight.runner.InFlightOrder.{InFlightOrder}

-- what is left of entries
abbrev total : ℕ → List (ℕ × InFlightOrder) → ℕ
total patience es = sum_by (left_of patience) (values_of es)

module _ {P C F E : Type 0} {p : Ghosts P C F E} (patience number : ℕ) (old new : InFlight P C F E p) where
  -- the entries are these
  left-of_entries : (es : List (ℕ × InFlightOrder)) → new.orders.entries ≡ es → polls_left patience new ≡ total patience es
  unfolding polls_left
  left-of_entries es is = ap (total patience) is

  -- nothing was put in or taken out
  pub left-same : new.orders.entries ≡ old.orders.entries → polls_left patience new ≡ polls_left patience old
  unfolding polls_left
  left-same is = ap (total patience) is

  -- an order was put in
  pub left-put : (v : InFlightOrder) → IsOrdered nat_cmp old.orders → new.orders.entries ≡ insert_entry nat_cmp old.orders.entries number v
      → polls_left patience new ≤ polls_left patience old + left_of patience v
  unfolding polls_left
  left-put v ordered is =
      let sum = sum_by-insert_entry (left_of patience) nat_cmp_total old.orders.entries number v ordered in
      let entries = left-of_entries (insert_entry nat_cmp old.orders.entries number v) is in
      omega (arith, sum, entries)

  -- an order was taken out, if one was there
  pub left-taken : new.orders.entries ≡ remove_entry (is_at (nat_cmp number)) old.orders.entries → polls_left patience new ≤ polls_left patience old
  unfolding polls_left
  left-taken is =
      let sum = sum_by-remove_entry (left_of patience) (is_at (nat_cmp number)) old.orders.entries in
      let entries = left-of_entries (remove_entry (is_at (nat_cmp number)) old.orders.entries) is in
      omega (arith, sum, entries)

  -- an order was polled once more, as patience allows
  pub left-polled : (v : InFlightOrder) → held_at old number ≡ Some v → v.polls < max 1 patience
      → new.orders.entries ≡ set_value (is_at (nat_cmp number)) old.orders.entries (polled_again v) → polls_left patience new < polls_left patience old
  unfolding polls_left
  left-polled v at fewer is =
      let sum = sum_by-set_value (left_of patience) (is_at (nat_cmp number)) old.orders.entries v (polled_again v) at in
      let entries = left-of_entries (set_value (is_at (nat_cmp number)) old.orders.entries (polled_again v)) is in
      omega (arith, sum, entries, fewer)
