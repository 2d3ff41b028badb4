-- Numbers under which nothing is under way.
use Rattle.std.specs.Prelude.{ℕ, Bool, not, ◌&&◌, is_some}
use Rattle.order_carrier.specs.Did.{Stand, order_in}
use Rattle.order_carrier.specs.declared.key.Form.TheVariants as form
use Rattle.order_carrier.specs.declared.key.OrderKey.{OrderKey}

-- no order of any form is under way under the number
abbrev pub is_free : (OrderKey → Stand) → ℕ → Bool
is_free stands number =
    let opening : OrderKey = record { number = number; form = form.Open } in
    let ask : OrderKey = record { number = number; form = form.Ask } in
    let sleep : OrderKey = record { number = number; form = form.Sleep } in
    not (is_some (order_in (stands opening))) && not (is_some (order_in (stands ask))) && not (is_some (order_in (stands sleep)))
