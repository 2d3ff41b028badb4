-- By what an order is known.
use Rattle.std.specs.Prelude.{ℕ, Bool}
use Rattle.std.specs.Ordering.{is_eq}
use Rattle.server_core.specs.declared.orders.order.Order.{Order}
use Rattle.server_core.specs.declared.orders.order.Order.TheVariants.{Open, Ask, Sleep}
use Rattle.order_carrier.specs.contracts.key.OrderKeyOrd.TheImpl as key_order
use Rattle.order_carrier.specs.declared.key.Form.{Form}
use Rattle.order_carrier.specs.declared.key.Form.TheVariants as form
use Rattle.order_carrier.specs.declared.key.OrderKey.{OrderKey}

-- the form of an order
abbrev pub form_of : Order → Form
form_of (Open ip config) = form.Open
form_of (Ask conn ip protocol request) = form.Ask
form_of (Sleep until) = form.Sleep

-- its number and its form
abbrev pub key_of : ℕ → Order → OrderKey
key_of number order = record { number = number; form = form_of order }

-- whether two keys have the same number and the same form
abbrev pub same_key : OrderKey → OrderKey → Bool
same_key a b = is_eq (key_order.ghosts.cmp a b)
