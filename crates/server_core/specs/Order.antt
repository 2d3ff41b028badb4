-- The number of an outcome, and how many polls patience allows.
use Rattle.std.specs.Prelude.{ℕ, ◌+◌, nat_le, Bool}
use Rattle.server_core.specs.declared.orders.order.Outcome.{Outcome}
use Rattle.server_core.specs.declared.orders.order.Outcome.TheVariants.{Pending, Connected, Told, Failed, Slept}

-- the number of the log entry that says the outcome, and 0 where none does
abbrev pub entry_of : Outcome → ℕ
entry_of (Pending entry of) = entry
entry_of (Connected entry sent) = entry
entry_of (Told entry sent message) = entry
entry_of (Failed entry sent refused error) = entry
entry_of Slept = 0

-- a poll that finds nothing, after so many others of its order, is the last one that patience allows
abbrev pub ends_patience : ℕ → ℕ → Bool
ends_patience patience polls = nat_le patience (polls + 1)
