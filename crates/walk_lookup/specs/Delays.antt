-- Which delay a new server begins with.
use Rattle.std.specs.Prelude.{ℕ, List, Some, None, slice_get, nat_lt, max, min, if◌then◌else◌}

-- the place of the next one of so many: after the last one comes the first
abbrev pub turn_at : ℕ → ℕ → ℕ
turn_at count turn = if nat_lt turn count then turn else 0

-- the delay at a place, as far as a server may begin with it, in microseconds
abbrev pub delay_at : List ℕ → ℕ → ℕ
delay_at delays place = elim (slice_get delays place) [ Some delay ↦ min (max delay 1) 31 | None ↦ 1 ]
