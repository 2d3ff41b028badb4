-- Whether a connection stands, as a number.
use Rattle.std.specs.Prelude.{◌≡◌, ◌==◌, ℕ, if◌then◌else◌}
use Rattle.server_core.specs.declared.status.Status.{Status}
use Rattle.server_core.specs.declared.status.Status.TheVariants.{Failed, Init, Established}

abbrev pub number_of : Status → ℕ
number_of Failed = 0
number_of Init = 1
number_of Established = 2

-- the status of a number; a number of none is a failure
abbrev pub status_of : ℕ → Status
status_of n = if n == 1 then Init else (if n == 2 then Established else Failed)

-- the status of the number of a status is that status
abbrev pub IsReadBack : Type 0
IsReadBack = (s : Status) → status_of (number_of s) ≡ s
