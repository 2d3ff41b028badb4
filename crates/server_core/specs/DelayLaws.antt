-- What holds of each delay.
use Rattle.std.specs.Prelude.{ℕ, ◌*◌, ◌^◌, ◌≤◌}
use Rattle.server_core.specs.Delays.{Delay, recorded, failed, read_fixed}

-- at most five seconds after a record and after a failure, however great it was and whatever was recorded
pub record StaysWithinFiveSeconds : Type 0 where
  pub after_a_record : (d : Delay) (rtt now : ℕ) → (recorded d rtt now).micros ≤ 5000000
  pub after_a_failure : (d : Delay) (now : ℕ) → (failed d now).micros ≤ 5000000

-- it reads no higher than it was set
abbrev pub ReadingNeverRaises : Type 0
ReadingNeverRaises = (d : Delay) (now : ℕ) → read_fixed d now ≤ d.micros * 2 ^ 60

-- it reads no higher at a later moment
abbrev pub FallsAsTimeGoes : Type 0
FallsAsTimeGoes = (d : Delay) (now later : ℕ) → now ≤ later → read_fixed d later ≤ read_fixed d now
