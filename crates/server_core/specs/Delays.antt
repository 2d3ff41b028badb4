-- The delay of a server or a connection: a smoothed round trip time that decays with time. Moments and times are in microseconds, and a factor q stands for q / 2 ^ 60.
use Rattle.std.specs.Prelude.{ℕ, zero, suc, ◌+◌, ◌-◌, ◌*◌, ◌/◌, ◌^◌, nat_le, min, max, if◌then◌else◌, Option, Some, None}

-- the delay as it was last set, and the moment of the last record or failure, none before the first
pub record Delay : Type 0 where
  pub micros : ℕ
  pub since : Option ℕ

-- a factor squared so many times, each time cut to whole units of 2 ^ -60
unfoldable pub squared : ℕ → ℕ → ℕ
squared zero q = q
squared (suc times) q = squared times q * squared times q / 2 ^ 60

-- the quotient of a time of one second at least by a weight in seconds, in units of 2 ^ -60
abbrev pub exponent : ℕ → ℕ → ℕ
exponent elapsed weight = max elapsed 1000000 * 2 ^ 60 / (weight * 1000000)

-- The factor e ^ -y of the quotient y that x stands for, taken as (1 - y / 2 ^ 20) ^ (2 ^ 20): the factor 1 - y / 2 ^ 20, squared 20 times. From y = 2 ^ 20 on it is 0.
abbrev pub power : ℕ → ℕ
power x = if nat_le (2 ^ 80) x then 0 else squared 20 (2 ^ 60 - x / 2 ^ 20)

-- the factor of a time by a weight in seconds
unfoldable pub decay : ℕ → ℕ → ℕ
decay elapsed weight = power (exponent elapsed weight)

-- a new round trip time and an old delay, the old one by its factor, rounded to the nearest, at most five seconds
abbrev pub averaged : ℕ → ℕ → ℕ → ℕ
averaged q rtt old = min (((2 ^ 60 - q) * rtt + q * old + 2 ^ 59) / 2 ^ 60) 5000000

-- the delay with a round trip time: that alone at the first record, later averaged with the old delay, whose weight is 3 seconds
abbrev pub with_rtt : Option ℕ → ℕ → ℕ → ℕ → ℕ
with_rtt None old rtt now = rtt
with_rtt (Some since) old rtt now = averaged (decay (now - since) 3) rtt old

-- A record of a round trip time, of five seconds at most. A moment before the last one counts as no time since, and is the last one from then on.
abbrev pub recorded : Delay → ℕ → ℕ → Delay
recorded d rtt now = record { micros = with_rtt d.since d.micros (min rtt 5000000) now; since = Some now }

-- the delay with a failure: 150 ms at the first, later 150 ms more, at most five seconds
abbrev pub with_failure : Option ℕ → ℕ → ℕ
with_failure None old = 150000
with_failure (Some since) old = min (old + 150000) 5000000

abbrev pub failed : Delay → ℕ → Delay
failed d now = record { micros = with_failure d.since d.micros; since = Some now }

-- the factor by which a delay reads at a moment, by the weight of 180 seconds: 1 before any record or failure
abbrev pub reading_factor : Option ℕ → ℕ → ℕ
reading_factor None now = 2 ^ 60
reading_factor (Some since) now = decay (now - since) 180

-- the delay as it reads at a moment, in units of 2 ^ -60 microseconds
abbrev pub read_fixed : Delay → ℕ → ℕ
read_fixed d now = d.micros * reading_factor d.since now
