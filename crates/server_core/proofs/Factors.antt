-- Factors are at most 1, and fall as their time grows.
use Rattle.std.proofs.Common.{◌≡◌, ◌≤◌, ◌<◌, ◌+◌, ◌*◌, ◌-◌, ◌/◌, ◌^◌, ℕ, zero, suc, max, Bool, true, false, Some, None, Option, refl, subst, arith, add-one}
use Rattle.std.specs.Prelude.{nat_le, if◌then◌else◌}
use Rattle.std.proofs.Math.Nat.{div-mul-le_self, div-le_of_le-mul, mul-le-mul_left}
use Rattle.std.proofs.lemmas.Nat.{mul-le, le-div}
use Rattle.std.proofs.lemmas.Bool.Decides.{nat_tests}
use Rattle.server_core.specs.Delays.{Delay, squared, exponent, power, decay, read_fixed, reading_factor}

-- a quotient grows with its dividend
div-mono : (a b k : ℕ) → 0 < k → a ≤ b → a / k ≤ b / k
div-mono a b k pos h =
    let whole : a / k * k ≤ a = div-mul-le_self a k in
    le-div (a / k) b k pos (omega (arith, whole, h))

-- a square of a factor is a factor
pub square-within : (q : ℕ) → q ≤ 2 ^ 60 → q * q / 2 ^ 60 ≤ 2 ^ 60
square-within q h = div-le_of_le-mul (2 ^ 60) (mul-le q q (2 ^ 60) (2 ^ 60) h h)

pub squared-next : (times q : ℕ) → squared (times + 1) q ≡ squared times q * squared times q / 2 ^ 60
unfolding squared
squared-next times q = rw (add-one times) refl

pub squared-first : (q : ℕ) → squared 0 q ≡ q
unfolding squared
squared-first q = refl

pub squared-within : (times q : ℕ) → q ≤ 2 ^ 60 → squared times q ≤ 2 ^ 60
unfolding squared
squared-within zero q h = h
squared-within (suc times) q h = square-within (squared times q) (squared-within times q h)

squared-mono : (times p q : ℕ) → p ≤ q → squared times p ≤ squared times q
unfolding squared
squared-mono zero p q h = h
squared-mono (suc times) p q h =
    let below : squared times p ≤ squared times q = squared-mono times p q h in
    div-mono (squared times p * squared times p) (squared times q * squared times q) (2 ^ 60) (omega arith) (mul-le (squared times p) (squared times p) (squared times q) (squared times q) below below)

exponent-mono : (t u weight : ℕ) → 0 < weight → t ≤ u → exponent t weight ≤ exponent u weight
exponent-mono t u weight pos h =
    div-mono (max t 1000000 * 2 ^ 60) (max u 1000000 * 2 ^ 60) (weight * 1000000) (omega (arith, pos)) (omega (arith, h))

-- a power falls as its exponent grows
power-falls : (x y : ℕ) → x ≤ y → power y ≤ power x
power-falls x y h = by_tests (nat_le (2 ^ 80) x) (nat_le (2 ^ 80) y) refl refl
  where
    by_tests : (b c : Bool) → nat_le (2 ^ 80) x ≡ b → nat_le (2 ^ 80) y ≡ c → (if c then 0 else squared 20 (2 ^ 60 - y / 2 ^ 20)) ≤ (if b then 0 else squared 20 (2 ^ 60 - x / 2 ^ 20))
    by_tests b true e f = omega arith
    by_tests true false e f = absurd (grind (arith, nat_tests))
    by_tests false false e f =
        let cut : x / 2 ^ 20 ≤ y / 2 ^ 20 = div-mono x y (2 ^ 20) (omega arith) h in
        squared-mono 20 (2 ^ 60 - y / 2 ^ 20) (2 ^ 60 - x / 2 ^ 20) (omega (arith, cut))

power-within : (x : ℕ) → power x ≤ 2 ^ 60
power-within x = by_test (nat_le (2 ^ 80) x)
  where
    by_test : (b : Bool) → (if b then 0 else squared 20 (2 ^ 60 - x / 2 ^ 20)) ≤ 2 ^ 60
    by_test true = omega arith
    by_test false = squared-within 20 (2 ^ 60 - x / 2 ^ 20) (omega arith)

pub decay-within : (t weight : ℕ) → decay t weight ≤ 2 ^ 60
unfolding decay
decay-within t weight = power-within (exponent t weight)

pub decay-falls : (t u weight : ℕ) → 0 < weight → t ≤ u → decay u weight ≤ decay t weight
unfolding decay
decay-falls t u weight pos h =
    power-falls (exponent t weight) (exponent u weight) (exponent-mono t u weight pos h)

reading-within : (since : Option ℕ) (now : ℕ) → reading_factor since now ≤ 2 ^ 60
reading-within None now = omega arith
reading-within (Some since) now = decay-within (now - since) 180

reading-falls : (since : Option ℕ) (now later : ℕ) → now ≤ later → reading_factor since later ≤ reading_factor since now
reading-falls None now later h = omega arith
reading-falls (Some since) now later h =
    decay-falls (now - since) (later - since) 180 (omega arith) (omega (arith, h))

-- a delay reads no higher than it was set
pub reads-no-higher : (d : Delay) (now : ℕ) → read_fixed d now ≤ d.micros * 2 ^ 60
reads-no-higher d now = mul-le-mul_left (d.micros) (reading-within d.since now)

-- nor higher later
pub reads-lower-later : (d : Delay) (now later : ℕ) → now ≤ later → read_fixed d later ≤ read_fixed d now
reads-lower-later d now later h = mul-le-mul_left (d.micros) (reading-falls d.since now later h)

power-none : (x : ℕ) (b : Bool) → nat_le (2 ^ 80) x ≡ b → 2 ^ 80 ≤ x → 0 ≡ (if b then 0 else squared 20 (2 ^ 60 - x / 2 ^ 20))
power-none x true e h = refl
power-none x false e h = absurd (grind (arith, nat_tests))

power-some : (x : ℕ) (b : Bool) → nat_le (2 ^ 80) x ≡ b → x < 2 ^ 80 → squared 20 (2 ^ 60 - x / 2 ^ 20) ≡ (if b then 0 else squared 20 (2 ^ 60 - x / 2 ^ 20))
power-some x true e h = absurd (grind (arith, nat_tests))
power-some x false e h = refl

-- the factor of a time whose quotient is 2 ^ 20 at least
pub decay-none : (t weight x : ℕ) → x ≡ exponent t weight → 2 ^ 80 ≤ x → 0 ≡ decay t weight
unfolding decay
decay-none t weight x e h =
    let P : ℕ → Type 0 = λ y. 0 ≡ power y in
    subst P e (power-none x (nat_le (2 ^ 80) x) refl h)

-- and of any other
pub decay-some : (t weight x : ℕ) → x ≡ exponent t weight → x < 2 ^ 80 → squared 20 (2 ^ 60 - x / 2 ^ 20) ≡ decay t weight
unfolding decay
decay-some t weight x e h =
    let P : ℕ → Type 0 = λ y. squared 20 (2 ^ 60 - x / 2 ^ 20) ≡ power y in
    subst P e (power-some x (nat_le (2 ^ 80) x) refl h)
