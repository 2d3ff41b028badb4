-- The flags of a header as one number, and the number as flags.
use Rattle.std.proofs.Common.{◌≡◌, ℕ, zero, suc, ◌+◌, ◌*◌, ◌/◌, ◌%◌, ◌<◌, Bool, true, false, eqb, refl, ap, ◌∙◌, arith}
use Rattle.wire_records.specs.Records.{bit}
use Rattle.dns_wire.specs.Reading.{is_set}

bit_is : (r : ℕ) → r < 2 → bit (eqb r 1) ≡ r
bit_is zero few = refl
bit_is (suc zero) few = refl
bit_is (suc (suc r)) few = absurd (omega (arith, few))

pub is_bit : (flags place : ℕ) → bit (is_set flags place) ≡ flags / place % 2
is_bit flags place = bit_is (flags / place % 2) (omega arith)

pub bit_small : (b : Bool) → bit b < 2
bit_small true = omega arith
bit_small false = omega arith

pub bit_set : (b : Bool) (r : ℕ) → r ≡ bit b → eqb r 1 ≡ b
bit_set true r is = ap (λ (k : ℕ). eqb k 1) is
bit_set false r is = ap (λ (k : ℕ). eqb k 1) is

halves : (n : ℕ) → n ≡ 2 * (n / 2) + n % 2
halves n = omega arith

-- a number below 65,536 is the sum of its bits, of which four make the opcode and four the code
pub all_bits : (f : ℕ) → f < 65536 → f ≡ 32768 * (f / 32768 % 2) + 2048 * (f / 2048 % 16) + 1024 * (f / 1024 % 2) + 512 * (f / 512 % 2) + 256 * (f / 256 % 2) + 128 * (f / 128 % 2) + 64 * (f / 64 % 2) + 32 * (f / 32 % 2) + 16 * (f / 16 % 2) + f % 16
all_bits f small =
    let a : f ≡ 16 * (f / 16) + f % 16 = omega arith in
    let b : f / 16 ≡ 2 * (f / 32) + f / 16 % 2 = omega arith in
    let c : f / 32 ≡ 2 * (f / 64) + f / 32 % 2 = omega arith in
    let d : f / 64 ≡ 2 * (f / 128) + f / 64 % 2 = omega arith in
    let e : f / 128 ≡ 2 * (f / 256) + f / 128 % 2 = omega arith in
    let g : f / 256 ≡ 2 * (f / 512) + f / 256 % 2 = omega arith in
    let h : f / 512 ≡ 2 * (f / 1024) + f / 512 % 2 = omega arith in
    let i : f / 1024 ≡ 2 * (f / 2048) + f / 1024 % 2 = omega arith in
    let j : f / 2048 ≡ 16 * (f / 32768) + f / 2048 % 16 = omega arith in
    let k : f / 32768 % 2 ≡ f / 32768 = omega (arith, small) in
    sum (f % 16) (f / 16) (f / 32) (f / 64) (f / 128) (f / 256) (f / 512) (f / 1024) (f / 2048) (f / 32768) (f / 16 % 2) (f / 32 % 2) (f / 64 % 2) (f / 128 % 2) (f / 256 % 2) (f / 512 % 2) (f / 1024 % 2) (f / 2048 % 16) (f / 32768 % 2) a b c d e g h i j k
  where
    sum : (m q16 q32 q64 q128 q256 q512 q1024 q2048 q32768 r16 r32 r64 r128 r256 r512 r1024 r2048 r32768 : ℕ)
        → f ≡ 16 * q16 + m → q16 ≡ 2 * q32 + r16 → q32 ≡ 2 * q64 + r32 → q64 ≡ 2 * q128 + r64 → q128 ≡ 2 * q256 + r128 → q256 ≡ 2 * q512 + r256 → q512 ≡ 2 * q1024 + r512 → q1024 ≡ 2 * q2048 + r1024 → q2048 ≡ 16 * q32768 + r2048 → r32768 ≡ q32768
        → f ≡ 32768 * r32768 + 2048 * r2048 + 1024 * r1024 + 512 * r512 + 256 * r256 + 128 * r128 + 64 * r64 + 32 * r32 + 16 * r16 + m
    sum m q16 q32 q64 q128 q256 q512 q1024 q2048 q32768 r16 r32 r64 r128 r256 r512 r1024 r2048 r32768 a b c d e g h i j k = omega (arith, a, b, c, d, e, g, h, i, j, k)

-- ---- the number of flags

bit_16 : (high b low : ℕ) → low < 16 → b < 2 → (16 * (2 * high + b) + low) / 16 % 2 ≡ b
bit_16 high b low small few = omega (arith, small, few)

bit_32 : (high b low : ℕ) → low < 32 → b < 2 → (32 * (2 * high + b) + low) / 32 % 2 ≡ b
bit_32 high b low small few = omega (arith, small, few)

bit_128 : (high b low : ℕ) → low < 128 → b < 2 → (128 * (2 * high + b) + low) / 128 % 2 ≡ b
bit_128 high b low small few = omega (arith, small, few)

bit_256 : (high b low : ℕ) → low < 256 → b < 2 → (256 * (2 * high + b) + low) / 256 % 2 ≡ b
bit_256 high b low small few = omega (arith, small, few)

bit_512 : (high b low : ℕ) → low < 512 → b < 2 → (512 * (2 * high + b) + low) / 512 % 2 ≡ b
bit_512 high b low small few = omega (arith, small, few)

bit_1024 : (high b low : ℕ) → low < 1024 → b < 2 → (1024 * (2 * high + b) + low) / 1024 % 2 ≡ b
bit_1024 high b low small few = omega (arith, small, few)

bit_32768 : (high b low : ℕ) → low < 32768 → b < 2 → (32768 * (2 * high + b) + low) / 32768 % 2 ≡ b
bit_32768 high b low small few = omega (arith, small, few)

four_2048 : (high four low : ℕ) → low < 2048 → four < 16 → (2048 * (16 * high + four) + low) / 2048 % 16 ≡ four
four_2048 high four low small few = omega (arith, small, few)

four_1 : (high four : ℕ) → four < 16 → (16 * high + four) % 16 ≡ four
four_1 high four few = omega (arith, few)

-- the number of these flags
abbrev pub flag_sum : ℕ → ℕ → ℕ → ℕ → ℕ → ℕ → ℕ → ℕ → ℕ → ℕ → ℕ
flag_sum response opcode authoritative truncation desired available ignored authentic checking code =
    32768 * response + 2048 * opcode + 1024 * authoritative + 512 * truncation + 256 * desired + 128 * available + 64 * ignored + 32 * authentic + 16 * checking + code

module _ (a o b c d e i g h k : ℕ) (a_few : a < 2) (o_few : o < 16) (b_few : b < 2) (c_few : c < 2) (d_few : d < 2) (e_few : e < 2) (i_few : i < 2) (g_few : g < 2) (h_few : h < 2) (k_few : k < 16) where
  pub response_is : flag_sum a o b c d e i g h k / 32768 % 2 ≡ a
  response_is =
      let low : ℕ = 2048 * o + 1024 * b + 512 * c + 256 * d + 128 * e + 64 * i + 32 * g + 16 * h + k in
      let is : flag_sum a o b c d e i g h k ≡ 32768 * (2 * 0 + a) + low = omega arith in
      ap (λ (f : ℕ). f / 32768 % 2) is ∙ bit_32768 0 a low (omega (arith, o_few, b_few, c_few, d_few, e_few, i_few, g_few, h_few, k_few)) a_few

  pub opcode_is : flag_sum a o b c d e i g h k / 2048 % 16 ≡ o
  opcode_is =
      let low : ℕ = 1024 * b + 512 * c + 256 * d + 128 * e + 64 * i + 32 * g + 16 * h + k in
      let is : flag_sum a o b c d e i g h k ≡ 2048 * (16 * a + o) + low = omega arith in
      ap (λ (f : ℕ). f / 2048 % 16) is ∙ four_2048 a o low (omega (arith, b_few, c_few, d_few, e_few, i_few, g_few, h_few, k_few)) o_few

  pub authoritative_is : flag_sum a o b c d e i g h k / 1024 % 2 ≡ b
  authoritative_is =
      let high : ℕ = 16 * a + o in
      let low : ℕ = 512 * c + 256 * d + 128 * e + 64 * i + 32 * g + 16 * h + k in
      let is : flag_sum a o b c d e i g h k ≡ 1024 * (2 * high + b) + low = omega arith in
      ap (λ (f : ℕ). f / 1024 % 2) is ∙ bit_1024 high b low (omega (arith, c_few, d_few, e_few, i_few, g_few, h_few, k_few)) b_few

  pub truncation_is : flag_sum a o b c d e i g h k / 512 % 2 ≡ c
  truncation_is =
      let high : ℕ = 32 * a + 2 * o + b in
      let low : ℕ = 256 * d + 128 * e + 64 * i + 32 * g + 16 * h + k in
      let is : flag_sum a o b c d e i g h k ≡ 512 * (2 * high + c) + low = omega arith in
      ap (λ (f : ℕ). f / 512 % 2) is ∙ bit_512 high c low (omega (arith, d_few, e_few, i_few, g_few, h_few, k_few)) c_few

  pub desired_is : flag_sum a o b c d e i g h k / 256 % 2 ≡ d
  desired_is =
      let high : ℕ = 64 * a + 4 * o + 2 * b + c in
      let low : ℕ = 128 * e + 64 * i + 32 * g + 16 * h + k in
      let is : flag_sum a o b c d e i g h k ≡ 256 * (2 * high + d) + low = omega arith in
      ap (λ (f : ℕ). f / 256 % 2) is ∙ bit_256 high d low (omega (arith, e_few, i_few, g_few, h_few, k_few)) d_few

  pub available_is : flag_sum a o b c d e i g h k / 128 % 2 ≡ e
  available_is =
      let high : ℕ = 128 * a + 8 * o + 4 * b + 2 * c + d in
      let low : ℕ = 64 * i + 32 * g + 16 * h + k in
      let is : flag_sum a o b c d e i g h k ≡ 128 * (2 * high + e) + low = omega arith in
      ap (λ (f : ℕ). f / 128 % 2) is ∙ bit_128 high e low (omega (arith, i_few, g_few, h_few, k_few)) e_few

  pub authentic_is : flag_sum a o b c d e i g h k / 32 % 2 ≡ g
  authentic_is =
      let high : ℕ = 512 * a + 32 * o + 16 * b + 8 * c + 4 * d + 2 * e + i in
      let low : ℕ = 16 * h + k in
      let is : flag_sum a o b c d e i g h k ≡ 32 * (2 * high + g) + low = omega arith in
      ap (λ (f : ℕ). f / 32 % 2) is ∙ bit_32 high g low (omega (arith, h_few, k_few)) g_few

  pub checking_is : flag_sum a o b c d e i g h k / 16 % 2 ≡ h
  checking_is =
      let high : ℕ = 1024 * a + 64 * o + 32 * b + 16 * c + 8 * d + 4 * e + 2 * i + g in
      let is : flag_sum a o b c d e i g h k ≡ 16 * (2 * high + h) + k = omega arith in
      ap (λ (f : ℕ). f / 16 % 2) is ∙ bit_16 high h k k_few h_few

  pub code_is : flag_sum a o b c d e i g h k % 16 ≡ k
  code_is =
      let high : ℕ = 2048 * a + 128 * o + 64 * b + 32 * c + 16 * d + 8 * e + 4 * i + 2 * g + h in
      let is : flag_sum a o b c d e i g h k ≡ 16 * high + k = omega arith in
      ap (λ (f : ℕ). f % 16) is ∙ four_1 high k k_few
