-- Numbers without a bound, each in its one spelling: digits, the highest first, and no zero before others.
use Rattle.std.specs.Prelude.{ℕ, ◌+◌, ◌-◌, ◌^◌, ◌≤◌, Bool, not, ◌&&◌, ◌==◌, nat_lt, List, length, map, slice_index, Option, Some, None, if◌then◌else◌, codes}
use Rattle.std.specs.Char.{is_ascii_digit}
use Rattle.std.specs.Int.Digits.{digits_of}
use Rattle.std.specs.List.{list_all}
use Rattle.std.specs.Str.Parse.{digits_value}
use Rattle.text_lines.specs.Numbers.{number_within}
use Rattle.recursor_text.specs.declared.world_reading.counts.Kept.{Kept}
use Rattle.recursor_text.specs.declared.world_reading.counts.Kept.TheVariants.{Narrow, Wide}

-- the word of a number
unfoldable pub numeral : ℕ → List ℕ
numeral n = if n == 0 then codes "0" else map (λ d. 48 + d) (digits_of 10 n)

-- a zero stands before others
abbrev pub has_leading_zero : List ℕ → Bool
has_leading_zero w = nat_lt 1 (length w) && slice_index w 0 == 48

-- the word is that of a number
abbrev pub is_numeral : List ℕ → Bool
is_numeral w = nat_lt 0 (length w) && list_all is_ascii_digit w && not (has_leading_zero w)

-- the number that a word spells
abbrev pub numeral_value : List ℕ → Option ℕ
numeral_value w = if is_numeral w then Some (digits_value 10 w) else None

-- that number where it has 64 bits
abbrev pub narrow_value : List ℕ → Option ℕ
narrow_value w = number_within 0 (2 ^ 64 - 1) w

-- the number that is kept
abbrev pub kept_value : Kept → ℕ
kept_value (Narrow n) = n
kept_value (Wide digits) = digits_value 10 digits

-- digits are kept of a number with more than 64 bits alone
abbrev pub IsKept : Kept → Type 0
IsKept (Narrow n) = Unit {0}
IsKept (Wide digits) = 2 ^ 64 ≤ digits_value 10 digits
