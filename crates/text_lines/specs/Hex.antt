-- The bytes that words spell, each as two digits in base 16.
use Rattle.std.specs.Prelude.{ℕ, ◌+◌, ◌-◌, ◌*◌, ◌&&◌, nat_le, List, [], ◌∷◌, ◌++◌, length, Option, Some, None, if◌then◌else◌, codes}
use Rattle.std.specs.Char.{is_ascii_digit}
use Rattle.std.specs.Str.{bytes_eq}
use Rattle.text_lines.specs.Numbers.{◌>>=◌}

-- the value of a digit, in lower case
abbrev pub hex_value : ℕ → Option ℕ
hex_value c = if is_ascii_digit c then Some (c - 48) else if nat_le 97 c && nat_le c 102 then Some (c - 87) else None

abbrev pub pair_value : ℕ → ℕ → Option ℕ
pair_value high low = hex_value high >>= λ x. hex_value low >>= λ y. Some (x * 16 + y)

-- these bytes, and those of the pairs that follow
abbrev pub pairs_after : List ℕ → List ℕ → Option (List ℕ)
pairs_after bytes [] = Some bytes
pairs_after bytes (c ∷ []) = None
pairs_after bytes (high ∷ low ∷ more) = pair_value high low >>= λ b. pairs_after (bytes ++ b ∷ []) more

-- no more bytes than the data of a record may have
abbrev pub few : List ℕ → Option (List ℕ)
few bytes = if nat_le (length bytes) 65535 then Some bytes else None

-- at most 65,535 bytes, and a dash for none
abbrev pub bytes_of : List ℕ → Option (List ℕ)
bytes_of [] = None
bytes_of (c ∷ cs) = if bytes_eq (c ∷ cs) (codes "-") then Some [] else pairs_after [] (c ∷ cs) >>= few
