-- Numbers of two and of four bytes, the greatest byte first.
use Rattle.std.specs.Prelude.{ℕ, ◌+◌, ◌*◌, ◌/◌, ◌%◌, ◌++◌, List, [], ◌∷◌, Result, Ok, Err}
use Rattle.wire_names.specs.Reading.{◌>>=◌}
use Rattle.wire_names.specs.declared.errors.WireError.{WireError}
use Rattle.wire_names.specs.declared.errors.WireError.TheVariants.{Short}

abbrev pub two : ℕ → List ℕ
two number = (number / 256) ∷ (number % 256) ∷ []

abbrev pub four : ℕ → List ℕ
four number = two (number / 65536) ++ two (number % 65536)

-- a value that is read, and what follows it
abbrev pub Read : Type 0 → Type 0
Read X = Result (X × List ℕ) WireError

abbrev pub two_of : List ℕ → Read ℕ
two_of [] = Err Short
two_of (high ∷ []) = Err Short
two_of (high ∷ low ∷ rest) = Ok (256 * high + low, rest)

abbrev pub four_of : List ℕ → Read ℕ
four_of bytes = two_of bytes >>= λ high. two_of high.1 >>= λ low. Ok (65536 * high.0 + low.0, low.1)
