-- The numbers and the addresses that words spell.
use Rattle.std.specs.Prelude.{ℕ, ◌+◌, ◌-◌, ◌*◌, ◌&&◌, ◌==◌, nat_le, nat_lt, List, [], ◌∷◌, length, Option, Some, None, if◌then◌else◌}
use Rattle.std.specs.Char.{is_ascii_digit}
use Rattle.std.specs.declared.net.ipv4_addr.Ipv4Addr.{Ipv4Addr}
use Rattle.text_lines.specs.Pieces.{pieces}

-- what goes on where there is a value
infixl 10 ◌>>=◌
abbrev pub ◌>>=◌ : {A B : Type 0} → Option A → (A → Option B) → Option B
(Some x) >>= f = f x
None >>= f = None

-- the value with a digit more, up to most
abbrev pub next_value : ℕ → ℕ → ℕ → Option ℕ
next_value most v c = if is_ascii_digit c && nat_le (v * 10 + (c - 48)) most then Some (v * 10 + (c - 48)) else None

-- the number that the digits give after v, up to most
abbrev pub number_from : ℕ → ℕ → List ℕ → Option ℕ
number_from most v [] = Some v
number_from most v (c ∷ cs) = next_value most v c >>= λ n. number_from most n cs

-- a number up to most, in digits without a leading zero
abbrev pub number_of : ℕ → List ℕ → Option ℕ
number_of most [] = None
number_of most (c ∷ cs) = if c == 48 && nat_lt 0 (length cs) then None else number_from most 0 (c ∷ cs)

-- a number from low to most
abbrev pub number_within : ℕ → ℕ → List ℕ → Option ℕ
number_within low most w = number_of most w >>= λ n. if nat_lt n low then None else Some n

-- four numbers up to 255
abbrev pub octets_of : List (List ℕ) → Option Ipv4Addr
octets_of [] = None
octets_of (a ∷ []) = None
octets_of (a ∷ b ∷ []) = None
octets_of (a ∷ b ∷ c ∷ []) = None
octets_of (a ∷ b ∷ c ∷ d ∷ []) = do
  x ← number_of 255 a
  y ← number_of 255 b
  z ← number_of 255 c
  w ← number_of 255 d
  Some (record { octets = x ∷ y ∷ z ∷ w ∷ [] })
octets_of (a ∷ b ∷ c ∷ d ∷ e ∷ rest) = None

-- the address that a word spells, its numbers with dots between them
abbrev pub ipv4_of : List ℕ → Option Ipv4Addr
ipv4_of w = octets_of (pieces 46 w)
