-- Numbers of 16 bits as text: decimal digits without a leading zero, and zero is `0`.
use Rattle.std.specs.Prelude.{◌≡◌, ℕ, ◌≤◌, Bool, false, not, ◌&&◌, ◌||◌, ◌==◌, List, [], ◌∷◌, length, Option, MatchOption, decimal}

-- the word spells the number, which has 16 bits
abbrev pub IsNumberText : List ℕ → ℕ → Type 0
IsNumberText word n = (word ≡ decimal n) × (n ≤ 65535)

-- the number that the word spells, or none where it spells none
abbrev pub ReadsNumber : List ℕ → Option ℕ → Type 0
ReadsNumber word read = MatchOption read ((n : ℕ) → ¬ (IsNumberText word n)) (IsNumberText word)

-- a plus sign, or a zero before something else
abbrev pub has_needless_front : List ℕ → Bool
has_needless_front [] = false
has_needless_front (first ∷ rest) = first == 43 || (first == 48 && not (length rest == 0))
