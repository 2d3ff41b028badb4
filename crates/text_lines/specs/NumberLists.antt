-- Lists of numbers, each in its one spelling: ports that rise, and first delays.
use Rattle.std.specs.Prelude.{ℕ, ◌+◌, List, [], ◌∷◌, Option, Some, if◌then◌else◌, codes}
use Rattle.std.specs.Str.{bytes_eq}
use Rattle.text_lines.specs.Numbers.{◌>>=◌, number_within}
use Rattle.text_lines.specs.Pieces.{pieces}

-- the ports that all these words spell, the first from this number on, and each above the one before
abbrev pub each_port : ℕ → List (List ℕ) → Option (List ℕ)
each_port low [] = Some []
each_port low (w ∷ ws) = number_within low 65535 w >>= λ port. each_port (port + 1) ws >>= λ ports. Some (port ∷ ports)

-- the ports that a word spells, with commas between them; a dash spells none
abbrev pub ports_of : List ℕ → Option (List ℕ)
ports_of w = if bytes_eq w (codes "-") then Some [] else each_port 0 (pieces 44 w)

-- the delays that all these words spell, from 1 to 31 microseconds
abbrev pub each_delay : List (List ℕ) → Option (List ℕ)
each_delay [] = Some []
each_delay (w ∷ ws) = number_within 1 31 w >>= λ delay. each_delay ws >>= λ delays. Some (delay ∷ delays)

-- the delays that a word spells, with commas between them; there is at least one
abbrev pub delays_of : List ℕ → Option (List ℕ)
delays_of w = each_delay (pieces 44 w)
