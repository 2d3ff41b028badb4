-- Texts cut into pieces at a byte.
use Rattle.std.specs.Prelude.{ℕ, ◌==◌, List, [], Option, Some, None}
use Rattle.std.specs.List.{slice_split}

-- the parts of a text between the bytes c
abbrev pub pieces : ℕ → List ℕ → List (List ℕ)
pieces c bytes = slice_split (λ b. b == c) bytes

-- the parts of what follows a byte c, and none where no c stands
abbrev pub pieces_after : ℕ → Option (List ℕ) → List (List ℕ)
pieces_after c None = []
pieces_after c (Some rest) = pieces c rest
