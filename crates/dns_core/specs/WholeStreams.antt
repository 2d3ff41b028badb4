-- What was read of a source, and what was written to a sink.
use Rattle.std.specs.Prelude.{◌≡◌, ℕ, ◌<◌, ◌≤◌, List, ◌++◌, length}
use Rattle.std.specs.declared.option.Option.{Option}
use Rattle.std.specs.Io.KnownBytes.{Consumes, IsAtEnd, Appends}

-- the bytes were taken, and where there was room for more nothing is left
pub record HeldAll (old new : Option (List ℕ)) (bytes : List ℕ) (most : ℕ) : Type 0 where
  pub taken : Consumes old new bytes
  pub few : length bytes ≤ most
  pub end : length bytes < most → IsAtEnd new

-- some bytes were taken
abbrev pub TakesPart : Option (List ℕ) → Option (List ℕ) → Type 0
TakesPart old new = (bytes : List ℕ) × Consumes old new bytes

-- at most so many bytes were taken
abbrev pub TakesAtMost : ℕ → Option (List ℕ) → Option (List ℕ) → Type 0
TakesAtMost most old new = (bytes : List ℕ) × Consumes old new bytes × (length bytes ≤ most)

-- fewer bytes were taken
abbrev pub TakesFewer : ℕ → Option (List ℕ) → Option (List ℕ) → Type 0
TakesFewer most old new = (bytes : List ℕ) × Consumes old new bytes × (length bytes < most)

-- a front of the text was appended
abbrev pub AppendsPart : Option (List ℕ) → Option (List ℕ) → List ℕ → Type 0
AppendsPart old new text = (part : List ℕ) × (rest : List ℕ) × (text ≡ part ++ rest) × Appends old new part
