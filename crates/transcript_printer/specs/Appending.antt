-- What a call leaves of a text that it appends to.
use Rattle.std.specs.Prelude.{◌≡◌, ℕ, List, ◌∷◌, ◌++◌, Result, MatchResult}
use Rattle.std.specs.List.{flat_map}

-- something stands after the old text
abbrev pub Extends : List ℕ → List ℕ → Type 0
Extends old new = (rest : List ℕ) × (new ≡ old ++ rest)

-- the text was appended, or, where memory ran out, something
abbrev pub Appends : {X E : Type 0} → Result X E → List ℕ → List ℕ → List ℕ → Type 0
Appends result old new text = MatchResult result (λ _. new ≡ old ++ text) (λ _. Extends old new)

-- words, each behind a space
abbrev pub spaced : List (List ℕ) → List ℕ
spaced words = flat_map (λ w. 32 ∷ w) words
