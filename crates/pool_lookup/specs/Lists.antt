-- Words on lists.
use Rattle.std.specs.Prelude.{ℕ, zero, suc, ◌==◌, Bool, true, false, List, [], ◌∷◌, ◌++◌, if◌then◌else◌}
use Rattle.std.specs.List.{list_any, after_first}

abbrev pub is_empty : {X : Type 0} → List X → Bool
is_empty [] = true
is_empty (x ∷ xs) = false

-- what stands behind the first so many that pass the test
abbrev pub after_firsts : {X : Type 0} → ℕ → (X → Bool) → List X → List X
after_firsts zero p xs = xs
after_firsts (suc n) p xs = after_firsts n p (after_first p xs)

-- the numbers that are not among those before them
abbrev pub distinct_after : List ℕ → List ℕ → List ℕ
distinct_after before [] = []
distinct_after before (n ∷ ns) =
    if list_any (λ m. m == n) before then distinct_after (before ++ n ∷ []) ns else n ∷ distinct_after (before ++ n ∷ []) ns

-- the numbers of a list, each where it stands first
abbrev pub distinct : List ℕ → List ℕ
distinct ns = distinct_after [] ns
