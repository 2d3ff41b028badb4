-- Which entry gives way to a new one. Entries stand in the order in which they were written, the newest last.
use Rattle.std.specs.Prelude.{ℕ, ◌==◌, nat_lt, min, List, [], ◌∷◌, ◌++◌, length, fold, position, remove, Option, Some, None, if◌then◌else◌}
use Rattle.dns_core.specs.declared.message.Query.{Query}
use Rattle.kept_responses.specs.declared.entry.Entry.{Entry}
use Rattle.kept_responses.specs.Entry.{is_for}

-- the least expiry, 0 without entries
abbrev pub least_expiry : List Entry → ℕ
least_expiry [] = 0
least_expiry (e ∷ es) = fold (λ n o. min n o.expiry) e.expiry es

-- the place of the first one with the least expiry, which is the oldest written of these
abbrev pub place_of_least : List Entry → Option ℕ
place_of_least es = position (λ e. e.expiry == least_expiry es) es

-- the place of the entry for the question, or else in a full cache that of the one with the least expiry
abbrev pub giving_way : ℕ → Query → List Entry → Option ℕ
giving_way size query es =
    elim (position (is_for query) es) [ Some i ↦ Some i | None ↦ if nat_lt (length es) size then None else place_of_least es ]

abbrev pub without : List Entry → Option ℕ → List Entry
without es None = es
without es (Some i) = remove es i

-- the entries with a new one; a cache of size 0 keeps nothing
abbrev pub with_entry : ℕ → Entry → List Entry → List Entry
with_entry size e es = if size == 0 then es else without es (giving_way size e.query es) ++ e ∷ []
