-- The entries under rising numbers, in the order in which they were written, and their expiries.
use Rattle.std.specs.Prelude.{◌≡◌, ◌<◌, ℕ, ◌==◌, nat_lt, Bool, false, List, [], ◌∷◌, Option, Some, None, if◌then◌else◌}
use Rattle.std.specs.BTreeMap.{is_at}
use Rattle.std.specs.BTreeSet.{BTreeSet, contains}
use Rattle.std.specs.List.{AllByRecursion}
use Rattle.std.specs.List.Sorted.{IsStrictlySortedBy}
use Rattle.std.specs.Map.{lookup, keys_of, values_of}
use Rattle.std.specs.Ordering.{nat_cmp, ordering_then}
use Rattle.std.specs.declared.cmp.Ordering.{Ordering}
use Rattle.kept_responses.specs.declared.entry.Entry.{Entry}
use Rattle.resolver_cache.specs.Placing.{least_expiry}

-- the entry of a number
abbrev pub under : ℕ → List (ℕ × Entry) → Option Entry
under n es = lookup (is_at (nat_cmp n)) es

-- the number of the first entry that passes
abbrev pub number_of : (Entry → Bool) → List (ℕ × Entry) → Option ℕ
number_of p [] = None
number_of p (e ∷ es) = if p e.1 then Some e.0 else number_of p es

-- the number of the first one with the least expiry, which is the oldest written of these
abbrev pub number_of_least : List (ℕ × Entry) → Option ℕ
number_of_least es = number_of (λ e. e.expiry == least_expiry (values_of es)) es

-- the number of the entry that gives way to one for a new question: none where there is room
abbrev pub least_of_full : ℕ → ℕ → List (ℕ × Entry) → Option ℕ
least_of_full size count es = if nat_lt count size then None else number_of_least es

-- each number is below this one
abbrev pub AreBelow : ℕ → List (ℕ × Entry) → Type 0
AreBelow n es = AllByRecursion (λ e. e.0 < n) es

-- pairs of an expiry and a number, by the expiry first
abbrev pub by_expiry : ℕ × ℕ → ℕ × ℕ → Ordering
by_expiry a b = ordering_then (nat_cmp a.0 b.0) (nat_cmp a.1 b.1)

abbrev pub expires_at : ℕ → Option Entry → Bool
expires_at expiry None = false
expires_at expiry (Some e) = e.expiry == expiry

-- the expiry of each entry stands with its number, and no other does
abbrev pub AreDated : List (ℕ × Entry) → BTreeSet (ℕ × ℕ) → Type 0
AreDated es expiries = (expiry number : ℕ) → contains by_expiry expiries (expiry, number) ≡ expires_at expiry (under number es)

-- the numbers rise, and the expiries are those of the entries
pub record AreKept (es : List (ℕ × Entry)) (expiries : BTreeSet (ℕ × ℕ)) : Type 0 where
  pub rising : IsStrictlySortedBy nat_cmp (keys_of es)
  pub dated : AreDated es expiries
