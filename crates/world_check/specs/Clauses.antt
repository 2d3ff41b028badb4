-- The clauses of a well-served world, and the verdict.
use Rattle.std.specs.Prelude.{◌≡◌, ◌↔◌, ℕ, ◌+◌, ◌-◌, ◌<◌, Bool, true, false, nat_lt, List, [], ◌∷◌, length, slice_get, if◌then◌else◌, Some}
use Rattle.std.specs.declared.net.IpAddr.{IpAddr}
use Rattle.world_check.specs.Serving.{has_served_root, is_delegated_well, has_served_zones}
use Rattle.world_layout.specs.Layout.{is_laid_out}
use Rattle.world_layout.specs.Naming.{has_sound_names}
use Rattle.world_check.specs.Filters.{has_allowed_addresses}
use Rattle.zone_rules.specs.declared.world.World.{World}
use Rattle.world_check.specs.declared.filters.WorldFilters.{WorldFilters}
use Rattle.world_check.specs.declared.verdict.Verdict.{Verdict}
use Rattle.world_check.specs.declared.verdict.Verdict.TheVariants.{Yes, No}

-- whether each clause holds, in their order; the last, that a question is answered before the patience ends
abbrev pub clauses : World → List IpAddr → WorldFilters → ℕ → List Bool
clauses world roots filters patience =
    has_served_root world roots ∷ is_laid_out world ∷ is_delegated_well world ∷ has_served_zones world ∷ has_sound_names world
    ∷ has_allowed_addresses world filters ∷ nat_lt world.delay patience ∷ []

-- the number of the first that fails, counted from this one
abbrev pub first_failing : ℕ → List Bool → Verdict
first_failing number [] = Yes
first_failing number (holds ∷ more) = if holds then first_failing (number + 1) more else No number

-- the clause of this number, from 1, fails, and those of lower numbers hold
pub record IsLowest (clauses : List Bool) (number : ℕ) : Type 0 where
  pub numbered : 0 < number
  pub fails : slice_get clauses (number - 1) ≡ Some false
  pub others : (k : ℕ) → k < number - 1 → slice_get clauses k ≡ Some true

-- A world is well served exactly where all clauses hold; else the verdict names the lowest that fails.
pub record IsVerdict (clauses : List Bool) (verdict : Verdict) : Type 0 where
  pub well_served : (verdict ≡ Yes) ↔ ((k : ℕ) → k < length clauses → slice_get clauses k ≡ Some true)
  pub lowest : (number : ℕ) → (verdict ≡ No number) ↔ IsLowest clauses number
