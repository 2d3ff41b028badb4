-- What an index of a script has.
use Rattle.std.specs.Prelude.{◌≡◌, ℕ, ◌+◌, ◌-◌, nat_lt, Bool, false, ◌||◌, List, [], ◌∷◌, ◌++◌, map, filter, find, slice_get, Option, Some, None, option_and_then, if◌then◌else◌}
use Rattle.std.specs.Option.{option_map, option_map_or, option_or}
use Rattle.std.specs.List.{list_any}
use Rattle.std.specs.HashMap.{get}
use Rattle.script_upstream.specs.Keys.{same_endpoint, same_asking}
use Rattle.script_upstream.specs.Giving.{replies, refuses, connects}
use Rattle.script_upstream.specs.declared.script.script.ScriptLine.{ScriptLine}
use Rattle.script_upstream.specs.declared.courses.index.Endpoint.{Endpoint}
use Rattle.script_upstream.specs.declared.courses.index.Asking.{Asking}
use Rattle.script_upstream.specs.declared.courses.index.Index.{Index}

-- the places of the lines of a question, and how many of them are used up
abbrev pub places_at : Index → Asking → List ℕ
places_at index a = option_map_or (λ t. t.places) (get same_asking index.replies a) []

abbrev pub used_at : Index → Asking → ℕ
used_at index a = option_map_or (λ t. t.used) (get same_asking index.replies a) 0

-- whether a connection is refused, and the place of its first line
abbrev pub refused_at : Index → Endpoint → Bool
refused_at index p = option_map_or (λ r. r.refused) (get same_endpoint index.routes p) false

abbrev pub place_at : Index → Endpoint → Option ℕ
place_at index p = option_and_then (λ r. r.place) (get same_endpoint index.routes p)

-- the index after it was told of a line at a place
pub record AddsLine (old new : Index) (line : ScriptLine) (place : ℕ) : Type 0 where
  pub places : (a : Asking) → places_at new a ≡ (if replies a line then places_at old a ++ place ∷ [] else places_at old a)
  pub used : (a : Asking) → used_at new a ≡ used_at old a
  pub refused : (p : Endpoint) → refused_at new p ≡ (refused_at old p || refuses p line)
  pub place_of : (p : Endpoint) → place_at new p ≡ option_or (place_at old p) (if connects p line then Some place else None)

-- the index finds, among all lines, those that were seen
pub record IsIndexed (lines seen : List ScriptLine) (index : Index) : Type 0 where
  pub replying : (a : Asking) → map (slice_get lines) (places_at index a) ≡ map Some (filter (replies a) seen)
  pub refusing : (p : Endpoint) → refused_at index p ≡ list_any (refuses p) seen
  pub connecting : (p : Endpoint) → option_map (slice_get lines) (place_at index p) ≡ option_map Some (find (connects p) seen)

-- one line more is used up, but the last never is
abbrev pub advanced : ℕ → ℕ → ℕ
advanced count used = if nat_lt used (count - 1) then used + 1 else used
