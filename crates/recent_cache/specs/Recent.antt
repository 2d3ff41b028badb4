-- A cache of bounded size, as a contract sees it.
use Rattle.std.specs.Prelude.{ℕ, Bool, List, [], ◌∷◌, take, Option, Some, None, refl}
use Rattle.std.specs.Coded.{Coded, code_by, coded×, coded_list, coded_ℕ}
use Rattle.std.specs.Option.{option_map_or}
use Rattle.std.specs.Map.{lookup_entry, remove_entry}
use Rattle.lru.specs.LruCache.{LruCache}

-- keys with their values, the last used first, and how many there may be
pub record Recent (K V : Type 0) : Type 0 where
  pub pairs : List (K × V)
  pub size : ℕ

module _ {K V : Type 0} where
  abbrev pub recent : List (K × V) → ℕ → Recent K V
  recent pairs size = record { pairs = pairs; size = size }

  abbrev pub recent_code : Coded K → Coded V → Coded (Recent K V)
  recent_code key value = code_by (List (K × V) × ℕ) (coded× (coded_list (coded× key value)) coded_ℕ) (λ c. (c.pairs, c.size)) (λ p. recent p.0 p.1) (λ _. refl)

  -- A cache of size 0 has no map: one of `lru` has room for a pair at least.
  abbrev pub seen_of : Option (LruCache K V) → Recent K V
  seen_of None = recent [] 0
  seen_of (Some cache) = recent cache.entries cache.cap

  module _ (eq : K → K → Bool) where
    -- The pair of an equal key goes to the front; where there is none, nothing changes.
    abbrev pub touched : K → List (K × V) → List (K × V)
    touched key pairs = option_map_or (λ found. found ∷ remove_entry (eq key) pairs) (lookup_entry (eq key) pairs) pairs

    -- The pair of an equal key goes to the front with the value; where there is none, the new pair goes there, and what is too many leaves from the end.
    abbrev pub with_pair : ℕ → K → V → List (K × V) → List (K × V)
    with_pair size key value pairs = option_map_or (λ found. (found.0, value) ∷ remove_entry (eq key) pairs) (lookup_entry (eq key) pairs) (take size ((key, value) ∷ pairs))
