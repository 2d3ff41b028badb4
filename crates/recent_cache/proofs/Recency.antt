-- What a search finds behind another, and behind a write; which pairs there are then.
use Rattle.std.proofs.Common.{◌≡◌, ◌⊎◌, Contains, inl, inr, subst, ℕ, zero, suc, ◌<◌, Bool, true, false, List, [], ◌∷◌, take, Option, Some, None, refl, ap, arith}
use Rattle.std.specs.Cmp.{IsEquivalence}
use Rattle.std.specs.Option.{option_map_or}
use Rattle.std.specs.Map.{lookup, lookup_entry, remove_entry}
use Rattle.lru.proofs.CallerLemmas.{Contains-lookup_entry, Contains-promoted, Contains-remove_entry, Contains-take}
use Rattle.lru.proofs.Splits.{Contains-cons}
use Rattle.recent_cache.specs.Recent.{touched, with_pair}

module _ {K V : Type 0} (test : K → Bool) where
  no_entry : (pairs : List (K × V)) → lookup test pairs ≡ None → lookup_entry test pairs ≡ None
  no_entry [] h = refl
  no_entry (p ∷ pairs) h = (elim (test p.0) as (λ y. test p.0 ≡ y → lookup_entry test (p ∷ pairs) ≡ None) [
    | true ↦ λ t. let h' = rw t at h in cc
    | false ↦ λ t. rw t (no_entry pairs (rw t at h))
  ]) refl

  value_of_entry : (pairs : List (K × V)) (p : K × V) → lookup_entry test pairs ≡ Some p → lookup test pairs ≡ Some p.1
  value_of_entry [] p h = cc
  value_of_entry (q ∷ pairs) p h = (elim (test q.0) as (λ y. test q.0 ≡ y → lookup test (q ∷ pairs) ≡ Some p.1) [
    | true ↦ λ t. let h' = rw t at h in let same : q ≡ p = cc in rw t (ap (λ e. Some e.1) same)
    | false ↦ λ t. rw t (value_of_entry pairs p (rw t at h))
  ]) refl

module _ {K V : Type 0} (eq : K → K → Bool) (key : K) where
  found_in_front : (pairs : List (K × V)) (o : Option (K × V)) → lookup_entry (eq key) pairs ≡ o → lookup (eq key) (option_map_or (λ p. p ∷ remove_entry (eq key) pairs) o pairs) ≡ lookup (eq key) pairs
  found_in_front pairs None e = refl
  found_in_front pairs (Some p) e = rw ((Contains-lookup_entry (eq key) pairs p e).1, value_of_entry (eq key) pairs p e) refl

  -- A search behind another one finds the same.
  pub lookup_touched : (pairs : List (K × V)) → lookup (eq key) (touched eq key pairs) ≡ lookup (eq key) pairs
  lookup_touched pairs = found_in_front pairs (lookup_entry (eq key) pairs) refl

  -- A search that finds nothing changes nothing.
  pub touched_none : (pairs : List (K × V)) → lookup (eq key) pairs ≡ None → touched eq key pairs ≡ pairs
  touched_none pairs h = rw (no_entry (eq key) pairs h) refl

  put_is_first : IsEquivalence eq → (size : ℕ) (value : V) (pairs : List (K × V)) → 0 < size → (o : Option (K × V)) → lookup_entry (eq key) pairs ≡ o
      → lookup (eq key) (option_map_or (λ p. (p.0, value) ∷ remove_entry (eq key) pairs) o (take size ((key, value) ∷ pairs))) ≡ Some value
  put_is_first laws zero value pairs room o e = absurd (omega (arith, room))
  put_is_first laws (suc size) value pairs room None e = rw (laws.refl key) refl
  put_is_first laws (suc size) value pairs room (Some p) e = rw (Contains-lookup_entry (eq key) pairs p e).1 refl

  -- A search behind a write finds the value, where anything is kept.
  pub lookup_with_pair : IsEquivalence eq → (size : ℕ) (value : V) (pairs : List (K × V)) → 0 < size → lookup (eq key) (with_pair eq size key value pairs) ≡ Some value
  lookup_with_pair laws size value pairs room = put_is_first laws size value pairs room (lookup_entry (eq key) pairs) refl

  -- Each pair after a search was there.
  pub Contains_touched : (pairs : List (K × V)) (p : K × V) → Contains (touched eq key pairs) p → Contains pairs p
  Contains_touched = Contains-promoted (eq key)

  first_or_old : (value : V) (q : K × V) (pairs rest : List (K × V)) (p : K × V) → q.1 ≡ value → ((r : K × V) → Contains rest r → Contains pairs r) → Contains (q ∷ rest) p → Contains pairs p ⊎ (p.1 ≡ value)
  first_or_old value q pairs rest p new old c = elim (Contains-cons q rest p c) [
    | inl same ↦ inr (subst (λ (r : K × V). r.1 ≡ value) same new)
    | inr d ↦ inl (old p d)
  ]

  old_or_put : (size : ℕ) (value : V) (pairs : List (K × V)) (p : K × V) (o : Option (K × V)) → Contains (option_map_or (λ q. (q.0, value) ∷ remove_entry (eq key) pairs) o (take size ((key, value) ∷ pairs))) p → Contains pairs p ⊎ (p.1 ≡ value)
  old_or_put size value pairs p None c = first_or_old value (key, value) pairs pairs p refl (λ r d. d) (Contains-take size ((key, value) ∷ pairs) p c)
  old_or_put size value pairs p (Some q) c = first_or_old value (q.0, value) pairs (remove_entry (eq key) pairs) p refl (Contains-remove_entry (eq key) pairs) c

  -- Each pair after a write was there, or has the value that was written.
  pub Contains_with_pair : (size : ℕ) (value : V) (pairs : List (K × V)) (p : K × V) → Contains (with_pair eq size key value pairs) p → Contains pairs p ⊎ (p.1 ≡ value)
  Contains_with_pair size value pairs p = old_or_put size value pairs p (lookup_entry (eq key) pairs)
