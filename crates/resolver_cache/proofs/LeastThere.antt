-- Some entry has the least expiry.
use Rattle.std.proofs.Common.{◌≡◌, ℕ, min, Bool, true, false, ◌⊎◌, inl, inr, List, [], ◌∷◌, None, refl, sym, ap, ◌∙◌, arith}
use Rattle.std.specs.Prelude.{fold, ◌==◌, ◌||◌}
use Rattle.std.specs.List.{list_any}
use Rattle.std.proofs.lemmas.Bool.{cases_lt, eq-eqb}
use Rattle.kept_responses.specs.declared.entry.Entry.{Entry}
use Rattle.resolver_cache.specs.Placing.{least_expiry, place_of_least}
use Rattle.resolver_cache.proofs.Counted.{none_passes}

or_true : (b : Bool) → (b || true) ≡ true
or_true true = refl
or_true false = refl

first_true : (a b : Bool) → a ≡ true → (a || b) ≡ true
first_true a b e = ap (λ c. c || b) e

here_or_later : (n k least : ℕ) (later : Bool) → (least ≡ min n k) ⊎ (later ≡ true) → (least ≡ n) ⊎ (((k == least) || later) ≡ true)
here_or_later n k least later (inr e) = inr (ap (λ b. (k == least) || b) e ∙ or_true (k == least))
here_or_later n k least later (inl e) =
    elim (cases_lt k n) [ inl below ↦ inr (first_true (k == least) later (eq-eqb k least (omega (arith, below, e)))) | inr above ↦ inl (omega (arith, above, e)) ]

least_or_there : (n : ℕ) (es : List Entry) → (fold (λ m o. min m o.expiry) n es ≡ n) ⊎ (list_any (λ o. o.expiry == fold (λ m o. min m o.expiry) n es) es ≡ true)
least_or_there n [] = inl refl
least_or_there n (e ∷ es) =
    here_or_later n e.expiry (fold (λ m o. min m o.expiry) (min n e.expiry) es) _ (least_or_there (min n e.expiry) es)

pub least_is_there : (e : Entry) (es : List Entry) → list_any (λ o. o.expiry == least_expiry (e ∷ es)) (e ∷ es) ≡ true
least_is_there e es =
    elim (least_or_there e.expiry es) [ inl h ↦ first_true (e.expiry == least_expiry (e ∷ es)) _ (eq-eqb e.expiry (least_expiry (e ∷ es)) (sym h)) | inr h ↦ ap (λ b. (e.expiry == least_expiry (e ∷ es)) || b) h ∙ or_true (e.expiry == least_expiry (e ∷ es)) ]

pub least_has_a_place : (es : List Entry) → place_of_least es ≡ None → es ≡ []
least_has_a_place [] h = refl
least_has_a_place (e ∷ es) h =
    let none = none_passes (λ o. o.expiry == least_expiry (e ∷ es)) (e ∷ es) h in
    let some = least_is_there e es in
    cc
