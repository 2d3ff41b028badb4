-- The first of the expiries is that of the entry which gives way.
use Rattle.std.proofs.Common.{◌≡◌, ◌<◌, ◌≤◌, ◌⊎◌, inl, inr, ◌∙◌, ℕ, min, Bool, true, false, cond, List, [], ◌∷◌, length, refl, ap, sym, subst, Option, Some, None, arith}
use Rattle.std.specs.Prelude.{◌==◌, fold}
use Rattle.std.specs.BTreeMap.{is_at}
use Rattle.std.specs.BTreeSet.{BTreeSet, contains, IsLowerBound}
use Rattle.std.specs.List.{AllByRecursion}
use Rattle.std.specs.List.Sorted.{IsStrictlySortedBy}
use Rattle.std.specs.Map.{keys_of, values_of}
use Rattle.std.specs.Ordering.{nat_cmp, is_eq, is_gt, ordering_then}
use Rattle.std.specs.declared.cmp.Ordering.{Ordering}
use Rattle.std.specs.declared.cmp.Ordering.TheVariants.{Less, Equal, Greater}
use Rattle.std.proofs.lemmas.Bool.{eq-eqb, eqb-true}
use Rattle.std.proofs.lemmas.Cmp.{ranked}
use Rattle.std.proofs.lemmas.Map.Keys.{sorted_head, sorted_tail}
use Rattle.kept_responses.specs.declared.entry.Entry.{Entry}
use Rattle.resolver_cache.specs.Placing.{least_expiry}
use Rattle.resolver_cache.specs.Writings.{under, number_of, number_of_least, by_expiry, expires_at, AreKept}
use Rattle.resolver_cache.proofs.NumberKeys.{at_itself, same_number}

-- none of later numbers has this one
none_later : (n : ℕ) (es : List (ℕ × Entry)) → AllByRecursion (λ k. nat_cmp n k ≡ Less) (keys_of es) → under n es ≡ None
none_later n [] h = refl
none_later n (e ∷ es) h =
    ap (λ (o : Ordering). cond (is_eq o) (Some e.1) (under n es)) h.0 ∙ none_later n es h.1

-- a number that is found behind an entry is above its number
pub found_later : (e : ℕ × Entry) (es : List (ℕ × Entry)) (k : ℕ) (o : Entry) → IsStrictlySortedBy nat_cmp (keys_of (e ∷ es)) → under k es ≡ Some o → is_at (nat_cmp k) e.0 ≡ false
found_later e es k o rising found = by (is_at (nat_cmp k) e.0) refl
  where
    by : (b : Bool) → is_at (nat_cmp k) e.0 ≡ b → is_at (nat_cmp k) e.0 ≡ false
    by false h = h
    by true h =
        let none : under k es ≡ None = none_later k es (subst (λ (m : ℕ). AllByRecursion (λ y. nat_cmp m y ≡ Less) (keys_of es)) (sym (same_number k e.0 h)) (sorted_head nat_cmp e.0 (keys_of es) rising)) in
        cc

less_is : (n k : ℕ) → nat_cmp n k ≡ Less → n < k
less_is n k h = ranked n k Less (sym h)

-- it is so by the order
pub later_above : (e : ℕ × Entry) (es : List (ℕ × Entry)) (k : ℕ) (o : Entry) → AllByRecursion (λ y. nat_cmp e.0 y ≡ Less) (keys_of es) → under k es ≡ Some o → e.0 < k
later_above e [] k o all found = cc
later_above e (f ∷ es) k o all found = by (is_at (nat_cmp k) f.0) refl (later_above e es k o all.1)
  where
    by : (b : Bool) → is_at (nat_cmp k) f.0 ≡ b → (under k es ≡ Some o → e.0 < k) → e.0 < k
    by true h rest = subst (λ (m : ℕ). e.0 < m) (sym (same_number k f.0 h)) (less_is e.0 f.0 all.0)
    by false h rest = rest (sym (ap (λ (b : Bool). cond b (Some f.1) (under k es)) h) ∙ found)

-- what holds of each entry that a number finds holds of all
pub each_found : (P : ℕ × Entry → Type 0) (es : List (ℕ × Entry)) → IsStrictlySortedBy nat_cmp (keys_of es) → ((k : ℕ) (o : Entry) → under k es ≡ Some o → P (k, o)) → AllByRecursion P es
each_found P [] rising h = tt
each_found P (e ∷ es) rising h =
    (h e.0 e.1 (ap (λ (b : Bool). cond b (Some e.1) (under e.0 es)) (at_itself e.0)), each_found P es (sorted_tail nat_cmp e.0 (keys_of es) rising) (λ k o found. h k o (ap (λ (b : Bool). cond b (Some e.1) (under k es)) (found_later e es k o rising found) ∙ found)))

-- a later expiry, or the same under no lesser number
abbrev IsAfter : ℕ → ℕ → ℕ × Entry → Type 0
IsAfter a n p = (a < p.1.expiry) ⊎ ((a ≡ p.1.expiry) × (n ≤ p.0))

not_above : (a x n k : ℕ) → is_gt (by_expiry (a, n) (x, k)) ≡ false → (a < x) ⊎ ((a ≡ x) × (n ≤ k))
not_above a x n k h = by (nat_cmp a x) refl
  where
    at_numbers : (o : Ordering) → nat_cmp n k ≡ o → is_gt o ≡ false → n ≤ k
    at_numbers Less i g = let l = ranked n k Less (sym i) in omega (arith, l)
    at_numbers Equal i g = let l = ranked n k Equal (sym i) in omega (arith, l)
    at_numbers Greater i g = cc

    by : (o : Ordering) → nat_cmp a x ≡ o → (a < x) ⊎ ((a ≡ x) × (n ≤ k))
    by Less i = inl (ranked a x Less (sym i))
    by Equal i = inr (ranked a x Equal (sym i), at_numbers (nat_cmp n k) refl (sym (ap (λ (o : Ordering). is_gt (ordering_then o (nat_cmp n k))) i) ∙ h))
    by Greater i = let g = sym (ap (λ (o : Ordering). is_gt (ordering_then o (nat_cmp n k))) i) ∙ h in cc

-- so its number is the first with that expiry
least_number : (a n : ℕ) (g : Entry) (es : List (ℕ × Entry)) → IsStrictlySortedBy nat_cmp (keys_of es) → AllByRecursion (IsAfter a n) es → under n es ≡ Some g → (g.expiry == a) ≡ true → number_of (λ e. e.expiry == a) es ≡ Some n
least_number a n g [] rising after found expires = cc
least_number a n g (e ∷ es) rising after found expires =
    by (is_at (nat_cmp n) e.0) (e.1.expiry == a) refl refl (λ there. least_number a n g es (sorted_tail nat_cmp e.0 (keys_of es) rising) after.1 there expires)
  where
    by : (at same : Bool) → is_at (nat_cmp n) e.0 ≡ at → (e.1.expiry == a) ≡ same
        → (under n es ≡ Some g → number_of (λ e. e.expiry == a) es ≡ Some n)
        → number_of (λ e. e.expiry == a) (e ∷ es) ≡ Some n
    by true true h i rest = ap (λ (b : Bool). cond b (Some e.0) (number_of (λ e. e.expiry == a) es)) i ∙ ap Some (sym (same_number n e.0 h))
    by true false h i rest =
        let is : Some e.1 ≡ Some g = sym (ap (λ (b : Bool). cond b (Some e.1) (under n es)) h) ∙ found in
        let own : e.1 ≡ g = cc in
        let both : (e.1.expiry == a) ≡ true = ap (λ (o : Entry). o.expiry == a) own ∙ expires in
        cc
    by false true h i rest =
        let there : under n es ≡ Some g = sym (ap (λ (b : Bool). cond b (Some e.1) (under n es)) h) ∙ found in
        let above = later_above e es n g (sorted_head nat_cmp e.0 (keys_of es) rising) there in
        let same = eqb-true e.1.expiry a i in
        elim after.0 [ inl l ↦ absurd (omega (arith, l, same)) | inr r ↦ absurd (omega (arith, r.1, above)) ]
    by false false h i rest =
        let there : under n es ≡ Some g = sym (ap (λ (b : Bool). cond b (Some e.1) (under n es)) h) ∙ found in
        ap (λ (b : Bool). cond b (Some e.0) (number_of (λ e. e.expiry == a) es)) i
        ∙ rest there

no_less : (a n : ℕ) (p : ℕ × Entry) → IsAfter a n p → a ≤ p.1.expiry
no_less a n p (inl l) = omega (arith, l)
no_less a n p (inr r) = let e = r.0 in omega (arith, e)

least_folded : (a n m start : ℕ) (es : List (ℕ × Entry)) → a ≤ start → AllByRecursion (IsAfter a n) es → (start ≡ a) ⊎ (number_of (λ e. e.expiry == a) es ≡ Some m) → fold (λ k o. min k o.expiry) start (values_of es) ≡ a
least_folded a n m start [] h after (inl is) = is
least_folded a n m start [] h after (inr is) = cc
least_folded a n m start (e ∷ es) h after (inl is) =
    let more = no_less a n e after.0 in
    least_folded a n m (min start e.1.expiry) es (omega (arith, h, more)) after.1 (inl (omega (arith, is, more)))
least_folded a n m start (e ∷ es) h after (inr is) =
    by (e.1.expiry == a) refl (λ low begun. least_folded a n m (min start e.1.expiry) es low after.1 begun)
  where
    by : (b : Bool) → (e.1.expiry == a) ≡ b
        → (a ≤ min start e.1.expiry → (min start e.1.expiry ≡ a) ⊎ (number_of (λ e. e.expiry == a) es ≡ Some m) → fold (λ k o. min k o.expiry) (min start e.1.expiry) (values_of es) ≡ a)
        → fold (λ k o. min k o.expiry) (min start e.1.expiry) (values_of es) ≡ a
    by true i rest =
        let same = eqb-true e.1.expiry a i in
        rest (omega (arith, h, same)) (inl (omega (arith, h, same)))
    by false i rest =
        let more = no_less a n e after.0 in
        let later : number_of (λ e. e.expiry == a) es ≡ Some m = sym (ap (λ (b : Bool). cond b (Some e.0) (number_of (λ e. e.expiry == a) es)) i) ∙ is in
        rest (omega (arith, h, more)) (inr later)

least_is : (a n m : ℕ) (es : List (ℕ × Entry)) → AllByRecursion (IsAfter a n) es → number_of (λ e. e.expiry == a) es ≡ Some m → least_expiry (values_of es) ≡ a
least_is a n m [] after is = cc
least_is a n m (e ∷ es) after is = by (e.1.expiry == a) refl
  where
    more : a ≤ e.1.expiry
    more = no_less a n e after.0

    by : (b : Bool) → (e.1.expiry == a) ≡ b → fold (λ k o. min k o.expiry) e.1.expiry (values_of es) ≡ a
    by true i = least_folded a n m e.1.expiry es more after.1 (inl (eqb-true e.1.expiry a i))
    by false i =
        least_folded a n m e.1.expiry es more after.1 (inr (sym (ap (λ (b : Bool). cond b (Some e.0) (number_of (λ e. e.expiry == a) es)) i) ∙ is))

found_at : (a n : ℕ) (es : List (ℕ × Entry)) (o : Option Entry) → under n es ≡ o → IsStrictlySortedBy nat_cmp (keys_of es) → expires_at a o ≡ true → AllByRecursion (IsAfter a n) es → number_of_least es ≡ Some n
found_at a n es None is rising expires after = cc
found_at a n es (Some g) is rising expires after =
    let first = least_number a n g es rising after is expires in
    ap (λ (x : ℕ). number_of (λ e. e.expiry == x) es) (least_is a n n es after first) ∙ first

pub first_is_least : (es : List (ℕ × Entry)) (expiries : BTreeSet (ℕ × ℕ)) (a n : ℕ) → AreKept es expiries → contains by_expiry expiries (a, n) ≡ true → IsLowerBound by_expiry expiries (a, n) → number_of_least es ≡ Some n
first_is_least es expiries a n kept member least =
    found_at a n es (under n es) refl kept.rising (sym (kept.dated a n) ∙ member) (each_found (IsAfter a n) es kept.rising (λ k o found. not_above a o.expiry n k (least (o.expiry, k) (kept.dated o.expiry k ∙ ap (expires_at o.expiry) found ∙ eq-eqb o.expiry o.expiry refl))))

pub none_is_least : (es : List (ℕ × Entry)) (expiries : BTreeSet (ℕ × ℕ)) → AreKept es expiries → expiries.keys ≡ [] → number_of_least es ≡ None
none_is_least [] expiries kept empty = refl
none_is_least (e ∷ es) expiries kept empty =
    let there : under e.0 (e ∷ es) ≡ Some e.1 = ap (λ (b : Bool). cond b (Some e.1) (under e.0 es)) (at_itself e.0) in
    let has : contains by_expiry expiries (e.1.expiry, e.0) ≡ true = kept.dated e.1.expiry e.0 ∙ ap (expires_at e.1.expiry) there ∙ eq-eqb e.1.expiry e.1.expiry refl in
    let hasnt : contains by_expiry expiries (e.1.expiry, e.0) ≡ false = ap (λ (ks : List (ℕ × ℕ)). contains by_expiry (record { keys = ks }) (e.1.expiry, e.0)) empty in
    cc

pub no_keys : (ks : List (ℕ × ℕ)) → (0 < length ks → ⊥) → ks ≡ []
no_keys [] h = refl
no_keys (k ∷ ks) h = absurd (h (omega arith))
