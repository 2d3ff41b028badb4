-- The expiries stay those of the entries where one entry is added or taken out.
use Rattle.std.proofs.Common.{◌≡◌, ◌∙◌, ℕ, Bool, true, false, cond, List, [], ◌∷◌, ◌++◌, refl, ap, sym, subst, Some, None}
use Rattle.std.specs.Prelude.{◌==◌}
use Rattle.std.specs.BTreeMap.{is_at, insert_entry}
use Rattle.std.specs.BTreeSet.{BTreeSet, contains}
use Rattle.std.specs.Ordering.{nat_cmp, is_eq, match_ordering}
use Rattle.std.specs.declared.cmp.Ordering.{Ordering}
use Rattle.std.specs.Map.{remove_entry}
use Rattle.kept_responses.specs.declared.entry.Entry.{Entry}
use Rattle.resolver_cache.specs.Writings.{under, by_expiry, expires_at, AreBelow, AreDated}
use Rattle.resolver_cache.proofs.NumberKeys.{at_itself, same_number, above_is, pair_here, pair_apart}

-- an entry under a number above the others comes last
pub inserted_last : (n : ℕ) (e : Entry) (es : List (ℕ × Entry)) → AreBelow n es → insert_entry nat_cmp es n e ≡ es ++ (n, e) ∷ []
inserted_last n e [] h = refl
inserted_last n e (o ∷ es) h =
    ap (λ (c : Ordering). match_ordering c ((n, e) ∷ o ∷ es) ((o.0, e) ∷ es) (o ∷ insert_entry nat_cmp es n e)) (above_is n o.0 h.0)
    ∙ ap (λ (l : List (ℕ × Entry)). o ∷ l) (inserted_last n e es h.1)

-- none has that number yet
pub none_under : (n : ℕ) (es : List (ℕ × Entry)) → AreBelow n es → under n es ≡ None
none_under n [] h = refl
none_under n (o ∷ es) h =
    ap (λ (c : Ordering). cond (is_eq c) (Some o.1) (under n es)) (above_is n o.0 h.0) ∙ none_under n es h.1

-- and it is the one that leaves by its number
pub last_taken : (n : ℕ) (e : Entry) (es : List (ℕ × Entry)) → AreBelow n es → remove_entry (is_at (nat_cmp n)) (es ++ (n, e) ∷ []) ≡ es
last_taken n e [] h = ap (λ (b : Bool). cond b [] ((n, e) ∷ [])) (at_itself n)
last_taken n e (o ∷ es) h =
    ap (λ (c : Ordering). cond (is_eq c) (es ++ (n, e) ∷ []) (o ∷ remove_entry (is_at (nat_cmp n)) (es ++ (n, e) ∷ []))) (above_is n o.0 h.0)
    ∙ ap (λ (l : List (ℕ × Entry)). o ∷ l) (last_taken n e es h.1)

-- what is said of an expiry is said of one that is the same
pub said_of_same : (new old : BTreeSet (ℕ × ℕ)) (b : Bool) (n : ℕ) {x y : ℕ} → x ≡ y
    → ((q : ℕ × ℕ) → contains by_expiry new q ≡ cond (is_at (by_expiry (x, n)) q) b (contains by_expiry old q))
    → (q : ℕ × ℕ) → contains by_expiry new q ≡ cond (is_at (by_expiry (y, n)) q) b (contains by_expiry old q)
said_of_same new old b n same has =
    subst (λ (z : ℕ). (q : ℕ × ℕ) → contains by_expiry new q ≡ cond (is_at (by_expiry (z, n)) q) b (contains by_expiry old q)) same has

with_itself : (b : Bool) → cond b true false ≡ b
with_itself true = refl
with_itself false = refl

without_itself : (b : Bool) → cond b false b ≡ false
without_itself true = refl
without_itself false = refl

module _ (es more : List (ℕ × Entry)) (old new : BTreeSet (ℕ × ℕ)) (n : ℕ) (e : Entry) (dated : AreDated es old) where
  pub dated_added : under n es ≡ None
      → ((q : ℕ × ℕ) → contains by_expiry new q ≡ cond (is_at (by_expiry (e.expiry, n)) q) true (contains by_expiry old q))
      → ((k : ℕ) → under k more ≡ cond (is_at (nat_cmp n) k) (Some e) (under k es))
      → AreDated more new
  dated_added none has is x k = by (is_at (nat_cmp n) k) refl
    where
      by : (b : Bool) → is_at (nat_cmp n) k ≡ b → contains by_expiry new (x, k) ≡ expires_at x (under k more)
      by true h =
          let was : contains by_expiry old (x, k) ≡ false = dated x k ∙ ap (λ (m : ℕ). expires_at x (under m es)) (sym (same_number n k h)) ∙ ap (expires_at x) none in
          has (x, k)
          ∙ ap (λ (b : Bool). cond b true (contains by_expiry old (x, k))) (pair_here e.expiry n x k h)
          ∙ ap (λ (b : Bool). cond (e.expiry == x) true b) was
          ∙ with_itself (e.expiry == x)
          ∙ sym (ap (expires_at x) (is k ∙ ap (λ (b : Bool). cond b (Some e) (under k es)) h))
      by false h =
          has (x, k)
          ∙ ap (λ (b : Bool). cond b true (contains by_expiry old (x, k))) (pair_apart e.expiry n x k h)
          ∙ dated x k
          ∙ sym (ap (expires_at x) (is k ∙ ap (λ (b : Bool). cond b (Some e) (under k es)) h))

  pub dated_taken : under n es ≡ Some e
      → ((q : ℕ × ℕ) → contains by_expiry new q ≡ cond (is_at (by_expiry (e.expiry, n)) q) false (contains by_expiry old q))
      → ((k : ℕ) → under k more ≡ cond (is_at (nat_cmp n) k) None (under k es))
      → AreDated more new
  dated_taken there has is x k = by (is_at (nat_cmp n) k) refl
    where
      by : (b : Bool) → is_at (nat_cmp n) k ≡ b → contains by_expiry new (x, k) ≡ expires_at x (under k more)
      by true h =
          let was : contains by_expiry old (x, k) ≡ (e.expiry == x) = dated x k ∙ ap (λ (m : ℕ). expires_at x (under m es)) (sym (same_number n k h)) ∙ ap (expires_at x) there in
          has (x, k)
          ∙ ap (λ (b : Bool). cond b false (contains by_expiry old (x, k))) (pair_here e.expiry n x k h)
          ∙ ap (λ (b : Bool). cond (e.expiry == x) false b) was
          ∙ without_itself (e.expiry == x)
          ∙ sym (ap (expires_at x) (is k ∙ ap (λ (b : Bool). cond b None (under k es)) h))
      by false h =
          has (x, k)
          ∙ ap (λ (b : Bool). cond b false (contains by_expiry old (x, k))) (pair_apart e.expiry n x k h)
          ∙ dated x k
          ∙ sym (ap (expires_at x) (is k ∙ ap (λ (b : Bool). cond b None (under k es)) h))

-- an expiry that was added and taken out again
pub dated_undone : (es : List (ℕ × Entry)) (old more back : BTreeSet (ℕ × ℕ)) (n expiry : ℕ) → AreDated es old → under n es ≡ None
    → ((q : ℕ × ℕ) → contains by_expiry more q ≡ cond (is_at (by_expiry (expiry, n)) q) true (contains by_expiry old q))
    → ((q : ℕ × ℕ) → contains by_expiry back q ≡ cond (is_at (by_expiry (expiry, n)) q) false (contains by_expiry more q))
    → AreDated es back
dated_undone es old more back n expiry dated none has less x k = by (is_at (by_expiry (expiry, n)) (x, k)) refl
  where
    by : (b : Bool) → is_at (by_expiry (expiry, n)) (x, k) ≡ b → contains by_expiry back (x, k) ≡ expires_at x (under k es)
    by false h =
        less (x, k) ∙ ap (λ (b : Bool). cond b false (contains by_expiry more (x, k))) h
        ∙ has (x, k) ∙ ap (λ (b : Bool). cond b true (contains by_expiry old (x, k))) h
        ∙ dated x k
    by true h =
        less (x, k) ∙ ap (λ (b : Bool). cond b false (contains by_expiry more (x, k))) h
        ∙ sym (at_number (is_at (nat_cmp n) k) refl)
      where
        at_number : (b : Bool) → is_at (nat_cmp n) k ≡ b → expires_at x (under k es) ≡ false
        at_number true i = ap (λ (m : ℕ). expires_at x (under m es)) (sym (same_number n k i)) ∙ ap (expires_at x) none
        at_number false i = let apart = pair_apart expiry n x k i in cc
