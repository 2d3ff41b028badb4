-- The names on the way down to a name, and where no cut is shown at them.
use Rattle.std.proofs.Common.{◌≡◌, ℕ, zero, suc, ◌+◌, ◌-◌, ◌≤◌, ◌<◌, Bool, true, false, ◌&&◌, cond, List, [], ◌∷◌, length, drop, map, refl, ap, subst, ◌∙◌, sym, arith}
use Rattle.std.specs.Prelude.{nat_le, nat_lt, not, ◌==◌, filter}
use Rattle.std.specs.List.{AllByRecursion, range_with_len}
use Rattle.std.specs.Cmp.{first_so, second_so}
use Rattle.std.proofs.lemmas.List.{drop-drop, length-drop}
use Rattle.std.proofs.lemmas.Bool.Decides.{nat_tests}
use Rattle.dns_core.specs.Name.{DomainName, same_labels, same_names, is_suffix, last_labels}
use Rattle.dns_core.specs.NameLaws.{same_names_equiv}
use Rattle.dns_core.specs.Log.{Log}
use Rattle.dns_core.specs.Letters.{same_letter}
use Rattle.std.specs.Cmp.Lexicographic.{pointwise}
use Rattle.dns_core.specs.declared.message.Query.{Query}
use Rattle.resolution.specs.Names.{is_above, last_name, root, walk, question}
use Rattle.recursor_types.specs.declared.policy.Policy.{Policy}
use Rattle.resolution.specs.Walking.{NoCutSeen, Walked}
use Rattle.resolution.proofs.AboveIsAnOrder.{is_suffix-refl, labels_equiv, pointwise-drop}
use Rattle.resolution.proofs.Caseless.{both, length-same, labels_same}

-- the last k labels are k
length-last : (k : ℕ) (ls : List (List ℕ)) → k ≤ length ls → length (last_labels k ls) ≡ k
length-last k ls le = let n = length-drop (length ls - k) ls in omega (arith, n)

-- a suffix that is no longer than the last labels is a suffix of them
suffix-last : (z ls : List (List ℕ)) (k : ℕ) → is_suffix z ls ≡ true → length z ≤ k → k ≤ length ls → is_suffix z (last_labels k ls) ≡ true
suffix-last z ls k h low high =
    let n = length-last k ls high in
    let sum : (length ls - k) + (k - length z) ≡ length ls - length z = omega arith in
    let inner : drop (length (last_labels k ls) - length z) (last_labels k ls) ≡ drop (length ls - length z) ls
    = ap (λ (m : ℕ). drop (m - length z) (last_labels k ls)) n ∙ drop-drop (k - length z) (length ls - k) ls ∙ ap (λ (m : ℕ). drop m ls) sum in
    both (nat_le (length z) (length (last_labels k ls))) _
    (let lt : length z ≤ length (last_labels k ls) = omega (arith, n, low) in grind (arith, nat_tests))
    (ap (λ (xs : List (List ℕ)). same_labels z xs) inner ∙ second_so (nat_le (length z) (length ls)) _ h)

-- a zone above a name is above its last labels, where they are no fewer
pub above-last : (z n : DomainName) (k : ℕ) → is_above z n ≡ true → length z.labels ≤ k → k ≤ length n.labels → is_above z (last_name k n) ≡ true
above-last z n k h low high =
    let flags = first_so (z.fqdn && n.fqdn) _ h in
    both (z.fqdn && n.fqdn) _ flags (suffix-last z.labels n.labels k (second_so (z.fqdn && n.fqdn) _ h) low high)

-- nothing is left after all labels
none-left : (ls : List (List ℕ)) → drop (length ls) ls ≡ []
none-left [] = refl
none-left (l ∷ ls) = none-left ls

-- the last labels of a name are above it
pub last-above : (n : DomainName) (k : ℕ) → n.fqdn ≡ true → k ≤ length n.labels → is_above (last_name k n) n ≡ true
last-above n k f high =
    let ls = n.labels in
    let count = length-last k ls high in
    let same : drop (length ls - length (last_labels k ls)) ls ≡ last_labels k ls = ap (λ (m : ℕ). drop (length ls - m) ls) count in
    let itself = second_so (nat_le (length (last_labels k ls)) (length (last_labels k ls))) _ (is_suffix-refl (last_labels k ls)) in
    let alone : drop (length (last_labels k ls) - length (last_labels k ls)) (last_labels k ls) ≡ last_labels k ls =
    let z : length (last_labels k ls) - length (last_labels k ls) ≡ 0 = omega arith in ap (λ (m : ℕ). drop m (last_labels k ls)) z in
    both (n.fqdn && n.fqdn) _ (both n.fqdn n.fqdn f f)
    (both (nat_le (length (last_labels k ls)) (length ls)) _
    (let lt : length (last_labels k ls) ≤ length ls = omega (arith, count, high) in grind (arith, nat_tests))
    (ap (λ (xs : List (List ℕ)). same_labels (last_labels k ls) xs) (same ∙ sym alone) ∙ itself))

-- the root is above each fully qualified name
pub root-above : (n : DomainName) → n.fqdn ≡ true → is_above root n ≡ true
root-above n f =
    both (true && n.fqdn) _ f
    (both (nat_le 0 (length n.labels)) _ (grind (arith, nat_tests))
    (ap (λ (xs : List (List ℕ)). same_labels [] xs) (ap (λ (m : ℕ). drop m n.labels) zero-less ∙ none-left n.labels)))
  where
    zero-less : length n.labels - 0 ≡ length n.labels
    zero-less = omega arith

-- the last k labels of a name are k
pub last-length : (n : DomainName) (k : ℕ) → k ≤ length n.labels → length (last_name k n).labels ≡ k
last-length n k high = length-last k n.labels high

-- ---- where a walk looks for a cut

-- the last labels of a name are above a zone at or above it that has no fewer
last-above-zone : (z n : DomainName) (k : ℕ) → is_above z n ≡ true → k ≤ length z.labels → is_above (last_name k n) z ≡ true
last-above-zone z n k h low =
    let ls = n.labels in
    let zs = z.labels in
    let suffix = second_so (z.fqdn && n.fqdn) _ h in
    let fits : length zs ≤ length ls = let t = first_so (nat_le (length zs) (length ls)) _ suffix in grind (arith, nat_tests) in
    let count = length-last k ls (omega (arith, fits, low)) in
    let flags = first_so (z.fqdn && n.fqdn) _ h in
    let tail = pointwise-drop (pointwise same_letter) (length zs - k) zs (last_labels (length zs) ls) (second_so (nat_le (length zs) (length ls)) _ suffix) in
    let sum : (length ls - length zs) + (length zs - k) ≡ length ls - k = omega (arith, fits, low) in
    let whole : drop (length zs - k) (last_labels (length zs) ls) ≡ last_labels k ls =
    drop-drop (length zs - k) (length ls - length zs) ls ∙ ap (λ (m : ℕ). drop m ls) sum in
    let ends : same_labels (last_labels k zs) (last_labels k ls) ≡ true = ap (λ (xs : List (List ℕ)). same_labels (last_labels k zs) xs) (sym whole) ∙ tail in
    both (n.fqdn && z.fqdn) _ (both n.fqdn z.fqdn (second_so z.fqdn n.fqdn flags) (first_so z.fqdn n.fqdn flags))
    (both (nat_le (length (last_labels k ls)) (length zs)) _
    (let lt : length (last_labels k ls) ≤ length zs = omega (arith, count, low) in grind (arith, nat_tests))
    (ap (λ (m : ℕ). same_labels (last_labels k ls) (last_labels m zs)) count ∙ labels_equiv.symm (last_labels k ls) (last_labels k zs) ∙ ends))

-- the last labels of the last labels are the last ones
last-of-last : (n : DomainName) (j k : ℕ) → k ≤ j → j ≤ length n.labels → last_name k (last_name j n) ≡ last_name k n
last-of-last n j k low high =
    let ls = n.labels in
    let count = length-last j ls high in
    let sum : (length ls - j) + (j - k) ≡ length ls - k = omega (arith, low, high) in
    ap (λ (xs : List (List ℕ)). record { labels = xs; fqdn = n.fqdn })
    (ap (λ (m : ℕ). drop (m - k) (last_labels j ls)) count ∙ drop-drop (j - k) (length ls - j) ls ∙ ap (λ (m : ℕ). drop m ls) sum)

-- all the labels of a name are its own
all-labels : (n : DomainName) (k : ℕ) → k ≡ length n.labels → last_name k n ≡ n
all-labels n k is =
    let none : length n.labels - k ≡ 0 = omega (arith, is) in
    ap (λ (m : ℕ). record { labels = drop m n.labels; fqdn = n.fqdn }) none

-- what is left of a range has the property, where each that passes has it
left-have : {X : Type 0} (P : X → Type 0) (p : X → Bool) (f : ℕ → X) (a n : ℕ) → ((k : ℕ) → a ≤ k → k < a + n → p (f k) ≡ true → P (f k))
    → AllByRecursion P (filter p (map f (range_with_len a n)))
left-have P p f a zero each = tt
left-have {X} P p f a (suc n) each =
    pick (p (f a)) refl (left-have P p f (a + 1) n (λ k low high passes. each k (omega (arith, low)) (omega (arith, high)) passes))
  where
    pick : (b : Bool) → p (f a) ≡ b → AllByRecursion P (filter p (map f (range_with_len (a + 1) n)))
        → AllByRecursion P (cond b (f a ∷ filter p (map f (range_with_len (a + 1) n))) (filter p (map f (range_with_len (a + 1) n))))
    pick true e rest = (each a (omega arith) (omega arith) e, rest)
    pick false e rest = rest

-- what is not true is false
not-true : (a : Bool) → not a ≡ true → a ≡ false
not-true true e = sym e
not-true false e = refl

-- nothing is both true and false
true-not-false : (a : Bool) → a ≡ true → a ≡ false → ⊥
true-not-false true e f = cc
true-not-false false e f = cc

-- The zone is the deepest cut that the log shows for a question, where it shows none at the longer candidates that are looked at.
walked-from : (policy : Policy) (log : Log) (q : Query) (zone : DomainName) → is_above zone (walk q) ≡ true
    → ((k : ℕ) → length zone.labels < k → k ≤ length (walk q).labels → (q.query_type.code == 2 && same_names (last_name k (walk q)) q.name) ≡ false
    → NoCutSeen policy log (last_name k (walk q)))
    → Walked policy log q zone
walked-from policy log q zone above each =
    let n = walk q in
    left-have (NoCutSeen policy log) (λ (c : DomainName). not (is_above c zone) && not (q.query_type.code == 2 && same_names c q.name))
    (λ (k : ℕ). last_name k n) 1 (length n.labels)
    (λ k low high passes.
    let c = last_name k n in
    let below = not-true (is_above c zone) (first_so (not (is_above c zone)) _ passes) in
    let other = not-true (q.query_type.code == 2 && same_names c q.name) (second_so (not (is_above c zone)) _ passes) in
    longer k below (omega (arith, high)) other (nat_lt (length zone.labels) k) refl)
  where
    longer : (k : ℕ) → is_above (last_name k (walk q)) zone ≡ false → k ≤ length (walk q).labels
        → (q.query_type.code == 2 && same_names (last_name k (walk q)) q.name) ≡ false
        → (b : Bool) → nat_lt (length zone.labels) k ≡ b → NoCutSeen policy log (last_name k (walk q))
    longer k below high other true e = each k (grind (arith, nat_tests)) high other
    longer k below high other false e =
        let short : k ≤ length zone.labels = grind (arith, nat_tests) in
        absurd (true-not-false (is_above (last_name k (walk q)) zone) (last-above-zone zone (walk q) k above short) below)

-- Where the log shows no cut at the candidates between a zone and a name, the zone is the deepest cut for each question that is walked to the name.
pub walked-from-passed : (policy : Policy) (log : Log) (q : Query) (zone name : DomainName) → name ≡ walk q → is_above zone name ≡ true
    → ((k : ℕ) → length zone.labels < k → k ≤ length name.labels → NoCutSeen policy log (last_name k name)) → Walked policy log q zone
walked-from-passed policy log q zone name is above each = walked-from policy log q zone
    (subst (λ (n : DomainName). is_above zone n ≡ true) is above)
    (λ k low high other. subst (λ (n : DomainName). NoCutSeen policy log (last_name k n)) is (each k low (subst (λ (n : DomainName). k ≤ length n.labels) (sym is) high)))

-- the same for a candidate, whose own cut is not looked at
pub walked-at-candidate : (policy : Policy) (log : Log) (zone name : DomainName) (labels : ℕ)
    → is_above zone name ≡ true → length zone.labels ≤ labels → labels ≤ length name.labels
    → ((k : ℕ) → length zone.labels < k → k < labels → NoCutSeen policy log (last_name k name)) → Walked policy log (question (last_name labels name) 2) zone
walked-at-candidate policy log zone name labels above low high each =
    let c = last_name labels name in
    walked-from policy log (question c 2) zone (above-last zone name labels above low high)
    (λ k longer short other. shorter k longer short other (nat_lt k labels) refl)
  where
    count : length (last_name labels name).labels ≡ labels
    count = last-length name labels high

    shorter : (k : ℕ) → length zone.labels < k → k ≤ length (last_name labels name).labels
        → same_names (last_name k (last_name labels name)) (last_name labels name) ≡ false
        → (b : Bool) → nat_lt k labels ≡ b → NoCutSeen policy log (last_name k (last_name labels name))
    shorter k longer short other true e =
        let less : k < labels = grind (arith, nat_tests) in
        subst (NoCutSeen policy log) (sym (last-of-last name labels k (omega (arith, less)) high)) (each k longer less)
    shorter k longer short other false e =
        let more : labels ≤ k = grind (arith, nat_tests) in
        let c = last_name labels name in
        let own : last_name k c ≡ c = all-labels c k (omega (arith, count, more, short)) in
        absurd (true-not-false (same_names (last_name k c) c) (subst (λ (x : DomainName). same_names x c ≡ true) (sym own) (same_names_equiv.refl c)) other)

-- what is left of a range has the property where all of it has it
left-had : {X : Type 0} (P : X → Type 0) (p : X → Bool) (f : ℕ → X) (a n : ℕ) → AllByRecursion P (filter p (map f (range_with_len a n)))
    → (k : ℕ) → a ≤ k → k < a + n → p (f k) ≡ true → P (f k)
left-had P p f a zero all k low high e = absurd (omega (arith, low, high))
left-had {X} P p f a (suc n) all k low high e = pick (nat_lt a k) refl (left-had P p f (a + 1) n)
  where
    rest : List X
    rest = filter p (map f (range_with_len (a + 1) n))

    tail : (b : Bool) (xs : List X) → AllByRecursion P (cond b (f a ∷ xs) xs) → AllByRecursion P xs
    tail true xs h = h.1
    tail false xs h = h

    head : (b : Bool) (xs : List X) → b ≡ true → AllByRecursion P (cond b (f a ∷ xs) xs) → P (f a)
    head true xs t h = h.0
    head false xs t h = cc

    pick : (b : Bool) → nat_lt a k ≡ b
        → (AllByRecursion P (filter p (map f (range_with_len (a + 1) n))) → (j : ℕ) → a + 1 ≤ j → j < (a + 1) + n → p (f j) ≡ true → P (f j)) → P (f k)
    pick true t more = let later : a + 1 ≤ k = grind (arith, nat_tests) in more (tail (p (f a)) (filter p (map f (range_with_len (a + 1) n))) all) k later (omega (arith, high)) e
    pick false t more =
        let first : k ≤ a = grind (arith, nat_tests) in
        let same : a ≡ k = omega (arith, first, low) in
        subst (λ (j : ℕ). P (f j)) same (head (p (f a)) (filter p (map f (range_with_len (a + 1) n))) (ap (λ (j : ℕ). p (f j)) same ∙ e) all)

-- Where a zone is the deepest cut that the log shows for a candidate, it shows none at the names between.
pub passed-at-candidate : (policy : Policy) (log : Log) (zone c : DomainName) → Walked policy log (question c 2) zone
    → (k : ℕ) → length zone.labels < k → k < length c.labels → NoCutSeen policy log (last_name k c)
passed-at-candidate policy log zone c walked k low high =
    left-had (NoCutSeen policy log) (λ (d : DomainName). not (is_above d zone) && not (2 == 2 && same_names d c)) (λ (j : ℕ). last_name j c) 1 (length c.labels) walked
    k (omega (arith, low)) (omega (arith, high)) (passes (is_above (last_name k c) zone) (same_names (last_name k c) c) refl refl)
  where
    count : length (last_name k c).labels ≡ k
    count = last-length c k (omega (arith, high))

    passes : (a b : Bool) → is_above (last_name k c) zone ≡ a → same_names (last_name k c) c ≡ b → (not a && not b) ≡ true
    passes true b e f =
        let t = first_so (nat_le (length (last_name k c).labels) (length zone.labels)) _ (second_so (c.fqdn && zone.fqdn) _ e) in
        let le : length (last_name k c).labels ≤ length zone.labels = grind (arith, nat_tests) in
        absurd (omega (arith, le, count, low))
    passes false true e f =
        let same = length-same (pointwise same_letter) (last_name k c).labels c.labels (labels_same (last_name k c) c f) in
        absurd (omega (arith, same, count, high))
    passes false false e f = refl
