-- Writing keeps a cache within its size, with one entry for a question.
use Rattle.std.proofs.Common.{◌≡◌, ℕ, ◌+◌, ◌<◌, ◌≤◌, Bool, true, false, cond, nat_lt, List, [], ◌∷◌, ◌++◌, length, take, drop, suc, Option, Some, None, refl, sym, ap, subst, ◌∙◌, arith, append_assoc, Result, Ok, Err, OnOk, OnErr}
use Rattle.std.specs.Prelude.{count_by, position, remove, ◌==◌, if◌then◌else◌}
use Rattle.std.proofs.lemmas.Bool.{ltb-true, ltb-false}
use Rattle.std.proofs.lemmas.List.{length_push, take-append-le, drop-append-le}
use Rattle.std.proofs.lemmas.List.Edits.{length-remove}
use Rattle.std.proofs.lemmas.List.Quantifiers.{position-Some}
use Rattle.dns_core.specs.declared.message.Query.{Query}
use Rattle.kept_responses.specs.declared.entry.Entry.{Entry}
use Rattle.kept_responses.specs.Entry.{is_for}
use Rattle.resolver_cache.specs.Cached.{IsWithin}
use Rattle.resolver_cache.specs.Placing.{least_expiry, place_of_least, giving_way, without, with_entry}
use Rattle.resolver_cache.proofs.Counted.{one_added, one_gone, none_passes, none_counted, same_counted}
use Rattle.resolver_cache.proofs.SameQuestion.{for_the_same}
use Rattle.resolver_cache.proofs.LeastThere.{least_has_a_place}

pub remove-push : {X : Type 0} (xs : List X) (x : X) (i : ℕ) → i < length xs → remove (xs ++ x ∷ []) i ≡ remove xs i ++ x ∷ []
remove-push {X} xs x i h =
    let front : take i (xs ++ x ∷ []) ≡ take i xs = take-append-le i xs (x ∷ []) (omega (arith, h)) in
    let back : drop (suc i) (xs ++ x ∷ []) ≡ drop (suc i) xs ++ x ∷ [] = drop-append-le (suc i) xs (x ∷ []) (omega (arith, h)) in
    ap (λ (ys : List X). ys ++ drop (suc i) (xs ++ x ∷ [])) front
    ∙ ap (λ (ys : List X). take i xs ++ ys) back
    ∙ sym (append_assoc (take i xs) (drop (suc i) xs) (x ∷ []))

-- with a new entry at the end, where there is room and none is for its question
grown : (size : ℕ) (es kept : List Entry) (e : Entry) → IsWithin size es → length kept + 1 ≤ size → ((q : Query) → count_by (is_for q) kept ≤ count_by (is_for q) es) → count_by (is_for e.query) kept ≡ 0 → IsWithin size (kept ++ e ∷ [])
grown size es kept e within room fewer none = record {
  few = let l = length_push kept e in omega (arith, l, room);
  single = λ q. at_most_one q (is_for q e) refl;
}
  where
    at_most_one : (q : Query) (b : Bool) → is_for q e ≡ b → count_by (is_for q) (kept ++ e ∷ []) ≤ 1
    at_most_one q true h =
        let added = one_added (is_for q) e kept ∙ ap (λ c. count_by (is_for q) kept + cond c 1 0) h in
        let same = same_counted (is_for q) (is_for e.query) (for_the_same q e h) kept in
        omega (arith, added, same, none)
    at_most_one q false h =
        let added = one_added (is_for q) e kept ∙ ap (λ c. count_by (is_for q) kept + cond c 1 0) h in
        let before = within.single q in
        let less = fewer q in
        omega (arith, added, before, less)

-- where one entry leaves
left_over : (es : List Entry) (e : Entry) (i : ℕ) → i < length es → (q : Query) → count_by (is_for q) (remove es i) ≤ count_by (is_for q) es
left_over es e i h q = let gone = one_gone (is_for q) es i e h in omega (arith, gone)

in_place_of_own : (size : ℕ) (es : List Entry) (e : Entry) (i : ℕ) → IsWithin size es → position (is_for e.query) es ≡ Some i → IsWithin size (remove es i ++ e ∷ [])
in_place_of_own size es e i within h =
    let there = position-Some (is_for e.query) es i e h in
    let gone = one_gone (is_for e.query) es i e there.0 ∙ refl in
    let own = ap (λ c. count_by (is_for e.query) (remove es i) + cond c 1 0) there.1 in
    let l = length-remove es i there.0 in
    let before = within.single e.query in
    let few = within.few in
    grown size es (remove es i) e within (omega (arith, l, few)) (left_over es e i there.0) (omega (arith, gone, own, before))

in_place_of_least : (size : ℕ) (es : List Entry) (e : Entry) (i : ℕ) → IsWithin size es → position (is_for e.query) es ≡ None → place_of_least es ≡ Some i → IsWithin size (remove es i ++ e ∷ [])
in_place_of_least size es e i within none h =
    let there = position-Some (λ o. o.expiry == least_expiry es) es i e h in
    let l = length-remove es i there.0 in
    let few = within.few in
    let before = none_counted (is_for e.query) es (none_passes (is_for e.query) es none) in
    let less = left_over es e i there.0 e.query in
    grown size es (remove es i) e within (omega (arith, l, few)) (left_over es e i there.0) (omega (arith, before, less))

pub in_the_room : (size : ℕ) (es : List Entry) (e : Entry) → IsWithin size es → position (is_for e.query) es ≡ None → length es < size → IsWithin size (es ++ e ∷ [])
in_the_room size es e within none room =
    grown size es es e within (omega (arith, room)) (λ q. omega arith) (none_counted (is_for e.query) es (none_passes (is_for e.query) es none))

in_a_full_one : (size : ℕ) (es : List Entry) (e : Entry) (o : Option ℕ) → IsWithin size es → 0 < size → size ≤ length es → position (is_for e.query) es ≡ None → place_of_least es ≡ o → IsWithin size (without es o ++ e ∷ [])
in_a_full_one size es e (Some i) within some full none h = in_place_of_least size es e i within none h
in_a_full_one size es e None within some full none h =
    let empty = ap length (least_has_a_place es h) in
    absurd (omega (arith, empty, some, full))

by_room : (size : ℕ) (es : List Entry) (e : Entry) (b : Bool) → IsWithin size es → 0 < size → position (is_for e.query) es ≡ None → nat_lt (length es) size ≡ b → IsWithin size (without es (if b then None else place_of_least es) ++ e ∷ [])
by_room size es e true within some none h = in_the_room size es e within none (ltb-true (length es) size h)
by_room size es e false within some none h =
    in_a_full_one size es e (place_of_least es) within some (ltb-false (length es) size h) none refl

by_own : (size : ℕ) (es : List Entry) (e : Entry) (o : Option ℕ) → IsWithin size es → 0 < size → position (is_for e.query) es ≡ o → IsWithin size (without es (elim o [ Some i ↦ Some i | None ↦ if nat_lt (length es) size then None else place_of_least es ]) ++ e ∷ [])
by_own size es e (Some i) within some h = in_place_of_own size es e i within h
by_own size es e None within some h = by_room size es e (nat_lt (length es) size) within some h refl

positive : (n : ℕ) → (n == 0) ≡ false → 0 < n
positive n h = grind arith

by_size : (size : ℕ) (es : List Entry) (e : Entry) (b : Bool) → IsWithin size es → (size == 0) ≡ b → IsWithin size (if b then es else without es (giving_way size e.query es) ++ e ∷ [])
by_size size es e true within h = within
by_size size es e false within h = by_own size es e (position (is_for e.query) es) within (positive size h) refl

pub keeps_within : (size : ℕ) (es : List Entry) (e : Entry) → IsWithin size es → IsWithin size (with_entry size e es)
keeps_within size es e within = by_size size es e (size == 0) within refl

-- so it is whether there was memory or not
pub kept_by_put : {T E : Type 0} (outcome : Result T E) (size : ℕ) (e : Entry) (old new : List Entry) → OnOk outcome (new ≡ with_entry size e old) → OnErr outcome (new ≡ old) → IsWithin size old → IsWithin size new
kept_by_put (Ok done) size e old new ok err within = subst (IsWithin size) (sym ok) (keeps_within size old e within)
kept_by_put (Err why) size e old new ok err within = subst (IsWithin size) (sym err) within
