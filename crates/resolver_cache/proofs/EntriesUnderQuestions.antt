-- Under each question stays the number of its entry, where one is written and one gives way.
use Rattle.std.proofs.Common.{◌≡◌, ◌≤◌, ◌<◌, ◌+◌, ◌∙◌, ℕ, suc, Bool, true, false, cond, List, [], ◌∷◌, ◌++◌, length, refl, ap, sym, subst, Option, Some, None, arith}
use Rattle.std.specs.Prelude.{count_by, nat_lt, ◌==◌, find, is_some, if◌then◌else◌}
use Rattle.std.specs.BTreeMap.{is_at, BTreeMap}
use Rattle.std.specs.List.{list_any}
use Rattle.std.specs.List.Sorted.{IsStrictlySortedBy}
use Rattle.std.specs.Map.{keys_of, values_of, remove_entry}
use Rattle.std.specs.Ordering.{nat_cmp}
use Rattle.dns_core.specs.declared.message.Query.{Query}
use Rattle.kept_responses.specs.declared.entry.Entry.{Entry}
use Rattle.kept_responses.specs.Entry.{is_for, is_same_question}
use Rattle.resolver_cache.specs.Cached.{IsWithin}
use Rattle.resolver_cache.specs.Placing.{least_expiry, place_of_least, giving_way, without, with_entry}
use Rattle.resolver_cache.specs.Writings.{under, number_of, number_of_least, least_of_full}
use Rattle.resolver_cache.specs.Index.{number_at, ArePlaced, AreSingle}
use Rattle.resolver_cache.proofs.CacheWithinSize.{in_the_room}
use Rattle.resolver_cache.proofs.SameQuestion.{same_question_equiv, for_the_same}
use Rattle.resolver_cache.proofs.ByNumber.{is_first, first_place, no_place, or_later, number_added, other_gone, own_gone, values_added, none_found, some_passes, gone_before}

-- where two tests are the same
same_numbers : (p q : Entry → Bool) → ((o : Entry) → p o ≡ q o) → (es : List (ℕ × Entry)) → number_of p es ≡ number_of q es
same_numbers p q same [] = refl
same_numbers p q same (e ∷ es) =
    ap (λ (b : Bool). cond b (Some e.0) (number_of p es)) (same e.1) ∙ ap (λ (o : Option ℕ). cond (q e.1) (Some e.0) o) (same_numbers p q same es)

or_none : (o : Option ℕ) → or_later o None ≡ o
or_none None = refl
or_none (Some n) = refl

-- an entry for a question that has none
pub placed_added : (es : List (ℕ × Entry)) (old new : BTreeMap Query ℕ) (m : ℕ) (e : Entry) → ArePlaced es old → number_of (is_for e.query) es ≡ None
    → ((q : Query) → number_at new q ≡ cond (is_same_question e.query q) (Some m) (number_at old q))
    → ArePlaced (es ++ (m, e) ∷ []) new
placed_added es old new m e placed none has q = by (is_for q e) refl
  where
    by : (b : Bool) → is_for q e ≡ b → number_at new q ≡ number_of (is_for q) (es ++ (m, e) ∷ [])
    by true h =
        has q ∙ ap (λ (b : Bool). cond b (Some m) (number_at old q)) h
        ∙ sym (number_added (is_for q) es m e
        ∙ ap (λ (b : Bool). or_later (number_of (is_for q) es) (cond b (Some m) None)) h
        ∙ ap (λ (o : Option ℕ). or_later o (Some m)) (same_numbers (is_for q) (is_for e.query) (for_the_same q e h) es ∙ none))
    by false h =
        has q ∙ ap (λ (b : Bool). cond b (Some m) (number_at old q)) h
        ∙ placed q
        ∙ sym (number_added (is_for q) es m e
        ∙ ap (λ (b : Bool). or_later (number_of (is_for q) es) (cond b (Some m) None)) h
        ∙ or_none (number_of (is_for q) es))

-- an entry that gives way with its question
pub placed_gone : (es : List (ℕ × Entry)) (old new : BTreeMap Query ℕ) (n : ℕ) (g : Entry) → ArePlaced es old → AreSingle es → under n es ≡ Some g
    → ((q : Query) → number_at new q ≡ cond (is_same_question g.query q) None (number_at old q))
    → ArePlaced (remove_entry (is_at (nat_cmp n)) es) new
placed_gone es old new n g placed single there has q = by (is_for q g) refl
  where
    by : (b : Bool) → is_for q g ≡ b → number_at new q ≡ number_of (is_for q) (remove_entry (is_at (nat_cmp n)) es)
    by true h =
        has q ∙ ap (λ (b : Bool). cond b None (number_at old q)) h ∙ sym (own_gone (is_for q) es n g there h (single q))
    by false h =
        has q ∙ ap (λ (b : Bool). cond b None (number_at old q)) h ∙ placed q ∙ sym (other_gone (is_for q) es n g there h)

-- an entry in the place of the one for its question
pub placed_over : (es : List (ℕ × Entry)) (old new : BTreeMap Query ℕ) (n m : ℕ) (e g : Entry) → ArePlaced es old → AreSingle es → under n es ≡ Some g → is_for e.query g ≡ true
    → ((q : Query) → number_at new q ≡ cond (is_same_question e.query q) (Some m) (number_at old q))
    → ArePlaced (remove_entry (is_at (nat_cmp n)) es ++ (m, e) ∷ []) new
placed_over es old new n m e g placed single there own has q = by (is_for q e) refl
  where
    alike : is_for q g ≡ is_for q e
    alike = same_question_equiv.congr g.query e.query q own

    left : List (ℕ × Entry)
    left = remove_entry (is_at (nat_cmp n)) es

    by : (b : Bool) → is_for q e ≡ b → number_at new q ≡ number_of (is_for q) (remove_entry (is_at (nat_cmp n)) es ++ (m, e) ∷ [])
    by true h =
        has q ∙ ap (λ (b : Bool). cond b (Some m) (number_at old q)) h
        ∙ sym (number_added (is_for q) left m e
        ∙ ap (λ (b : Bool). or_later (number_of (is_for q) left) (cond b (Some m) None)) h
        ∙ ap (λ (o : Option ℕ). or_later o (Some m)) (own_gone (is_for q) es n g there (alike ∙ h) (single q)))
    by false h =
        has q ∙ ap (λ (b : Bool). cond b (Some m) (number_at old q)) h
        ∙ placed q
        ∙ sym (number_added (is_for q) left m e
        ∙ ap (λ (b : Bool). or_later (number_of (is_for q) left) (cond b (Some m) None)) h
        ∙ or_none (number_of (is_for q) left)
        ∙ other_gone (is_for q) es n g there (alike ∙ h))

-- what stands under a question where nothing changed
pub placed_still : (es more : List (ℕ × Entry)) (old new : BTreeMap Query ℕ) → ArePlaced es old → more ≡ es → ((q : Query) → number_at new q ≡ number_at old q) → ArePlaced more new
placed_still es more old new placed same still q = still q ∙ placed q ∙ ap (λ (l : List (ℕ × Entry)). number_of (is_for q) l) (sym same)

positive_is : (n : ℕ) → 0 < n → (n == 0) ≡ false
positive_is n h = grind arith

-- the list after a write of a question that is there
pub values_over : (size : ℕ) (es : List (ℕ × Entry)) (n m : ℕ) (e : Entry) → 0 < size → IsStrictlySortedBy nat_cmp (keys_of es) → number_of (is_for e.query) es ≡ Some n
    → values_of (remove_entry (is_at (nat_cmp n)) es ++ (m, e) ∷ []) ≡ with_entry size e (values_of es)
values_over size es n m e some rising h =
    let first = is_first (is_for e.query) es n rising h in
    let vs = values_of es in
    values_added (remove_entry (is_at (nat_cmp n)) es) m e
    ∙ ap (λ (l : List Entry). l ++ e ∷ []) (sym first.left)
    ∙ sym (ap (λ (b : Bool). if b then vs else without vs (giving_way size e.query vs) ++ e ∷ []) (positive_is size some)
    ∙ ap (λ (o : Option ℕ). without vs (elim o [ Some i ↦ Some i | None ↦ if nat_lt (length vs) size then None else place_of_least vs ]) ++ e ∷ []) (first_place (is_for e.query) es n first))

-- the entries that a number leaves
abbrev pub left_by : Option ℕ → List (ℕ × Entry) → List (ℕ × Entry)
left_by None es = es
left_by (Some n) es = remove_entry (is_at (nat_cmp n)) es

by_least : (es : List (ℕ × Entry)) (least : Option ℕ) → IsStrictlySortedBy nat_cmp (keys_of es) → number_of_least es ≡ least → without (values_of es) (place_of_least (values_of es)) ≡ values_of (left_by least es)
by_least es None rising h = ap (without (values_of es)) (no_place (λ o. o.expiry == least_expiry (values_of es)) es h)
by_least es (Some n) rising h =
    let first = is_first (λ o. o.expiry == least_expiry (values_of es)) es n rising h in
    ap (without (values_of es)) (first_place (λ o. o.expiry == least_expiry (values_of es)) es n first) ∙ first.left

pub length_values : (es : List (ℕ × Entry)) → length (values_of es) ≡ length es
length_values [] = refl
length_values (e ∷ es) = ap suc (length_values es)

-- the list after a write of a new question
pub values_new : (size : ℕ) (es : List (ℕ × Entry)) (m : ℕ) (e : Entry) → 0 < size → IsStrictlySortedBy nat_cmp (keys_of es) → number_of (is_for e.query) es ≡ None
    → values_of (left_by (least_of_full size (length es) es) es ++ (m, e) ∷ []) ≡ with_entry size e (values_of es)
values_new size es m e some rising h =
    let vs = values_of es in
    values_added (left_by (least_of_full size (length es) es) es) m e
    ∙ ap (λ (l : List Entry). l ++ e ∷ []) (by (nat_lt (length es) size) refl)
    ∙ sym (ap (λ (b : Bool). if b then vs else without vs (giving_way size e.query vs) ++ e ∷ []) (positive_is size some)
    ∙ ap (λ (o : Option ℕ). without vs (elim o [ Some i ↦ Some i | None ↦ if nat_lt (length vs) size then None else place_of_least vs ]) ++ e ∷ []) (no_place (is_for e.query) es h))
  where
    by : (b : Bool) → nat_lt (length es) size ≡ b → values_of (left_by (least_of_full size (length es) es) es) ≡ without (values_of es) (if nat_lt (length (values_of es)) size then None else place_of_least (values_of es))
    by true h =
        ap (λ (b : Bool). values_of (left_by (if b then None else number_of_least es) es)) h
        ∙ sym (ap (λ (n : ℕ). without (values_of es) (if nat_lt n size then None else place_of_least (values_of es))) (length_values es)
        ∙ ap (λ (b : Bool). without (values_of es) (if b then None else place_of_least (values_of es))) h)
    by false h =
        ap (λ (b : Bool). values_of (left_by (if b then None else number_of_least es) es)) h
        ∙ sym (by_least es (number_of_least es) rising refl)
        ∙ sym (ap (λ (n : ℕ). without (values_of es) (if nat_lt n size then None else place_of_least (values_of es))) (length_values es)
        ∙ ap (λ (b : Bool). without (values_of es) (if b then None else place_of_least (values_of es))) h)

-- what the number under a question finds
pub found_by : (q : Query) (es : List (ℕ × Entry)) (places : BTreeMap Query ℕ) (n : ℕ) → ArePlaced es places → IsStrictlySortedBy nat_cmp (keys_of es) → number_at places q ≡ Some n → under n es ≡ find (is_for q) (values_of es)
found_by q es places n placed rising h =
    let first = is_first (is_for q) es n rising (sym (placed q) ∙ h) in
    first.there ∙ sym first.found

pub found_none : (q : Query) (es : List (ℕ × Entry)) (places : BTreeMap Query ℕ) → ArePlaced es places → number_at places q ≡ None → find (is_for q) (values_of es) ≡ None
found_none q es places placed h = none_found (is_for q) es (sym (placed q) ∙ h)

pub has_one : (q : Query) (es : List (ℕ × Entry)) (places : BTreeMap Query ℕ) → ArePlaced es places → is_some (number_at places q) ≡ list_any (is_for q) (values_of es)
has_one q es places placed = ap is_some (placed q) ∙ some_passes (is_for q) es

-- the lists that a write goes through
pub over_list : (p : Entry → Bool) (es more final : List (ℕ × Entry)) (n m : ℕ) (e : Entry) → number_of p es ≡ Some n → IsStrictlySortedBy nat_cmp (keys_of es)
    → more ≡ es ++ (m, e) ∷ [] → final ≡ remove_entry (is_at (nat_cmp n)) more → final ≡ remove_entry (is_at (nat_cmp n)) es ++ (m, e) ∷ []
over_list p es more final n m e h rising added left =
    let first = is_first p es n rising h in
    left ∙ ap (λ (l : List (ℕ × Entry)). remove_entry (is_at (nat_cmp n)) l) added ∙ gone_before es n m first.entry e first.there

pub over_placed : (es final : List (ℕ × Entry)) (old new : BTreeMap Query ℕ) (n m : ℕ) (e : Entry) (key : Query) → ArePlaced es old → AreSingle es → IsStrictlySortedBy nat_cmp (keys_of es) → number_of (is_for e.query) es ≡ Some n → key ≡ e.query
    → ((q : Query) → number_at new q ≡ cond (is_same_question key q) (Some m) (number_at old q))
    → final ≡ remove_entry (is_at (nat_cmp n)) es ++ (m, e) ∷ []
    → ArePlaced final new
over_placed es final old new n m e key placed single rising h same has left =
    let first = is_first (is_for e.query) es n rising h in
    subst (λ (l : List (ℕ × Entry)). ArePlaced l new) (sym left)
    (placed_over es old new n m e first.entry placed single first.there first.passes
    (subst (λ (k : Query). (q : Query) → number_at new q ≡ cond (is_same_question k q) (Some m) (number_at old q)) same has))

pub added_placed : (es final : List (ℕ × Entry)) (old new : BTreeMap Query ℕ) (m : ℕ) (e : Entry) (key : Query) → ArePlaced es old → number_of (is_for e.query) es ≡ None → key ≡ e.query
    → ((q : Query) → number_at new q ≡ cond (is_same_question key q) (Some m) (number_at old q))
    → final ≡ es ++ (m, e) ∷ []
    → ArePlaced final new
added_placed es final old new m e key placed h same has left =
    subst (λ (l : List (ℕ × Entry)). ArePlaced l new) (sym left)
    (placed_added es old new m e placed h
    (subst (λ (k : Query). (q : Query) → number_at new q ≡ cond (is_same_question k q) (Some m) (number_at old q)) same has))

least_is_there : (size count n : ℕ) (es : List (ℕ × Entry)) → least_of_full size count es ≡ Some n → number_of_least es ≡ Some n
least_is_there size count n es h = by (nat_lt count size) refl
  where
    by : (b : Bool) → nat_lt count size ≡ b → number_of_least es ≡ Some n
    by true i = let none = sym (ap (λ (b : Bool). if b then None else number_of_least es) i) ∙ h in cc
    by false i = sym (ap (λ (b : Bool). if b then None else number_of_least es) i) ∙ h

pub new_values : (size : ℕ) (es more final : List (ℕ × Entry)) (n m : ℕ) (e : Entry) → 0 < size → IsStrictlySortedBy nat_cmp (keys_of es) → number_of (is_for e.query) es ≡ None → least_of_full size (length es) es ≡ Some n
    → more ≡ es ++ (m, e) ∷ [] → final ≡ remove_entry (is_at (nat_cmp n)) more → values_of final ≡ with_entry size e (values_of es)
new_values size es more final n m e some rising h least added left =
    let is = over_list (λ o. o.expiry == least_expiry (values_of es)) es more final n m e (least_is_there size (length es) n es least) rising added left in
    ap values_of is
    ∙ ap (λ (o : Option ℕ). values_of (left_by o es ++ (m, e) ∷ [])) (sym least)
    ∙ values_new size es m e some rising h

pub room_values : (size : ℕ) (es final : List (ℕ × Entry)) (m : ℕ) (e : Entry) → 0 < size → IsStrictlySortedBy nat_cmp (keys_of es) → number_of (is_for e.query) es ≡ None → least_of_full size (length es) es ≡ None
    → final ≡ es ++ (m, e) ∷ [] → values_of final ≡ with_entry size e (values_of es)
room_values size es final m e some rising h least added =
    ap values_of added
    ∙ ap (λ (o : Option ℕ). values_of (left_by o es ++ (m, e) ∷ [])) (sym least)
    ∙ values_new size es m e some rising h

-- no two are for one question after a write of a new one
pub single_added : (size m : ℕ) (es final : List (ℕ × Entry)) (e : Entry) → IsWithin size (values_of es) → number_of (is_for e.query) es ≡ None → final ≡ es ++ (m, e) ∷ [] → AreSingle final
single_added size m es final e within h added =
    let vs = values_of es in
    let wider : IsWithin (length vs + 1) vs = record { few = omega arith; single = within.single } in
    let grown = in_the_room (length vs + 1) vs e wider (no_place (is_for e.query) es h) (omega arith) in
    subst (λ (l : List (ℕ × Entry)). AreSingle l) (sym added) (subst (λ (l : List Entry). (q : Query) → count_by (is_for q) l ≤ 1) (sym (values_added es m e)) grown.single)
