-- Copies of the entries, one behind the other, under numbers of their own.
use Rattle.std.proofs.Common.{◌≡◌, ◌≤◌, ◌<◌, ◌+◌, ◌∙◌, ℕ, Bool, cond, ◌^◌, List, [], ◌∷◌, ◌++◌, length, ap, sym, subst, None, append_assoc, append-nil, arith}
use Rattle.std.specs.Prelude.{count_by}
use Rattle.std.specs.Map.{values_of}
use Rattle.std.proofs.lemmas.List.Sums.{sum_by-append}
use Rattle.kept_responses.specs.declared.entry.Entry.{Entry}
use Rattle.kept_responses.specs.Entry.{is_for}
use Rattle.resolver_cache.specs.Writings.{number_of, AreBelow}
use Rattle.resolver_cache.specs.Index.{AreSingle}
use Rattle.resolver_cache.proofs.Counted.{one_more}
use Rattle.resolver_cache.proofs.SameQuestion.{same_question_equiv}
use Rattle.resolver_cache.proofs.ByNumber.{none_of_count, values_added}
use Rattle.resolver_cache.proofs.EntriesUnderQuestions.{length_values}

-- the next one is for no question of those before
pub new_one : (all es : List (ℕ × Entry)) (rest : List Entry) (e : Entry) → AreSingle all → values_of es ++ e ∷ rest ≡ values_of all → number_of (is_for e.query) es ≡ None
new_one all es rest e single same =
    let split = sum_by-append (λ o. cond (is_for e.query o) 1 0) (values_of es) (e ∷ rest) in
    let first = one_more (is_for e.query) e rest ∙ ap (λ (b : Bool). cond b 1 0 + count_by (is_for e.query) rest) (same_question_equiv.refl e.query) in
    let one : count_by (is_for e.query) (values_of es ++ e ∷ rest) ≤ 1 = subst (λ (l : List Entry). count_by (is_for e.query) l ≤ 1) (sym same) (single e.query) in
    none_of_count (is_for e.query) es (omega (arith, split, first, one))

pub above_next : (es : List (ℕ × Entry)) (n : ℕ) (e : Entry) → AreBelow n es → AreBelow (n + 1) (es ++ (n, e) ∷ [])
above_next [] n e h = (omega arith, tt)
above_next (o ∷ es) n e h = let below : o.0 < n = h.0 in (omega (arith, below), above_next es n e h.1)

pub one_moved : (all es more : List (ℕ × Entry)) (rest : List Entry) (n : ℕ) (e : Entry) → values_of es ++ e ∷ rest ≡ values_of all → more ≡ es ++ (n, e) ∷ [] → values_of more ++ rest ≡ values_of all
one_moved all es more rest n e same added =
    ap (λ (l : List (ℕ × Entry)). values_of l ++ rest) added
    ∙ ap (λ (l : List Entry). l ++ rest) (values_added es n e)
    ∙ append_assoc (values_of es) (e ∷ []) rest
    ∙ same

-- before the first one
pub begun_same : (copies es ws : List (ℕ × Entry)) (it : List Entry) → copies ≡ [] → it ≡ values_of ws → ws ≡ es → values_of copies ++ it ≡ values_of es
begun_same copies es ws it none all same = ap (λ (l : List (ℕ × Entry)). values_of l ++ it) none ∙ all ∙ ap values_of same

pub begun_above : (copies : List (ℕ × Entry)) → copies ≡ [] → AreBelow 0 copies
begun_above copies none = subst (λ (l : List (ℕ × Entry)). AreBelow 0 l) (sym none) tt

-- and after the last
pub all_moved : (copies es : List (ℕ × Entry)) (it : List Entry) → it ≡ [] → values_of copies ++ it ≡ values_of es → values_of copies ≡ values_of es
all_moved copies es it none same = sym (append-nil (values_of copies)) ∙ sym (ap (λ (l : List Entry). values_of copies ++ l) none) ∙ same

pub counted_on : (es : List (ℕ × Entry)) (it rest : List Entry) (n : ℕ) (e : Entry) → n + length it ≡ length (values_of es) → it ≡ e ∷ rest → n + 1 + length rest ≡ length (values_of es)
counted_on es it rest n e few more = let l = ap length more in omega (arith, few, l)

pub number_fits : (es ws : List (ℕ × Entry)) (it rest : List Entry) (n : ℕ) (e : Entry) → n + length it ≡ length (values_of es) → it ≡ e ∷ rest → ws ≡ es → length ws < 2 ^ 63 → n + 1 < 2 ^ 64
number_fits es ws it rest n e few more same fits =
    let l = ap length more in
    let v = length_values es in
    let w = ap length same in
    omega (arith, few, l, v, w, fits)

pub next_above : (es more : List (ℕ × Entry)) (n : ℕ) (e : Entry) → AreBelow n es → more ≡ es ++ (n, e) ∷ [] → AreBelow (n + 1) more
next_above es more n e h added = subst (λ (l : List (ℕ × Entry)). AreBelow (n + 1) l) (sym added) (above_next es n e h)

pub new_here : (all es : List (ℕ × Entry)) (it rest : List Entry) (e : Entry) → AreSingle all → values_of es ++ it ≡ values_of all → it ≡ e ∷ rest → number_of (is_for e.query) es ≡ None
new_here all es it rest e single same more = new_one all es rest e single (sym (ap (λ (l : List Entry). values_of es ++ l) more) ∙ same)

pub moved_on : (all es more : List (ℕ × Entry)) (it rest : List Entry) (n : ℕ) (e : Entry) → values_of es ++ it ≡ values_of all → it ≡ e ∷ rest → more ≡ es ++ (n, e) ∷ [] → values_of more ++ rest ≡ values_of all
moved_on all es more it rest n e same next added = one_moved all es more rest n e (sym (ap (λ (l : List Entry). values_of es ++ l) next) ∙ same) added

pub begun_few : (es ws : List (ℕ × Entry)) (it : List Entry) → it ≡ values_of ws → ws ≡ es → 0 + length it ≡ length (values_of es)
begun_few es ws it all same = let l = ap length (all ∙ ap values_of same) in omega (arith, l)
