-- The first entry that passes, by its number and by its place.
use Rattle.std.proofs.Common.{◌≡◌, ◌≤◌, ◌+◌, ◌∙◌, ◌||◌, ℕ, suc, Bool, true, false, cond, List, [], ◌∷◌, ◌++◌, refl, ap, sym, Option, Some, None, arith}
use Rattle.std.specs.Prelude.{find, position, remove, count_by, is_some}
use Rattle.std.specs.BTreeMap.{is_at}
use Rattle.std.specs.List.{list_any, position_from}
use Rattle.std.specs.List.Sorted.{IsStrictlySortedBy}
use Rattle.std.specs.Map.{keys_of, values_of, remove_entry}
use Rattle.std.specs.Ordering.{nat_cmp}
use Rattle.std.proofs.lemmas.Iterator.Adapters.{position_from-zero}
use Rattle.std.proofs.lemmas.Map.Keys.{sorted_tail}
use Rattle.kept_responses.specs.declared.entry.Entry.{Entry}
use Rattle.resolver_cache.specs.Writings.{under, number_of}
use Rattle.resolver_cache.proofs.NumberKeys.{at_itself}
use Rattle.resolver_cache.proofs.LeastDated.{found_later}
use Rattle.resolver_cache.proofs.Counted.{one_more}

-- what a number says that is the first whose entry passes
pub record IsFirst (p : Entry → Bool) (es : List (ℕ × Entry)) (n : ℕ) : Type 0 where
  pub entry : Entry
  pub there : under n es ≡ Some entry
  pub passes : p entry ≡ true
  pub found : find p (values_of es) ≡ Some entry
  pub place : ℕ
  pub is : (i : ℕ) → position_from p i (values_of es) ≡ Some (i + place)
  pub left : remove (values_of es) place ≡ values_of (remove_entry (is_at (nat_cmp n)) es)

pub is_first : (p : Entry → Bool) (es : List (ℕ × Entry)) (n : ℕ) → IsStrictlySortedBy nat_cmp (keys_of es) → number_of p es ≡ Some n → IsFirst p es n
is_first p [] n rising h = cc
is_first p (e ∷ es) n rising h = by (p e.1) refl (is_first p es n (sorted_tail nat_cmp e.0 (keys_of es) rising))
  where
    by : (b : Bool) → p e.1 ≡ b → (number_of p es ≡ Some n → IsFirst p es n) → IsFirst p (e ∷ es) n
    by true i later =
        let own : Some e.0 ≡ Some n = sym (ap (λ (b : Bool). cond b (Some e.0) (number_of p es)) i) ∙ h in
        let same : e.0 ≡ n = cc in
        let here : is_at (nat_cmp n) e.0 ≡ true = ap (λ (m : ℕ). is_at (nat_cmp n) m) same ∙ at_itself n in
        record {
          entry = e.1;
          there = ap (λ (b : Bool). cond b (Some e.1) (under n es)) here;
          passes = i;
          found = ap (λ (b : Bool). cond b (Some e.1) (find p (values_of es))) i;
          place = 0;
          is = λ k. ap (λ (b : Bool). cond b (Some k) (position_from p (k + 1) (values_of es))) i ∙ ap Some (omega arith);
          left = sym (ap (λ (b : Bool). values_of (cond b es (e ∷ remove_entry (is_at (nat_cmp n)) es))) here);
        }
    by false i later =
        let rest = later (sym (ap (λ (b : Bool). cond b (Some e.0) (number_of p es)) i) ∙ h) in
        let apart : is_at (nat_cmp n) e.0 ≡ false = found_later e es n rest.entry rising rest.there in
        record {
          entry = rest.entry;
          there = ap (λ (b : Bool). cond b (Some e.1) (under n es)) apart ∙ rest.there;
          passes = rest.passes;
          found = ap (λ (b : Bool). cond b (Some e.1) (find p (values_of es))) i ∙ rest.found;
          place = suc rest.place;
          is = λ k. ap (λ (b : Bool). cond b (Some k) (position_from p (k + 1) (values_of es))) i ∙ rest.is (k + 1) ∙ ap Some (omega arith);
          left = ap (λ (l : List Entry). e.1 ∷ l) rest.left ∙ sym (ap (λ (b : Bool). values_of (cond b es (e ∷ remove_entry (is_at (nat_cmp n)) es))) apart);
        }

pub first_place : (p : Entry → Bool) (es : List (ℕ × Entry)) (n : ℕ) (h : IsFirst p es n) → position p (values_of es) ≡ Some h.place
first_place p es n h = position_from-zero p (values_of es) ∙ h.is 0 ∙ ap Some (omega arith)

none_from : (p : Entry → Bool) (es : List (ℕ × Entry)) (i : ℕ) → number_of p es ≡ None → position_from p i (values_of es) ≡ None
none_from p [] i h = refl
none_from p (e ∷ es) i h = by (p e.1) refl (none_from p es (i + 1))
  where
    by : (b : Bool) → p e.1 ≡ b → (number_of p es ≡ None → position_from p (i + 1) (values_of es) ≡ None) → position_from p i (values_of (e ∷ es)) ≡ None
    by true j later = let some : Some e.0 ≡ None = sym (ap (λ (b : Bool). cond b (Some e.0) (number_of p es)) j) ∙ h in cc
    by false j later = ap (λ (b : Bool). cond b (Some i) (position_from p (i + 1) (values_of es))) j ∙ later (sym (ap (λ (b : Bool). cond b (Some e.0) (number_of p es)) j) ∙ h)

pub no_place : (p : Entry → Bool) (es : List (ℕ × Entry)) → number_of p es ≡ None → position p (values_of es) ≡ None
no_place p es h = position_from-zero p (values_of es) ∙ none_from p es 0 h

pub none_found : (p : Entry → Bool) (es : List (ℕ × Entry)) → number_of p es ≡ None → find p (values_of es) ≡ None
none_found p [] h = refl
none_found p (e ∷ es) h = by (p e.1) refl (none_found p es)
  where
    by : (b : Bool) → p e.1 ≡ b → (number_of p es ≡ None → find p (values_of es) ≡ None) → find p (values_of (e ∷ es)) ≡ None
    by true j later = let some : Some e.0 ≡ None = sym (ap (λ (b : Bool). cond b (Some e.0) (number_of p es)) j) ∙ h in cc
    by false j later = ap (λ (b : Bool). cond b (Some e.1) (find p (values_of es))) j ∙ later (sym (ap (λ (b : Bool). cond b (Some e.0) (number_of p es)) j) ∙ h)

pub some_passes : (p : Entry → Bool) (es : List (ℕ × Entry)) → is_some (number_of p es) ≡ list_any p (values_of es)
some_passes p [] = refl
some_passes p (e ∷ es) = by (p e.1) refl (some_passes p es)
  where
    by : (b : Bool) → p e.1 ≡ b → is_some (number_of p es) ≡ list_any p (values_of es) → is_some (number_of p (e ∷ es)) ≡ list_any p (values_of (e ∷ es))
    by true j later = ap (λ (b : Bool). is_some (cond b (Some e.0) (number_of p es))) j ∙ sym (ap (λ (b : Bool). b || list_any p (values_of es)) j)
    by false j later = ap (λ (b : Bool). is_some (cond b (Some e.0) (number_of p es))) j ∙ later ∙ sym (ap (λ (b : Bool). b || list_any p (values_of es)) j)

-- the first of either
abbrev pub or_later : Option ℕ → Option ℕ → Option ℕ
or_later None o = o
or_later (Some n) o = Some n

pub number_added : (p : Entry → Bool) (es : List (ℕ × Entry)) (m : ℕ) (e : Entry) → number_of p (es ++ (m, e) ∷ []) ≡ or_later (number_of p es) (cond (p e) (Some m) None)
number_added p [] m e = refl
number_added p (o ∷ es) m e = by (p o.1) refl (number_added p es m e)
  where
    by : (b : Bool) → p o.1 ≡ b → number_of p (es ++ (m, e) ∷ []) ≡ or_later (number_of p es) (cond (p e) (Some m) None)
        → number_of p (o ∷ es ++ (m, e) ∷ []) ≡ or_later (number_of p (o ∷ es)) (cond (p e) (Some m) None)
    by true j later =
        ap (λ (b : Bool). cond b (Some o.0) (number_of p (es ++ (m, e) ∷ []))) j
        ∙ sym (ap (λ (b : Bool). or_later (cond b (Some o.0) (number_of p es)) (cond (p e) (Some m) None)) j)
    by false j later =
        ap (λ (b : Bool). cond b (Some o.0) (number_of p (es ++ (m, e) ∷ []))) j
        ∙ later
        ∙ sym (ap (λ (b : Bool). or_later (cond b (Some o.0) (number_of p es)) (cond (p e) (Some m) None)) j)

-- one that does not pass leaves
pub other_gone : (p : Entry → Bool) (es : List (ℕ × Entry)) (n : ℕ) (g : Entry) → under n es ≡ Some g → p g ≡ false → number_of p (remove_entry (is_at (nat_cmp n)) es) ≡ number_of p es
other_gone p [] n g there fails = refl
other_gone p (e ∷ es) n g there fails = by (is_at (nat_cmp n) e.0) refl (λ h. other_gone p es n g h fails)
  where
    by : (b : Bool) → is_at (nat_cmp n) e.0 ≡ b → (under n es ≡ Some g → number_of p (remove_entry (is_at (nat_cmp n)) es) ≡ number_of p es)
        → number_of p (remove_entry (is_at (nat_cmp n)) (e ∷ es)) ≡ number_of p (e ∷ es)
    by true i later =
        let is : Some e.1 ≡ Some g = sym (ap (λ (b : Bool). cond b (Some e.1) (under n es)) i) ∙ there in
        let own : e.1 ≡ g = cc in
        ap (λ (b : Bool). number_of p (cond b es (e ∷ remove_entry (is_at (nat_cmp n)) es))) i
        ∙ sym (ap (λ (b : Bool). cond b (Some e.0) (number_of p es)) (ap p own ∙ fails))
    by false i later =
        ap (λ (b : Bool). number_of p (cond b es (e ∷ remove_entry (is_at (nat_cmp n)) es))) i
        ∙ ap (λ (o : Option ℕ). cond (p e.1) (Some e.0) o) (later (sym (ap (λ (b : Bool). cond b (Some e.1) (under n es)) i) ∙ there))

pub none_of_count : (p : Entry → Bool) (es : List (ℕ × Entry)) → count_by p (values_of es) ≡ 0 → number_of p es ≡ None
none_of_count p [] h = refl
none_of_count p (e ∷ es) h = by (p e.1) refl (none_of_count p es)
  where
    by : (b : Bool) → p e.1 ≡ b → (count_by p (values_of es) ≡ 0 → number_of p es ≡ None) → number_of p (e ∷ es) ≡ None
    by true i later = let more = one_more p e.1 (values_of es) ∙ ap (λ (b : Bool). cond b 1 0 + count_by p (values_of es)) i in absurd (omega (arith, more, h))
    by false i later =
        let more = one_more p e.1 (values_of es) ∙ ap (λ (b : Bool). cond b 1 0 + count_by p (values_of es)) i in
        ap (λ (b : Bool). cond b (Some e.0) (number_of p es)) i ∙ later (omega (arith, more, h))

some_counted : (p : Entry → Bool) (es : List (ℕ × Entry)) (n : ℕ) (g : Entry) → under n es ≡ Some g → p g ≡ true → 1 ≤ count_by p (values_of es)
some_counted p [] n g there passes = cc
some_counted p (e ∷ es) n g there passes = by (is_at (nat_cmp n) e.0) refl (λ h. some_counted p es n g h passes)
  where
    more : count_by p (e.1 ∷ values_of es) ≡ cond (p e.1) 1 0 + count_by p (values_of es)
    more = one_more p e.1 (values_of es)

    by : (b : Bool) → is_at (nat_cmp n) e.0 ≡ b → (under n es ≡ Some g → 1 ≤ count_by p (values_of es)) → 1 ≤ count_by p (e.1 ∷ values_of es)
    by true i later =
        let is : Some e.1 ≡ Some g = sym (ap (λ (b : Bool). cond b (Some e.1) (under n es)) i) ∙ there in
        let own : e.1 ≡ g = cc in
        let one = more ∙ ap (λ (b : Bool). cond b 1 0 + count_by p (values_of es)) (ap p own ∙ passes) in
        omega (arith, one)
    by false i later =
        let rest = later (sym (ap (λ (b : Bool). cond b (Some e.1) (under n es)) i) ∙ there) in
        omega (arith, more, rest)

-- the only one that passes leaves
pub own_gone : (p : Entry → Bool) (es : List (ℕ × Entry)) (n : ℕ) (g : Entry) → under n es ≡ Some g → p g ≡ true → count_by p (values_of es) ≤ 1 → number_of p (remove_entry (is_at (nat_cmp n)) es) ≡ None
own_gone p [] n g there passes one = refl
own_gone p (e ∷ es) n g there passes one = by (is_at (nat_cmp n) e.0) (p e.1) refl refl (λ h. own_gone p es n g h passes)
  where
    more : count_by p (e.1 ∷ values_of es) ≡ cond (p e.1) 1 0 + count_by p (values_of es)
    more = one_more p e.1 (values_of es)

    by : (b c : Bool) → is_at (nat_cmp n) e.0 ≡ b → p e.1 ≡ c
        → (under n es ≡ Some g → count_by p (values_of es) ≤ 1 → number_of p (remove_entry (is_at (nat_cmp n)) es) ≡ None)
        → number_of p (remove_entry (is_at (nat_cmp n)) (e ∷ es)) ≡ None
    by true c i j later =
        let is : Some e.1 ≡ Some g = sym (ap (λ (b : Bool). cond b (Some e.1) (under n es)) i) ∙ there in
        let own : e.1 ≡ g = cc in
        let all = more ∙ ap (λ (b : Bool). cond b 1 0 + count_by p (values_of es)) (ap p own ∙ passes) in
        ap (λ (b : Bool). number_of p (cond b es (e ∷ remove_entry (is_at (nat_cmp n)) es))) i
        ∙ none_of_count p es (omega (arith, all, one))
    by false true i j later =
        let rest = some_counted p es n g (sym (ap (λ (b : Bool). cond b (Some e.1) (under n es)) i) ∙ there) passes in
        let all = more ∙ ap (λ (b : Bool). cond b 1 0 + count_by p (values_of es)) j in
        absurd (omega (arith, all, rest, one))
    by false false i j later =
        let all = more ∙ ap (λ (b : Bool). cond b 1 0 + count_by p (values_of es)) j in
        ap (λ (b : Bool). number_of p (cond b es (e ∷ remove_entry (is_at (nat_cmp n)) es))) i
        ∙ ap (λ (b : Bool). cond b (Some e.0) (number_of p (remove_entry (is_at (nat_cmp n)) es))) j
        ∙ later (sym (ap (λ (b : Bool). cond b (Some e.1) (under n es)) i) ∙ there) (omega (arith, all, one))

-- one behind the others stays where another leaves
pub gone_before : (es : List (ℕ × Entry)) (n m : ℕ) (g e : Entry) → under n es ≡ Some g → remove_entry (is_at (nat_cmp n)) (es ++ (m, e) ∷ []) ≡ remove_entry (is_at (nat_cmp n)) es ++ (m, e) ∷ []
gone_before [] n m g e there = cc
gone_before (o ∷ es) n m g e there = by (is_at (nat_cmp n) o.0) refl (gone_before es n m g e)
  where
    by : (b : Bool) → is_at (nat_cmp n) o.0 ≡ b → (under n es ≡ Some g → remove_entry (is_at (nat_cmp n)) (es ++ (m, e) ∷ []) ≡ remove_entry (is_at (nat_cmp n)) es ++ (m, e) ∷ [])
        → remove_entry (is_at (nat_cmp n)) (o ∷ es ++ (m, e) ∷ []) ≡ remove_entry (is_at (nat_cmp n)) (o ∷ es) ++ (m, e) ∷ []
    by true i later =
        ap (λ (b : Bool). cond b (es ++ (m, e) ∷ []) (o ∷ remove_entry (is_at (nat_cmp n)) (es ++ (m, e) ∷ []))) i
        ∙ sym (ap (λ (b : Bool). cond b es (o ∷ remove_entry (is_at (nat_cmp n)) es) ++ (m, e) ∷ []) i)
    by false i later =
        ap (λ (b : Bool). cond b (es ++ (m, e) ∷ []) (o ∷ remove_entry (is_at (nat_cmp n)) (es ++ (m, e) ∷ []))) i
        ∙ ap (λ (l : List (ℕ × Entry)). o ∷ l) (later (sym (ap (λ (b : Bool). cond b (Some o.1) (under n es)) i) ∙ there))
        ∙ sym (ap (λ (b : Bool). cond b es (o ∷ remove_entry (is_at (nat_cmp n)) es) ++ (m, e) ∷ []) i)

-- nothing leaves where there is none
pub none_gone : (es : List (ℕ × Entry)) (n : ℕ) → under n es ≡ None → remove_entry (is_at (nat_cmp n)) es ≡ es
none_gone [] n none = refl
none_gone (o ∷ es) n none = by (is_at (nat_cmp n) o.0) refl (none_gone es n)
  where
    by : (b : Bool) → is_at (nat_cmp n) o.0 ≡ b → (under n es ≡ None → remove_entry (is_at (nat_cmp n)) es ≡ es) → remove_entry (is_at (nat_cmp n)) (o ∷ es) ≡ o ∷ es
    by true i later = let some : Some o.1 ≡ None = sym (ap (λ (b : Bool). cond b (Some o.1) (under n es)) i) ∙ none in cc
    by false i later =
        ap (λ (b : Bool). cond b es (o ∷ remove_entry (is_at (nat_cmp n)) es)) i
        ∙ ap (λ (l : List (ℕ × Entry)). o ∷ l) (later (sym (ap (λ (b : Bool). cond b (Some o.1) (under n es)) i) ∙ none))

-- the entries, with one more
pub values_added : (es : List (ℕ × Entry)) (m : ℕ) (e : Entry) → values_of (es ++ (m, e) ∷ []) ≡ values_of es ++ e ∷ []
values_added [] m e = refl
values_added (o ∷ es) m e = ap (λ (l : List Entry). o.1 ∷ l) (values_added es m e)
