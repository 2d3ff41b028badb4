-- The line at which a text says that a script is told.
use Rattle.std.proofs.Common.{◌≡◌, ◌≤◌, ◌<◌, ℕ, zero, suc, eqb, ◌+◌, Bool, true, false, cond, List, [], ◌∷◌, ◌++◌, length, Option, Some, refl, sym, ap, subst, ◌∙◌, arith, append_assoc, length-append, inl, inr}
use Rattle.std.specs.Prelude.{Contains, codes}
use Rattle.std.specs.Str.{bytes_eq}
use Rattle.std.proofs.lemmas.List.{append-nil}
use Rattle.text_lines.specs.Pieces.{pieces}
use Rattle.text_lines.specs.Spelling.{spelled}
use Rattle.text_lines.proofs.TextIsCut.{split_cons}
use Rattle.text_lines.proofs.StepsThatFail.{chosen, some_is}
use Rattle.text_lines.proofs.FieldLaws.{bytes_same}
use Rattle.text_lines.specs.LineSpelling.{told_words}
use Rattle.recursor_text.specs.Faults.{CanStand, IsWhole, IsFirstBad, IsTrailing, IsCut}
use Rattle.recursor_command.specs.Checking.{TellsScript, TellsNoScript, first_told}

abbrev pub told : List ℕ
told = spelled told_words

-- ---- lists of lines

cons_is : (x y : List ℕ) (xs ys : List (List ℕ)) → x ∷ xs ≡ y ∷ ys → (x ≡ y) × (xs ≡ ys)
cons_is x y xs ys e = (cc, cc)

cons_same : (x y : List ℕ) (xs ys : List (List ℕ)) → x ≡ y → xs ≡ ys → x ∷ xs ≡ y ∷ ys
cons_same x y xs ys e f = cc

-- of two fronts of the same lines the shorter one begins the longer one
pub front_of : (xs ys zs ws : List (List ℕ)) → xs ++ ys ≡ zs ++ ws → length xs ≤ length zs → (more : List (List ℕ)) × (zs ≡ xs ++ more)
front_of [] ys zs ws e le = (zs, refl)
front_of (x ∷ xs) ys [] ws e le = absurd (omega (arith, le))
front_of (x ∷ xs) ys (z ∷ zs) ws e le =
    let t = cons_is x z (xs ++ ys) (zs ++ ws) e in
    let r = front_of xs ys zs ws t.1 (omega (arith, le)) in
    (r.0, cons_same z x zs (xs ++ r.0) (sym t.0) r.1)

pub length_push : (xs : List (List ℕ)) (x : List ℕ) → length (xs ++ x ∷ []) ≡ length xs + 1
length_push xs x = length-append xs (x ∷ [])

stand_front : (xs ys : List (List ℕ)) → CanStand (xs ++ ys) → CanStand xs
stand_front xs ys h = (h.0, h.1, ys ++ h.2, h.3, h.4 ∙ append_assoc xs ys h.2)

-- ---- the first line that says it

told_is_told : (line : List ℕ) → line ≡ told → bytes_eq line (codes "told script") ≡ true
told_is_told line is = ap (λ (w : List ℕ). bytes_eq w (codes "told script")) is

other_line : (line : List ℕ) → bytes_eq line (codes "told script") ≡ false → line ≡ told → ⊥
other_line line differs is = let same = told_is_told line is in cc

not_in : (line : List ℕ) (ls : List (List ℕ)) → (line ≡ told → ⊥) → (Contains ls told → ⊥) → Contains (line ∷ ls) told → ⊥
not_in line ls other none (zero, lt, is) = other is
not_in line ls other none (suc k, lt, is) = none (k, omega (arith, lt), is)

record FirstAt (n m : ℕ) (lines : List (List ℕ)) : Type 0 where
  before : List (List ℕ)
  next : List ℕ
  more : List (List ℕ)
  cut : lines ≡ before ++ told ∷ next ∷ more
  place : m ≡ n + length before
  first : Contains before told → ⊥

none_before : Contains {X = List ℕ} [] told → ⊥
none_before c = absurd (omega (arith, c.1))

first_at : (n m : ℕ) (lines : List (List ℕ)) → first_told n lines ≡ Some m → FirstAt n m lines
first_at n m [] e = absurd cc
first_at n m (rest ∷ []) e = absurd cc
first_at n m (line ∷ next ∷ more) e = elim (chosen (bytes_eq line (codes "told script")) (Some n) (first_told (n + 1) (next ∷ more)) (Some m) e) [
  | inl k ↦ record {
    before = [];
    next = next;
    more = more;
    cut = ap (λ (w : List ℕ). w ∷ next ∷ more) (bytes_same line (codes "told script") k.0);
    place = let is = some_is n m k.1 in omega (arith, is);
    first = none_before;
  }
  | inr k ↦
      let f = first_at (n + 1) m (next ∷ more) k.1 in
      record {
        before = line ∷ f.before;
        next = f.next;
        more = f.more;
        cut = ap (λ (ls : List (List ℕ)). line ∷ ls) f.cut;
        place = let at = f.place in omega (arith, at);
        first = not_in line f.before (other_line line k.0) f.first;
      }
]

abbrev pub Within : Option ℕ → ℕ → Type 0
Within found most = (m : ℕ) × (found ≡ Some m) × (m ≤ most)

one_more : (b : Bool) (n most : ℕ) (later : Option ℕ) → n ≤ most → Within later most → Within (cond b (Some n) later) most
one_more true n most later le w = (n, refl, le)
one_more false n most later le w = w

-- where a line says it, the first that does is this one or one before it
pub within : (n : ℕ) (before : List (List ℕ)) (next : List ℕ) (more : List (List ℕ)) → Within (first_told n (before ++ told ∷ next ∷ more)) (n + length before)
within n [] next more = (n, refl, omega arith)
within n (line ∷ []) next more = one_more (bytes_eq line (codes "told script")) n (n + 1) (first_told (n + 1) (told ∷ next ∷ more)) (omega arith) (n + 1, refl, omega arith)
within n (line ∷ l ∷ ls) next more =
    let w = within (n + 1) (l ∷ ls) next more in
    one_more (bytes_eq line (codes "told script")) n (n + suc (length (l ∷ ls))) (first_told (n + 1) (l ∷ (ls ++ told ∷ next ∷ more))) (omega arith) (w.0, w.1, omega (arith, w.2))

-- of a line and what follows its line feed
pub told_step : (n : ℕ) (line after : List ℕ) → first_told n (line ∷ pieces 10 after) ≡ cond (bytes_eq line (codes "told script")) (Some n) (first_told (n + 1) (pieces 10 after))
told_step n line after =
    let c = split_cons (λ b. eqb b 10) after in
    ap (λ (ls : List (List ℕ)). first_told n (line ∷ ls)) c.2 ∙ ap (λ (ls : List (List ℕ)). cond (bytes_eq line (codes "told script")) (Some n) (first_told (n + 1) ls)) (sym c.2)

-- ---- where a text fails

-- What a text that fails at a line is up to there: lines that can stand, and then one that cannot, where it is a whole line.
pub record Stood (bytes : List ℕ) (number : ℕ) : Type 0 where
  pub before : List (List ℕ)
  pub line : List ℕ
  pub more : List (List ℕ)
  pub cut : pieces 10 bytes ≡ before ++ line ∷ more
  pub place : number ≡ length before + 1
  pub stands : CanStand before
  pub fails : (next : List ℕ) (rest : List (List ℕ)) → more ≡ next ∷ rest → CanStand (before ++ line ∷ []) → ⊥

nothing_follows : (next : List ℕ) (rest : List (List ℕ)) → [] ≡ next ∷ rest → ⊥
nothing_follows next rest e = absurd cc

pub first_bad : (bytes : List ℕ) (number : ℕ) → IsFirstBad bytes number → Stood bytes number
first_bad bytes number f = record { before = f.before; line = f.line; more = f.next ∷ f.more; cut = f.cut; place = f.place; stands = f.stands; fails = λ next rest e. f.fails }

whole_stands : (lines : List (List ℕ)) → IsWhole lines → CanStand lines
whole_stands lines w = (w.0, w.1, [], w.2, w.3 ∙ sym (append-nil lines))

pub trailing : (bytes : List ℕ) (number : ℕ) → IsTrailing bytes number → Stood bytes number
trailing bytes number f = record { before = f.before; line = f.rest; more = []; cut = f.cut; place = f.place; stands = whole_stands f.before f.ended; fails = λ next rest e c. nothing_follows next rest e }

pub cut_off : (bytes : List ℕ) (number : ℕ) → IsCut bytes number → Stood bytes number
cut_off bytes number f = record { before = f.before; line = f.rest; more = []; cut = f.cut; place = f.place; stands = f.stands; fails = λ next rest e c. nothing_follows next rest e }

-- a line before it that says it can stand
pub tells : (bytes : List ℕ) (number m : ℕ) → length bytes ≤ 16777216 → Stood bytes number → first_told 1 (pieces 10 bytes) ≡ Some m → m < number → TellsScript bytes m
tells bytes number m short s e lt =
    let f = first_at 1 m (pieces 10 bytes) e in
    let at = f.place in
    let place = s.place in
    let pushed = length_push f.before told in
    let same : (f.before ++ told ∷ []) ++ (f.next ∷ f.more) ≡ s.before ++ s.line ∷ s.more = append_assoc f.before (told ∷ []) (f.next ∷ f.more) ∙ sym f.cut ∙ s.cut in
    let r = front_of (f.before ++ told ∷ []) (f.next ∷ f.more) s.before (s.line ∷ s.more) same (omega (arith, at, place, pushed, lt)) in
    record {
      short = short;
      before = f.before;
      next = f.next;
      more = f.more;
      cut = f.cut;
      place = omega (arith, at);
      stands = stand_front (f.before ++ told ∷ []) r.0 (subst CanStand r.1 s.stands);
      first = f.first;
    }

-- lines that can stand and are more than those before the one that fails do not go on behind it
not_past : (before : List (List ℕ)) (line : List ℕ) (more xs : List (List ℕ)) (next : List ℕ) (rest : List (List ℕ)) → before ++ line ∷ more ≡ xs ++ next ∷ rest → length before + 1 ≤ length xs
    → CanStand xs → ((next : List ℕ) (rest : List (List ℕ)) → more ≡ next ∷ rest → CanStand (before ++ line ∷ []) → ⊥) → ⊥
not_past before line [] xs next rest e le stands fails =
    let lengths = sym (length-append before (line ∷ [])) ∙ ap length e ∙ length-append xs (next ∷ rest) in
    absurd (omega (arith, lengths, le))
not_past before line (l ∷ ls) xs next rest e le stands fails =
    let pushed = length_push before line in
    let r = front_of (before ++ line ∷ []) (l ∷ ls) xs (next ∷ rest) (append_assoc before (line ∷ []) (l ∷ ls) ∙ e) (omega (arith, pushed, le)) in
    fails l ls refl (stand_front (before ++ line ∷ []) r.0 (subst CanStand r.1 stands))

-- where no line before it says it, none does
pub tells_none : (bytes : List ℕ) (number : ℕ) → Stood bytes number → ((m : ℕ) → first_told 1 (pieces 10 bytes) ≡ Some m → number ≤ m) → TellsNoScript bytes
tells_none bytes number s later = λ m t.
    let w = within 1 t.before t.next t.more in
    let after = later w.0 (ap (first_told 1) t.cut ∙ w.1) in
    let most = w.2 in
    let place = s.place in
    let pushed = length_push t.before told in
    let same : s.before ++ s.line ∷ s.more ≡ (t.before ++ told ∷ []) ++ (t.next ∷ t.more) = sym s.cut ∙ t.cut ∙ sym (append_assoc t.before (told ∷ []) (t.next ∷ t.more)) in
    not_past s.before s.line s.more (t.before ++ told ∷ []) t.next t.more same (omega (arith, after, most, place, pushed)) t.stands s.fails
