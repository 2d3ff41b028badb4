-- Bytes in base 16: each list has one word, which is read as it.
use Rattle.std.proofs.Common.{◌≡◌, ℕ, ◌+◌, ◌-◌, ◌*◌, ◌/◌, ◌%◌, ◌<◌, ◌≤◌, true, false, ◌&&◌, eqb, leb, List, [], ◌∷◌, ◌++◌, length, get_or, take, drop, Option, Some, None, refl, sym, ap, subst, ◌∙◌, append_assoc, arith, inl, inr}
use Rattle.std.specs.Prelude.{codes}
use Rattle.std.specs.Char.{is_ascii_digit, digit_char}
use Rattle.std.specs.Str.{bytes_eq}
use Rattle.std.specs.List.{flat_map, AllByRecursion}
use Rattle.std.proofs.lemmas.Bool.{and_parts, leb-true, le-leb, lt-ltb, le-ltb, lt-leb, cases_lt, false_from_ne_true}
use Rattle.std.proofs.lemmas.List.{append-nil}
use Rattle.std.proofs.lemmas.Nat.{div-mul-add, mod-mul-add}
use Rattle.std.proofs.Math.Seq.{take-length}
use Rattle.text_lines.specs.Hex.{hex_value, pair_value, pairs_after, few, bytes_of}
use Rattle.text_lines.specs.Numbers.{◌>>=◌}
use Rattle.text_lines.specs.Texts.{hex_pair, hex_text}
use Rattle.text_lines.specs.Spelling.{AreBytes}
use Rattle.text_lines.proofs.StepsThatFail.{bind_some, bind_none, bind_same, guard_some, some_is, chosen}
use Rattle.text_lines.proofs.FieldLaws.{IsField, bytes_same}
use Rattle.text_lines.proofs.NumberLaws.{is_word_byte}
use Rattle.text_lines.proofs.PlainLaws.{AllBytes, append_plain}

abbrev some : ℕ → Option ℕ
some n = Some n

abbrev pub IsByte : ℕ → Type 0
IsByte b = b < 256

-- ---- digits

low_digit : (c x : ℕ) → c ≡ 48 + x → x < 10 → digit_char x ≡ c
low_digit c x is lt = rw (lt-ltb x 10 lt) (sym is)

high_digit : (c x : ℕ) → c ≡ 87 + x → 10 ≤ x → digit_char x ≡ c
high_digit c x is le = rw (le-ltb x 10 le) (sym is)

digit_takes : (c x : ℕ) → hex_value c ≡ Some x → (c ≡ digit_char x) × (x < 16)
digit_takes c x e = elim (chosen (is_ascii_digit c) (some (c - 48)) _ (some x) e) [
  | inl h ↦
      let p = and_parts (leb 48 c) (leb c 57) h.0 in
      let low : 48 ≤ c = leb-true 48 c p.0 in
      let high : c ≤ 57 = leb-true c 57 p.1 in
      let is : c - 48 ≡ x = some_is (c - 48) x h.1 in
      (sym (low_digit c x (omega arith) (omega arith)), omega arith)
  | inr h ↦
      let g = guard_some (leb 97 c && leb c 102) (some (c - 87)) x h.1 in
      let p = and_parts (leb 97 c) (leb c 102) g.0 in
      let low : 97 ≤ c = leb-true 97 c p.0 in
      let high : c ≤ 102 = leb-true c 102 p.1 in
      let is : c - 87 ≡ x = some_is (c - 87) x g.1 in
      (sym (high_digit c x (omega arith) (omega arith)), omega arith)
]

low_again : (c x : ℕ) → c ≡ 48 + x → x < 10 → hex_value c ≡ Some x
low_again c x is lt = rw (le-leb 48 c (omega arith), le-leb c 57 (omega arith)) (ap some (omega arith))

high_again : (c x : ℕ) → c ≡ 87 + x → 10 ≤ x → x < 16 → hex_value c ≡ Some x
high_again c x is le lt = rw (le-leb 48 c (omega arith), lt-leb c 57 (omega arith), le-leb 97 c (omega arith), le-leb c 102 (omega arith)) (ap some (omega arith))

digit_again : (x : ℕ) → x < 16 → hex_value (digit_char x) ≡ Some x
digit_again x lt = elim (cases_lt x 10) [
  | inl low ↦ ap hex_value (low_digit (48 + x) x refl low) ∙ low_again (48 + x) x refl low
  | inr high ↦ ap hex_value (high_digit (87 + x) x refl high) ∙ high_again (87 + x) x refl high lt
]

-- ---- pairs

pair_takes : (high low b : ℕ) → pair_value high low ≡ Some b → (high ∷ low ∷ [] ≡ hex_pair b) × IsByte b
unfolding hex_pair
pair_takes high low b e =
    let p = bind_some (hex_value high) (λ x. hex_value low >>= λ y. some (x * 16 + y)) b e in
    let q = bind_some (hex_value low) (λ y. some (p.0 * 16 + y)) b p.2 in
    let x = p.0 in
    let y = q.0 in
    let s = digit_takes high x p.1 in
    let t = digit_takes low y q.1 in
    let is : x * 16 + y ≡ b = some_is (x * 16 + y) b q.2 in
    let first : b / 16 ≡ x = ap (λ (n : ℕ). n / 16) (sym is) ∙ div-mul-add x 16 y t.1 in
    let second : b % 16 ≡ y = ap (λ (n : ℕ). n % 16) (sym is) ∙ mod-mul-add x 16 y t.1 in
    (rw (first, second) (let a = s.0 in let b = t.0 in cc), omega (arith, s.1, t.1))

pair_again : (b : ℕ) → IsByte b → pair_value (digit_char (b / 16)) (digit_char (b % 16)) ≡ Some b
pair_again b lt = rw (digit_again (b / 16) (omega arith), digit_again (b % 16) (omega arith)) (ap some (omega arith))

pair_before : (high low : ℕ) (v more rest : List ℕ) → high ∷ low ∷ [] ≡ v → more ≡ rest → high ∷ low ∷ more ≡ v ++ rest
pair_before high low v more rest e f = ap (λ (m : List ℕ). high ∷ low ∷ m) f ∙ ap (λ (u : List ℕ). u ++ rest) e

pairs_take : (front w bytes : List ℕ) → pairs_after front w ≡ Some bytes → (xs : List ℕ) × (bytes ≡ front ++ xs) × (w ≡ flat_map hex_pair xs) × AllByRecursion IsByte xs
pairs_take front [] bytes e = ([], sym (some_is front bytes e) ∙ sym (append-nil front), refl, tt)
pairs_take front (c ∷ []) bytes e = absurd cc
pairs_take front (high ∷ low ∷ more) bytes e =
    let b = bind_some (pair_value high low) (λ b. pairs_after (front ++ b ∷ []) more) bytes e in
    let t = pair_takes high low b.0 b.1 in
    let r = pairs_take (front ++ b.0 ∷ []) more bytes b.2 in
    (b.0 ∷ r.0, r.1 ∙ append_assoc front (b.0 ∷ []) r.0, pair_before high low (hex_pair b.0) more (flat_map hex_pair r.0) t.0 r.2, (t.1, r.3))

pub pairs_step : (front rest new : List ℕ) (b n : ℕ) (all : Option (List ℕ)) → 2 ≤ length rest → pair_value (get_or rest 0 0) (get_or rest 1 0) ≡ Some b → new ≡ front ++ b ∷ [] → n ≡ length rest - 2 → pairs_after front rest ≡ all
    → pairs_after new (take n (drop 2 rest)) ≡ all
pairs_step front [] new b n all le e is m h = absurd (omega arith)
pairs_step front (x ∷ []) new b n all le e is m h = absurd (omega arith)
pairs_step front (x ∷ y ∷ rest) new b n all le e is m h =
    let whole : take n rest ≡ rest = ap (λ (k : ℕ). take k rest) (let k : n ≡ length rest = omega arith in k) ∙ take-length rest in
    rw (is, whole) (rw e at h)

pairs_again : (front xs : List ℕ) → AllByRecursion IsByte xs → pairs_after front (flat_map hex_pair xs) ≡ Some (front ++ xs)
unfolding hex_pair
pairs_again front [] all = ap (λ (bs : List ℕ). Some bs) (sym (append-nil front))
pairs_again front (x ∷ xs) all =
    rw (pair_again x all.0) (pairs_again (front ++ x ∷ []) xs all.1 ∙ ap (λ (bs : List ℕ). Some bs) (append_assoc front (x ∷ []) xs))

-- ---- how many

pairs_count : (xs : List ℕ) → length (flat_map hex_pair xs) ≡ 2 * length xs
unfolding hex_pair
pairs_count [] = refl
pairs_count (x ∷ xs) = omega (arith, pairs_count xs)

-- each byte that is read has two digits
read_count : (w bytes : List ℕ) → pairs_after [] w ≡ Some bytes → length w ≡ 2 * length bytes
read_count w bytes e = let t = pairs_take [] w bytes e in ap length t.2 ∙ pairs_count t.0 ∙ ap (λ (xs : List ℕ). 2 * length xs) (sym t.1)

few_stay : (bytes : List ℕ) → length bytes ≤ 65535 → few bytes ≡ Some bytes
few_stay bytes le = rw (le-leb (length bytes) 65535 le) refl

many_go : (bytes : List ℕ) → 65535 < length bytes → few bytes ≡ None
many_go bytes lt = rw (lt-leb (length bytes) 65535 lt) refl

dash_count : (w : List ℕ) → bytes_eq w (codes "-") ≡ true → length w ≡ 1
dash_count w e = ap length (bytes_same w (codes "-") e)

-- a word of few digits is read as its pairs
pub bytes_few : (w : List ℕ) → eqb (length w) 0 ≡ false → bytes_eq w (codes "-") ≡ false → length w ≤ 131070 → bytes_of w ≡ pairs_after [] w
bytes_few [] some plain le = absurd cc
bytes_few (c ∷ cs) some plain le =
    rw plain (bind_same (pairs_after [] (c ∷ cs)) few (λ bytes e. few_stay bytes (let n = read_count (c ∷ cs) bytes e in omega (arith, n, le))))

-- one of many is not read
pub bytes_many : (w : List ℕ) → 131070 < length w → bytes_of w ≡ None
bytes_many [] lt = refl
bytes_many (c ∷ cs) lt =
    let plain : bytes_eq (c ∷ cs) (codes "-") ≡ false = false_from_ne_true _ (λ e. omega (arith, dash_count (c ∷ cs) e, lt)) in
    rw plain (bind_none (pairs_after [] (c ∷ cs)) few (λ bytes e. many_go bytes (let n = read_count (c ∷ cs) bytes e in omega (arith, n, lt))))

-- ---- words

pairs_text : (c : ℕ) (cs xs : List ℕ) → c ∷ cs ≡ flat_map hex_pair xs → c ∷ cs ≡ hex_text xs
pairs_text c cs [] e = absurd cc
pairs_text c cs (x ∷ xs) e = e

abbrev Spells : List ℕ → List ℕ → Type 0
Spells w bytes = (w ≡ hex_text bytes) × AreBytes bytes

bytes_take : (w bytes : List ℕ) → bytes_of w ≡ Some bytes → Spells w bytes
bytes_take [] bytes e = absurd cc
bytes_take (c ∷ cs) bytes e = elim (chosen (bytes_eq (c ∷ cs) (codes "-")) (Some []) (pairs_after [] (c ∷ cs) >>= few) (Some bytes) e) [
  | inl h ↦ subst (Spells (c ∷ cs)) (some_is [] bytes h.1) (bytes_same (c ∷ cs) (codes "-") h.0, (tt, omega arith))
  | inr h ↦
      let r = bind_some (pairs_after [] (c ∷ cs)) few bytes h.1 in
      let g = guard_some (leb (length r.0) 65535) (Some r.0) bytes r.2 in
      let t = pairs_take [] (c ∷ cs) r.0 r.1 in
      let le : length t.0 ≤ 65535 = subst (λ (xs : List ℕ). length xs ≤ 65535) t.1 (leb-true (length r.0) 65535 g.0) in
      subst (Spells (c ∷ cs)) (sym t.1 ∙ some_is r.0 bytes g.1) (pairs_text c cs t.0 t.2, (t.3, le))
]

no_dash : (a b : ℕ) (rest : List ℕ) → bytes_eq (a ∷ b ∷ rest) (codes "-") ≡ false
no_dash a b rest = false_from_ne_true _ (λ e. omega (arith, ap length (bytes_same (a ∷ b ∷ rest) (codes "-") e)))

bytes_again : (bytes : List ℕ) → AreBytes bytes → bytes_of (hex_text bytes) ≡ Some bytes
unfolding hex_pair
bytes_again [] fits = refl
bytes_again (x ∷ xs) fits = rw (no_dash (digit_char (x / 16)) (digit_char (x % 16)) (flat_map hex_pair xs), pairs_again [] (x ∷ xs) fits.0) (few_stay (x ∷ xs) fits.1)

pub bytes_field : IsField bytes_of hex_text AreBytes
bytes_field = record { takes = bytes_take; again = bytes_again }

-- ---- plain bytes

digit_plain : (x : ℕ) → x < 16 → is_word_byte (digit_char x) ≡ true
digit_plain x lt = elim (cases_lt x 10) [
  | inl low ↦ ap is_word_byte (low_digit (48 + x) x refl low) ∙ within (48 + x) (omega arith) (omega arith)
  | inr high ↦ ap is_word_byte (high_digit (87 + x) x refl high) ∙ within (87 + x) (omega arith) (omega arith)
]
  where
    within : (c : ℕ) → 32 < c → c < 127 → is_word_byte c ≡ true
    within c above below = rw (lt-ltb 32 c above, lt-ltb c 127 below) refl

pair_plain : (b : ℕ) → IsByte b → AllBytes is_word_byte (hex_pair b)
unfolding hex_pair
pair_plain b lt = rw (digit_plain (b / 16) (omega arith), digit_plain (b % 16) (omega arith)) refl

pairs_plain : (xs : List ℕ) → AllByRecursion IsByte xs → AllBytes is_word_byte (flat_map hex_pair xs)
pairs_plain [] all = refl
pairs_plain (x ∷ xs) all = append_plain is_word_byte (hex_pair x) (flat_map hex_pair xs) (pair_plain x all.0) (pairs_plain xs all.1)

pub bytes_plain : (xs : List ℕ) → AllByRecursion IsByte xs → AllBytes is_word_byte (hex_text xs)
bytes_plain [] all = refl
bytes_plain (x ∷ xs) all = pairs_plain (x ∷ xs) all
