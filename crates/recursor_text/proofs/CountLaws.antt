-- A number without a bound is read exactly where it is spelled so.
use Rattle.std.proofs.Common.{◌≡◌, ℕ, zero, suc, ◌+◌, ◌-◌, ◌*◌, ◌/◌, ◌%◌, ◌^◌, ◌<◌, ◌≤◌, Bool, true, false, not, ◌&&◌, eqb, ltb, List, [], ◌∷◌, ◌++◌, length, map, get_or, Option, Some, None, Result, Ok, Err, refl, sym, ap, subst, ◌∙◌, arith, append-nil, append_assoc, inl, inr, lit<}
use Rattle.std.specs.Prelude.{decimal}
use Rattle.std.specs.Char.{digit_value, is_ascii_digit}
use Rattle.std.specs.Int.Digits.{digits_of, AllBelowBase, number_from_digits_after}
use Rattle.std.specs.List.{list_all}
use Rattle.std.specs.Str.Parse.{AllDigits, digits_value_after, digits_value}
use Rattle.std.proofs.lemmas.Bool.{eqb-true, eqb-false, eq-eqb, ne_eqb, lt-ltb, ltb-true, ltb-false, le-leb, leb-true, and_parts, and_from, cases_Bool}
use Rattle.std.proofs.lemmas.Fmt.{decimal-digits_value, digits_value-decimal}
use Rattle.std.proofs.lemmas.Int.Digits.{digits_of_step, all_below_base_digits_of, first_digits_of, number_digits_of}
use Rattle.std.proofs.lemmas.List.{map_push}
use Rattle.std.proofs.lemmas.Str.{digit_value_digit}
use Rattle.std.proofs.lemmas.Str.Parse.{IsDigitsTest, IsNumeralModel, numerals_by_value, digit_from_value}
use Rattle.text_lines.specs.declared.words.LineError.{LineError}
use Rattle.text_lines.specs.declared.words.LineError.TheVariants.{Refused, NoMemory}
use Rattle.text_lines.specs.Fields.{field, Gives, GivesFields}
use Rattle.text_lines.specs.Numbers.{◌>>=◌}
use Rattle.text_lines.specs.Pieces.{pieces}
use Rattle.text_lines.proofs.StepsThatFail.{bind_some, guard_some, some_is}
use Rattle.text_lines.proofs.FieldLaws.{IsField, number_field}
use Rattle.text_lines.proofs.NumberLaws.{is_word_byte}
use Rattle.text_lines.proofs.PlainLaws.{AllBytes, split_last}
use Rattle.recursor_text.specs.Counts.{numeral, has_leading_zero, is_numeral, numeral_value, narrow_value}

-- ---- what a word of digits is

tells : IsDigitsTest (λ ds. list_all is_ascii_digit ds ≡ true)
tells = record {
  empty = refl;
  parts = λ c cs e.
      let p = and_parts (is_ascii_digit c) (list_all is_ascii_digit cs) e in
      let q = and_parts _ _ p.0 in
      ((leb-true 48 c q.0, leb-true c 57 q.1), p.1);
  more = λ c cs k e. and_from _ _ (and_from _ _ (le-leb 48 c k.0) (le-leb c 57 k.1)) e;
}

own : IsNumeralModel (λ ds. list_all is_ascii_digit ds ≡ true) (digits_value 10)
own = numerals_by_value _ tells

record IsWord (w : List ℕ) : Type 0 where
  pub some : 0 < length w
  pub digits : list_all is_ascii_digit w ≡ true
  pub lead : get_or w 0 0 ≡ 48 → length w ≡ 1

not_true : (b : Bool) → not b ≡ true → b ≡ false
not_true true e = absurd cc
not_true false e = refl

alone_zero : (w : List ℕ) → 0 < length w → has_leading_zero w ≡ false → get_or w 0 0 ≡ 48 → length w ≡ 1
alone_zero w some e is = elim (cases_Bool (ltb 1 (length w))) [
  | inl more ↦
      let leads : has_leading_zero w ≡ true = and_from _ _ more (eq-eqb (get_or w 0 0) 48 is) in
      absurd (let both : true ≡ false = sym leads ∙ e in cc)
  | inr few ↦ omega (arith, ltb-false 1 (length w) few)
]

is_word : (w : List ℕ) → is_numeral w ≡ true → IsWord w
is_word w e =
    let p = and_parts (ltb 0 (length w) && list_all is_ascii_digit w) (not (has_leading_zero w)) e in
    let q = and_parts (ltb 0 (length w)) (list_all is_ascii_digit w) p.0 in
    let some : 0 < length w = ltb-true 0 (length w) q.0 in
    record { some = some; digits = q.1; lead = alone_zero w some (not_true (has_leading_zero w) p.1) }

-- ---- from digits to a number, and back

abbrev glyph : ℕ → ℕ
glyph d = 48 + d

digits_step : (n d : ℕ) → 0 < n * 10 + d → d < 10 → map glyph (digits_of 10 (n * 10 + d)) ≡ map glyph (digits_of 10 n) ++ (48 + d) ∷ []
digits_step n d some low =
    let front : (n * 10 + d) / 10 ≡ n = omega arith in
    let last : (n * 10 + d) % 10 ≡ d = omega arith in
    ap (map glyph) (digits_of_step 10 (n * 10 + d) (omega arith) some) ∙ map_push glyph (digits_of 10 ((n * 10 + d) / 10)) ((n * 10 + d) % 10)
    ∙ ap (λ (m : ℕ). map glyph (digits_of 10 m) ++ glyph ((n * 10 + d) % 10) ∷ []) front ∙ ap (λ (x : ℕ). map glyph (digits_of 10 n) ++ glyph x ∷ []) last

positive : (n : ℕ) → 0 < n → numeral n ≡ map glyph (digits_of 10 n)
unfolding numeral
positive n some = rw (ne_eqb n 0 (λ e. omega arith)) refl

more_digits : (n : ℕ) (ds : List ℕ) → 0 < n → AllDigits 10 ds → numeral (digits_value_after 10 n ds) ≡ map glyph (digits_of 10 n) ++ ds
more_digits n [] some all = positive n some ∙ sym (append-nil (map glyph (digits_of 10 n)))
more_digits n (c ∷ cs) some all =
    let is : 48 + digit_value c ≡ c = omega (arith, digit_value_digit c (digit_from_value c all.0)) in
    more_digits (n * 10 + digit_value c) cs (omega arith) all.1
    ∙ ap (λ (l : List ℕ). l ++ cs) (digits_step n (digit_value c) (omega arith) all.0)
    ∙ append_assoc (map glyph (digits_of 10 n)) ((48 + digit_value c) ∷ []) cs
    ∙ ap (λ (x : ℕ). map glyph (digits_of 10 n) ++ x ∷ cs) is

zero_word : (cs : List ℕ) → length (48 ∷ cs) ≡ 1 → numeral (digits_value 10 (48 ∷ cs)) ≡ 48 ∷ cs
unfolding numeral
zero_word [] one = refl
zero_word (d ∷ ds) one = absurd (omega arith)

spelled_by : (c : ℕ) (cs : List ℕ) → AllDigits 10 (c ∷ cs) → (c ≡ 48 → length (48 ∷ cs) ≡ 1) → numeral (digits_value 10 (c ∷ cs)) ≡ c ∷ cs
spelled_by c cs all lead = elim (cases_Bool (eqb c 48)) [
  | inl same ↦
      let is : c ≡ 48 = eqb-true c 48 same in
      subst (λ (x : ℕ). numeral (digits_value 10 (x ∷ cs)) ≡ x ∷ cs) (sym is) (zero_word cs (lead is))
  | inr other ↦
      let is : digit_value c + 48 ≡ c = digit_value_digit c (digit_from_value c all.0) in
      let some : 0 < 0 * 10 + digit_value c = omega (arith, eqb-false c 48 other) in
      more_digits (0 * 10 + digit_value c) cs some all.1
      ∙ ap (λ (l : List ℕ). l ++ cs) (digits_step 0 (digit_value c) some all.0)
      ∙ ap (λ (x : ℕ). x ∷ cs) (omega arith)
]

numeral_takes : (w : List ℕ) (n : ℕ) → numeral_value w ≡ Some n → w ≡ numeral n
numeral_takes w n e =
    let g = guard_some (is_numeral w) (Some (digits_value 10 w)) n e in
    let is = is_word w g.0 in
    sym (by_cases w is.some (own.to w is.digits) is.lead) ∙ ap numeral (some_is (digits_value 10 w) n g.1)
  where
    by_cases : (v : List ℕ) → 0 < length v → AllDigits 10 v → (get_or v 0 0 ≡ 48 → length v ≡ 1) → numeral (digits_value 10 v) ≡ v
    by_cases [] some all lead = absurd (omega arith)
    by_cases (c ∷ cs) some all lead = spelled_by c cs all lead

-- ---- again

glyphs_are : (n : ℕ) (ds : List ℕ) → AllBelowBase 10 ds → AllDigits 10 (map glyph ds) × (digits_value_after 10 n (map glyph ds) ≡ number_from_digits_after 10 n ds)
glyphs_are n [] all = (tt, refl)
glyphs_are n (d ∷ ds) all =
    let is : digit_value (48 + d) ≡ d = omega (arith, digit_value_digit (48 + d) (omega arith, omega (arith, all.0))) in
    let rest = glyphs_are (n * 10 + d) ds all.1 in
    ((omega (arith, all.0), rest.0), ap (λ (x : ℕ). digits_value_after 10 (n * 10 + x) (map glyph ds)) is ∙ rest.1)

no_zero : (b : Bool) → not (b && false) ≡ true
no_zero true = refl
no_zero false = refl

glyphs_word : (ds : List ℕ) → AllBelowBase 10 ds → 0 < get_or ds 0 0 → is_numeral (map glyph ds) ≡ true
glyphs_word [] all some = absurd (omega arith)
glyphs_word (d ∷ ds) all some =
    let w : List ℕ = map glyph (d ∷ ds) in
    let other : eqb (48 + d) 48 ≡ false = ne_eqb (48 + d) 48 (λ e. omega (arith, some)) in
    let digits : list_all is_ascii_digit w ≡ true = own.from w (glyphs_are 0 (d ∷ ds) all).0 in
    let long : ltb 0 (length w) ≡ true = lt-ltb 0 (length w) (omega arith) in
    and_from _ _ (and_from _ _ long digits) (ap (λ (b : Bool). not (ltb 1 (length w) && b)) other ∙ no_zero (ltb 1 (length w)))

abbrev Tells : ℕ → List ℕ → Type 0
Tells n w = (is_numeral w ≡ true) × (digits_value 10 w ≡ n)

numeral_tells : (n : ℕ) → Tells n (numeral n)
unfolding numeral
numeral_tells zero = (refl, refl)
numeral_tells (suc n) =
    let ds : List ℕ = digits_of 10 (suc n) in
    let all = all_below_base_digits_of 10 (suc n) (omega arith) in
    subst (Tells (suc n)) (sym (positive (suc n) (omega arith)))
    (glyphs_word ds all (first_digits_of 10 (suc n) (omega arith) (omega arith)), (glyphs_are 0 ds all).1 ∙ number_digits_of 10 (suc n) (omega arith))

numeral_again : (n : ℕ) → numeral_value (numeral n) ≡ Some n
numeral_again n = let is = numeral_tells n in rw (is.0, is.1) refl

abbrev pub Any : ℕ → Type 0
Any n = Unit {0}

pub numeral_field : IsField numeral_value numeral Any
numeral_field = record { takes = λ w n e. (numeral_takes w n e, tt); again = λ n fits. numeral_again n }

-- ---- its bytes

digits_plain : (ds : List ℕ) → AllDigits 10 ds → AllBytes is_word_byte ds
digits_plain [] all = refl
digits_plain (c ∷ cs) all =
    let range = digit_from_value c all.0 in
    and_from _ _ (and_from _ _ (lt-ltb 32 c (omega arith)) (lt-ltb c 127 (omega arith))) (digits_plain cs all.1)

word_plain : (w : List ℕ) → is_numeral w ≡ true → AllBytes is_word_byte w
word_plain w e = digits_plain w (own.to w (is_word w e).digits)

pub numeral_plain : (n : ℕ) → AllBytes is_word_byte (numeral n)
numeral_plain n = word_plain (numeral n) (numeral_tells n).0

-- ---- in 64 bits, or not

abbrev only : ℕ → Option (ℕ × List (List ℕ))
only n = Some (n, [])

none_bound : (r : Option ℕ) → (r >>= only) ≡ None → r ≡ None
none_bound None e = refl
none_bound (Some n) e = absurd cc

-- the words of a word of digits are that word
pub alone : (p : List ℕ → Option ℕ) (w : List ℕ) (r : Result ℕ LineError) (after : List (List ℕ)) → is_numeral w ≡ true → GivesFields r after (field p (pieces 32 w)) → Gives r (p w)
alone p w r after e gives = by_result r (subst (λ (ws : List (List ℕ)). GivesFields r after (field p ws)) (split_last is_word_byte 32 w refl (word_plain w e)) gives)
  where
    by_result : (s : Result ℕ LineError) → GivesFields s after (field p (w ∷ [])) → Gives s (p w)
    by_result (Ok n) h =
        let b = bind_some (p w) only (n, after) h in
        b.1 ∙ ap (λ (x : ℕ × List (List ℕ)). Some x.0) (some_is (b.0, []) (n, after) b.2)
    by_result (Err Refused) h = none_bound (p w) h
    by_result (Err NoMemory) h = tt

pub narrow_takes : (w : List ℕ) (n : ℕ) → is_numeral w ≡ true → narrow_value w ≡ Some n → numeral_value w ≡ Some n
narrow_takes w n is e =
    let t = (number_field 0 (2 ^ 64 - 1) (lit< tt)).takes w n e in
    let value : digits_value 10 w ≡ n = ap (digits_value 10) t.0 ∙ digits_value-decimal own n (omega (arith, t.1.1)) in
    rw (is, value) refl

pub narrow_refuses : (w : List ℕ) → is_numeral w ≡ true → narrow_value w ≡ None → 2 ^ 64 ≤ digits_value 10 w
narrow_refuses w is e = elim (cases_Bool (ltb (digits_value 10 w) (2 ^ 64))) [
  | inl low ↦
      let lt : digits_value 10 w < 2 ^ 64 = ltb-true (digits_value 10 w) (2 ^ 64) low in
      let word = is_word w is in
      let back : decimal (digits_value 10 w) ≡ w = decimal-digits_value own w word.digits word.some word.lead lt in
      let read : narrow_value (decimal (digits_value 10 w)) ≡ Some (digits_value 10 w) = (number_field 0 (2 ^ 64 - 1) (lit< tt)).again (digits_value 10 w) (omega arith, omega arith) in
      absurd (let both : Some (digits_value 10 w) ≡ None = sym read ∙ ap narrow_value back ∙ e in cc)
  | inr high ↦ omega (arith, ltb-false (digits_value 10 w) (2 ^ 64) high)
]
