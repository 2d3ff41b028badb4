-- A word spells one number at most, and std's reader of integers finds it.
use Rattle.std.proofs.Common.{◌≡◌, ◌≢◌, true, false, eqb, eq-eqb, true≢false, ℕ, zero, suc, ◌<◌, ◌≤◌, ◌^◌, List, [], ◌∷◌, length, Result, Ok, Err, decimal, get_or, sym, ap, ◌∙◌, subst, arith, IsUtf8, ne_eqb, refl}
use Rattle.std.specs.Str.Parse.{ParsesUnsigned, IsNumeral, AllDigits, digits_value, without_leading_plus}
use Rattle.std.proofs.lemmas.Fmt.{decimal_digit, first_decimal, decimal_injective, parse-decimal, decimal-digits_value, IsAscii-decimal}
use Rattle.std.proofs.lemmas.Str.{IsUtf8-from_ascii}
use Rattle.std.proofs.lemmas.Str.Parse.{IsNumeralModel, numerals_by_value, tells_digits, without_leading_plus_none}
use Rattle.resolver_settings.specs.NumberText.{IsNumberText, has_needless_front}

pub one_number : (word : List ℕ) (m n : ℕ) → IsNumberText word m → IsNumberText word n → m ≡ n
one_number word m n h k = decimal_injective m n (omega (arith, h.1)) (omega (arith, k.1)) (sym h.0 ∙ k.0)

own : IsNumeralModel (AllDigits 10) (digits_value 10)
own = numerals_by_value (AllDigits 10) tells_digits

pub number_is_utf8 : (word : List ℕ) (n : ℕ) → IsNumberText word n → IsUtf8 word
number_is_utf8 word n h = subst IsUtf8 (sym h.0) (IsUtf8-from_ascii (decimal n) (IsAscii-decimal n (omega (arith, h.1))))

pub number_is_read : {E : Type 0} (word : List ℕ) (n : ℕ) (read : Result ℕ E) → IsNumberText word n → ParsesUnsigned 16 10 word read → read ≡ Ok n
number_is_read word n read h = parse-decimal 16 n word read (omega (arith, h.1)) (omega (arith, h.1)) h.0

pub number_is_no_error : {E : Type 0} (word : List ℕ) (n : ℕ) (e : E) → IsNumberText word n → ¬ (ParsesUnsigned 16 10 word (Err e))
number_is_no_error word n e h read = let same = number_is_read word n (Err e) h read in absurd cc

-- the first byte is a digit, and `0` stands alone
first_at : (n c : ℕ) (cs : List ℕ) → n ≤ 65535 → decimal n ≡ c ∷ cs → has_needless_front (c ∷ cs) ≡ false
first_at zero c cs le e =
    let one : decimal 0 ≡ 48 ∷ [] = decimal_digit 0 (omega arith) in
    let same : (48 ∷ []) ≡ c ∷ cs = sym one ∙ e in
    subst (λ w. has_needless_front w ≡ false) same refl
first_at (suc n) c cs le e =
    let big : 48 < get_or (decimal (suc n)) 0 0 = first_decimal (suc n) (omega arith) (omega arith) in
    let bigger : 48 < c = rw e at big in
    rw (ne_eqb c 43 (omega arith), ne_eqb c 48 (omega arith)) refl

no_needless : (word : List ℕ) (n : ℕ) → n ≤ 65535 → decimal n ≡ word → has_needless_front word ≡ false
no_needless [] n le e = refl
no_needless (c ∷ cs) n le e = first_at n c cs le e

pub none_with_needless_front : (word : List ℕ) → has_needless_front word ≡ true → (n : ℕ) → ¬ (IsNumberText word n)
none_with_needless_front word front n h = true≢false (sym front ∙ no_needless word n h.1 (sym h.0))

starts_plainly : (word : List ℕ) → has_needless_front word ≡ false → (get_or word 0 0 ≢ 43) × (0 < length word → get_or word 0 0 ≡ 48 → length word ≡ 1)
starts_plainly [] e = (λ p. omega arith, λ some p. omega arith)
starts_plainly (c ∷ []) e = (λ p. absurd (true≢false (let t : eqb c 43 ≡ true = eq-eqb c 43 p in let k : has_needless_front (c ∷ []) ≡ true = rw t refl in sym k ∙ e)), λ some p. refl)
starts_plainly (c ∷ d ∷ ds) e = (
  λ p. absurd (true≢false (let t : eqb c 43 ≡ true = eq-eqb c 43 p in let k : has_needless_front (c ∷ d ∷ ds) ≡ true = rw t refl in sym k ∙ e)),
  λ some p. absurd (true≢false (let t : c ≡ 48 = p in let k : has_needless_front (48 ∷ d ∷ ds) ≡ true = rw (ne_eqb (length (d ∷ ds)) 0 (omega arith)) refl in sym k ∙ (rw p at e))),
)

-- digits with no sign and no leading zero spell their value
pub read_is_number : (word : List ℕ) (n : ℕ) → n ≤ 65535 → has_needless_front word ≡ false → ParsesUnsigned {E = ℕ} 16 10 word (Ok n) → IsNumberText word n
read_is_number word n le front read =
    let plain = starts_plainly word front in
    let same : without_leading_plus word ≡ word = without_leading_plus_none word plain.0 in
    let at : (IsNumeral 10 word × (digits_value 10 word < 2 ^ 16)) × (n ≡ digits_value 10 word) = subst (λ w. (IsNumeral 10 w × (digits_value 10 w < 2 ^ 16)) × (n ≡ digits_value 10 w)) same read in
    (sym (decimal-digits_value own word at.0.0.1 at.0.0.0 (plain.1 at.0.0.0) (omega (arith, at.0.1))) ∙ ap decimal (sym at.1), le)
