-- Numbers and addresses: what a word spells is read again, and what is read is spelled so.
use Rattle.std.proofs.Common.{◌≡◌, ℕ, zero, suc, ◌+◌, ◌-◌, ◌*◌, ◌^◌, ◌<◌, ◌≤◌, Bool, true, false, ◌&&◌, eqb, ltb, leb, List, [], ◌∷◌, length, get_or, Option, Some, refl, sym, ap, subst, ◌∙◌, append_assoc, arith, rules, lit<}
use Rattle.std.specs.Prelude.{decimal, slice_index}
use Rattle.std.specs.Char.{is_ascii_digit}
use Rattle.std.specs.Str.{all_ascii_digits}
use Rattle.std.specs.List.{join_with_byte}
use Rattle.std.proofs.lemmas.Bool.{leb-true, le-leb, lt-ltb, eq-eqb, ne_eqb, and_parts}
use Rattle.std.proofs.lemmas.Fmt.{decimal-digits_value, digits_decimal, digits_value-decimal, decimal_nonempty, decimal_digit, first_decimal}
use Rattle.std.proofs.lemmas.Str.Parse.{IsNumeralModel, numerals_by_fold}
use Rattle.std.specs.declared.net.ipv4_addr.Ipv4Addr.{Ipv4Addr}
use Rattle.std.specs.Net.Addr.{ipv4_octets, IsIpv4Addr}
use Rattle.std.specs.Net.Text.{ipv4_text}
use Rattle.text_lines.specs.Pieces.{pieces}
use Rattle.text_lines.specs.Numbers.{◌>>=◌, next_value, number_from, number_of, octets_of, ipv4_of}
use Rattle.text_lines.proofs.StepsThatFail.{bind_some, guard_some, guard_not, some_is}
use Rattle.text_lines.proofs.PlainLaws.{AllBytes, AllPlain, pieces_again, pieces_take, weaker, joined_plain}

-- a byte of a word: printing ASCII, and no space
abbrev pub is_word_byte : ℕ → Bool
is_word_byte b = ltb 32 b && ltb b 127

abbrev read_on : ℕ → List ℕ → ℕ
read_on n [] = n
read_on n (c ∷ cs) = read_on (n * 10 + (c - 48)) cs

own : IsNumeralModel (λ ds. all_ascii_digits ds ≡ true) (read_on 0)
own = numerals_by_fold _ (search rules) read_on (search rules)

from_takes : (most v : ℕ) (ds : List ℕ) (n : ℕ) → v ≤ most → number_from most v ds ≡ Some n → (all_ascii_digits ds ≡ true) × (read_on v ds ≡ n) × (n ≤ most)
from_takes most v [] n le e = let is : v ≡ n = some_is v n e in (refl, is, omega arith)
from_takes most v (c ∷ cs) n le e =
    let b = bind_some (next_value most v c) (λ n. number_from most n cs) n e in
    let g = guard_some (is_ascii_digit c && leb (v * 10 + (c - 48)) most) (Some (v * 10 + (c - 48))) b.0 b.1 in
    let is : v * 10 + (c - 48) ≡ b.0 = some_is (v * 10 + (c - 48)) b.0 g.1 in
    let p = and_parts (is_ascii_digit c) (leb (v * 10 + (c - 48)) most) g.0 in
    let rest = from_takes most (v * 10 + (c - 48)) cs n (leb-true _ _ p.1) (ap (λ (m : ℕ). number_from most m cs) is ∙ b.2) in
    (rw (p.0) rest.0, rest.1, rest.2)

read_on_grows : (v : ℕ) (ds : List ℕ) → v ≤ read_on v ds
read_on_grows v [] = omega arith
read_on_grows v (c ∷ cs) = omega (arith, read_on_grows (v * 10 + (c - 48)) cs)

from_again : (most v : ℕ) (ds : List ℕ) → all_ascii_digits ds ≡ true → read_on v ds ≤ most → number_from most v ds ≡ Some (read_on v ds)
from_again most v [] digits le = refl
from_again most v (c ∷ cs) digits le =
    let p = and_parts (is_ascii_digit c) (all_ascii_digits cs) digits in
    let fits : leb (v * 10 + (c - 48)) most ≡ true = le-leb _ _ (omega (arith, read_on_grows (v * 10 + (c - 48)) cs)) in
    rw (p.0, fits) (from_again most (v * 10 + (c - 48)) cs p.1 le)

no_zero : (c : ℕ) (cs : List ℕ) → (eqb c 48 && ltb 0 (length cs)) ≡ false → c ≡ 48 → length (c ∷ cs) ≡ 1
no_zero c [] e is = refl
no_zero c (d ∷ ds) e is =
    let t : eqb c 48 ≡ true = eq-eqb c 48 is in
    let more : ltb 0 (length (d ∷ ds)) ≡ true = lt-ltb 0 (length (d ∷ ds)) (omega arith) in
    absurd (let k : true ≡ false = sym (rw (t, more) refl) ∙ e in cc)

pub number_takes : (most : ℕ) (w : List ℕ) (n : ℕ) → most < 2 ^ 64 → number_of most w ≡ Some n → (w ≡ decimal n) × (n ≤ most)
number_takes most [] n wide e = absurd cc
number_takes most (c ∷ cs) n wide e =
    let g = guard_not (eqb c 48 && ltb 0 (length cs)) (number_from most 0 (c ∷ cs)) n e in
    let t = from_takes most 0 (c ∷ cs) n (omega arith) g.1 in
    let back : decimal (read_on 0 (c ∷ cs)) ≡ c ∷ cs = decimal-digits_value own (c ∷ cs) t.0 (omega arith) (no_zero c cs g.0) (omega (arith, t.1, t.2)) in
    (sym back ∙ ap decimal t.1, t.2)

and_false : (b : Bool) → (b && false) ≡ false
and_false true = refl
and_false false = refl

digit_first : (n c : ℕ) (cs : List ℕ) → n < 2 ^ 64 → decimal n ≡ c ∷ cs → (eqb c 48 && ltb 0 (length cs)) ≡ false
digit_first zero c cs lt e =
    let one : decimal 0 ≡ 48 ∷ [] = decimal_digit 0 (omega arith) in
    let same : (48 ∷ []) ≡ c ∷ cs = sym one ∙ e in
    let tail : [] ≡ cs = cc in rw (← tail) (and_false (eqb c 48))
digit_first (suc n) c cs lt e =
    let big : 48 < get_or (decimal (suc n)) 0 0 = first_decimal (suc n) (omega arith) lt in
    let bigger : 48 < c = rw e at big in
    rw (ne_eqb c 48 (omega arith)) refl

number_of_cons : (most n c : ℕ) (cs : List ℕ) → n < 2 ^ 64 → decimal n ≡ c ∷ cs → number_from most 0 (decimal n) ≡ Some n → number_of most (c ∷ cs) ≡ Some n
number_of_cons most n c cs lt e h = rw (digit_first n c cs lt e) (rw e at h)

number_of_list : (most n : ℕ) (ds : List ℕ) → n < 2 ^ 64 → decimal n ≡ ds → number_from most 0 (decimal n) ≡ Some n → number_of most ds ≡ Some n
number_of_list most n [] lt e h = absurd (omega (arith, decimal_nonempty n lt, ap length e))
number_of_list most n (c ∷ cs) lt e h = number_of_cons most n c cs lt e h

abbrev some : ℕ → Option ℕ
some n = Some n

pub number_again : (most n : ℕ) → most < 2 ^ 64 → n ≤ most → number_of most (decimal n) ≡ Some n
number_again most n wide le =
    let lt : n < 2 ^ 64 = omega arith in
    let value : read_on 0 (decimal n) ≡ n = digits_value-decimal own n lt in
    let read = from_again most 0 (decimal n) (digits_decimal own n lt) (omega (arith, value)) in
    number_of_list most n (decimal n) lt refl (read ∙ ap some value)

digits_are : (ds : List ℕ) → all_ascii_digits ds ≡ true → AllBytes is_ascii_digit ds
digits_are [] e = refl
digits_are (c ∷ cs) e = let p = and_parts (is_ascii_digit c) (all_ascii_digits cs) e in rw (p.0, digits_are cs p.1) refl

digit_plain : (x : ℕ) → is_ascii_digit x ≡ true → is_word_byte x ≡ true
digit_plain x e =
    let p = and_parts (leb 48 x) (leb x 57) e in
    let low : 48 ≤ x = leb-true 48 x p.0 in
    let high : x ≤ 57 = leb-true x 57 p.1 in
    let above : ltb 32 x ≡ true = lt-ltb 32 x (omega arith) in
    let below : ltb x 127 ≡ true = lt-ltb x 127 (omega arith) in
    rw (above, below) refl

pub decimal_digits : (n : ℕ) → n < 2 ^ 64 → AllBytes is_ascii_digit (decimal n)
decimal_digits n lt = digits_are (decimal n) (digits_decimal own n lt)

pub decimal_plain : (n : ℕ) → n < 2 ^ 64 → AllBytes is_word_byte (decimal n)
decimal_plain n lt = weaker is_ascii_digit is_word_byte (decimal n) digit_plain (decimal_digits n lt)

-- ---- addresses

abbrev made : ℕ → ℕ → ℕ → ℕ → Ipv4Addr
made x y z w = record { octets = x ∷ y ∷ z ∷ w ∷ [] }

abbrev words_of : ℕ → ℕ → ℕ → ℕ → List (List ℕ)
words_of x y z w = decimal x ∷ decimal y ∷ decimal z ∷ decimal w ∷ []

same_four : (a b c d e f g h : List ℕ) → a ≡ e → b ≡ f → c ≡ g → d ≡ h → (a ∷ b ∷ c ∷ d ∷ []) ≡ (e ∷ f ∷ g ∷ h ∷ [])
same_four a b c d e f g h p q r s = cc

pub octet_fits : (x y z w : ℕ) → x ≤ 255 → y ≤ 255 → z ≤ 255 → w ≤ 255 → (k : ℕ) → slice_index (x ∷ y ∷ z ∷ w ∷ []) k < 2 ^ 8
octet_fits x y z w a b c d zero = omega arith
octet_fits x y z w a b c d (suc zero) = omega arith
octet_fits x y z w a b c d (suc (suc zero)) = omega arith
octet_fits x y z w a b c d (suc (suc (suc zero))) = omega arith
octet_fits x y z w a b c d (suc (suc (suc (suc k)))) = lit< tt

abbrev Spelled : List (List ℕ) → Ipv4Addr → Type 0
Spelled ws a = (ws ≡ words_of (slice_index (ipv4_octets a) 0) (slice_index (ipv4_octets a) 1) (slice_index (ipv4_octets a) 2) (slice_index (ipv4_octets a) 3)) × IsIpv4Addr a

octets_take : (ws : List (List ℕ)) (a : Ipv4Addr) → octets_of ws ≡ Some a → Spelled ws a
octets_take [] x e = absurd cc
octets_take (a ∷ []) x e = absurd cc
octets_take (a ∷ b ∷ []) x e = absurd cc
octets_take (a ∷ b ∷ c ∷ []) x e = absurd cc
octets_take (a ∷ b ∷ c ∷ d ∷ []) x e =
    let p = bind_some (number_of 255 a) (λ x. number_of 255 b >>= λ y. number_of 255 c >>= λ z. number_of 255 d >>= λ w. Some (made x y z w)) x e in
    let q = bind_some (number_of 255 b) (λ y. number_of 255 c >>= λ z. number_of 255 d >>= λ w. Some (made p.0 y z w)) x p.2 in
    let r = bind_some (number_of 255 c) (λ z. number_of 255 d >>= λ w. Some (made p.0 q.0 z w)) x q.2 in
    let s = bind_some (number_of 255 d) (λ w. Some (made p.0 q.0 r.0 w)) x r.2 in
    let ta = number_takes 255 a p.0 (lit< tt) p.1 in
    let tb = number_takes 255 b q.0 (lit< tt) q.1 in
    let tc = number_takes 255 c r.0 (lit< tt) r.1 in
    let td = number_takes 255 d s.0 (lit< tt) s.1 in
    subst (Spelled (a ∷ b ∷ c ∷ d ∷ [])) (some_is (made p.0 q.0 r.0 s.0) x s.2)
    (same_four a b c d _ _ _ _ ta.0 tb.0 tc.0 td.0, (refl, octet_fits p.0 q.0 r.0 s.0 ta.1 tb.1 tc.1 td.1))
octets_take (a ∷ b ∷ c ∷ d ∷ e ∷ rest) x h = absurd cc

-- the text of an address, as words joined
joined_four : (a : Ipv4Addr) → ipv4_text (ipv4_octets a) ≡ join_with_byte 46 (words_of (slice_index (ipv4_octets a) 0) (slice_index (ipv4_octets a) 1) (slice_index (ipv4_octets a) 2) (slice_index (ipv4_octets a) 3))
joined_four a = simp append_assoc refl

pub ipv4_takes : (w : List ℕ) (a : Ipv4Addr) → ipv4_of w ≡ Some a → (w ≡ ipv4_text (ipv4_octets a)) × IsIpv4Addr a
ipv4_takes w a e =
    let t = octets_take (pieces 46 w) a e in
    (pieces_take 46 w _ t.0 ∙ sym (joined_four a), t.1)

below : (n : ℕ) → n < 256 → n < 2 ^ 64
below n lt = omega arith

four_again : (x y z w : ℕ) → x < 256 → y < 256 → z < 256 → w < 256 → octets_of (words_of x y z w) ≡ Some (made x y z w)
four_again x y z w a b c d = rw (number_again 255 x (lit< tt) (omega arith), number_again 255 y (lit< tt) (omega arith), number_again 255 z (lit< tt) (omega arith), number_again 255 w (lit< tt) (omega arith)) refl

four_digits : (x y z w : ℕ) → x < 256 → y < 256 → z < 256 → w < 256 → AllPlain is_ascii_digit (words_of x y z w)
four_digits x y z w a b c d = (decimal_digits x (below x a), (decimal_digits y (below y b), (decimal_digits z (below z c), (decimal_digits w (below w d), tt))))

pub decimal_bytes : (q : ℕ → Bool) → ((c : ℕ) → is_ascii_digit c ≡ true → q c ≡ true) → (n : ℕ) → n < 2 ^ 64 → AllBytes q (decimal n)
decimal_bytes q digit n lt = weaker is_ascii_digit q (decimal n) digit (decimal_digits n lt)

four_bytes : (q : ℕ → Bool) → ((c : ℕ) → is_ascii_digit c ≡ true → q c ≡ true) → (x y z w : ℕ) → x < 256 → y < 256 → z < 256 → w < 256 → AllPlain q (words_of x y z w)
four_bytes q digit x y z w a b c d = (decimal_bytes q digit x (below x a), (decimal_bytes q digit y (below y b), (decimal_bytes q digit z (below z c), (decimal_bytes q digit w (below w d), tt))))

-- an address has four octets
pub four_octets : (o : List ℕ) → length o ≡ 4 → ((k : ℕ) → slice_index o k < 2 ^ 8) → o ≡ slice_index o 0 ∷ slice_index o 1 ∷ slice_index o 2 ∷ slice_index o 3 ∷ []
four_octets [] long fits = absurd (omega arith)
four_octets (a ∷ []) long fits = absurd (omega arith)
four_octets (a ∷ b ∷ []) long fits = absurd (omega arith)
four_octets (a ∷ b ∷ c ∷ []) long fits = absurd (omega arith)
four_octets (a ∷ b ∷ c ∷ d ∷ []) long fits = refl
four_octets (a ∷ b ∷ c ∷ d ∷ e ∷ rest) long fits = absurd (omega arith)

pub ipv4_again : (a : Ipv4Addr) → IsIpv4Addr a → ipv4_of (ipv4_text (ipv4_octets a)) ≡ Some a
ipv4_again a fits =
    let o = ipv4_octets a in
    let f : (k : ℕ) → slice_index o k < 256 = fits.1 in
    let again : octets_of (words_of (slice_index o 0) (slice_index o 1) (slice_index o 2) (slice_index o 3)) ≡ Some (made (slice_index o 0) (slice_index o 1) (slice_index o 2) (slice_index o 3)) =
    four_again _ _ _ _ (f 0) (f 1) (f 2) (f 3) in
    let back : Some (made (slice_index o 0) (slice_index o 1) (slice_index o 2) (slice_index o 3)) ≡ Some a =
    ap (λ (os : List ℕ). Some (record { octets = os })) (sym (four_octets o fits.0 fits.1)) in
    ap ipv4_of (joined_four a) ∙ ap octets_of (pieces_again is_ascii_digit 46 (decimal (slice_index o 0)) (decimal (slice_index o 1) ∷ decimal (slice_index o 2) ∷ decimal (slice_index o 3) ∷ []) refl
    (four_digits _ _ _ _ (f 0) (f 1) (f 2) (f 3))) ∙ again ∙ back

-- its bytes pass a test that digits and dots pass
pub ipv4_bytes : (q : ℕ → Bool) → ((c : ℕ) → is_ascii_digit c ≡ true → q c ≡ true) → q 46 ≡ true → (a : Ipv4Addr) → IsIpv4Addr a → AllBytes q (ipv4_text (ipv4_octets a))
ipv4_bytes q digit dot a fits =
    let o = ipv4_octets a in
    let f : (k : ℕ) → slice_index o k < 256 = fits.1 in
    subst (AllBytes q) (sym (joined_four a)) (joined_plain q 46 (words_of (slice_index o 0) (slice_index o 1) (slice_index o 2) (slice_index o 3)) dot (four_bytes q digit _ _ _ _ (f 0) (f 1) (f 2) (f 3)))

pub ipv4_plain : (a : Ipv4Addr) → IsIpv4Addr a → AllBytes is_word_byte (ipv4_text (ipv4_octets a))
ipv4_plain = ipv4_bytes is_word_byte digit_plain refl
