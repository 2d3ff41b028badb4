-- What is read of a word is its number.
use Rattle.std.proofs.Common.{◌≡◌, ℕ, true, false, ◌&&◌, List, Bool, Option, Some, None, decimal, refl, sym, ap, subst, ◌∙◌, arith}
use Rattle.std.specs.Prelude.{nat_le, if◌then◌else◌}
use Rattle.std.specs.Str.{bytes_eq}
use Rattle.std.specs.Str.Parse.{digits_value}
use Rattle.std.proofs.lemmas.Bool.{and_parts, leb-true, le-leb}
use Rattle.std.proofs.lemmas.Fmt.{decimal_is_IsNumeral}
use Rattle.std.proofs.lemmas.Slice.Eq.{bytes_eq-Decides}
use Rattle.resolver_settings.specs.NumberText.{IsNumberText, ReadsNumber}
use Rattle.resolver_settings.specs.TextOptions.{number_of}

number_passes : (word : List ℕ) (v : ℕ) → (bytes_eq word (decimal v) && nat_le v 65535) ≡ true → IsNumberText word v
number_passes word v e = let p = and_parts (bytes_eq word (decimal v)) (nat_le v 65535) e in ((bytes_eq-Decides word (decimal v)).0 p.0, leb-true v 65535 p.1)

none_where : (test : Bool) (v : ℕ) → (test ≡ true → ⊥) → None ≡ (if test then Some v else None)
none_where true v h = absurd (h refl)
none_where false v h = refl

passing : (same few : Bool) (v : ℕ) → same ≡ true → few ≡ true → Some v ≡ (if same && few then Some v else None)
passing true true v p q = refl
passing true false v p q = absurd cc
passing false few v p q = absurd cc

pub number_is : (word : List ℕ) (read : Option ℕ) → ReadsNumber word read → read ≡ number_of word
number_is word None h = none_where _ (digits_value 10 word) (λ e. h (digits_value 10 word) (number_passes word (digits_value 10 word) e))
number_is word (Some n) h =
    let value : digits_value 10 word ≡ n = ap (digits_value 10) h.0 ∙ (decimal_is_IsNumeral n (omega (arith, h.1))).1 in
    let at : Some n ≡ (if bytes_eq word (decimal n) && nat_le n 65535 then Some n else None) = passing _ _ n ((bytes_eq-Decides word (decimal n)).1 h.0) (le-leb n 65535 h.1) in
    subst (λ (v : ℕ). Some n ≡ (if bytes_eq word (decimal v) && nat_le v 65535 then Some v else None)) (sym value) at
