-- Numbers that are read are those that stand there.
use Rattle.std.proofs.Common.{◌≡◌, ℕ, ◌+◌, ◌*◌, ◌/◌, ◌%◌, ◌<◌, List, [], ◌∷◌, ◌++◌, Ok, refl, sym, ap, subst, ◌∙◌, arith}
use Rattle.wire_names.specs.Reading.{◌>>=◌}
use Rattle.wire_names.proofs.Binds.{bind_ok, ok_is}
use Rattle.wire_names.proofs.RunLaws.{IsBytes}
use Rattle.wire_records.specs.Numbers.{two, four, two_of, four_of}
use Rattle.wire_records.proofs.Following.{Follows, further, bytes_after}

-- ---- two bytes

pub two_joined : (number : ℕ) → 256 * (number / 256) + number % 256 ≡ number
two_joined number = omega arith

high_is : (high low : ℕ) → low < 256 → (256 * high + low) / 256 ≡ high
high_is high low lt = omega (arith, lt)

low_is : (high low : ℕ) → low < 256 → (256 * high + low) % 256 ≡ low
low_is high low lt = omega (arith, lt)

pub two_takes : (bytes : List ℕ) (x : ℕ × List ℕ) → IsBytes bytes → two_of bytes ≡ Ok x → bytes ≡ two x.0 ++ x.1
two_takes [] x fits e = absurd cc
two_takes (high ∷ []) x fits e = absurd cc
two_takes (high ∷ low ∷ rest) x fits e =
    let small : low < 256 = fits 1 in
    let same : high ∷ low ∷ rest ≡ two (256 * high + low) ++ rest =
    ap (λ (k : ℕ). k ∷ low ∷ rest) (sym (high_is high low small)) ∙ ap (λ (k : ℕ). ((256 * high + low) / 256) ∷ k ∷ rest) (sym (low_is high low small)) in
    same ∙ ap (λ (y : ℕ × List ℕ). two y.0 ++ y.1) (ok_is (256 * high + low, rest) x e)

pub two_again : (number : ℕ) (rest : List ℕ) → two_of (two number ++ rest) ≡ Ok (number, rest)
two_again number rest = ap (λ (k : ℕ). Ok (k, rest)) (two_joined number)

pub two_follows : (bytes : List ℕ) (x : ℕ × List ℕ) → two_of bytes ≡ Ok x → Follows bytes x.1
two_follows [] x e = absurd cc
two_follows (high ∷ []) x e = absurd cc
two_follows (high ∷ low ∷ rest) x e = subst (λ (y : ℕ × List ℕ). Follows (high ∷ low ∷ rest) y.1) (ok_is (256 * high + low, rest) x e) (record { front = high ∷ low ∷ []; parts = refl })

-- ---- four bytes

four_halves : (high low : ℕ) → low < 65536 → (65536 * high + low) / 65536 ≡ high
four_halves high low lt = omega (arith, lt)

four_rest : (high low : ℕ) → low < 65536 → (65536 * high + low) % 65536 ≡ low
four_rest high low lt = omega (arith, lt)

pub four_joined : (number : ℕ) → 65536 * (256 * (number / 65536 / 256) + number / 65536 % 256) + (256 * (number % 65536 / 256) + number % 65536 % 256) ≡ number
four_joined number = omega (arith, two_joined (number / 65536), two_joined (number % 65536))

-- two bytes make a number below 65,536
pub two_small : (bytes : List ℕ) (x : ℕ × List ℕ) → IsBytes bytes → two_of bytes ≡ Ok x → x.0 < 65536
two_small [] x fits e = absurd cc
two_small (high ∷ []) x fits e = absurd cc
two_small (high ∷ low ∷ rest) x fits e =
    let a : high < 256 = fits 0 in
    let b : low < 256 = fits 1 in
    subst (λ (y : ℕ × List ℕ). y.0 < 65536) (ok_is (256 * high + low, rest) x e) (omega (arith, a, b))

pub four_follows : (bytes : List ℕ) (x : ℕ × List ℕ) → four_of bytes ≡ Ok x → Follows bytes x.1
four_follows bytes x e =
    let a = bind_ok (two_of bytes) (λ high. two_of high.1 >>= λ low. Ok (65536 * high.0 + low.0, low.1)) x e in
    let b = bind_ok (two_of a.0.1) (λ low. Ok (65536 * a.0.0 + low.0, low.1)) x a.2 in
    subst (λ (y : ℕ × List ℕ). Follows bytes y.1) (ok_is (65536 * a.0.0 + b.0.0, b.0.1) x b.2) (further bytes a.0.1 b.0.1 (two_follows bytes a.0 a.1) (two_follows a.0.1 b.0 b.1))

pub four_takes : (bytes : List ℕ) (x : ℕ × List ℕ) → IsBytes bytes → four_of bytes ≡ Ok x → bytes ≡ four x.0 ++ x.1
four_takes bytes x fits e =
    let a = bind_ok (two_of bytes) (λ high. two_of high.1 >>= λ low. Ok (65536 * high.0 + low.0, low.1)) x e in
    let b = bind_ok (two_of a.0.1) (λ low. Ok (65536 * a.0.0 + low.0, low.1)) x a.2 in
    let then_fits = bytes_after bytes a.0.1 fits (two_follows bytes a.0 a.1) in
    let small = two_small a.0.1 b.0 then_fits b.1 in
    let parts : bytes ≡ two a.0.0 ++ (two b.0.0 ++ b.0.1) = two_takes bytes a.0 fits a.1 ∙ ap (λ (r : List ℕ). two a.0.0 ++ r) (two_takes a.0.1 b.0 then_fits b.1) in
    let high = four_halves a.0.0 b.0.0 small in
    let low = four_rest a.0.0 b.0.0 small in
    let same : two a.0.0 ++ (two b.0.0 ++ b.0.1) ≡ four (65536 * a.0.0 + b.0.0) ++ b.0.1 =
    ap (λ (k : ℕ). two k ++ (two b.0.0 ++ b.0.1)) (sym high) ∙ ap (λ (k : ℕ). two ((65536 * a.0.0 + b.0.0) / 65536) ++ (two k ++ b.0.1)) (sym low) in
    parts ∙ same ∙ ap (λ (y : ℕ × List ℕ). four y.0 ++ y.1) (ok_is (65536 * a.0.0 + b.0.0, b.0.1) x b.2)

pub four_again : (number : ℕ) (rest : List ℕ) → four_of (four number ++ rest) ≡ Ok (number, rest)
four_again number rest = ap (λ (k : ℕ). Ok (k, rest)) (four_joined number)
