-- Two numbers have the same first bits as numbers where each of these bits is the same.
use Rattle.std.proofs.Common.{◌≡◌, ℕ, ◌+◌, ◌-◌, ◌/◌, ◌%◌, ◌^◌, ◌<◌, ◌≤◌, Bool, IsTrue, true≢false, subst, refl, ap, ◌∙◌, sym, arith, ⊎_elim}
use Rattle.std.specs.Prelude.{◌↔◌}
use Rattle.std.specs.Int.{bit_at}
use Rattle.std.specs.declared.net.ip_addr.IpAddr.{IpAddr}
use Rattle.std.specs.declared.net.ip_addr.IpAddr.TheVariants.{V4, V6}
use Rattle.std.specs.Net.Addr.{ipv4_bits, ipv6_bits}
use Rattle.std.proofs.lemmas.Bool.{cases_lt, eq-eqb, eqb-true}
use Rattle.std.proofs.lemmas.Nat.{shr-shr}
use Rattle.std.proofs.lemmas.Nat.Bits.{same_from_bits, bit_at_above}
use Rattle.resolver_settings.specs.Net.{Network, width_of, number_of, first_bits, begins_with, contains, IsWithinFamily, SharesPrefix}

shifted_bit : (n s i : ℕ) → bit_at (n / 2 ^ s) i ≡ bit_at n (s + i)
shifted_bit n s i = ap (λ m. m % 2) (shr-shr n s i)

bits_from_first : (w p a b k : ℕ) → p ≤ w → first_bits w p a ≡ first_bits w p b → k < p → bit_at a (w - 1 - k) ≡ bit_at b (w - 1 - k)
bits_from_first w p a b k h e below =
    let place : w - 1 - k ≡ w - p + (p - 1 - k) = omega arith in
    rw place (sym (shifted_bit a (w - p) (p - 1 - k)) ∙ ap (λ n. bit_at n (p - 1 - k)) e ∙ shifted_bit b (w - p) (p - 1 - k))

first_from_bits : (w p a b : ℕ) → p ≤ w → a < 2 ^ w → b < 2 ^ w → ((k : ℕ) → k < p → bit_at a (w - 1 - k) ≡ bit_at b (w - 1 - k)) → first_bits w p a ≡ first_bits w p b
first_from_bits w p a b h in_a in_b same =
    same_from_bits (a / 2 ^ (w - p)) (b / 2 ^ (w - p)) (λ i. shifted_bit a (w - p) i ∙ at (w - p + i) (omega arith) ∙ sym (shifted_bit b (w - p) i))
  where
    at : (j : ℕ) → w - p ≤ j → bit_at a j ≡ bit_at b j
    at j from =
        ⊎_elim
        (λ (l : j < w).
        let place : w - 1 - (w - 1 - j) ≡ j = omega arith in
        let k_below : w - 1 - j < p = omega arith in
        subst (λ (i : ℕ). bit_at a i ≡ bit_at b i) place (same (w - 1 - j) k_below))
        (λ (g : w ≤ j). bit_at_above a w j in_a g ∙ sym (bit_at_above b w j in_b g))
        (cases_lt j w)

shares : (from at : IpAddr) (p : ℕ) → IsWithinFamily from p → number_of at < 2 ^ width_of at
    → IsTrue (begins_with from p at) ↔ SharesPrefix (record { addr = from; prefix = p }) at
shares (V4 a) (V4 ip) p h in_ip = (
  λ t. (refl, λ k l. bits_from_first 32 p (ipv4_bits ip) (ipv4_bits a) k h.0 (eqb-true _ _ t) l),
  λ s. eq-eqb _ _ (first_from_bits 32 p (ipv4_bits ip) (ipv4_bits a) h.0 in_ip h.1 s.1),
)
shares (V6 a) (V6 ip) p h in_ip = (
  λ t. (refl, λ k l. bits_from_first 128 p (ipv6_bits ip) (ipv6_bits a) k h.0 (eqb-true _ _ t) l),
  λ s. eq-eqb _ _ (first_from_bits 128 p (ipv6_bits ip) (ipv6_bits a) h.0 in_ip h.1 s.1),
)
shares (V4 a) (V6 ip) p h in_ip = (λ t. absurd (true≢false (sym t)), λ s. s.0)
shares (V6 a) (V4 ip) p h in_ip = (λ t. absurd (true≢false (sym t)), λ s. sym s.0)

pub shares_as_told : (net : Network) (at : IpAddr) (told : Bool) → told ≡ contains net at → IsWithinFamily net.addr net.prefix → number_of at < 2 ^ width_of at
    → IsTrue told ↔ SharesPrefix net at
shares_as_told net at told is h in_at = rw is (shares net.addr at net.prefix h in_at)
