-- Keys of numbers, and of an expiry with a number, that compare as equal.
use Rattle.std.proofs.Common.{◌≡◌, ◌<◌, ◌&&◌, ◌∙◌, ℕ, Bool, true, false, refl, ap, sym}
use Rattle.std.specs.Prelude.{◌==◌}
use Rattle.std.specs.BTreeMap.{is_at}
use Rattle.std.specs.Cmp.{nat_cmp_is, unsigned_tied}
use Rattle.std.specs.FinMap.{nat_cmp-IsAntisymmetric}
use Rattle.std.specs.Ordering.{nat_cmp, is_eq, ordering_then}
use Rattle.std.specs.declared.cmp.Ordering.{Ordering}
use Rattle.std.specs.declared.cmp.Ordering.TheVariants.{Less, Equal, Greater}
use Rattle.resolver_cache.specs.Writings.{by_expiry}

eq_is : (o : Ordering) → is_eq o ≡ true → o ≡ Equal
eq_is Less h = cc
eq_is Equal h = refl
eq_is Greater h = cc

pub at_itself : (n : ℕ) → is_at (nat_cmp n) n ≡ true
at_itself n = ap is_eq (sym (nat_cmp_is n n Equal refl))

pub same_number : (n k : ℕ) → is_at (nat_cmp n) k ≡ true → n ≡ k
same_number n k h = nat_cmp-IsAntisymmetric n k (eq_is (nat_cmp n k) h)

pub below_is : (n k : ℕ) → n < k → nat_cmp n k ≡ Less
below_is n k h = sym (nat_cmp_is n k Less h)

pub above_is : (n k : ℕ) → k < n → nat_cmp n k ≡ Greater
above_is n k h = sym (nat_cmp_is n k Greater h)

then_eq : (o p : Ordering) → is_eq (ordering_then o p) ≡ (is_eq o && is_eq p)
then_eq Less p = refl
then_eq Equal p = refl
then_eq Greater p = refl

and_true : (b : Bool) → (b && true) ≡ b
and_true true = refl
and_true false = refl

and_false : (b : Bool) → (b && false) ≡ false
and_false true = refl
and_false false = refl

-- a pair of that number is equal where the expiry is
pub pair_here : (a n x k : ℕ) → is_at (nat_cmp n) k ≡ true → is_at (by_expiry (a, n)) (x, k) ≡ (a == x)
pair_here a n x k h =
    then_eq (nat_cmp a x) (nat_cmp n k) ∙ ap (λ (b : Bool). is_eq (nat_cmp a x) && b) h ∙ and_true (is_eq (nat_cmp a x)) ∙ unsigned_tied a x

-- and one of another number is not
pub pair_apart : (a n x k : ℕ) → is_at (nat_cmp n) k ≡ false → is_at (by_expiry (a, n)) (x, k) ≡ false
pair_apart a n x k h =
    then_eq (nat_cmp a x) (nat_cmp n k) ∙ ap (λ (b : Bool). is_eq (nat_cmp a x) && b) h ∙ and_false (is_eq (nat_cmp a x))
