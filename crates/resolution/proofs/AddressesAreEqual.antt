-- The test of two addresses says that they are equal.
use Rattle.std.proofs.Common.{◌≡◌, ℕ, Bool, true, false, List, [], ◌∷◌, refl, ap}
use Rattle.std.specs.Prelude.{◌&&◌, nat_eq}
use Rattle.std.specs.Cmp.{first_so, second_so, unsigned_Decides}
use Rattle.std.specs.Cmp.Lexicographic.{pointwise}
use Rattle.std.specs.declared.net.ip_addr.IpAddr.{IpAddr}
use Rattle.std.specs.declared.net.ip_addr.IpAddr.TheVariants.{V4, V6}
use Rattle.resolution.specs.Ending.{same_ip}

numbers_equal : (xs ys : List ℕ) → pointwise nat_eq xs ys ≡ true → xs ≡ ys
numbers_equal [] [] e = refl
numbers_equal [] (y ∷ ys) e = cc
numbers_equal (x ∷ xs) [] e = cc
numbers_equal (x ∷ xs) (y ∷ ys) e =
    let head = (unsigned_Decides x y).0 (first_so (nat_eq x y) (pointwise nat_eq xs ys) e) in
    let tail = numbers_equal xs ys (second_so (nat_eq x y) (pointwise nat_eq xs ys) e) in cc

equal_numbers : (xs : List ℕ) → pointwise nat_eq xs xs ≡ true
equal_numbers [] = refl
equal_numbers (x ∷ xs) = both (nat_eq x x) (pointwise nat_eq xs xs) ((unsigned_Decides x x).1 refl) (equal_numbers xs)
  where
    both : (a b : Bool) → a ≡ true → b ≡ true → (a && b) ≡ true
    both true b p q = q
    both false b p q = p

pub same_ip-true : (a b : IpAddr) → same_ip a b ≡ true → a ≡ b
same_ip-true (V4 a) (V4 b) e = ap (λ (o : List ℕ). V4 (record { octets = o })) (numbers_equal a.octets b.octets e)
same_ip-true (V4 a) (V6 b) e = cc
same_ip-true (V6 a) (V4 b) e = cc
same_ip-true (V6 a) (V6 b) e = ap (λ (o : List ℕ). V6 (record { segments = o })) (numbers_equal a.segments b.segments e)

pub same_ip-itself : (a : IpAddr) → same_ip a a ≡ true
same_ip-itself (V4 a) = equal_numbers a.octets
same_ip-itself (V6 a) = equal_numbers a.segments
