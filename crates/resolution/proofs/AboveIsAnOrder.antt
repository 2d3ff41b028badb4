-- Above is an order: a name is above itself, and what is above what is above a name is above it.
use Rattle.std.proofs.Common.{◌≡◌, ℕ, zero, suc, ◌+◌, ◌-◌, ◌≤◌, Bool, true, false, ◌&&◌, List, [], ◌∷◌, length, drop, refl, ap, ◌∙◌, sym, arith}
use Rattle.std.specs.Prelude.{nat_le, not, ◌==◌}
use Rattle.std.specs.Bool.{beq}
use Rattle.std.specs.Cmp.{IsEquivalence, first_so, second_so}
use Rattle.std.specs.Cmp.Lexicographic.{pointwise, lists_equiv}
use Rattle.std.proofs.lemmas.List.{drop-drop}
use Rattle.std.proofs.lemmas.Bool.Decides.{nat_tests}
use Rattle.dns_core.specs.Letters.{same_letter, same_letter_equiv}
use Rattle.dns_core.specs.Name.{DomainName, same_labels, is_suffix, is_in_zone}
use Rattle.resolution.specs.Names.{is_above}

pub labels_equiv : IsEquivalence same_labels
labels_equiv = lists_equiv (lists_equiv same_letter_equiv)

pub pointwise-drop : {X : Type 0} (E : X → X → Bool) (k : ℕ) (xs ys : List X) → pointwise E xs ys ≡ true → pointwise E (drop k xs) (drop k ys) ≡ true
pointwise-drop E zero xs ys h = h
pointwise-drop E (suc k) [] [] h = refl
pointwise-drop E (suc k) [] (y ∷ ys) h = cc
pointwise-drop E (suc k) (x ∷ xs) [] h = cc
pointwise-drop E (suc k) (x ∷ xs) (y ∷ ys) h = pointwise-drop E k xs ys (second_so (E x y) (pointwise E xs ys) h)

both : (a b : Bool) → a ≡ true → b ≡ true → (a && b) ≡ true
both true true p q = refl
both true false p q = q
both false b p q = p

pub is_suffix-trans : (a b c : List (List ℕ)) → is_suffix a b ≡ true → is_suffix b c ≡ true → is_suffix a c ≡ true
is_suffix-trans a b c g h =
    let ab : length a ≤ length b = let t = first_so (nat_le (length a) (length b)) _ g in grind (arith, nat_tests) in
    let bc : length b ≤ length c = let t = first_so (nat_le (length b) (length c)) _ h in grind (arith, nat_tests) in
    let k = length b - length a in
    let j = length c - length b in
    let low = second_so (nat_le (length a) (length b)) _ g in
    let high = pointwise-drop (pointwise same_letter) k b (drop j c) (second_so (nat_le (length b) (length c)) _ h) in
    let sum : j + k ≡ length c - length a = omega arith in
    let joined = labels_equiv.congr a (drop k b) (drop k (drop j c)) low ∙ high in
    both (nat_le (length a) (length c)) _ (grind (arith, nat_tests)) (ap (λ (xs : List (List ℕ)). same_labels a xs) (sym (drop-drop k j c ∙ ap (λ (n : ℕ). drop n c) sum)) ∙ joined)

pub is_suffix-refl : (a : List (List ℕ)) → is_suffix a a ≡ true
is_suffix-refl a =
    let none : length a - length a ≡ 0 = omega arith in
    both (nat_le (length a) (length a)) _ (grind (arith, nat_tests)) (ap (λ (n : ℕ). same_labels a (drop n a)) none ∙ labels_equiv.refl a)

pub is_above-trans : (a b c : DomainName) → is_above a b ≡ true → is_above b c ≡ true → is_above a c ≡ true
is_above-trans a b c g h = grind (arith, is_suffix-trans)

pub is_above-refl : (a : DomainName) → a.fqdn ≡ true → is_above a a ≡ true
is_above-refl a e = both (a.fqdn && a.fqdn) _ (both a.fqdn a.fqdn e e) (is_suffix-refl a.labels)

qualified : (f g suffix : Bool) (n : ℕ) → f ≡ true → (not (n == 0 && not f) && beq f g && suffix) ≡ (f && g && suffix)
qualified true g suffix n e = each (n == 0) g
  where
    each : (b g : Bool) → (not (b && false) && beq true g && suffix) ≡ (true && g && suffix)
    each true true = refl
    each true false = refl
    each false true = refl
    each false false = refl
qualified false g suffix n e = cc

-- below a fully qualified apex it is the same as lying in its zone
pub is_in_zone-above : (z n : DomainName) → z.fqdn ≡ true → is_in_zone z n ≡ is_above z n
is_in_zone-above z n e = qualified z.fqdn n.fqdn (is_suffix z.labels n.labels) (length z.labels) e
