-- Lying in a zone is an order of names.
use Rattle.std.proofs.Common.{◌≡◌, ℕ, zero, suc, ◌+◌, ◌-◌, ◌≤◌, Bool, true, false, ◌&&◌, List, [], ◌∷◌, length, drop, refl, ap, ◌∙◌, sym, arith}
use Rattle.std.specs.Prelude.{nat_le, not, ◌==◌}
use Rattle.std.specs.Bool.{beq}
use Rattle.std.specs.Cmp.{IsEquivalence, first_so, second_so, booleans_Decides, bool_eq_equiv}
use Rattle.std.specs.Cmp.Lexicographic.{pointwise, lists_equiv}
use Rattle.std.proofs.lemmas.List.{drop-drop}
use Rattle.std.proofs.lemmas.Bool.Decides.{nat_tests}
use Rattle.dns_core.specs.Letters.{same_letter, same_letter_equiv}
use Rattle.dns_core.specs.Name.{DomainName, same_labels, is_suffix, is_empty_name, is_in_zone}

labels_equiv : IsEquivalence same_labels
labels_equiv = lists_equiv (lists_equiv same_letter_equiv)

pointwise-drop : {X : Type 0} (E : X → X → Bool) (k : ℕ) (xs ys : List X) → pointwise E xs ys ≡ true → pointwise E (drop k xs) (drop k ys) ≡ true
pointwise-drop E zero xs ys h = h
pointwise-drop E (suc k) [] [] h = refl
pointwise-drop E (suc k) [] (y ∷ ys) h = cc
pointwise-drop E (suc k) (x ∷ xs) [] h = cc
pointwise-drop E (suc k) (x ∷ xs) (y ∷ ys) h = pointwise-drop E k xs ys (second_so (E x y) (pointwise E xs ys) h)

both : (a b : Bool) → a ≡ true → b ≡ true → (a && b) ≡ true
both true b p q = q
both false b p q = p

is_suffix-refl : (a : List (List ℕ)) → is_suffix a a ≡ true
is_suffix-refl a =
    let none : length a - length a ≡ 0 = omega arith in
    both (nat_le (length a) (length a)) _ (grind (arith, nat_tests)) (ap (λ (n : ℕ). same_labels a (drop n a)) none ∙ labels_equiv.refl a)

is_suffix-trans : (a b c : List (List ℕ)) → is_suffix a b ≡ true → is_suffix b c ≡ true → is_suffix a c ≡ true
is_suffix-trans a b c g h =
    let ab : length a ≤ length b = let t = first_so (nat_le (length a) (length b)) _ g in grind (arith, nat_tests) in
    let bc : length b ≤ length c = let t = first_so (nat_le (length b) (length c)) _ h in grind (arith, nat_tests) in
    let k = length b - length a in
    let j = length c - length b in
    let low = second_so (nat_le (length a) (length b)) _ g in
    let high = pointwise-drop (pointwise same_letter) k b (drop j c) (second_so (nat_le (length b) (length c)) _ h) in
    let sum : j + k ≡ length c - length a = omega arith in
    let joined = labels_equiv.congr a (drop k b) (drop k (drop j c)) low ∙ high in
    both (nat_le (length a) (length c)) _ (grind (arith, nat_tests)) (ap (λ (xs : List (List ℕ)). same_labels a xs) (sym (drop-drop k j c ∙ ap (λ (n : ℕ). drop n c) sum)) ∙ joined)

pub in_zone_itself : (n : DomainName) → is_in_zone n n ≡ not (is_empty_name n)
in_zone_itself n =
    each (not (is_empty_name n)) (beq n.fqdn n.fqdn) (is_suffix n.labels n.labels) (bool_eq_equiv.refl n.fqdn) (is_suffix-refl n.labels)
  where
    each : (e f s : Bool) → f ≡ true → s ≡ true → (e && f && s) ≡ e
    each true true true p q = refl
    each true true false p q = q
    each true false s p q = cc
    each false f s p q = refl

pub qualified_in_itself : (n : DomainName) → n.fqdn ≡ true → is_in_zone n n ≡ true
qualified_in_itself n q = in_zone_itself n ∙ each (length n.labels == 0) n.fqdn q
  where
    each : (none f : Bool) → f ≡ true → not (none && not f) ≡ true
    each true true q = refl
    each false true q = refl
    each none false q = cc

-- the three parts of lying in a zone
none-first : (a b : DomainName) → is_in_zone a b ≡ true → not (is_empty_name a) ≡ true
none-first a b h = first_so (not (is_empty_name a)) (beq a.fqdn b.fqdn) (first_so (not (is_empty_name a) && beq a.fqdn b.fqdn) _ h)

pub flags_in_zone : (a b : DomainName) → is_in_zone a b ≡ true → a.fqdn ≡ b.fqdn
flags_in_zone a b h = (booleans_Decides a.fqdn b.fqdn).0 (second_so (not (is_empty_name a)) (beq a.fqdn b.fqdn) (first_so (not (is_empty_name a) && beq a.fqdn b.fqdn) _ h))

suffix-last : (a b : DomainName) → is_in_zone a b ≡ true → is_suffix a.labels b.labels ≡ true
suffix-last a b h = second_so (not (is_empty_name a) && beq a.fqdn b.fqdn) (is_suffix a.labels b.labels) h

pub in_zone_third : (a b c : DomainName) → is_in_zone a b ≡ true → is_in_zone b c ≡ true → is_in_zone a c ≡ true
in_zone_third a b c g h =
    let flags = ap (λ (f : Bool). beq a.fqdn f) (sym (flags_in_zone a b g ∙ flags_in_zone b c h)) ∙ bool_eq_equiv.refl a.fqdn in
    both (not (is_empty_name a) && beq a.fqdn c.fqdn) _ (both (not (is_empty_name a)) (beq a.fqdn c.fqdn) (none-first a b g) flags)
    (is_suffix-trans a.labels b.labels c.labels (suffix-last a b g) (suffix-last b c h))
