-- Tests of what is left of a list are tests of the list.
use Rattle.std.proofs.lemmas.Bool.Decides.{nat_tests}
use Rattle.std.proofs.Common.{◌≡◌, ℕ, suc, arith, Bool, true, false, cond, List, [], ◌∷◌, ◌++◌, length, Option, Some, None, refl, ap, ◌∙◌}
use Rattle.std.specs.Prelude.{not, ◌&&◌, ◌||◌, ◌==◌, filter}
use Rattle.std.specs.List.{list_any, filter_map, cons_option}
use Rattle.std.proofs.lemmas.List.Folds.{list_any-append}
use Rattle.dns_core.specs.declared.record.Record.{Record}
use Rattle.std.specs.declared.net.ip_addr.IpAddr.{IpAddr}
use Rattle.dns_core.specs.declared.message.Message.{Message}
use Rattle.resolver_settings.specs.Access.{denies}
use Rattle.resolution.specs.Records.{records, only}
use Rattle.resolution.specs.Verdict.{holds_denied, is_in_bailiwick, is_emptied, is_all_denied}
use Rattle.resolution_reference.specs.Plain.{apex, passes, kept, nothing_is_left}
use Rattle.resolution_reference.specs.declared.kept.kept.Kept.{Kept}

pub list_any-filter : {X : Type 0} (p q : X → Bool) (xs : List X) → list_any p (filter q xs) ≡ list_any (λ x. q x && p x) xs
list_any-filter p q [] = refl
list_any-filter {X} p q (x ∷ xs) = at_head (q x) (list_any-filter p q xs)
  where
    at_head : (b : Bool) → list_any p (filter q xs) ≡ list_any (λ x. q x && p x) xs → list_any p (cond b (x ∷ filter q xs) (filter q xs)) ≡ ((b && p x) || list_any (λ x. q x && p x) xs)
    at_head true e = ap (λ (t : Bool). p x || t) e
    at_head false e = e

and_assoc : (a b c : Bool) → (a && (b && c)) ≡ ((a && b) && c)
and_assoc true b c = refl
and_assoc false b c = refl

pub list_any-filters : {X : Type 0} (p q r : X → Bool) (xs : List X) → list_any p (filter r (filter q xs)) ≡ list_any (λ x. (q x && r x) && p x) xs
list_any-filters {X} p q r xs =
    let tests : (λ (x : X). q x && (r x && p x)) ≡ (λ (x : X). (q x && r x) && p x) = λ i x. and_assoc (q x) (r x) (p x) i in
    list_any-filter p r (filter q xs) ∙ list_any-filter (λ x. r x && p x) q xs ∙ ap (λ (t : X → Bool). list_any t xs) tests

-- a test of what is left of a message, section by section
pub list_any-kept : (k : Kept) (p : Record → Bool) → list_any p (records (kept k)) ≡ ((list_any (λ r. passes k r && p r) k.message.now.answers || list_any (λ r. passes k r && p r) k.message.now.authorities) || list_any (λ r. passes k r && p r) k.message.now.additionals)
list_any-kept k p =
    let d : Record → Bool = λ r. not (holds_denied (denies k.denied.now) r) in
    let z : Record → Bool = is_in_bailiwick (apex k.zone.now) in
    let a = k.message.now.answers in
    let u = k.message.now.authorities in
    let x = k.message.now.additionals in
    list_any-append p (filter z (filter d a) ++ filter z (filter d u)) (filter z (filter d x))
    ∙ ap (λ (t : Bool). t || list_any p (filter z (filter d x))) (list_any-append p (filter z (filter d a)) (filter z (filter d u)))
    ∙ ap (λ (t : Bool). (t || list_any p (filter z (filter d u))) || list_any p (filter z (filter d x))) (list_any-filters p d z a)
    ∙ ap (λ (t : Bool). (list_any (λ r. passes k r && p r) a || t) || list_any p (filter z (filter d x))) (list_any-filters p d z u)
    ∙ ap (λ (t : Bool). (list_any (λ r. passes k r && p r) a || list_any (λ r. passes k r && p r) u) || t) (list_any-filters p d z x)

pub list_any-filter_map : {X Y : Type 0} (p : Y → Bool) (f : X → Option Y) (xs : List X) → list_any p (filter_map f xs) ≡ list_any (λ x. elim (f x) [ None ↦ false | Some y ↦ p y ]) xs
list_any-filter_map p f [] = refl
list_any-filter_map {X} {Y} p f (x ∷ xs) = at_head (f x) (list_any-filter_map p f xs)
  where
    at_head : (o : Option Y) → list_any p (filter_map f xs) ≡ list_any (λ x. elim (f x) [ None ↦ false | Some y ↦ p y ]) xs
        → list_any p (cons_option o (filter_map f xs)) ≡ ((elim o [ None ↦ false | Some y ↦ p y ]) || list_any (λ x. elim (f x) [ None ↦ false | Some y ↦ p y ]) xs)
    at_head None e = e
    at_head (Some y) e = ap (λ (t : Bool). p y || t) e

not_empty : (n : ℕ) → (suc n == 0) ≡ false
not_empty n = grind (arith, nat_tests)

pub is_empty-filter : {X : Type 0} (p : X → Bool) (xs : List X) → (length (filter p xs) == 0) ≡ not (list_any p xs)
is_empty-filter p [] = refl
is_empty-filter {X} p (x ∷ xs) = at_head (p x) (is_empty-filter p xs)
  where
    at_head : (b : Bool) → (length (filter p xs) == 0) ≡ not (list_any p xs) → (length (cond b (x ∷ filter p xs) (filter p xs)) == 0) ≡ not (b || list_any p xs)
    at_head true e = not_empty (length (filter p xs))
    at_head false e = e

-- what the filter empties, by tests
pub all_denied-tests : (d : IpAddr → Bool) (m : Message) → is_all_denied d m ≡ nothing_is_left (not (length m.answers == 0)) (list_any (λ r. not (holds_denied d r)) m.answers) (not (length m.authorities == 0)) (list_any (λ r. not (holds_denied d r)) m.authorities)
all_denied-tests d m =
    let p : Record → Bool = λ r. not (holds_denied d r) in
    ap (λ (t : Bool). (not (length m.answers == 0) && t) || (t && not (length m.authorities == 0) && length (filter p m.authorities) == 0)) (is_empty-filter p m.answers)
    ∙ ap (λ (t : Bool). (not (length m.answers == 0) && not (list_any p m.answers)) || (not (list_any p m.answers) && not (length m.authorities == 0) && t)) (is_empty-filter p m.authorities)

not_not : (b : Bool) → not (not b) ≡ b
not_not true = refl
not_not false = refl

-- what a filter and then a zone empty, by tests
pub emptied-tests : (d z : Record → Bool) (m : Message) → is_emptied (only d m) (only z (only d m)) ≡ nothing_is_left (list_any d m.answers) (list_any (λ r. d r && z r) m.answers) (list_any d m.authorities) (list_any (λ r. d r && z r) m.authorities)
emptied-tests d z m =
    let was : (xs : List Record) → not (length (filter d xs) == 0) ≡ list_any d xs = λ xs. ap not (is_empty-filter d xs) ∙ not_not (list_any d xs) in
    let none : (xs : List Record) → (length (filter z (filter d xs)) == 0) ≡ not (list_any (λ r. d r && z r) xs) = λ xs. is_empty-filter z (filter d xs) ∙ ap not (list_any-filter z d xs) in
    let F : Bool → Bool → Bool → Bool → Bool = λ a b c e. (a && b) || (b && c && e) in
    ap (λ (t : Bool). F t (length (filter z (filter d m.answers)) == 0) (not (length (filter d m.authorities) == 0)) (length (filter z (filter d m.authorities)) == 0)) (was m.answers)
    ∙ ap (λ (t : Bool). F (list_any d m.answers) t (not (length (filter d m.authorities) == 0)) (length (filter z (filter d m.authorities)) == 0)) (none m.answers)
    ∙ ap (λ (t : Bool). F (list_any d m.answers) (not (list_any (λ r. d r && z r) m.answers)) t (length (filter z (filter d m.authorities)) == 0)) (was m.authorities)
    ∙ ap (λ (t : Bool). F (list_any d m.answers) (not (list_any (λ r. d r && z r) m.answers)) (list_any d m.authorities) t) (none m.authorities)
