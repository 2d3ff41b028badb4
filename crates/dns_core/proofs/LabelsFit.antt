-- What names may have is kept where labels are dropped, and is what reading a text finds.
use Rattle.std.proofs.Common.{◌≡◌, ℕ, ◌-◌, ◌≤◌, Bool, true, false, ◌&&◌, suc, zero, List, [], ◌∷◌, length, take, drop, None, refl, sym, subst, arith, length-drop}
use Rattle.std.proofs.lemmas.Bool.Decides.{nat_tests}
use Rattle.std.proofs.lemmas.List.{take_all}
use Rattle.std.specs.List.{AllByRecursion, list_all}
use Rattle.std.specs.Prelude.{IsTrue}
use Rattle.dns_core.specs.Labels.{IsLabel, AreLabels}
use Rattle.dns_core.specs.NameText.{is_allowed, label_fault, first_fault, wire_length}
use Rattle.dns_core.proofs.WireLength.{few_labels}

dropped_fit : (n : ℕ) (ls : List (List ℕ)) → AreLabels ls → AreLabels (drop n ls)
dropped_fit zero ls fit = fit
dropped_fit (suc n) [] fit = fit
dropped_fit (suc n) (l ∷ ls) fit = dropped_fit n ls (record { each = fit.each.1; short = omega (arith, fit.short) })

-- the labels that are left are what a name may have
pub left_fit : (n : ℕ) (ls : List (List ℕ)) → AreLabels ls → AreLabels (take (length ls - n) (drop n ls))
left_fit n ls fit = subst AreLabels (sym (take_all (length ls - n) (drop n ls) (omega (arith, length-drop n ls)))) (dropped_fit n ls fit)

pub fit_few : (ls : List (List ℕ)) → AreLabels ls → length ls ≤ 254
fit_few ls fit = omega (arith, few_labels ls, fit.short)

relaxed : (strict : Bool) (b : ℕ) → IsTrue (is_allowed strict b) → IsTrue (is_allowed false b)
relaxed false b h = h
relaxed true b h = grind (arith, nat_tests, h)

both : (a b c d : Bool) → (IsTrue a → IsTrue c) → (IsTrue b → IsTrue d) → IsTrue (a && b) → IsTrue (c && d)
both true true c d p q h = rw (p h, q h) refl
both true false c d p q h = cc h
both false b c d p q h = cc h

all_relaxed : (strict : Bool) (l : List ℕ) → IsTrue (list_all (is_allowed strict) l) → IsTrue (list_all (is_allowed false) l)
all_relaxed strict [] h = h
all_relaxed strict (b ∷ bs) h = both (is_allowed strict b) (list_all (is_allowed strict) bs) (is_allowed false b) (list_all (is_allowed false) bs) (relaxed strict b) (all_relaxed strict bs) h

without_fault : (strict : Bool) (l : List ℕ) → label_fault strict l ≡ None → IsLabel l
without_fault strict l none = record {
  some = grind (arith, nat_tests, none);
  few = grind (arith, nat_tests, none);
  allowed = all_relaxed strict l (grind (arith, none));
}

each_label : (strict : Bool) (ls : List (List ℕ)) → first_fault strict ls ≡ None → AllByRecursion IsLabel ls
each_label strict [] none = tt
each_label strict (l ∷ ls) none = (without_fault strict l (grind (arith, none)), each_label strict ls (grind (arith, none)))

-- labels without a fault that are not too long are what a name may have
pub faultless_fit : (strict : Bool) (ls : List (List ℕ)) → first_fault strict ls ≡ None → wire_length ls ≤ 255 → AreLabels ls
faultless_fit strict ls none short = record { each = each_label strict ls none; short = short }
