-- The nearest zone and the first cut, a step up or down a name.
use Rattle.std.proofs.Common.{◌≡◌, ℕ, suc, Bool, true, false, cond, List, [], ◌∷◌, drop, length, Option, Some, None, refl, ap, ◌∙◌, arith}
use Rattle.std.specs.Prelude.{◌==◌, ◌<◌, ◌≤◌, nat_le}
use Rattle.std.specs.Option.{option_or}
use Rattle.std.proofs.lemmas.Bool.Decides.{nat_tests}
use Rattle.zone_rules.specs.Tree.{zone_at, nearest, first_cut}
use Rattle.zone_rules.specs.declared.world.Zone.{Zone}

pub nearest_here : (look_up : List (List ℕ) → Option Zone) (ls : List (List ℕ)) (z : Zone) → look_up ls ≡ Some z → nearest look_up ls ≡ Some z
nearest_here look_up [] z e = e
nearest_here look_up (l ∷ ls) z e = ap (λ (o : Option Zone). option_or o (nearest look_up ls)) e

pub nearest_none : (look_up : List (List ℕ) → Option Zone) (ls : List (List ℕ)) → look_up ls ≡ None → (length ls == 0) ≡ true → nearest look_up ls ≡ None
nearest_none look_up [] e h = e
nearest_none look_up (l ∷ ls) e h = let no : suc (length ls) ≡ 0 = grind (arith, nat_tests) in absurd (omega arith)

pub nearest_above : (look_up : List (List ℕ) → Option Zone) (ls : List (List ℕ)) → look_up ls ≡ None → (length ls == 0) ≡ false → nearest look_up ls ≡ nearest look_up (drop 1 ls)
nearest_above look_up [] e h = cc
nearest_above look_up (l ∷ ls) e h = ap (λ (o : Option Zone). option_or o (nearest look_up ls)) e

not_le : (m n : ℕ) → n < m → nat_le m n ≡ false
not_le m n h = grind (arith, nat_tests)

is_le : (m n : ℕ) → m ≤ n → nat_le m n ≡ true
is_le m n h = grind (arith, nat_tests)

pub first_cut_above : (zones : List Zone) (apex : ℕ) (ls : List (List ℕ)) → length ls ≤ apex → first_cut zones apex ls ≡ None
first_cut_above zones apex [] h = refl
first_cut_above zones apex (l ∷ ls) h = ap (λ (b : Bool). cond b None (option_or (first_cut zones apex ls) (zone_at zones (l ∷ ls)))) (is_le (suc (length ls)) apex h)

first_cut-step : (zones : List Zone) (apex : ℕ) (ls : List (List ℕ)) → apex < length ls → first_cut zones apex ls ≡ option_or (first_cut zones apex (drop 1 ls)) (zone_at zones ls)
first_cut-step zones apex [] h = absurd (omega arith)
first_cut-step zones apex (l ∷ ls) h = ap (λ (b : Bool). cond b None (option_or (first_cut zones apex ls) (zone_at zones (l ∷ ls)))) (not_le (suc (length ls)) apex h)

pub first_cut_higher : (zones : List Zone) (apex : ℕ) (ls : List (List ℕ)) (z : Zone) → apex < length ls → first_cut zones apex (drop 1 ls) ≡ Some z → first_cut zones apex ls ≡ Some z
first_cut_higher zones apex ls z h e = first_cut-step zones apex ls h ∙ ap (λ (o : Option Zone). option_or o (zone_at zones ls)) e

pub first_cut_here : (zones : List Zone) (apex : ℕ) (ls : List (List ℕ)) → apex < length ls → first_cut zones apex (drop 1 ls) ≡ None → first_cut zones apex ls ≡ zone_at zones ls
first_cut_here zones apex ls h e = first_cut-step zones apex ls h ∙ ap (λ (o : Option Zone). option_or o (zone_at zones ls)) e
