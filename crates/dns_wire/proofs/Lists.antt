-- Lists that are written item by item.
use Rattle.std.proofs.Common.{◌≡◌, ℕ, zero, suc, ◌+◌, ◌<◌, ◌≤◌, List, [], ◌∷◌, ◌++◌, length, get_or, take, sym, ap, ◌∙◌, arith, length-append}
use Rattle.std.specs.List.{All, flat_map}
use Rattle.std.proofs.lemmas.List.{take_more, flat_map_more}
use Rattle.std.proofs.lemmas.List.Elements.{All-push, All-same}

pub part_few : {X : Type 0} (f : X → List ℕ) (xs : List X) (index : ℕ) (x : X) → index < length xs → length (f (get_or xs index x)) ≤ length (flat_map f xs)
part_few f [] index x within = absurd (omega (arith, within))
part_few f (y ∷ ys) zero x within = omega (arith, length-append (f y) (flat_map f ys))
part_few f (y ∷ ys) (suc index) x within = omega (arith, part_few f ys index x (omega (arith, within)), length-append (f y) (flat_map f ys))

one_more : {X : Type 0} (xs : List X) (index : ℕ) (x : X) → index < length xs → x ≡ get_or xs index x → take (index + 1) xs ≡ take index xs ++ x ∷ []
one_more {X} xs index x within is = take_more xs index x within ∙ ap (λ (y : X). take index xs ++ y ∷ []) (sym is)

pub out_more : {X : Type 0} (f : X → List ℕ) (xs : List X) (index : ℕ) (x : X) (old now last : List ℕ) → index < length xs → x ≡ get_or xs index x → now ≡ old ++ flat_map f (take index xs) → last ≡ now ++ f x → last ≡ old ++ flat_map f (take (index + 1) xs)
out_more {X} f xs index x old now last within is before more =
    more ∙ ap (λ (o : List ℕ). o ++ f x) before ∙ flat_map_more f old (take index xs) x ∙ ap (λ (ys : List X). old ++ flat_map f ys) (sym (one_more xs index x within is))

pub all_more : {X : Type 0} (P : X → Type 0) (xs : List X) (index : ℕ) (x : X) → index < length xs → x ≡ get_or xs index x → All P (take index xs) → P x → All P (take (index + 1) xs)
all_more P xs index x within is before here = All-same P (take (index + 1) xs) (take index xs ++ x ∷ []) (one_more xs index x within is) (All-push P (take index xs) x before here)
