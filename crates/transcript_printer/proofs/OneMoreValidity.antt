-- One more question whose validity is known.
use Rattle.std.proofs.Common.{◌≡◌, ℕ, zero, suc, ◌+◌, ◌<◌, Bool, List, [], ◌∷◌, ◌++◌, length, take, get_or, refl, sym, ap, ◌∙◌, subst, arith}
use Rattle.std.specs.Prelude.{◌↔◌, IsTrue}
use Rattle.std.proofs.lemmas.List.{take_more}
use Rattle.dns_core.specs.declared.request.Question.{Question}
use Rattle.zone_worlds.specs.Valid.{IsValid}
use Rattle.zone_rules.specs.declared.world.World.{World}
use Rattle.transcript_printer.specs.Checking.{AreValid}

valid_more : (w : World) (d e : ℕ) (qs : List Question) (valid : List Bool) (q : Question) (v : Bool) → AreValid w d e qs valid → (IsTrue v ↔ IsValid w d e q.query)
    → AreValid w d e (qs ++ q ∷ []) (valid ++ v ∷ [])
valid_more w d e [] [] q v h one = (one, tt)
valid_more w d e [] (b ∷ bs) q v h one = absurd h
valid_more w d e (x ∷ xs) [] q v h one = absurd h
valid_more w d e (x ∷ xs) (b ∷ bs) q v h one = (h.0, valid_more w d e xs bs q v h.1 one)

pub valid_next : (w : World) (d e : ℕ) (qs : List Question) (valid : List Bool) (i : ℕ) (q : Question) (v : Bool) → i < length qs → q ≡ get_or qs i q → AreValid w d e (take i qs) valid
    → (IsTrue v ↔ IsValid w d e q.query) → AreValid w d e (take (i + 1) qs) (valid ++ v ∷ [])
valid_next w d e qs valid i q v below is h one =
    subst (λ (xs : List Question). AreValid w d e xs (valid ++ v ∷ [])) (sym (take_more qs i q below ∙ ap (λ y. take i qs ++ y ∷ []) (sym is))) (valid_more w d e (take i qs) valid q v h one)

-- what stands at a place of a list, whatever would stand beyond its end
pub same_item : {X : Type 0} (xs : List X) (i : ℕ) (x y : X) → i < length xs → get_or xs i x ≡ get_or xs i y
same_item [] i x y below = absurd (omega (arith, below))
same_item (z ∷ zs) zero x y below = refl
same_item (z ∷ zs) (suc i) x y below = same_item zs i x y (omega (arith, below))
