use Rattle.std.proofs.Common.{◌≡◌, ◌∙◌, ◌==◌, suc, ◌+◌, ℕ, false, List, [], ◌∷◌, take, refl, ap, sym, arith}
use Rattle.std.specs.List.{list_any}
use Rattle.pool_lookup.specs.Cancelling.{others_of}
use Rattle.std.proofs.lemmas.Bool.{eq-eqb, ne_eqb}
use Rattle.pool_lookup.proofs.LosersRecorded.{stands_on, found_before}
use Rattle.pool_lookup.proofs.lookup.Lookup.stands_before.Goals as goal

pub earlier-init : goal.earlier-init
earlier-init c = none_before (others_of c.args.self.now)
  where
    none_before : (xs : List ℕ) → list_any (λ m. m == c.args.number) (take 0 xs) ≡ false
    none_before [] = refl
    none_before (x ∷ xs) = refl

pub other_at-requires : goal.other_at-requires
other_at-requires c = omega (arith, c.requires)

pub earlier-preserved : goal.earlier-preserved
earlier-preserved c =
    let next : c.earlier.other + 1 ≡ suc c.earlier.other = omega arith in
    ap (λ (n : ℕ). list_any (λ m. m == c.args.number) (take n (others_of c.args.self.now))) next
    ∙ stands_on c.args.number c.earlier.other c.other_at.result (others_of c.args.self.now) false c.earlier.invariant c.other_at.ensures (ne_eqb c.other_at.result c.args.number c.if-other_at-number.false)

pub returns-then-other_at-number : goal.returns-then-other_at-number
returns-then-other_at-number c =
    sym (found_before c.args.number c.earlier.other c.args.place c.other_at.result (others_of c.args.self.now) c.other_at.ensures (eq-eqb c.other_at.result c.args.number c.if-other_at-number.true) (omega arith))
