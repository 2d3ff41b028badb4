use Rattle.recursor_core.proofs.Names.{◌≡◌, ◌∙◌, ◌<◌, Some, List, [], ◌∷◌, length, refl, arith, LogEntry}
use Rattle.std.proofs.Common.{◌≢◌}
use Rattle.walk_lookup.specs.Asking.{connect_of}
use Rattle.recursor_core.proofs.MachineHoldsOn.{new_rests}
use Rattle.recursor_core.proofs.recursor.Recursor.at_rest.Goals as goal

-- a list that is not empty has something
has_some : {X : Type 0} (xs : List X) → xs ≢ [] → 0 < length xs
has_some [] h = absurd (h refl)
has_some (x ∷ xs) h = omega arith

pub invariant_of-result : goal.invariant_of-result
invariant_of-result g c =
    let p = g.P.ConnectionProvider in
    let some : 0 < length c.args.roots.now = has_some c.args.roots.now c.requires.some in
    let carrier : c.new-3.result.carrier.provider ≡ c.args.provider = rw c.new-3.ensures.carrier c.new-2.ensures.provider in
    let empty : (es : List LogEntry) → p.log c.new-3.result.carrier.provider ≡ Some es → es ≡ [] = rw carrier c.requires.empty in
    let connects : c.new-3.result.carrier.options ≡ connect_of c.in_ok-core.core.policy.resolver = rw c.new-3.ensures.carrier (c.new-2.ensures.options ∙ c.in_ok-connect.ensures) in
    new_rests p c.args.roots.now c.args.options c.in_ok-core.core c.new-3.result c.in_ok-core.ensures some (c.new-3.ensures.holds (c.new-2.ensures.holds c.requires.empty)) connects empty
