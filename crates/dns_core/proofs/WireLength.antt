-- Each label adds at least one byte to the wire form.
use Rattle.std.proofs.Common.{ℕ, ◌+◌, ◌≤◌, List, [], ◌∷◌, length, arith}
use Rattle.dns_core.specs.NameText.{wire_length}

pub few_labels : (ls : List (List ℕ)) → length ls + 1 ≤ wire_length ls
few_labels [] = omega arith
few_labels (l ∷ ls) = omega (arith, few_labels ls)
