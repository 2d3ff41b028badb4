-- The labels that names share.
use Rattle.std.specs.Prelude.{ℕ, List, [], Option, Some, None}
use Rattle.std.specs.Arc.{arc_value}
use Rattle.std.specs.declared.vec.Vec.{Vec}
use Rattle.std.specs.declared.sync.Arc.{Arc}
use Rattle.std.specs.declared.alloc.Global.{Global}

abbrev pub labels_in : Option (Arc (Vec (List ℕ) Global) Global) → List (List ℕ)
labels_in None = []
labels_in (Some shared) = (arc_value shared).items
