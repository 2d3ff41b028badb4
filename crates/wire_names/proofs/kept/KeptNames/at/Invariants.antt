use Rattle.std.proofs.Common.{◌≢◌, take}
use Rattle.std.specs.List.{All}
use Rattle.wire_names.proofs.kept.KeptNames.at.Given as goal

abbrev pub invariant-loop-kept : goal.invariant-loop-kept
invariant-loop-kept l = All (λ kept. kept.place ≢ l.place) (take l.kept-index l.kept-items)
