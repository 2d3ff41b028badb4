use Rattle.std.proofs.Common.{◌≡◌, ◌++◌, take}
use Rattle.wire_names.specs.Names.{run}
use Rattle.wire_names.proofs.writing.write_name.Given as goal

abbrev pub invariant-loop-label : goal.invariant-loop-label
invariant-loop-label l = l.out.items ≡ l.fn.out.items ++ run (take l.label-index l.labels)
