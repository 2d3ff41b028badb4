use Rattle.std.proofs.Common.{◌≡◌, ◌++◌, take, flat_map}
use Rattle.transcript_printer.specs.Errors.{forward_text}
use Rattle.transcript_printer.proofs.errors.put_forwards.Given as goal

abbrev pub invariant-loop-forward : goal.invariant-loop-forward
invariant-loop-forward l = l.out.items ≡ l.fn.out.items ++ flat_map forward_text (take l.forward-index l.forwards)
