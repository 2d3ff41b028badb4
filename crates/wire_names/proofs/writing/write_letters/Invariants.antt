use Rattle.std.proofs.Common.{◌≡◌, ◌++◌, take}
use Rattle.wire_names.proofs.writing.write_letters.Given as goal

abbrev pub invariant-loop-letter : goal.invariant-loop-letter
invariant-loop-letter l = l.out.items ≡ l.fn.out.items ++ take l.letter-index l.letters
