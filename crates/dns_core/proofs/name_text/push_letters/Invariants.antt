use Rattle.std.proofs.Common.{◌≡◌, ◌++◌, take}
use Rattle.dns_core.proofs.name_text.push_letters.Given as goal

abbrev pub invariant-loop-letter : goal.invariant-loop-letter
invariant-loop-letter l = l.out.items ≡ l.fn.out.items ++ take l.letter-index l.letters
