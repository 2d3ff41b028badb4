use Rattle.std.proofs.Common.{◌≡◌, ◌≤◌, drop}
use Rattle.text_lines.specs.Numbers.{number_from}
use Rattle.text_lines.proofs.numbers.number.Given as goal

abbrev pub invariant-loop-b : goal.invariant-loop-b
invariant-loop-b l = (number_from l.most l.value (drop l.b-index l.word) ≡ number_from l.most 0 l.word) × (l.value ≤ l.most)
