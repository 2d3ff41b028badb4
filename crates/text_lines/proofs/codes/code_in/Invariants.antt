use Rattle.std.proofs.Common.{◌≡◌, map, length}
use Rattle.text_lines.specs.Codes.{code_in}
use Rattle.text_lines.proofs.codes.code_in.Given as goal

abbrev pub invariant-loop-table : goal.invariant-loop-table
invariant-loop-table l = code_in (map (λ e. (e.0, e.1.now)) l.table) l.word ≡ code_in (map (λ e. (e.0, e.1.now)) l.fn.table) l.word

abbrev pub decreases-loop-table : goal.decreases-loop-table
decreases-loop-table l = length l.table
