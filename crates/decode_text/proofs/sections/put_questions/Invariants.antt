use Rattle.std.proofs.Common.{◌≡◌, ◌++◌, take, flat_map}
use Rattle.decode_text.specs.Decoded.{question_line}
use Rattle.decode_text.proofs.sections.put_questions.Given as goal

abbrev pub invariant-loop-query : goal.invariant-loop-query
invariant-loop-query l = l.out.items ≡ l.fn.out.items ++ flat_map question_line (take l.query-index l.questions)
