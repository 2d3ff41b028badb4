use Rattle.std.proofs.Common.{◌≡◌}
use Rattle.wire_names.specs.Kept.{IsRest, AreKept}
use Rattle.wire_records.specs.Reading.{question_of}
use Rattle.wire_records.specs.Sections.{in_turn, with_items}
use Rattle.wire_records.proofs.sections.read_questions.Given as goal

abbrev pub invariant-questions : goal.invariant-questions
invariant-questions l = record {
  read : with_items l.questions.items (in_turn question_of l.left l.message l.rest) ≡ in_turn question_of l.fn.count l.fn.message l.fn.bytes;
  rest : IsRest l.message l.rest;
  kept : AreKept l.message l.kept;
}

abbrev pub decreases-questions : goal.decreases-questions
decreases-questions l = l.left
