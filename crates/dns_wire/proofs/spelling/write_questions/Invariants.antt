use Rattle.std.proofs.Common.{◌≡◌, ◌++◌, take}
use Rattle.std.specs.List.{All, flat_map}
use Rattle.wire_records.specs.Spelling.{spelled_question, FitQuestion}
use Rattle.dns_wire.proofs.spelling.write_questions.Given as goal

abbrev pub invariant-loop-query : goal.invariant-loop-query
invariant-loop-query l = record {
  out : l.out.items ≡ l.fn.out.items ++ flat_map spelled_question (take l.query-index l.questions);
  fit : All FitQuestion (take l.query-index l.questions);
}
