use Rattle.std.proofs.Common.{take}
use Rattle.transcript_printer.specs.Checking.{AreValid}
use Rattle.transcript_printer.proofs.checks.checking.valid_questions.Given as goal

abbrev pub invariant-loop-question : goal.invariant-loop-question
invariant-loop-question l = AreValid l.world l.depth l.ns_depth (take l.question-index l.questions) l.valid.items
