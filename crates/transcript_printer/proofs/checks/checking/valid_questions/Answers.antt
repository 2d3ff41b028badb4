use Rattle.std.proofs.Common.{◌+◌, Bool, List, take, sym, subst, arith}
use Rattle.transcript_printer.specs.Checking.{AreValid}
use Rattle.transcript_printer.proofs.OneMoreValidity.{valid_next}
use Rattle.transcript_printer.proofs.checks.checking.valid_questions.Goals as goal

pub loop-question-preserved : goal.loop-question-preserved
loop-question-preserved c =
    let w = c.args.world.now in
    let qs = c.args.questions.now in
    let i = c.loop-question.question-index in
    subst (λ (valid : List Bool). AreValid w c.args.depth c.args.ns_depth (take (i + 1) qs) valid) (sym c.in_ok-push.ensures.items)
    (valid_next w c.args.depth c.args.ns_depth qs c.loop-question.valid.items i c.question-item.result c.in_ok-is_valid.is_valid (omega arith) c.question-item.is c.loop-question.invariant c.in_ok-is_valid.ensures)
