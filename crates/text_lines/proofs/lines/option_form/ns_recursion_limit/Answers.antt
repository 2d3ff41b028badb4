use Rattle.std.proofs.Common.{arith}
use Rattle.text_lines.proofs.OptionLaws.{limit_next}
use Rattle.text_lines.proofs.lines.option_form.ns_recursion_limit.Goals as goal

pub loop-line-preserved : goal.loop-line-preserved
loop-line-preserved c =
    limit_next c.args.written.now c.loop-line.line-index c.line-item.result c.loop-line.limit c.limit_after-limit.result (omega arith) c.line-item.is c.loop-line.invariant c.limit_after-limit.ensures
