use Rattle.std.proofs.Common.{◌∙◌, subst}
use Rattle.std.specs.Prelude.{IfOk}
use Rattle.zone_rules.specs.declared.world.World.{World}
use Rattle.transcript_printer.specs.Checking.{Tells}
use Rattle.transcript_printer.proofs.checks.checking.check_text.Goals as goal

pub returns : goal.returns
returns c =
    subst (λ (w : World). IfOk c.text_of.result (λ text. Tells w c.args.roots.now c.args.options.now c.args.patience c.args.questions.now text.items)) (c.in_ok-indexed.ensures ∙ c.in_ok-copy.ensures) c.text_of.ensures
