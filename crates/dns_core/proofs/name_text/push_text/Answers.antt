use Rattle.std.proofs.Common.{◌++◌, ◌∙◌, ap, take, append_assoc, rules}
use Rattle.dns_core.specs.NameText.{dotted, separator}
use Rattle.dns_core.proofs.Dotted.{dotted_take, kept}
use Rattle.dns_core.proofs.name_text.push_text.Goals as goal

pub loop-i-preserved : goal.loop-i-preserved
loop-i-preserved c =
    let old = c.args.out.now.items in
    let done = dotted (take c.loop-i.i c.args.labels.now) in
    let dot = separator c.loop-i.i in
    let next = dotted_take c.args.labels.now c.loop-i.i c.index-labels-i.result c.loop-i-test.true in
    let regrouped = append_assoc (old ++ done) dot c.letters.result.now ∙ append_assoc old done (dot ++ c.letters.result.now) in
    cc (c.in_ok-push_letters.ensures.ok, c.in_ok-push_separator.ensures.ok)

pub returns-in_err-push_letters-clause-err : goal.returns-in_err-push_letters-clause-err
returns-in_err-push_letters-clause-err c =
    let old = c.args.out.now.items in
    let done = dotted (take c.loop-i.i c.args.labels.now) in
    let dot = separator c.loop-i.i in
    let mid = c.in_ok-push_separator.ensures.ok ∙ ap (λ x. x ++ dot) c.loop-i.invariant ∙ append_assoc old done dot in
    let stays = kept old _ _ (done ++ dot) mid c.in_err-push_letters.ensures.err in
    search rules
