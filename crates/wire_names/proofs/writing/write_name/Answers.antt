use Rattle.std.proofs.Common.{◌++◌, ◌∷◌, [], List, ℕ, ◌+◌, ◌∙◌, sym, ap, length, take, append_assoc, rules}
use Rattle.std.proofs.lemmas.List.{take_more}
use Rattle.wire_names.specs.Names.{run}
use Rattle.wire_names.proofs.WrittenNames.{run-push, kept}
use Rattle.wire_names.proofs.writing.write_name.Goals as goal

pub returns-in_err-write_label-clause-err : goal.returns-in_err-write_label-clause-err
returns-in_err-write_label-clause-err c =
    let stays = kept c.args.out.now.items c.loop-label.out.items (run (take c.loop-label.label-index c.labels-labels.result.now)) c.write_label.new.out.items c.loop-label.invariant c.in_err-write_label.ensures.err in
    search rules

pub loop-label-preserved : goal.loop-label-preserved
loop-label-preserved c =
    let old = c.args.out.now.items in
    let labels = c.labels-labels.result.now in
    let label = c.label-item.result in
    let front = take c.loop-label.label-index labels in
    let next = take_more labels c.loop-label.label-index label c.loop-label-test.true ∙ ap (λ (l : List ℕ). front ++ l ∷ []) (sym c.label-item.is) in
    let more = ap run next ∙ run-push front label in
    c.in_ok-write_label.ensures.ok ∙ ap (λ (o : List ℕ). o ++ length label ∷ label) c.loop-label.invariant ∙ append_assoc old (run front) (length label ∷ label) ∙ ap (λ (r : List ℕ). old ++ r) (sym more)
