use Rattle.std.proofs.Common.{ℕ, ◌+◌, ◌<◌, List, [], ◌∷◌, length, drop, arith, ◌∙◌, ap, sym}
use Rattle.std.proofs.lemmas.List.{at_drop_more}
use Rattle.std.proofs.lemmas.Bool.Decides.{nat_tests}
use Rattle.dns_core.specs.NameText.{wire_length}
use Rattle.wire_names.proofs.labels.is_long.Goals as goal

some_length : (ls : List (List ℕ)) → 0 < wire_length ls
some_length [] = omega arith
some_length (l ∷ ls) = omega (arith, some_length ls)

pub returns-then-len-left : goal.returns-then-len-left
returns-then-len-left c =
    let ls = c.args.labels.now in
    let i = c.loop-label.label-index in
    let next = at_drop_more wire_length ls i c.label-item.result c.loop-label-test.true ∙ ap (λ l. length l + 1 + wire_length (drop (i + 1) ls)) (sym c.label-item.is) in
    let more = some_length (drop (i + 1) ls) in
    grind (arith, nat_tests)
