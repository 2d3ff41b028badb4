use Rattle.wire_names.proofs.KeptLaws.{kept_as, name_at, names_same}
use Rattle.wire_names.proofs.kept.KeptNames.at.Goals as goal

pub returns-then-kept-place : goal.returns-then-kept-place
returns-then-kept-place c = λ message all.
    let before = kept_as message c.args.self.now _ c.self.view_is all in
    let items = names_same message _ c.deref-kept-items.result.now c.deref-kept-items.ensures.value before.names in
    name_at message c.deref-kept-items.result.now c.loop-kept.kept-index c.args.place c.kept-item.result c.loop-kept-test.true c.kept-item.is c.if-kept-place.true items
