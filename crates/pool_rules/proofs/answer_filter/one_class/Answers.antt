use Rattle.std.proofs.Common.{◌≡◌, ◌∙◌, ap, sym, None, Some}
use Rattle.std.specs.List.{position}
use Rattle.resolution.specs.Class.{is_foreign}
use Rattle.pool_rules.proofs.FirstForeignRecord.{placed, placed_nowhere}
use Rattle.pool_rules.proofs.answer_filter.one_class.Goals as goal

pub returns-in-Some-clause-err : goal.returns-in-Some-clause-err
returns-in-Some-clause-err c =
    let p = is_foreign c.args.query.now in
    let items : c.deref.result.now ≡ c.args.section = c.deref.ensures.value ∙ c.into_vec-items.ensures in
    let place : position p c.args.section ≡ Some c.in-Some.place = ap (position p) (sym items) ∙ sym c.foreign_place.ensures ∙ c.in-Some.is in
    placed p c.args.section c.in-Some.place c.swap_remove.result place (rw (← c.into_vec-items.ensures) c.swap_remove.ensures.value)

pub returns-in-None-clause-ok : goal.returns-in-None-clause-ok
returns-in-None-clause-ok c =
    let p = is_foreign c.args.query.now in
    let items : c.deref.result.now ≡ c.args.section = c.deref.ensures.value ∙ c.into_vec-items.ensures in
    let place : position p c.args.section ≡ None = ap (position p) (sym items) ∙ sym c.foreign_place.ensures ∙ c.in-None.is in
    (c.new.ensures ∙ c.into_vec-items.ensures, placed_nowhere p c.args.section place)
