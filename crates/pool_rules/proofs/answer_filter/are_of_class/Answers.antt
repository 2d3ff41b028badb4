use Rattle.std.proofs.Common.{◌∙◌}
use Rattle.std.specs.Prelude.{find}
use Rattle.resolution.specs.Class.{is_foreign}
use Rattle.pool_rules.proofs.FirstForeignRecord.{find_records, third_is}
use Rattle.pool_rules.proofs.answer_filter.are_of_class.Goals as goal

pub returns : goal.returns
returns c is =
    let p = is_foreign c.args.query.now in
    let m = c.args.message.now in
    find_records p m ∙ third_is (find p m.answers) (find p m.authorities) (find p m.additionals) (rw c.items.ensures at (c.is_of_class.ensures c.if-not-is_of_class.false))
    (rw c.items-2.ensures at (c.is_of_class-2.ensures c.if-not-is_of_class-2.false)) ∙ rw c.items-3.ensures at (c.is_of_class-3.ensures is)
