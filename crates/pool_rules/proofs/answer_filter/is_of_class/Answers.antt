use Rattle.std.proofs.Common.{◌∙◌, sym}
use Rattle.resolution.specs.Class.{is_foreign}
use Rattle.pool_rules.proofs.FirstForeignRecord.{placed_nowhere}
use Rattle.pool_rules.proofs.answer_filter.is_of_class.Goals as goal

pub returns-in-None : goal.returns-in-None
returns-in-None c is = placed_nowhere (is_foreign c.args.query.now) c.args.section.now (sym c.foreign_place.ensures ∙ c.in-None.is)
