use Rattle.world_upstream.proofs.ToldNames.{told_question, told_qualified}
use Rattle.world_upstream.proofs.book.WorldLog.message.Goals as goal

pub returns-then-is_same_query-clause-query : goal.returns-then-is_same_query-clause-query
returns-then-is_same_query-clause-query c = told_question c.args.self.now.world _ c.args.query.now c.told.result c.told.ensures

pub returns-then-is_same_query-clause-qualified : goal.returns-then-is_same_query-clause-qualified
returns-then-is_same_query-clause-qualified c = told_qualified c.args.self.now.world _ c.args.query.now c.told.result c.requires c.told.ensures
