use Rattle.std.proofs.Common.{◌∙◌, sym}
use Rattle.pool_lookup.proofs.StepsCanBeTaken.{over_ready, spent_over}
use Rattle.pool_lookup.proofs.lookup.Lookup.settle.Goals as goal

pub begin_round-requires-clause-can : goal.begin_round-requires-clause-can
begin_round-requires-clause-can c = c.requires (spent_over c.args.self.now (sym c.is_spent.ensures ∙ c.if-is_spent.true))

pub begin_round-requires-clause-none : goal.begin_round-requires-clause-none
begin_round-requires-clause-none c = over_ready c.args.self.now (spent_over c.args.self.now (sym c.is_spent.ensures ∙ c.if-is_spent.true))
