use Rattle.std.proofs.Common.{◌∙◌, sym}
use Rattle.pool_lookup.proofs.StepsCanBeTaken.{over_ready}
use Rattle.pool_lookup.proofs.lookup.Lookup.start.Goals as goal

pub begin_round-requires-clause-can : goal.begin_round-requires-clause-can
begin_round-requires-clause-can c = c.requires (sym c.is_over.ensures ∙ c.if-is_over.true)

pub begin_round-requires-clause-none : goal.begin_round-requires-clause-none
begin_round-requires-clause-none c = over_ready c.args.self.now (sym c.is_over.ensures ∙ c.if-is_over.true)
