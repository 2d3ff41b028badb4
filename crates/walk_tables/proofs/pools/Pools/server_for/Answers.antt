use Rattle.walk_tables.proofs.Names.{◌∙◌, sym, ap, option_copied}
use Rattle.walk_tables.proofs.pools.Pools.server_for.Goals as goal

pub returns-in-Some-clause-met : goal.returns-in-Some-clause-met
returns-in-Some-clause-met c policy h = h.numbers c.args.ip c.in-Some.number.now (sym c.get.ensures.value ∙ ap option_copied c.in-Some.is)
