use Rattle.std.proofs.Common.{◌∙◌}
use Rattle.resolver_cache.proofs.ExpiriesStay.{inserted_last}
use Rattle.resolver_cache.proofs.writings.add_entry.Goals as goal

pub returns-clause-ok : goal.returns-clause-ok
returns-clause-ok c = c.in_ok-_none.ensures.entries ∙ inserted_last c.args.number c.args.entry c.args.written.now.entries c.requires
