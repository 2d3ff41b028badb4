use Rattle.recursor_text.proofs.KeySet.{name_added}
use Rattle.recursor_text.proofs.world_reading.listed.add_apex.Goals as goal

pub returns-clause-ok : goal.returns-clause-ok
returns-clause-ok c = λ n. name_added c.args.apex n _ _ (c.in_ok-_new.ensures.updates.0 n)
