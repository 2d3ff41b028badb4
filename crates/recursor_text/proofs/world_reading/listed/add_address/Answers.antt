use Rattle.recursor_text.proofs.KeySet.{address_added}
use Rattle.recursor_text.proofs.world_reading.listed.add_address.Goals as goal

pub returns-clause-ok : goal.returns-clause-ok
returns-clause-ok c = λ a. address_added c.args.ip a _ _ (c.in_ok-_new.ensures.updates.0 a)
