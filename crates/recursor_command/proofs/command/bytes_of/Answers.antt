use Rattle.recursor_command.proofs.command.bytes_of.Goals as goal

pub returns-clause-held : goal.returns-clause-held
returns-clause-held g c = rw c.most_for.ensures at c.read_all.ensures.held

pub returns-clause-bound : goal.returns-clause-bound
returns-clause-bound g c = rw c.most_for.ensures at c.read_all.ensures.bound
