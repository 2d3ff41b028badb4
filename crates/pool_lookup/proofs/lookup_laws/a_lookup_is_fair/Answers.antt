use Rattle.pool_lookup.proofs.FewSends.{is_fair}
use Rattle.pool_lookup.proofs.lookup_laws.a_lookup_is_fair.Goals as goal

pub returns : goal.returns
returns c = λ denied heard l h. is_fair denied heard l h
