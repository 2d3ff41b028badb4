use Rattle.alias_rules.proofs.Appended.{joined_twice, merged_forwards}
use Rattle.alias_rules.proofs.chain_laws.responses_join_forwards.Goals as goal

pub returns-clause-twice : goal.returns-clause-twice
returns-clause-twice c = joined_twice

pub returns-clause-chain : goal.returns-clause-chain
returns-clause-chain c = merged_forwards
