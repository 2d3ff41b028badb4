-- What a walk looks for at a candidate.
use Rattle.std.specs.Prelude.{ℕ}
use Rattle.dns_core.specs.Name.{DomainName}
use Rattle.dns_core.specs.declared.message.Query.{Query}
use Rattle.resolution.specs.Names.{question, last_name}

-- the NS records of the last labels of the name, so many of them
abbrev pub candidate_query : DomainName → ℕ → Query
candidate_query name labels = question (last_name labels name) 2
