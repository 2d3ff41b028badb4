-- Which address is a server: one that the delegations told before lead to (RFC 1034 section 5.3.3).
use Rattle.std.specs.Prelude.{ℕ, IsTrue}
use Rattle.std.specs.declared.net.ip_addr.IpAddr.{IpAddr}
use Rattle.dns_core.specs.Name.{DomainName}
use Rattle.dns_core.specs.Log.{Log}
use Rattle.dns_core.specs.declared.message.Query.{Query}
use Rattle.resolution.specs.Names.{is_above, walk}
use Rattle.recursor_types.specs.declared.policy.Policy.{Policy}
use Rattle.resolution.specs.Serving.{Serves}

-- By what was told below n, the address serves some zone.
pub record IsServer (policy : Policy) (log : Log) (n : ℕ) (ip : IpAddr) : Type 0 where
  pub zone : DomainName
  pub serves : Serves policy log n ip zone

-- By what was told below n, the address serves a zone at or above the name of the question.
pub record IsServerFor (policy : Policy) (log : Log) (n : ℕ) (ip : IpAddr) (query : Query) : Type 0 where
  pub zone : DomainName
  pub above : IsTrue (is_above zone (walk query))
  pub serves : Serves policy log n ip zone
