-- Negative responses and referrals as replies show them: equal to what was received, but with TTLs that may be lower (RFC 1035 section 3.2.1).
use Rattle.std.specs.Prelude.{◌≡◌, ◌==◌, ℕ, Bool, true, false, IsTrue, List, [], Option, Some, None}
use Rattle.std.specs.List.{AllZip}
use Rattle.std.specs.declared.net.ip_addr.IpAddr.{IpAddr}
use Rattle.dns_core.specs.Log.{Log}
use Rattle.dns_core.specs.declared.message.Query.{Query}
use Rattle.dns_core.specs.declared.connection.Protocol.{Protocol}
use Rattle.dns_core.specs.declared.log.LogEntry.TheVariants.{Asked, Told}
use Rattle.dns_core.specs.declared.log.ToldOutcome.{ToldOutcome}
use Rattle.dns_core.specs.declared.net_error.NoRecords.{NoRecords}
use Rattle.dns_core.specs.declared.net_error.ForwardNsData.{ForwardNsData}
use Rattle.recursor_types.specs.declared.error.AuthorityData.{AuthorityData}
use Rattle.resolution.specs.Names.{same_query}
use Rattle.resolution.specs.Same.{SameRecord, SameRecords}
use Rattle.resolution.specs.Telling.{Logged}
use Rattle.resolution.specs.declared.verdict.Cause.{Cause}
use Rattle.resolution.specs.declared.verdict.Cause.TheVariants.{Filter, Zone}

-- both or none
abbrev pub SameIfAny : {X : Type 0} → (X → X → Type 0) → Option X → Option X → Type 0
SameIfAny Alike None None = Unit {0}
SameIfAny Alike (Some a) (Some b) = Alike a b
SameIfAny Alike None (Some b) = ⊥
SameIfAny Alike (Some a) None = ⊥

-- an NS record with its glue
pub record SameReferral (a b : ForwardNsData) : Type 0 where
  pub ns : SameRecord a.ns b.ns
  pub glue : SameRecords a.glue b.glue

abbrev pub SameReferrals : List ForwardNsData → List ForwardNsData → Type 0
SameReferrals xs ys = AllZip SameReferral xs ys

-- a negative reply
pub record SameNegative (a b : AuthorityData) : Type 0 where
  pub soa : SameIfAny SameRecord a.soa b.soa
  pub authorities : SameRecords a.authorities b.authorities
  pub rest : a ≡ record b { soa = a.soa; authorities = a.authorities }

-- the reply for a negative response
abbrev pub received_negative : NoRecords → AuthorityData
received_negative found = record { query = found.query; soa = found.soa; no_records_found = true; nx_domain = found.response_code.code == 3; authorities = found.authorities }

abbrev pub is_filter : Cause → Bool
is_filter Filter = true
is_filter Zone = false

-- the reply where the answer filter, or the zone of the server, leaves nothing of a response
abbrev pub made_negative : Query → Cause → AuthorityData
made_negative query cause = record { query = query; soa = None; no_records_found = is_filter cause; nx_domain = true; authorities = [] }

-- Which question it shows: what the filter made is cached, and shows the spelling of the first question; what the zone made shows this one.
abbrev pub IsMadeFor : Cause → Query → Query → Type 0
IsMadeFor Filter shown query = IsTrue (same_query shown query)
IsMadeFor Zone shown query = shown ≡ query

-- The entry answers an ask for exactly this question, the case of its name included.
pub record AskedAs (log : Log) (entry : ℕ) (query : Query) : Type 0 where
  pub ask : ℕ
  pub moment : ℕ
  pub outcome : ToldOutcome
  pub ip : IpAddr
  pub protocol : Protocol
  pub asked_at : ℕ
  pub told : Logged log entry (Told ask moment outcome)
  pub question : Logged log ask (Asked ip protocol query asked_at None)
