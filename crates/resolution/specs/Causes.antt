-- Why a question is answered with an error.
use Rattle.std.specs.Prelude.{◌≡◌, ℕ, Bool, true, false, IsTrue, List, [], ◌∷◌, Some, None, Contains}
use Rattle.dns_core.specs.Name.{DomainName}
use Rattle.dns_core.specs.Log.{Log}
use Rattle.dns_core.specs.declared.message.Query.{Query}
use Rattle.dns_core.specs.declared.message.Message.{Message}
use Rattle.dns_core.specs.declared.net_error.NoRecords.{NoRecords}
use Rattle.dns_core.specs.declared.net_error.ForwardNsData.{ForwardNsData}
use Rattle.dns_core.specs.declared.net_error.NetError.{NetError}
use Rattle.recursor_types.specs.declared.policy.Policy.{Policy}
use Rattle.recursor_types.specs.declared.error.AuthorityData.{AuthorityData}
use Rattle.recursor_types.specs.declared.error.WalkCause.{WalkCause}
use Rattle.recursor_types.specs.declared.error.RecursorError.{RecursorError}
use Rattle.resolution.specs.Names.{walk, candidates, question}
use Rattle.resolution.specs.Answering.{Base}
use Rattle.resolution.specs.Ending.{LookupTiming, Ended}
use Rattle.resolution.specs.Walking.{Walked}
use Rattle.resolution.specs.Failing.{Glueless, ends_walk}
use Rattle.resolution.specs.Negatives.{SameNegative, SameReferrals, AskedAs, IsMadeFor, received_negative, made_negative}
use Rattle.resolution.specs.declared.verdict.Verdict.{Verdict}
use Rattle.resolution.specs.declared.verdict.Verdict.TheVariants.{Neg, Made}
use Rattle.resolution.specs.declared.verdict.Cause.{Cause}
use Rattle.dns_core.specs.declared.net_error.NetError.TheVariants as net
use Rattle.dns_core.specs.declared.net_error.DnsError.TheVariants as dns
use Rattle.recursor_types.specs.declared.error.WalkCause.TheVariants as why
use Rattle.recursor_types.specs.declared.error.RecursorError.TheVariants as error

-- The entry counts as the verdict for the question, and its server is one of the deepest zone cut that the log shows.
pub record RestsOn (policy : Policy) (log : Log) (asked_at : ℕ) (query : Query) (entry : ℕ) (zone : DomainName) (verdict : Verdict) : Type 0 where
  pub base : Base policy log asked_at query entry zone verdict
  pub walked : Walked policy log query zone

-- a question whose negative response answers this one: itself, or one for the NS records of a name on the way (RFC 8020)
pub data IsAnsweredBy (policy : Policy) (query : Query) : Query → Verdict → Type 0 where
  itself : {verdict : Verdict} → IsAnsweredBy policy query query verdict
  on_the_way : {name : DomainName} {verdict : Verdict}
      → IsTrue policy.strict → Contains (candidates (walk query)) name → IsTrue (ends_walk verdict) → IsAnsweredBy policy query (question name 2) verdict

-- A negative reply rests on one entry: a negative response, or one of which the answer filter or the zone leaves nothing.
pub data IsNegative (policy : Policy) (log : Log) (asked_at : ℕ) (query : Query) : List ℕ → AuthorityData → Type 0 where
  received : {entry : ℕ} {zone : DomainName} {asked : Query} {found : NoRecords} {negative : AuthorityData}
      → IsAnsweredBy policy query asked (Neg found) → RestsOn policy log asked_at asked entry zone (Neg found)
      → found.ns ≡ None → SameNegative negative (received_negative found) → IsNegative policy log asked_at query (entry ∷ []) negative
  made : {entry : ℕ} {zone : DomainName} {asked shown : Query} {cause : Cause}
      → IsAnsweredBy policy query asked (Made cause) → RestsOn policy log asked_at asked entry zone (Made cause)
      → IsMadeFor cause shown asked → AskedAs log entry shown → IsNegative policy log asked_at query (entry ∷ []) (made_negative shown cause)

-- A referral rests on one entry: a negative response to the question that names servers.
pub data IsReferral (policy : Policy) (log : Log) (asked_at : ℕ) (query : Query) : List ℕ → List ForwardNsData → Type 0 where
  referred : {entry : ℕ} {zone : DomainName} {found : NoRecords} {servers named : List ForwardNsData}
      → RestsOn policy log asked_at query entry zone (Neg found) → found.ns ≡ Some named → SameReferrals servers named
      → IsReferral policy log asked_at query (entry ∷ []) servers

-- an error that a lookup may end with: after Busy and Io another server is asked, and a negative response is no failure
abbrev pub is_lookup_error : NetError → Bool
is_lookup_error net.Busy = false
is_lookup_error (net.Io kind) = false
is_lookup_error (net.Dns (dns.NoRecordsFound found)) = false
is_lookup_error _ = true

-- A lookup at the servers of the deepest zone cut ended with the error, by these entries.
pub record LookupFailed (policy : Policy) (timing : LookupTiming) (log : Log) (asked_at : ℕ) (query : Query) (grounds : List ℕ) (error : NetError) : Type 0 where
  pub zone : DomainName
  pub is : IsTrue (is_lookup_error error)
  pub ended : Ended policy timing log asked_at query zone grounds error
  pub walked : Walked policy log query zone

-- A zone on the way is delegated without an address that may be asked; or its servers were silent.
abbrev pub NoServerFound : Policy → LookupTiming → Log → ℕ → Query → WalkCause → Type 0
NoServerFound policy timing log asked_at query why.NoAddress = (name : DomainName) × (told : Message) × Contains (candidates (walk query)) name × Glueless policy log asked_at name told
NoServerFound policy timing log asked_at query why.Timeout =
    (name : DomainName) × (silent : List ℕ) × Contains (candidates (walk query)) name × LookupFailed policy timing log asked_at (question name 2) silent net.Timeout
NoServerFound policy timing log asked_at query _ = ⊥

-- The cause of an error for a question, by these entries of the log. An error of a limit has none: it never comes.
abbrev pub CauseOf : Policy → LookupTiming → Log → ℕ → Query → List ℕ → RecursorError → Type 0
CauseOf policy timing log asked_at last grounds (error.Negative negative) = IsNegative policy log asked_at last grounds negative
CauseOf policy timing log asked_at last grounds (error.ForwardNS servers) = IsReferral policy log asked_at last grounds servers
CauseOf policy timing log asked_at last grounds (error.Net e) = LookupFailed policy timing log asked_at last grounds e
CauseOf policy timing log asked_at last grounds (error.NoNameServer zone cause) = (zone ≡ walk last) × (grounds ≡ []) × NoServerFound policy timing log asked_at last cause
CauseOf policy timing log asked_at last grounds _ = ⊥
