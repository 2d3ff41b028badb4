-- What a lookup came to, by what it was answered.
use Rattle.std.specs.Prelude.{◌≡◌, ℕ, ◌≤◌, false, IsTrue, List, Option, Some, None, Result, Ok, Err, option_and_then}
use Rattle.std.specs.List.{last_or}
use Rattle.dns_core.specs.Name.{DomainName}
use Rattle.dns_core.specs.declared.message.Query.{Query}
use Rattle.dns_core.specs.declared.net_error.DnsError.{DnsError}
use Rattle.dns_core.specs.declared.log.ToldOutcome.{ToldOutcome}
use Rattle.resolver_settings.specs.Access.{denies}
use Rattle.resolution.specs.Class.{class_of, class_of_classified}
use Rattle.resolution.specs.Verdict.{allows_all}
use Rattle.resolution.specs.Verdict.{verdict_of_told}
use Rattle.resolution.specs.Serving.{Heard}
use Rattle.resolution.specs.declared.class.Class.{Class}
use Rattle.resolution.specs.declared.verdict.Verdict.{Verdict}
use Rattle.dns_core.specs.declared.net_error.NetError.{NetError}
use Rattle.resolution.specs.Lookups.{Answered}
use Rattle.resolution.specs.Causes.{is_lookup_error}
use Rattle.pool_lookup.specs.Asked.{answer_of}
use Rattle.pool_lookup.specs.Holds.{out_of_memory}
use Rattle.server_pool.specs.OpenLookups.{closed_by}
use Rattle.server_pool.specs.declared.open_lookups.open_lookup.OpenLookup.{OpenLookup}
use Rattle.walk_response.specs.Response.{error_of}
use Rattle.walk_response.specs.Shown.{left_of_class}
use Rattle.resolution.specs.Negatives.{AskedAs}
use Rattle.walk_lookup.specs.LogView.{LogView}
use Rattle.walk_lookup.specs.Tried.{Concluded}
use Rattle.walk_lookup.specs.declared.lookup_result.LookupResult.{LookupResult}
use Rattle.dns_core.specs.declared.message.Message.{Message as Response}
use Rattle.dns_core.specs.declared.net_error.NetError.TheVariants as net
use Rattle.dns_core.specs.declared.net_error.DnsError.TheVariants as dns
use Rattle.walk_lookup.specs.declared.lookup_result.LookupResult.TheVariants as found

-- the last of the entries, 0 where there is none
abbrev pub last_of : List ℕ → ℕ
last_of grounds = elim (last_or None grounds) [ Some entry ↦ entry | None ↦ 0 ]

-- of which class an error is that a lookup was answered with: a denial was told, else it failed
abbrev pub class_of_failure : NetError → Result (Result Response DnsError) NetError
class_of_failure (net.Dns (dns.NoRecordsFound found)) = Ok (Err (dns.NoRecordsFound found))
class_of_failure error = Err error

-- of which class an answer is
abbrev pub classified : Answered → Result (Result Response DnsError) NetError
classified (Ok message) = Ok (Ok message)
classified (Err error) = class_of_failure error

-- Entry i, no later than the greatest, tells an answer or a denial for the question as it was asked, by a server of the zone, at this moment, at or after `asked_at`;
-- the class is what the filter of answers leaves of it.
pub record IsTold (view : LogView) (asked_at : ℕ) (zone : DomainName) (query : Query) (entry at : ℕ) (class : Result Response DnsError) : Type 0 where
  pub outcome : ToldOutcome
  pub response : Class
  pub early : entry ≤ view.greatest
  pub heard : Heard view.policy view.log entry query outcome at zone
  pub asked : AskedAs view.log entry query
  pub late : asked_at ≤ at
  pub is : class_of outcome query ≡ Some response
  pub left : left_of_class (denies view.policy.answer_filter) query response ≡ Some class

-- as what a classified message counts for its question, told by a server of the zone: a verdict, or the error that it is
abbrev pub CountsAs : DomainName → Query → Result Response DnsError → Result Verdict NetError → Type 0
CountsAs zone query class (Ok v) = verdict_of_told allows_all (Some (class_of_classified query class)) zone ≡ Some v
CountsAs zone query class (Err e) = error_of (class_of_classified query class) ≡ Some e

-- So it was told, and counts as this.
pub record IsToldAs (view : LogView) (asked_at : ℕ) (zone : DomainName) (query : Query) (entry : ℕ) (verdict : Result Verdict NetError) : Type 0 where
  pub at : ℕ
  pub class : Result Response DnsError
  pub told : IsTold view asked_at zone query entry at class
  pub counts : CountsAs zone query class verdict

-- A lookup failed with the error, which is none of a server that is busy or not reached, and no denial.
pub record HasFailedBy (view : LogView) (asked_at : ℕ) (zone : DomainName) (query : Query) (grounds : List ℕ) (error : NetError) : Type 0 where
  pub is : IsTrue (is_lookup_error error)
  pub concluded : Concluded view asked_at zone query grounds (Err error)

-- A response was told by a server of the zone; or the lookup failed by these entries.
abbrev pub FoundHolds : LogView → ℕ → DomainName → Query → List ℕ → LookupResult → Type 0
FoundHolds view asked_at zone query grounds (found.Told entry verdict) = IsToldAs view asked_at zone query entry verdict
FoundHolds view asked_at zone query grounds (found.Error error) = HasFailedBy view asked_at zone query grounds error

-- What a lookup comes to that the entry answers so, classified, for a question at servers of a zone.
abbrev pub ComesTo : DomainName → Query → ℕ → Result (Result Response DnsError) NetError → LookupResult → Type 0
ComesTo zone query entry (Ok class) (found.Told told verdict) = (told ≡ entry) × CountsAs zone query class verdict
ComesTo zone query entry (Ok class) (found.Error error) = ⊥
ComesTo zone query entry (Err error) (found.Told told verdict) = ⊥
ComesTo zone query entry (Err error) (found.Error failed) = failed ≡ error

-- It came to this by its answer, for which memory sufficed.
pub record HasCome (zone : DomainName) (query : Query) (l : Option OpenLookup) (came : LookupResult) : Type 0 where
  pub told : Answered
  pub answered : option_and_then (λ (l : OpenLookup). answer_of l.lookup) l ≡ Some told
  pub enough : out_of_memory told ≡ false
  pub comes : ComesTo zone query (last_of (closed_by l)) (classified told) came
