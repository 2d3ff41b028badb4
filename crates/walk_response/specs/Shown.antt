-- What a filter of answers leaves of a response, and as what a verdict is shown.
use Rattle.std.specs.Prelude.{◌≡◌, Bool, if◌then◌else◌, [], Option, Some, None, Result, Ok, Err}
use Rattle.std.specs.declared.net.ip_addr.IpAddr.{IpAddr}
use Rattle.dns_core.specs.declared.message.Query.{Query}
use Rattle.dns_core.specs.declared.message.Message.{Message as Response}
use Rattle.dns_core.specs.declared.net_error.NoRecords.{NoRecords}
use Rattle.dns_core.specs.declared.net_error.DnsError.{DnsError}
use Rattle.dns_core.specs.declared.net_error.DnsError.TheVariants as dns
use Rattle.resolution.specs.Verdict.{is_all_denied, without_denied}
use Rattle.resolution.specs.declared.class.Class.{Class}
use Rattle.resolution.specs.declared.class.Class.TheVariants.{Error, Code, Truncated, Negative, Foreign, Positive}
use Rattle.resolution.specs.declared.verdict.Verdict.{Verdict}
use Rattle.resolution.specs.declared.verdict.Verdict.TheVariants.{Pos, Neg, Made}
use Rattle.resolution.specs.declared.verdict.Cause.TheVariants.{Filter}

-- what is left for a question where the filter of answers leaves nothing
abbrev pub nothing_left_for : Query → NoRecords
nothing_left_for q = record { query = q; soa = None; ns = None; response_code = record { code = 3 }; authorities = [] }

-- what the filter of answers leaves of an answer
abbrev pub left_of_answer : (IpAddr → Bool) → Query → Response → Result Response DnsError
left_of_answer denied query m = if is_all_denied denied m then Err (dns.NoRecordsFound (nothing_left_for query)) else Ok (without_denied denied m)

-- what it leaves of a response; of anything else there is nothing
abbrev pub left_of_class : (IpAddr → Bool) → Query → Class → Option (Result Response DnsError)
left_of_class denied query (Positive m) = Some (left_of_answer denied query m)
left_of_class denied query (Negative n) = Some (Err (dns.NoRecordsFound n))
left_of_class denied query (Error e) = None
left_of_class denied query (Code c) = None
left_of_class denied query Truncated = None
left_of_class denied query (Foreign r) = None

-- as what a verdict is shown: as it is, or as a negative where the filter of answers left nothing
abbrev pub IsShown : Query → Verdict → Verdict → Type 0
IsShown query (Pos a) (Pos b) = a ≡ b
IsShown query (Neg a) (Neg b) = a ≡ b
IsShown query (Neg a) (Made Filter) = a ≡ nothing_left_for query
IsShown query (Made a) (Made b) = a ≡ b
IsShown query _ _ = ⊥
