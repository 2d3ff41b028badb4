-- As what a cache keeps a verdict, and what is read of it there (RFC 2308 section 5).
use Rattle.std.specs.Prelude.{Option, Some, None, Result, Ok, Err, option_and_then}
use Rattle.std.specs.Option.{option_map}
use Rattle.dns_core.specs.Name.{DomainName}
use Rattle.dns_core.specs.NetError.{negative_data}
use Rattle.dns_core.specs.declared.message.Query.{Query}
use Rattle.dns_core.specs.declared.message.Message.{Message}
use Rattle.dns_core.specs.declared.net_error.DnsError.{DnsError}
use Rattle.dns_core.specs.declared.net_error.DnsError.TheVariants as dns
use Rattle.dns_core.specs.declared.net_error.NetError.{NetError}
use Rattle.dns_core.specs.declared.net_error.NetError.TheVariants as net
use Rattle.resolution.specs.Class.{class_of_classified}
use Rattle.resolution.specs.Verdict.{allows_all}
use Rattle.resolution.specs.Verdict.{verdict_of_told}
use Rattle.resolution.specs.declared.verdict.Verdict.{Verdict}
use Rattle.resolution.specs.declared.verdict.Verdict.TheVariants.{Pos, Neg, Made}

-- as what a verdict is kept; a denial that the zone made is not kept
abbrev pub kept_of : Verdict → Option (Result Message NetError)
kept_of (Pos k) = Some (Ok k)
kept_of (Neg n) = Some (Err (net.Dns (dns.NoRecordsFound n)))
kept_of (Made cause) = None

-- the verdict that is kept so
abbrev pub verdict_kept : Result Message NetError → Option Verdict
verdict_kept (Ok k) = Some (Pos k)
verdict_kept (Err e) = option_map Neg (negative_data e)

-- as what a classified message that a server of the zone told for the question is kept
abbrev pub response_in : DomainName → Query → Result Message DnsError → Option (Result Message NetError)
response_in zone query class = option_and_then kept_of (verdict_of_told allows_all (Some (class_of_classified query class)) zone)
