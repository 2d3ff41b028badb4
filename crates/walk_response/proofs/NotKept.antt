-- A response that is an error is not kept.
use Rattle.std.proofs.Common.{◌≡◌, Option, Some, None, Result, refl, sym, ap}
use Rattle.std.specs.Prelude.{option_and_then}
use Rattle.std.proofs.lemmas.Option.{none-some}
use Rattle.dns_core.specs.Name.{DomainName}
use Rattle.dns_core.specs.declared.message.Query.{Query}
use Rattle.dns_core.specs.declared.message.Message.{Message}
use Rattle.dns_core.specs.declared.net_error.DnsError.{DnsError}
use Rattle.dns_core.specs.declared.net_error.NetError.{NetError}
use Rattle.resolution.specs.Class.{class_of_classified}
use Rattle.resolution.specs.Verdict.{allows_all}
use Rattle.resolution.specs.Verdict.{verdict_of_class}
use Rattle.resolution.specs.declared.class.Class.{Class}
use Rattle.resolution.specs.declared.class.Class.TheVariants.{Error, Code, Truncated, Negative as NoData, Foreign, Positive}
use Rattle.resolution.specs.declared.verdict.Verdict.{Verdict}
use Rattle.walk_response.specs.Response.{error_of}
use Rattle.walk_response.specs.Kept.{kept_of, response_in}

-- a class that is an error counts for nothing
counts-none : (class : Class) (zone : DomainName) (e : NetError) → error_of class ≡ Some e → verdict_of_class allows_all class zone ≡ None
counts-none (Positive m) zone e h = absurd (none-some e h)
counts-none (NoData n) zone e h = absurd (none-some e h)
counts-none (Error error) zone e h = refl
counts-none (Code code) zone e h = refl
counts-none Truncated zone e h = refl
counts-none (Foreign r) zone e h = refl

-- a class that is an error is not kept
pub not-kept : (q : Query) (class : Result Message DnsError) (zone : DomainName) (e : NetError) → error_of (class_of_classified q class) ≡ Some e
    → None ≡ response_in zone q class
not-kept q class zone e h = sym (ap (λ (v : Option Verdict). option_and_then kept_of v) (counts-none (class_of_classified q class) zone e h))
