-- The error that a response is.
use Rattle.std.specs.Prelude.{Option, Some, None}
use Rattle.dns_core.specs.declared.net_error.NetError.{NetError}
use Rattle.dns_core.specs.declared.net_error.NetError.TheVariants as net
use Rattle.dns_core.specs.declared.net_error.DnsError.TheVariants as dns
use Rattle.resolution.specs.declared.class.Class.{Class}
use Rattle.resolution.specs.declared.class.Class.TheVariants.{Error, Code, Truncated, Negative, Foreign, Positive}

-- A code, a cut message and a record of another class are errors of their own; answers and negatives are none.
abbrev pub error_of : Class → Option NetError
error_of (Error e) = Some e
error_of (Code code) = Some (net.Dns (dns.ResponseCode code))
error_of Truncated = Some net.Truncated
error_of (Negative found) = None
error_of (Foreign r) = Some (net.ForeignClassRecord r.name r.dns_class r.record_type)
error_of (Positive m) = None
