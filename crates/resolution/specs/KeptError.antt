-- The error that a lookup keeps, end by end.
use Rattle.std.specs.Prelude.{Bool, true, false, not, ◌&&◌, List, [], ◌∷◌, if◌then◌else◌}
use Rattle.dns_core.specs.declared.net_error.NetError.{NetError}
use Rattle.dns_core.specs.declared.net_error.NetError.TheVariants as net
use Rattle.dns_core.specs.declared.net_error.DnsError.TheVariants as dns
use Rattle.resolution.specs.declared.class.Class.{Class}
use Rattle.resolution.specs.declared.class.Class.TheVariants.{Error, Negative}

abbrev pub is_negative_error : NetError → Bool
is_negative_error (net.Dns (dns.NoRecordsFound n)) = true
is_negative_error _ = false

abbrev pub is_io_error : NetError → Bool
is_io_error (net.Io kind) = true
is_io_error _ = false

abbrev pub is_timeout_error : NetError → Bool
is_timeout_error net.Timeout = true
is_timeout_error _ = false

-- which of two errors is kept: the first negative, else what is no fault of transport, else a timeout, else the earlier one
abbrev pub most_specific : NetError → NetError → NetError
most_specific previous current =
    if is_negative_error previous then previous else (
    if is_negative_error current then current else (
    if is_io_error current && not (is_io_error previous) then previous else (
    if is_io_error previous && not (is_io_error current) then current else (
    if is_timeout_error current && not (is_timeout_error previous) then current else previous))))

-- the error of an end
abbrev pub error_of : Class → NetError
error_of (Error e) = e
error_of (Negative n) = net.Dns (dns.NoRecordsFound n)
error_of _ = net.NoConnections

-- the kept error after these ends, from one on
abbrev pub kept : NetError → List Class → NetError
kept k [] = k
kept k (c ∷ cs) = kept (most_specific k (error_of c)) cs
