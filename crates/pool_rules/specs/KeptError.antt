-- The error that a lookup keeps over all its sends.
use Rattle.std.specs.Prelude.{List}
use Rattle.std.specs.List.{fold}
use Rattle.dns_core.specs.declared.net_error.NetError.{NetError}
use Rattle.dns_core.specs.declared.net_error.NetError.TheVariants as net
use Rattle.resolution.specs.KeptError.{most_specific, error_of}
use Rattle.resolution.specs.declared.class.Class.{Class}
use Rattle.resolution.specs.declared.class.Class.TheVariants.{Error, Code, Truncated, Negative, Foreign, Positive}

-- after one more end: a cut message takes the place of what was kept, a case mismatch leaves it, and of another error the most specific is kept
abbrev pub kept_after : NetError → Class → NetError
kept_after k (Error net.QueryCaseMismatch) = k
kept_after k (Error e) = most_specific k e
kept_after k (Code c) = most_specific k (error_of (Code c))
kept_after k Truncated = net.Truncated
kept_after k (Negative n) = most_specific k (error_of (Negative n))
kept_after k (Foreign r) = most_specific k (error_of (Foreign r))
kept_after k (Positive m) = most_specific k (error_of (Positive m))

-- after all: at first there is no connection
abbrev pub kept_over : List Class → NetError
kept_over cs = fold kept_after net.NoConnections cs
