-- Keeping an error end by end gives what the whole list of ends says.
use Rattle.std.proofs.Common.{◌≡◌, Bool, true, false, List, [], ◌∷◌, refl, ◌&&◌}
use Rattle.std.specs.List.{list_all, filter_map}
use Rattle.dns_core.specs.declared.net_error.NoRecords.{NoRecords}
use Rattle.dns_core.specs.declared.net_error.NetError.TheVariants as net
use Rattle.dns_core.specs.declared.net_error.DnsError.TheVariants as dns
use Rattle.resolution.specs.KeptError.{kept}
use Rattle.resolution.specs.Lookups.{least_bad, is_retryable, negative_of}
use Rattle.resolution.specs.declared.class.Class.{Class}
use Rattle.resolution.specs.declared.class.Class.TheVariants.{Error, Negative}

kept_negative : (n : NoRecords) (cs : List Class) → kept (net.Dns (dns.NoRecordsFound n)) cs ≡ net.Dns (dns.NoRecordsFound n)
kept_negative n [] = refl
kept_negative n (c ∷ cs) = kept_negative n cs

rest : (b c : Bool) → (b && c) ≡ true → c ≡ true
rest true c h = h
rest false c h = cc

kept_timeout : (cs : List Class) → list_all (is_retryable false) cs ≡ true → kept net.Timeout cs ≡ (elim (filter_map negative_of cs) [ n ∷ ns ↦ net.Dns (dns.NoRecordsFound n) | [] ↦ net.Timeout ])
kept_timeout [] h = refl
kept_timeout (Error net.Busy ∷ cs) h = kept_timeout cs h
kept_timeout (Error (net.Io k) ∷ cs) h = kept_timeout cs h
kept_timeout (Error net.NoConnections ∷ cs) h = kept_timeout cs h
kept_timeout (Error net.Timeout ∷ cs) h = kept_timeout cs h
kept_timeout (Negative n ∷ cs) h = kept_negative n cs
kept_timeout (_ ∷ cs) h = cc

pub from_none : (cs : List Class) → list_all (is_retryable false) cs ≡ true → kept net.NoConnections cs ≡ least_bad false cs
from_none [] h = refl
from_none (Error net.Busy ∷ cs) h = from_none cs h
from_none (Error (net.Io k) ∷ cs) h = from_none cs h
from_none (Error net.NoConnections ∷ cs) h = from_none cs h
from_none (Error net.Timeout ∷ cs) h = kept_timeout cs h
from_none (Negative n ∷ cs) h = kept_negative n cs
from_none (_ ∷ cs) h = cc

pub from_truncated : (cs : List Class) → list_all (is_retryable false) cs ≡ true → kept net.Truncated cs ≡ least_bad true cs
from_truncated [] h = refl
from_truncated (Error net.Busy ∷ cs) h = from_truncated cs h
from_truncated (Error (net.Io k) ∷ cs) h = from_truncated cs h
from_truncated (Error net.NoConnections ∷ cs) h = from_truncated cs h
from_truncated (Error net.Timeout ∷ cs) h = kept_timeout cs h
from_truncated (Negative n ∷ cs) h = kept_negative n cs
from_truncated (_ ∷ cs) h = cc
