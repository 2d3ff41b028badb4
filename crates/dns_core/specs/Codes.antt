-- What the codes of types mean.
use Rattle.std.specs.Prelude.{Bool, ◌&&◌, ◌||◌, ◌==◌, nat_le, not}
use Rattle.dns_core.specs.declared.codes.RecordType.{RecordType}

-- neither 0, nor OPT, nor a type that only questions have (RFC 6895 section 3.1)
abbrev pub is_data_type : RecordType → Bool
is_data_type t = not (t.code == 0 || t.code == 41 || (nat_le 128 t.code && nat_le t.code 255))

-- DS, RRSIG, NSEC, DNSKEY, NSEC3 or NSEC3PARAM
abbrev pub is_dnssec_type : RecordType → Bool
is_dnssec_type t = t.code == 43 || t.code == 46 || t.code == 47 || t.code == 48 || t.code == 50 || t.code == 51
