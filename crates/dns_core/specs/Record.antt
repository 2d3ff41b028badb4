-- Records and the types of their data.
use Rattle.std.specs.Prelude.{Bool, true, not, ◌&&◌, ◌||◌, ◌==◌}
use Rattle.dns_core.specs.declared.codes.RecordType.{RecordType}
use Rattle.dns_core.specs.declared.record.RData.{RData}
use Rattle.dns_core.specs.declared.record.RData.TheVariants.{A, AAAA, NS, CNAME, SOA, RRSIG, Opaque}

-- a type whose data has a variant of its own
abbrev pub has_own_data : RecordType → Bool
has_own_data t = t.code == 1 || t.code == 2 || t.code == 5 || t.code == 6 || t.code == 28 || t.code == 46

-- the type is that of the data
abbrev pub is_typed : RecordType → RData → Bool
is_typed t (A ip) = t.code == 1
is_typed t (AAAA ip) = t.code == 28
is_typed t (NS target) = t.code == 2
is_typed t (CNAME target) = t.code == 5
is_typed t (SOA soa) = t.code == 6
is_typed t (RRSIG covered rest) = t.code == 46
is_typed t (Opaque bytes) = not (has_own_data t)

-- every name in the data is fully qualified
abbrev pub is_qualified_data : RData → Bool
is_qualified_data (A ip) = true
is_qualified_data (AAAA ip) = true
is_qualified_data (NS target) = target.fqdn
is_qualified_data (CNAME target) = target.fqdn
is_qualified_data (SOA soa) = soa.mname.fqdn && soa.rname.fqdn
is_qualified_data (RRSIG covered rest) = true
is_qualified_data (Opaque bytes) = true
