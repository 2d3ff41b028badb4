-- Where the records of a world lie: each in its own zone (RFC 1034 section 4.2.1), and DS records at the parent (RFC 4035 section 2.4).
use Rattle.std.specs.Prelude.{Bool, not, ◌&&◌, ◌||◌, ◌==◌, length, filter, if◌then◌else◌}
use Rattle.std.specs.List.{list_any, list_all}
use Rattle.dns_core.specs.Name.{DomainName, same_names}
use Rattle.dns_core.specs.Classifying.{is_soa, is_ns}
use Rattle.dns_core.specs.declared.record.Record.{Record}
use Rattle.resolution.specs.Names.{is_above, is_root, base}
use Rattle.zone_rules.specs.declared.world.Zone.{Zone}
use Rattle.zone_rules.specs.declared.world.World.{World}

-- the second zone lies below the first
abbrev pub is_below : Zone → Zone → Bool
is_below zone deeper = is_above zone.apex deeper.apex && not (same_names zone.apex deeper.apex)

abbrev pub is_ds_at : DomainName → Record → Bool
is_ds_at apex r = r.record_type.code == 43 && same_names r.name apex

-- the record does not lie in the deeper zone, or is a DS record at its apex
abbrev pub is_left_by : Zone → Record → Zone → Bool
is_left_by zone r deeper = not (is_below zone deeper && is_above deeper.apex r.name) || is_ds_at deeper.apex r

-- at or below the apex, left by every deeper zone, and a DS record at the own apex for the root alone
abbrev pub is_in_place : World → Zone → Record → Bool
is_in_place world zone r = is_above zone.apex r.name && list_all (is_left_by zone r) world.zones && (is_root zone.apex || not (is_ds_at zone.apex r))

-- the apex owns exactly one SOA record (RFC 1035 section 5.2) and at least one NS record
abbrev pub has_authority : Zone → Bool
has_authority zone = length (filter (λ r. is_soa r && same_names r.name zone.apex) zone.records) == 1 && list_any (λ r. is_ns r && same_names r.name zone.apex) zone.records

-- where the way down to a record ends: above the name of a DS record, which the parent has
abbrev pub left_name : Record → DomainName
left_name r = if r.record_type.code == 43 then base r.name else r.name

abbrev pub is_laid_out : World → Bool
is_laid_out world = list_all (λ zone. list_all (is_in_place world zone) zone.records && has_authority zone) world.zones
