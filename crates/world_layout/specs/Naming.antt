-- The names of a world: servers are no aliases (RFC 2181 section 10.3), an alias owns nothing else (RFC 2181 section 10.1), and no label is a wildcard (RFC 4592 section 2.1.1).
use Rattle.std.specs.Prelude.{ℕ, Bool, true, false, not, ◌&&◌, ◌==◌, nat_le, List, [], ◌∷◌, length, filter}
use Rattle.std.specs.List.{list_any, list_all}
use Rattle.dns_core.specs.Name.{DomainName, same_names}
use Rattle.dns_core.specs.declared.record.Record.{Record}
use Rattle.dns_core.specs.declared.record.RData.{RData}
use Rattle.dns_core.specs.declared.record.RData.TheVariants.{NS, CNAME, SOA}
use Rattle.zone_rules.specs.Choosing.{is_alias}
use Rattle.zone_rules.specs.declared.world.World.{World}

abbrev pub is_aliased : World → DomainName → Bool
is_aliased world name = list_any (λ zone. list_any (is_alias name) zone.records) world.zones

-- one zone has records of the name, and no zone has two
abbrev pub owns_one : World → DomainName → Bool
owns_one world name = length (filter (λ zone. list_any (λ r. same_names r.name name) zone.records) world.zones) == 1 && list_all (λ zone. nat_le (length (filter (λ r. same_names r.name name) zone.records)) 1) world.zones

-- the label `*`
abbrev pub is_star : List ℕ → Bool
is_star [] = false
is_star (letter ∷ []) = letter == 42
is_star (letter ∷ next ∷ more) = false

abbrev pub has_star : DomainName → Bool
has_star name = list_any is_star name.labels

-- what is wanted of the names that NS, CNAME and SOA records hold
abbrev pub is_soundly_held : World → DomainName → RData → Bool
is_soundly_held world owner rdata = elim rdata [
  | NS target ↦ not (is_aliased world target) && not (has_star target)
  | CNAME target ↦ owns_one world owner && not (has_star target)
  | SOA soa ↦ not (has_star soa.mname) && not (has_star soa.rname)
  | _ ↦ true
]

abbrev pub is_soundly_named : World → Record → Bool
is_soundly_named world r = not (has_star r.name) && is_soundly_held world r.name r.rdata

abbrev pub has_sound_names : World → Bool
has_sound_names world = list_all (λ zone. not (has_star zone.apex) && list_all (is_soundly_named world) zone.records) world.zones
