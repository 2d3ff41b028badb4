-- Where the zones of a tree lie, and what the tree owns.
use Rattle.std.specs.Prelude.{ℕ, ◌-◌, ◌==◌, nat_le, Bool, true, false, List, [], ◌∷◌, length, find, slice_get, if◌then◌else◌, Option, Some, None, option_and_then}
use Rattle.std.specs.List.{list_any}
use Rattle.std.specs.Option.{option_or, is_some}
use Rattle.std.specs.declared.net.IpAddr.{IpAddr}
use Rattle.std.specs.contracts.net.ip_addr.IpAddrPartialEq.TheImpl as address
use Rattle.dns_core.specs.Name.{DomainName, same_names}
use Rattle.dns_core.specs.declared.message.Query.{Query}
use Rattle.resolution.specs.Names.{is_above, walk}
use Rattle.zone_rules.specs.declared.world.Zone.{Zone}
use Rattle.zone_rules.specs.declared.world.Host.{Host}
use Rattle.zone_rules.specs.declared.world.World.{World}

-- the fully qualified name with these labels
abbrev pub qualified : List (List ℕ) → DomainName
qualified labels = record { labels = labels; fqdn = true }

-- the zone whose apex has these labels
abbrev pub zone_at : List Zone → List (List ℕ) → Option Zone
zone_at zones labels = find (λ z. same_names z.apex (qualified labels)) zones

-- The deepest zone at or above a name, of those that are looked up by the labels of their apex: that of the nearest ancestor which has one (RFC 1034 section 4.3.2, step 2).
abbrev pub nearest : (List (List ℕ) → Option Zone) → List (List ℕ) → Option Zone
nearest look_up [] = look_up []
nearest look_up (l ∷ ls) = option_or (look_up (l ∷ ls)) (nearest look_up ls)

-- The highest of the zones at or above a name whose apex has more labels than this: going down to the name, the first cut that is met (RFC 1034 section 4.3.2, step 3 b).
abbrev pub first_cut : List Zone → ℕ → List (List ℕ) → Option Zone
first_cut zones apex [] = None
first_cut zones apex (l ∷ ls) = if nat_le (length (l ∷ ls)) apex then None else option_or (first_cut zones apex ls) (zone_at zones (l ∷ ls))

-- the deepest zone of the world at or above the name to which a question is walked
abbrev pub zone_of : World → Query → Option Zone
zone_of w query = if (query.name).fqdn then nearest (λ labels. zone_at w.zones labels) (walk query).labels else None

-- the host with the address
abbrev pub host_of : World → IpAddr → Option Host
host_of w ip = find (λ h. address.ghosts.eq h.ip ip) w.hosts

-- zones are numbered from 1, in their order
abbrev pub numbered : List Zone → ℕ → Option Zone
numbered zones n = if n == 0 then None else slice_get zones (n - 1)

abbrev pub has_apex : List (List ℕ) → Option Zone → Bool
has_apex labels None = false
has_apex labels (Some z) = same_names z.apex (qualified labels)

-- the zone of one of these numbers whose apex has these labels
abbrev pub zone_among : List Zone → List ℕ → List (List ℕ) → Option Zone
zone_among zones numbers labels = option_and_then (λ n. numbered zones n) (find (λ n. has_apex labels (numbered zones n)) numbers)

-- the address is a host that serves the zone whose apex has these labels
abbrev pub serves : World → IpAddr → List (List ℕ) → Bool
serves w ip apex = elim (host_of w ip) [ None ↦ false | Some h ↦ is_some (zone_among w.zones h.zones apex) ]

-- The name or a name below it owns a record in some zone. One that owns none itself is an empty non-terminal, and exists (RFC 4592 section 2.2.2, RFC 8020).
abbrev pub exists_in : World → DomainName → Bool
exists_in w n = list_any (λ z. list_any (λ r. is_above n r.name) z.records) w.zones
