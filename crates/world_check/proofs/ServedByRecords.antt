-- What a world says of the addresses of a server by its records alone.
use Rattle.std.proofs.Common.{◌≡◌, Bool, true, false, Option, Some, None, refl, sym, ap, ◌∙◌}
use Rattle.std.specs.Prelude.{filter, ◌||◌, not}
use Rattle.std.specs.List.{list_all}
use Rattle.std.specs.declared.net.IpAddr.{IpAddr}
use Rattle.dns_core.specs.Name.{DomainName, same_names}
use Rattle.dns_core.specs.declared.record.Record.{Record}
use Rattle.resolution.specs.Records.{address}
use Rattle.zone_worlds.specs.Index.{all_records}
use Rattle.zone_rules.specs.Tree.{serves}
use Rattle.zone_rules.specs.declared.world.Zone.{Zone}
use Rattle.zone_rules.specs.declared.world.World.{World}
use Rattle.world_check.specs.Serving.{is_served_by, is_served_at}
use Rattle.world_layout.proofs.NameByRecords.{all_flat, all_kept}

other_served : (world : World) (zone : Zone) (target : DomainName) (r : Record) → same_names r.name target ≡ false → is_served_by world zone target r ≡ true
other_served world zone target r e = at (address r)
  where
    at : (o : Option IpAddr) → elim o [ None ↦ true | Some ip ↦ not (same_names r.name target) || serves world ip (zone.apex).labels ] ≡ true
    at None = refl
    at (Some ip) = ap (λ (b : Bool). not b || serves world ip (zone.apex).labels) e

pub served_named : (world : World) (zone : Zone) (n : DomainName) → list_all (is_served_by world zone n) (filter (λ r. same_names r.name n) (all_records world.zones)) ≡ is_served_at world zone n
served_named world zone n =
    all_kept (is_served_by world zone n) (λ r. same_names r.name n) (other_served world zone n) (all_records world.zones) ∙ sym (all_flat (is_served_by world zone n) world.zones)
