-- Zones and aliases that are found are those of the world.
use Rattle.std.proofs.Common.{◌≡◌, ℕ, Bool, true, false, cond, List, [], ◌∷◌, Option, Some, None, ◌⊎◌, inl, inr, refl}
use Rattle.std.specs.Prelude.{◌==◌}
use Rattle.std.specs.Option.{option_or, is_some}
use Rattle.std.specs.List.{flat_map}
use Rattle.std.specs.Cmp.{second_so}
use Rattle.dns_core.specs.Name.{DomainName, same_names}
use Rattle.dns_core.specs.declared.message.Query.{Query}
use Rattle.dns_core.specs.declared.record.Record.{Record}
use Rattle.resolution.specs.Names.{walk}
use Rattle.resolution.specs.Records.{cname_target}
use Rattle.resolution.proofs.ElementsFiltered.{Has, flat_map-Has}
use Rattle.zone_rules.specs.Tree.{qualified, zone_at, nearest, zone_of}
use Rattle.zone_rules.specs.Choosing.{is_alias, alias_in}
use Rattle.zone_worlds.specs.Answer.{alias_for}
use Rattle.zone_rules.specs.declared.world.Zone.{Zone}
use Rattle.zone_rules.specs.declared.world.World.{World}
use Rattle.zone_worlds.proofs.FoundInLists.{find_Has, find_passes}

one_of : {X : Type 0} (o p : Option X) (x : X) → option_or o p ≡ Some x → (o ≡ Some x) ⊎ (p ≡ Some x)
one_of None p x e = inr e
one_of (Some y) p x e = inl e

pub nearest_Has : (zones : List Zone) (ls : List (List ℕ)) (z : Zone) → nearest (λ labels. zone_at zones labels) ls ≡ Some z → Has zones z
nearest_Has zones [] z e = find_Has (λ y. same_names y.apex (qualified [])) zones z e
nearest_Has zones (l ∷ ls) z e =
    elim (one_of (zone_at zones (l ∷ ls)) (nearest (λ labels. zone_at zones labels) ls) z e) [
      | inl here ↦ find_Has (λ y. same_names y.apex (qualified (l ∷ ls))) zones z here
      | inr above ↦ nearest_Has zones ls z above
    ]

zone_of_Has : (w : World) (q : Query) (z : Zone) → zone_of w q ≡ Some z → Has w.zones z
zone_of_Has w q z e = at_flag (q.name).fqdn e
  where
    at_flag : (b : Bool) → cond b (nearest (λ labels. zone_at w.zones labels) (walk q).labels) None ≡ Some z → Has w.zones z
    at_flag true e = nearest_Has w.zones (walk q).labels z e
    at_flag false e = cc

pub alias_in_Has : (z : Zone) (n : DomainName) (c : Record) → alias_in z n ≡ Some c → Has z.records c
alias_in_Has z n c e = find_Has (is_alias n) z.records c e

pub alias_in_owner : (z : Zone) (n : DomainName) (c : Record) → alias_in z n ≡ Some c → same_names c.name n ≡ true
alias_in_owner z n c e = second_so (is_some (cname_target c)) (same_names c.name n) (find_passes (is_alias n) z.records c e)

-- the zone that has the alias of a question
pub record HasAlias (w : World) (n : DomainName) (c : Record) : Type 0 where
  pub zone : Zone
  pub has : Has w.zones zone
  pub alias : alias_in zone n ≡ Some c

pub alias_for-zone : (w : World) (q : Query) (c : Record) → alias_for w q ≡ Some c → HasAlias w q.name c
alias_for-zone w q c e = at_type (q.query_type.code == 5) e
  where
    at_zone : (o : Option Zone) → zone_of w q ≡ o → elim o [ None ↦ None | Some z ↦ alias_in z q.name ] ≡ Some c → HasAlias w q.name c
    at_zone None h e = cc
    at_zone (Some z) h e = record { zone = z; has = zone_of_Has w q z h; alias = e }

    at_type : (b : Bool) → cond b None (elim (zone_of w q) [ None ↦ None | Some z ↦ alias_in z q.name ]) ≡ Some c → HasAlias w q.name c
    at_type true e = cc
    at_type false e = at_zone (zone_of w q) refl e

-- all records of the world, zone by zone
abbrev pub all_records : World → List Record
all_records w = flat_map (λ z. z.records) w.zones

pub alias_for_Has : (w : World) (q : Query) (c : Record) → alias_for w q ≡ Some c → Has (all_records w) c
alias_for_Has w q c e = let a = alias_for-zone w q c e in flat_map-Has (λ (z : Zone). z.records) w.zones a.zone c a.has (alias_in_Has a.zone q.name c a.alias)

pub alias_for_owner : (w : World) (q : Query) (c : Record) → alias_for w q ≡ Some c → same_names c.name q.name ≡ true
alias_for_owner w q c e = let a = alias_for-zone w q c e in alias_in_owner a.zone q.name c a.alias
