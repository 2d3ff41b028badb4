-- What a world owns of a question is the same in any case.
use Rattle.std.proofs.Common.{◌≡◌, ℕ, Bool, true, false, cond, List, [], ◌∷◌, Option, Some, None, refl, ap, ◌∙◌}
use Rattle.std.specs.Prelude.{◌==◌, ◌&&◌, filter, find, if◌then◌else◌}
use Rattle.std.specs.Option.{option_or, is_some}
use Rattle.std.specs.List.{list_any}
use Rattle.std.specs.Cmp.{second_so}
use Rattle.std.specs.Cmp.Lexicographic.{pointwise}
use Rattle.dns_core.specs.Letters.{same_letter}
use Rattle.dns_core.specs.Name.{same_names, same_labels}
use Rattle.dns_core.specs.NameLaws.{same_names_equiv}
use Rattle.dns_core.specs.declared.codes.RecordType.{RecordType}
use Rattle.dns_core.specs.declared.message.Query.{Query}
use Rattle.dns_core.specs.declared.record.Record.{Record}
use Rattle.resolution.specs.Names.{is_above, base, walk, same_query}
use Rattle.resolution.specs.Records.{cname_target}
use Rattle.resolution.proofs.Caseless.{alike, both, flags, labels_same, base-same, names_same, types_same}
use Rattle.resolution.proofs.ZoneCase.{above-same}
use Rattle.zone_rules.specs.Tree.{qualified, zone_at, nearest, zone_of, exists_in}
use Rattle.zone_rules.specs.Choosing.{is_of, owned, alias_in}
use Rattle.zone_rules.specs.declared.world.Zone.{Zone}
use Rattle.zone_rules.specs.declared.world.World.{World}
use Rattle.zone_worlds.specs.Answer.{alias_for}

-- the zone with these labels
zone_at-same : (zones : List Zone) (a b : List (List ℕ)) → same_labels a b ≡ true → zone_at zones a ≡ zone_at zones b
zone_at-same zones a b e =
    let tests : (λ (z : Zone). same_names z.apex (qualified a)) ≡ (λ (z : Zone). same_names z.apex (qualified b))
    = λ i z. alike same_names same_names_equiv (qualified a) (qualified b) z.apex (both (same_labels a b) true e refl) i in
    ap (λ (p : Zone → Bool). find p zones) tests

-- the deepest zone at or above a name
nearest-same : (zones : List Zone) (a b : List (List ℕ)) → same_labels a b ≡ true → nearest (λ labels. zone_at zones labels) a ≡ nearest (λ labels. zone_at zones labels) b
nearest-same zones [] [] e = refl
nearest-same zones [] (y ∷ ys) e = cc
nearest-same zones (x ∷ xs) [] e = cc
nearest-same zones (x ∷ xs) (y ∷ ys) e =
    ap (λ (o : Option Zone). option_or o (nearest (λ labels. zone_at zones labels) xs)) (zone_at-same zones (x ∷ xs) (y ∷ ys) e)
    ∙ ap (λ (o : Option Zone). option_or (zone_at zones (y ∷ ys)) o) (nearest-same zones xs ys (second_so (pointwise same_letter x y) (same_labels xs ys) e))

module _ (p q : Query) (e : same_query p q ≡ true) where
  -- the names to which the two questions are walked
  walked : same_names (walk p) (walk q) ≡ true
  walked = ap (λ (t : RecordType). same_names (if t.code == 43 then base p.name else p.name) (walk q)) (types_same p q e) ∙ chosen (q.query_type.code == 43)
    where
      chosen : (b : Bool) → same_names (cond b (base p.name) p.name) (cond b (base q.name) q.name) ≡ true
      chosen true = base-same p.name q.name (names_same p q e)
      chosen false = names_same p q e

  -- the records with the name
  named : ◌≡◌ {A = Record → Bool} (λ r. same_names r.name p.name) (λ r. same_names r.name q.name)
  named = λ i r. alike same_names same_names_equiv p.name q.name r.name (names_same p q e) i

  -- the deepest zone
  pub zone_of-same : (w : World) → zone_of w p ≡ zone_of w q
  zone_of-same w =
      ap (λ (b : Bool). if b then nearest (λ labels. zone_at w.zones labels) (walk p).labels else None) (flags p.name q.name (names_same p q e))
      ∙ ap (λ (o : Option Zone). if (q.name).fqdn then o else None) (nearest-same w.zones (walk p).labels (walk q).labels (labels_same (walk p) (walk q) walked))

  -- whether the name exists
  pub exists_in-same : (w : World) → exists_in w p.name ≡ exists_in w q.name
  exists_in-same w =
      let tests : (λ (r : Record). is_above p.name r.name) ≡ (λ (r : Record). is_above q.name r.name) = λ i r. above-same p.name q.name r.name (names_same p q e) i in
      ap (λ (f : Record → Bool). list_any (λ (z : Zone). list_any f z.records) w.zones) tests

  -- the records of the type
  pub owned-same : (z : Zone) → owned z p.name p.query_type ≡ owned z q.name q.query_type
  owned-same z =
      ap (λ (f : Record → Bool). filter (λ r. f r && is_of p.query_type r) z.records) named
      ∙ ap (λ (t : RecordType). filter (λ r. same_names r.name q.name && is_of t r) z.records) (types_same p q e)

  -- and the alias
  pub alias_for-same : (w : World) → alias_for w p ≡ alias_for w q
  alias_for-same w =
      ap (λ (t : RecordType). if t.code == 5 then None else elim (zone_of w p) [ None ↦ None | Some z ↦ alias_in z p.name ]) (types_same p q e)
      ∙ ap (λ (o : Option Zone). if q.query_type.code == 5 then None else elim o [ None ↦ None | Some z ↦ alias_in z p.name ]) (zone_of-same w)
      ∙ ap (λ (f : Record → Bool). if q.query_type.code == 5 then None else elim (zone_of w q) [ None ↦ None | Some z ↦ find (λ r. is_some (cname_target r) && f r) z.records ]) named
