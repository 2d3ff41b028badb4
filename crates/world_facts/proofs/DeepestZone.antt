-- What is told where no cut lies below the zone of the teller is from the deepest zone.
use Rattle.std.proofs.Common.{◌≡◌, ℕ, zero, suc, ◌+◌, ◌-◌, ◌<◌, ◌≤◌, Bool, true, List, [], ◌∷◌, length, drop, Option, Some, None, refl, sym, ap, subst, ◌∙◌, arith}
use Rattle.std.specs.Prelude.{◌&&◌, if◌then◌else◌}
use Rattle.std.specs.Option.{option_or}
use Rattle.std.specs.Cmp.{first_so, second_so}
use Rattle.std.specs.Bool.{beq}
use Rattle.std.specs.declared.net.IpAddr.{IpAddr}
use Rattle.std.proofs.lemmas.List.{length-drop}
use Rattle.dns_core.specs.Name.{DomainName, same_names, same_labels, last_labels}
use Rattle.dns_core.specs.Log.{Log}
use Rattle.dns_core.specs.declared.message.Query.{Query}
use Rattle.dns_core.specs.declared.message.Message.{Message}
use Rattle.resolution.specs.Names.{is_above, walk, last_name}
use Rattle.recursor_types.specs.declared.policy.Policy.{Policy}
use Rattle.resolution.proofs.AboveIsAnOrder.{labels_equiv}
use Rattle.resolution.proofs.Caseless.{both}
use Rattle.resolution.proofs.ElementsFiltered.{Has, Contains-from_Has}
use Rattle.zone_rules.specs.Tree.{qualified, zone_at, nearest, zone_of}
use Rattle.zone_rules.specs.declared.world.Zone.{Zone}
use Rattle.zone_rules.specs.declared.world.World.{World}
use Rattle.zone_worlds.specs.Telling.{child_of, Replies, Tells}
use Rattle.zone_worlds.specs.Telling.Tells.{refuses, refers, answers}
use Rattle.world_facts.specs.Told.{TellsLog}
use Rattle.world_facts.specs.Served.{IsServed, IsServerOf}
use Rattle.world_facts.specs.Deepest.{PassedAll, IsFromDeepest}
use Rattle.world_facts.proofs.ElementsThatPass.{through, turned}
use Rattle.world_facts.proofs.ToldRecords.{child_Has, zone_asked_Has, zone_at_Has}
use Rattle.world_facts.proofs.ZonesAsked.{IsAsked, asks, asked_labels, one_asked, IsCutAt, cut_is, no_cut_below, apex_is, none_at, walk_flag}
use Rattle.world_facts.proofs.CutsShown.{no_cut}

-- the nearest is what is found first
nearest_first : (look_up : List (List ℕ) → Option Zone) (ls : List (List ℕ)) (d : ℕ) (z : Zone) → d ≤ length ls → look_up (drop d ls) ≡ Some z
    → ((j : ℕ) → j < d → look_up (drop j ls) ≡ None) → nearest look_up ls ≡ Some z
nearest_first look_up [] zero z low e none = e
nearest_first look_up [] (suc d) z low e none = absurd (omega (arith, low))
nearest_first look_up (l ∷ ls) zero z low e none = ap (λ (o : Option Zone). option_or o (nearest look_up ls)) e
nearest_first look_up (l ∷ ls) (suc d) z low e none =
    ap (λ (o : Option Zone). option_or o (nearest look_up ls)) (none 0 (omega arith)) ∙ nearest_first look_up ls d z (omega (arith, low)) e (λ j h. none (suc j) (omega (arith, h)))

module _ (policy : Policy) (w : World) (log : Log) (ok : IsServed policy w) (by_world : TellsLog w log) where
  -- the zone of the world with this apex is found by its labels
  found_at : (ls : List (List ℕ)) (z : Zone) → Has w.zones z → same_names z.apex (qualified ls) ≡ true → zone_at w.zones ls ≡ Some z
  found_at ls z h same = at_found (zone_at w.zones ls) refl
    where
      at_found : (o : Option Zone) → zone_at w.zones ls ≡ o → zone_at w.zones ls ≡ Some z
      at_found None e = absurd (none_at w.zones ls z e h same)
      at_found (Some y) e =
          let one = ok.apart y z (Contains-from_Has w.zones y (zone_at_Has w.zones ls y e)) (Contains-from_Has w.zones z h)
          (through y.apex (qualified ls) z.apex (apex_is w.zones ls y e) (turned z.apex (qualified ls) same)) in
          e ∙ ap (λ (x : Zone). Some x) one

  -- where no zone of the world lies below the zone that is asked, it is the deepest
  pub deepest : (ip : IpAddr) (q : Query) (z : DomainName) → is_above z (walk q) ≡ true → (asked : IsAsked w ip q z) → child_of w asked.zone q ≡ None → zone_of w q ≡ Some asked.zone
  deepest ip q z above asked none =
      let flag : (q.name).fqdn ≡ true = sym (walk_flag q) ∙ second_so z.fqdn (walk q).fqdn (first_so (z.fqdn && (walk q).fqdn) _ above) in
      let long = asked_labels w ip q z asked in
      let low = asked.low in
      ap (λ (b : Bool). if b then nearest (λ labels. zone_at w.zones labels) (walk q).labels else None) flag
      ∙ nearest_first (λ labels. zone_at w.zones labels) (walk q).labels asked.dropped asked.zone (omega (arith, low))
      (found_at (drop asked.dropped (walk q).labels) asked.zone (zone_asked_Has w ip q asked.zone asked.is) asked.apex)
      (λ j h. let n = length-drop j (walk q).labels in no_cut_below w.zones (length asked.zone.apex.labels) (walk q).labels none j (omega (arith, n, h, long, low)))

  pub from_deepest : (ip : IpAddr) (q : Query) (z : DomainName) (m : Message) → IsServerOf w ip z → is_above z (walk q) ≡ true → PassedAll policy log q z → Tells w ip q m → IsFromDeepest w q m
  from_deepest ip q z m server above passed tells = by tells
    where
      asked : IsAsked w ip q z
      asked = asks w ip q z server above

      flag : (walk q).fqdn ≡ true
      flag = second_so z.fqdn (walk q).fqdn (first_so (z.fqdn && (walk q).fqdn) _ above)

      long : length asked.zone.apex.labels + asked.dropped ≡ length (walk q).labels
      long = asked_labels w ip q z asked

      no_child : (child : Zone) → child_of w asked.zone q ≡ Some child → ⊥
      no_child child f = no_cut policy w log ok by_world (passed (length (walk q).labels - cut.dropped) (omega (arith, left, below, within, low, long)) (omega arith)) child (child_Has w asked.zone q child f) there
        where
          cut : IsCutAt w.zones (length asked.zone.apex.labels) (walk q).labels child
          cut = cut_is w.zones (length asked.zone.apex.labels) (walk q).labels child f

          left : length (drop cut.dropped (walk q).labels) ≡ length (walk q).labels - cut.dropped
          left = length-drop cut.dropped (walk q).labels

          below : length asked.zone.apex.labels < length (drop cut.dropped (walk q).labels)
          below = cut.below

          within : cut.dropped ≤ length (walk q).labels
          within = cut.within

          low : asked.dropped + length z.labels ≤ length (walk q).labels
          low = asked.low

          there : same_names child.apex (last_name (length (walk q).labels - cut.dropped) (walk q)) ≡ true
          there =
              let back : length (walk q).labels - (length (walk q).labels - cut.dropped) ≡ cut.dropped = omega (arith, within) in
              let tail = subst (λ (k : ℕ). same_labels (drop cut.dropped (walk q).labels) (drop k (walk q).labels) ≡ true) (sym back) (labels_equiv.refl (drop cut.dropped (walk q).labels)) in
              through child.apex (qualified (drop cut.dropped (walk q).labels)) (last_name (length (walk q).labels - cut.dropped) (walk q)) (apex_is w.zones (drop cut.dropped (walk q).labels) child cut.at)
              (both (same_labels (drop cut.dropped (walk q).labels) (last_labels (length (walk q).labels - cut.dropped) (walk q).labels)) (beq true (walk q).fqdn) tail (ap (beq true) flag))

      by : {m : Message} → Tells w ip q m → IsFromDeepest w q m
      by (refuses e) = let none : None ≡ Some asked.zone = sym e ∙ asked.is in cc
      by (refers {z = y} {child = child} e f) = absurd (no_child child (subst (λ (x : Zone). child_of w x q ≡ Some child) (one_asked w ip q y asked.zone e asked.is) f))
      by (answers {z = y} {m = n} e f r) =
          let at = one_asked w ip q y asked.zone e asked.is in
          record { zone = asked.zone; deepest = deepest ip q z above asked (subst (λ (x : Zone). child_of w x q ≡ None) at f); replies = subst (λ (x : Zone). Replies w x q n) at r }
