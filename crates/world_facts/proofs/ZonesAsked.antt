-- The zone that is asked, and the first cut below it, by the labels that are left of a name.
use Rattle.std.proofs.Common.{◌≡◌, ℕ, zero, suc, ◌+◌, ◌-◌, ◌<◌, ◌≤◌, Bool, true, false, cond, List, [], ◌∷◌, length, drop, Option, Some, None, ◌⊎◌, inl, inr, refl, sym, ap, ◌∙◌, arith}
use Rattle.std.specs.Prelude.{nat_le, ◌&&◌, ◌==◌, find, option_and_then, if◌then◌else◌}
use Rattle.std.specs.Option.{option_or, is_some}
use Rattle.std.specs.Cmp.{first_so, second_so}
use Rattle.std.specs.declared.net.IpAddr.{IpAddr}
use Rattle.std.specs.Cmp.Lexicographic.{pointwise}
use Rattle.std.proofs.lemmas.List.{length-drop}
use Rattle.std.proofs.lemmas.Option.{same_Some}
use Rattle.dns_core.specs.Letters.{same_letter}
use Rattle.std.proofs.lemmas.Bool.Decides.{nat_tests}
use Rattle.dns_core.specs.Name.{DomainName, same_names, same_labels}
use Rattle.dns_core.specs.NameLaws.{same_names_equiv}
use Rattle.dns_core.specs.declared.message.Query.{Query}
use Rattle.resolution.specs.Names.{is_above, base, walk}
use Rattle.resolution.proofs.AboveIsAnOrder.{labels_equiv}
use Rattle.resolution.proofs.Caseless.{alike, both, labels_same, length-same}
use Rattle.resolution.proofs.ElementsFiltered.{Has}
use Rattle.zone_rules.specs.Tree.{qualified, zone_at, nearest, first_cut, host_of, numbered, has_apex, zone_among}
use Rattle.zone_rules.specs.declared.world.Zone.{Zone}
use Rattle.zone_rules.specs.declared.world.Host.{Host}
use Rattle.zone_rules.specs.declared.world.World.{World}
use Rattle.zone_worlds.specs.Telling.{zone_asked}
use Rattle.zone_worlds.proofs.FoundInLists.{find_passes}
use Rattle.world_facts.specs.Served.{IsServerOf}
use Rattle.world_facts.proofs.ElementsThatPass.{either}

-- ---- the nearest zone

-- The nearest is found, where no more labels are dropped than these.
pub record Found (look_up : List (List ℕ) → Option Zone) (ls : List (List ℕ)) (k : ℕ) : Type 0 where
  pub zone : Zone
  pub is : nearest look_up ls ≡ Some zone
  pub dropped : ℕ
  pub low : dropped ≤ k
  pub at : look_up (drop dropped ls) ≡ Some zone

pub nearest-finds : (look_up : List (List ℕ) → Option Zone) (ls : List (List ℕ)) (k : ℕ) (y : Zone) → k ≤ length ls → look_up (drop k ls) ≡ Some y → Found look_up ls k
nearest-finds look_up [] zero y low e = record { zone = y; is = e; dropped = 0; low = omega arith; at = e }
nearest-finds look_up [] (suc k) y low e = absurd (omega (arith, low))
nearest-finds look_up (l ∷ ls) zero y low e = record { zone = y; is = ap (λ (o : Option Zone). option_or o (nearest look_up ls)) e; dropped = 0; low = omega arith; at = e }
nearest-finds look_up (l ∷ ls) (suc k) y low e = at_head (look_up (l ∷ ls)) refl (nearest-finds look_up ls k y (omega (arith, low)) e)
  where
    at_head : (o : Option Zone) → look_up (l ∷ ls) ≡ o → Found look_up ls k → Found look_up (l ∷ ls) (suc k)
    at_head (Some z) h f = record { zone = z; is = ap (λ (o : Option Zone). option_or o (nearest look_up ls)) h; dropped = 0; low = omega arith; at = h }
    at_head None h f =
        record { zone = f.zone; is = ap (λ (o : Option Zone). option_or o (nearest look_up ls)) h ∙ f.is; dropped = suc f.dropped; low = let n = f.low in omega (arith, n); at = f.at }

-- ---- the first cut

either_none : {X : Type 0} (o p : Option X) → option_or o p ≡ None → (o ≡ None) × (p ≡ None)
either_none None p e = (refl, e)
either_none (Some x) p e = cc

dropped_less : (k : ℕ) (ls : List (List ℕ)) → length (drop k ls) ≤ length ls
dropped_less k ls = let n = length-drop k ls in omega (arith, n)

pub no_cut_below : (zones : List Zone) (apex : ℕ) (ls : List (List ℕ)) → first_cut zones apex ls ≡ None → (k : ℕ) → apex < length (drop k ls) → zone_at zones (drop k ls) ≡ None
no_cut_below zones apex [] e zero h = absurd (omega (arith, h))
no_cut_below zones apex [] e (suc k) h = absurd (omega (arith, h))
no_cut_below zones apex (l ∷ ls) e k h = at_flag (nat_le (suc (length ls)) apex) refl e (λ x j low. no_cut_below zones apex ls x j low)
  where
    at_flag : (b : Bool) → nat_le (suc (length ls)) apex ≡ b → cond b None (option_or (first_cut zones apex ls) (zone_at zones (l ∷ ls))) ≡ None
        → (first_cut zones apex ls ≡ None → (j : ℕ) → apex < length (drop j ls) → zone_at zones (drop j ls) ≡ None) → zone_at zones (drop k (l ∷ ls)) ≡ None
    at_flag true low x rest = let less = dropped_less k (l ∷ ls) in let le : suc (length ls) ≤ apex = grind (arith, nat_tests) in absurd (omega (arith, less, le, h))
    at_flag false low x rest = each k h
      where
        parts : (first_cut zones apex ls ≡ None) × (zone_at zones (l ∷ ls) ≡ None)
        parts = either_none (first_cut zones apex ls) (zone_at zones (l ∷ ls)) x

        each : (k : ℕ) → apex < length (drop k (l ∷ ls)) → zone_at zones (drop k (l ∷ ls)) ≡ None
        each zero h = parts.1
        each (suc k) h = rest parts.0 k h

-- A cut is found where so many labels are dropped, and has more labels than the apex.
pub record IsCutAt (zones : List Zone) (apex : ℕ) (ls : List (List ℕ)) (c : Zone) : Type 0 where
  pub dropped : ℕ
  pub within : dropped ≤ length ls
  pub below : apex < length (drop dropped ls)
  pub at : zone_at zones (drop dropped ls) ≡ Some c

pub cut_is : (zones : List Zone) (apex : ℕ) (ls : List (List ℕ)) (c : Zone) → first_cut zones apex ls ≡ Some c → IsCutAt zones apex ls c
cut_is zones apex [] c e = cc
cut_is zones apex (l ∷ ls) c e = at_flag (nat_le (suc (length ls)) apex) refl e (cut_is zones apex ls c)
  where
    at_flag : (b : Bool) → nat_le (suc (length ls)) apex ≡ b → cond b None (option_or (first_cut zones apex ls) (zone_at zones (l ∷ ls))) ≡ Some c → (first_cut zones apex ls ≡ Some c → IsCutAt zones apex ls c) → IsCutAt zones apex (l ∷ ls) c
    at_flag true low x rest = cc
    at_flag false low x rest = elim (either (first_cut zones apex ls) (zone_at zones (l ∷ ls)) c x) [
      | inl above ↦ let h = rest above in record { dropped = suc h.dropped; within = let n = h.within in omega (arith, n); below = h.below; at = h.at }
      | inr here ↦ record { dropped = 0; within = omega arith; below = grind (arith, nat_tests); at = here }
    ]

-- ---- zones by the labels of their apex

pub apex_is : (zones : List Zone) (ls : List (List ℕ)) (z : Zone) → zone_at zones ls ≡ Some z → same_names z.apex (qualified ls) ≡ true
apex_is zones ls z e = find_passes (λ y. same_names y.apex (qualified ls)) zones z e

-- where none is found, no zone has the apex
pub none_at : (zones : List Zone) (ls : List (List ℕ)) (y : Zone) → zone_at zones ls ≡ None → Has zones y → same_names y.apex (qualified ls) ≡ true → ⊥
none_at [] ls y e h s = h
none_at (z ∷ zs) ls y e h s = at_head (same_names z.apex (qualified ls)) refl e h (none_at zs ls y)
  where
    at_head : (b : Bool) → same_names z.apex (qualified ls) ≡ b → cond b (Some z) (zone_at zs ls) ≡ None → (z ≡ y) ⊎ Has zs y → (zone_at zs ls ≡ None → Has zs y → same_names y.apex (qualified ls) ≡ true → ⊥) → ⊥
    at_head true t x k rest = cc
    at_head false t x (inl same) rest = let again = ap (λ (a : Zone). same_names a.apex (qualified ls)) same in cc
    at_head false t x (inr k) rest = rest x k s

has_apex-same : (a b : List (List ℕ)) → same_labels a b ≡ true → (o : Option Zone) → has_apex a o ≡ has_apex b o
has_apex-same a b e None = refl
has_apex-same a b e (Some z) = alike same_names same_names_equiv (qualified a) (qualified b) z.apex (both (same_labels a b) true e refl)

pub among-same : (zones : List Zone) (numbers : List ℕ) (a b : List (List ℕ)) → same_labels a b ≡ true → zone_among zones numbers a ≡ zone_among zones numbers b
among-same zones numbers a b e =
    let tests : (λ (n : ℕ). has_apex a (numbered zones n)) ≡ (λ (n : ℕ). has_apex b (numbered zones n)) = λ i n. has_apex-same a b e (numbered zones n) i in
    ap (λ (p : ℕ → Bool). option_and_then (λ (n : ℕ). numbered zones n) (find p numbers)) tests

among_apex : (zones : List Zone) (numbers : List ℕ) (ls : List (List ℕ)) (z : Zone) → zone_among zones numbers ls ≡ Some z → same_names z.apex (qualified ls) ≡ true
among_apex zones numbers ls z e = at_found (find (λ n. has_apex ls (numbered zones n)) numbers) refl e
  where
    at_found : (o : Option ℕ) → find (λ n. has_apex ls (numbered zones n)) numbers ≡ o → option_and_then (λ n. numbered zones n) o ≡ Some z → same_names z.apex (qualified ls) ≡ true
    at_found None f h = cc
    at_found (Some n) f h = sym (ap (has_apex ls) h) ∙ find_passes (λ n. has_apex ls (numbered zones n)) numbers n f

-- ---- the zone that a server is asked for

-- The zone that is asked lies at or below this one, and at or above the name.
pub record IsAsked (w : World) (ip : IpAddr) (q : Query) (z : DomainName) : Type 0 where
  pub zone : Zone
  pub is : zone_asked w ip q ≡ Some zone
  pub dropped : ℕ
  pub apex : same_names zone.apex (qualified (drop dropped (walk q).labels)) ≡ true
  pub low : dropped + length z.labels ≤ length (walk q).labels

present : {X : Type 0} (o : Option X) → is_some o ≡ true → (x : X) × (o ≡ Some x)
present None e = cc
present (Some x) e = (x, refl)

pub walk_flag : (q : Query) → (walk q).fqdn ≡ q.name.fqdn
walk_flag q = chosen (q.query_type.code == 43)
  where
    chosen : (b : Bool) → (cond b (base q.name) q.name).fqdn ≡ q.name.fqdn
    chosen true = refl
    chosen false = refl

pub asks : (w : World) (ip : IpAddr) (q : Query) (z : DomainName) → IsServerOf w ip z → is_above z (walk q) ≡ true → IsAsked w ip q z
asks w ip q z s above = at_host (host_of w ip) refl s.by
  where
    at_host : (o : Option Host) → host_of w ip ≡ o → (elim o [ None ↦ false | Some h ↦ is_some (zone_among w.zones h.zones s.zone.apex.labels) ]) ≡ true → IsAsked w ip q z
    at_host None e h = cc
    at_host (Some host) e h =
        let ls = (walk q).labels in
        let y : (y : Zone) × (zone_among w.zones host.zones s.zone.apex.labels ≡ Some y) = present (zone_among w.zones host.zones s.zone.apex.labels) h in
        let suffix = second_so (z.fqdn && (walk q).fqdn) _ above in
        let fits : length z.labels ≤ length ls = let t = first_so (nat_le (length z.labels) (length ls)) _ suffix in grind (arith, nat_tests) in
        let tail = second_so (nat_le (length z.labels) (length ls)) _ suffix in
        let same : same_labels s.zone.apex.labels (drop (length ls - length z.labels) ls) ≡ true = labels_equiv.congr s.zone.apex.labels z.labels _ (labels_same s.zone.apex z s.apex) ∙ tail in
        let look_up : List (List ℕ) → Option Zone = λ labels. zone_among w.zones host.zones labels in
        let f = nearest-finds look_up ls (length ls - length z.labels) y.0 (omega (arith, fits)) (sym (among-same w.zones host.zones _ _ same) ∙ y.1) in
        let flag : (q.name).fqdn ≡ true = sym (walk_flag q) ∙ second_so z.fqdn (walk q).fqdn (first_so (z.fqdn && (walk q).fqdn) _ above) in
        let low = f.low in
        record {
          zone = f.zone;
          is = ap (λ (b : Bool). if b then elim (host_of w ip) [ None ↦ None | Some h ↦ nearest (λ labels. zone_among w.zones h.zones labels) (walk q).labels ] else None) flag
              ∙ ap (λ (o : Option Host). elim o [ None ↦ None | Some h ↦ nearest (λ labels. zone_among w.zones h.zones labels) (walk q).labels ]) e ∙ f.is;
          dropped = f.dropped;
          apex = among_apex w.zones host.zones (drop f.dropped ls) f.zone f.at;
          low = omega (arith, low, fits);
        }

-- the labels of its apex and those that are dropped are those of the name
pub asked_labels : (w : World) (ip : IpAddr) (q : Query) (z : DomainName) (a : IsAsked w ip q z) → length a.zone.apex.labels + a.dropped ≡ length (walk q).labels
asked_labels w ip q z a =
    let same = length-same (pointwise same_letter) a.zone.apex.labels (drop a.dropped (walk q).labels) (labels_same a.zone.apex (qualified (drop a.dropped (walk q).labels)) a.apex) in
    let n = length-drop a.dropped (walk q).labels in
    let low = a.low in
    omega (arith, same, n, low)

-- one zone is asked
pub one_asked : (w : World) (ip : IpAddr) (q : Query) (a b : Zone) → zone_asked w ip q ≡ Some a → zone_asked w ip q ≡ Some b → a ≡ b
one_asked w ip q a b e f = same_Some a b (sym e ∙ f)
