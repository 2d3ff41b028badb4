-- The lines of a world are taken again, and each draft can be brought to the end of a world.
use Rattle.std.proofs.Common.{◌≡◌, ◌≢◌, ℕ, zero, suc, ◌+◌, ◌-◌, ◌<◌, ◌≤◌, Bool, true, false, eqb, ltb, List, [], ◌∷◌, ◌++◌, length, map, Option, Some, None, refl, sym, ap, subst, ◌∙◌, arith, append_assoc, lit≤, inl, inr}
use Rattle.std.specs.Prelude.{IfSome}
use Rattle.std.specs.List.{flat_map, AllByRecursion}
use Rattle.std.proofs.lemmas.Bool.{lt-ltb, le-leb, eq-eqb, ne_eqb, eqb-false, cases_Bool}
use Rattle.std.proofs.lemmas.List.{append-nil, length_push}
use Rattle.std.specs.declared.net.ipv4_addr.Ipv4Addr.{Ipv4Addr}
use Rattle.std.specs.Net.Addr.{IsIpv4Addr}
use Rattle.dns_core.specs.Name.{DomainName}
use Rattle.dns_core.specs.declared.record.RData.TheVariants.{A}
use Rattle.dns_core.specs.declared.record.Record.{Record}
use Rattle.text_lines.specs.Codes.{class_in}
use Rattle.text_lines.proofs.NumberLaws.{octet_fits}
use Rattle.text_lines.specs.Numbers.{◌>>=◌}
use Rattle.text_lines.specs.Spelling.{spelled}
use Rattle.text_lines.proofs.StepsThatFail.{bind_some}
use Rattle.text_lines.specs.LineSpelling.{record_text}
use Rattle.text_lines.proofs.RecordLaws.{record_again}
use Rattle.zone_rules.specs.declared.world.Zone.{Zone}
use Rattle.zone_rules.specs.declared.world.Host.{Host}
use Rattle.zone_rules.specs.declared.world.World.{World}
use Rattle.recursor_text.specs.declared.world_reading.lines.ZoneHead.{ZoneHead}
use Rattle.recursor_text.specs.declared.world_reading.lines.WorldForm.{WorldForm}
use Rattle.recursor_text.specs.declared.world_reading.lines.WorldForm.TheVariants as form
use Rattle.recursor_text.specs.declared.world_reading.draft.WorldStage.{WorldStage}
use Rattle.recursor_text.specs.declared.world_reading.draft.WorldStage.TheVariants.{Start, Delayed, Aliased, Zoned, Hosted}
use Rattle.recursor_text.specs.declared.world_reading.draft.OpenZone.{OpenZone}
use Rattle.recursor_text.specs.declared.world_reading.draft.WorldDraft.{WorldDraft}
use Rattle.recursor_text.specs.Lines.{most_zones}
use Rattle.recursor_text.specs.Listed.{has_apex, has_address}
use Rattle.recursor_text.specs.WorldSteps.{may_zone, may_host, most_hosts, start, may_close, opened, filled, settled, name_zones, put, taken_at, taken, world_of, run}
use Rattle.recursor_text.specs.WorldSpelling.{zone_lines, host_line, to_aliases, to_zones, world_lines, IsZoneRecord, IsZone, RiseWithin, IsHost, Differ, IsWorld}
use Rattle.recursor_text.specs.WorldReading.{IsRead, CanStand}
use Rattle.recursor_text.proofs.FormLaws.{form_words, IsHostLine, IsForm, form_again}
use Rattle.recursor_text.proofs.WorldDraftLaws.{rank, IsOpen, owes, Good, so_far, taken_takes, start_good, closed_is}

abbrev some : WorldDraft → Option WorldDraft
some d = Some d

pub draft_is : (d e : WorldDraft) → some d ≡ some e → d ≡ e
draft_is d e h = cc

pub run_append : (d e : WorldDraft) (xs ys : List (List ℕ)) → run d xs ≡ Some e → run d (xs ++ ys) ≡ run e ys
run_append d e [] ys h = ap (λ (x : WorldDraft). run x ys) (draft_is d e h)
run_append d e (x ∷ xs) ys h =
    let b = bind_some (taken d x) (λ m. run m xs) e h in
    ap (λ (o : Option WorldDraft). o >>= λ m. run m (xs ++ ys)) b.1 ∙ run_append b.0 e xs ys b.2

-- a line that is no record line, where no zone owes records
takes_form : (d e : WorldDraft) (f : WorldForm) (ls : List (List ℕ)) → d.pending ≡ None → IsForm f → put d f ≡ Some e → run d (spelled (form_words f) ∷ ls) ≡ run e ls
takes_form d e f ls shut fits h = ap (λ (p : Option OpenZone). taken_at p d (spelled (form_words f)) >>= λ m. run m ls) shut ∙ rw (form_again f fits, h) refl

class_one : (r : Record) → IsZoneRecord r → eqb r.dns_class.code 1 ≡ true
class_one r fits = rw (fits.class) refl

takes_record : (d : WorldDraft) (o : OpenZone) (r : Record) (ls : List (List ℕ)) → d.pending ≡ Some o → IsZoneRecord r → run d (record_text r ∷ ls) ≡ run (settled d (filled o r)) ls
takes_record d o r ls opened fits = ap (λ (p : Option OpenZone). taken_at p d (record_text r) >>= λ m. run m ls) opened ∙ rw (record_again r fits.fits, class_one r fits) refl

-- ---- zones

-- after the first two lines, and these zones
abbrev stage_zoned : List Zone → WorldStage
stage_zoned [] = Aliased
stage_zoned (z ∷ zs) = Zoned

abbrev zoned_at : WorldStage → World → List Zone → WorldDraft
zoned_at s w zones = record { stage = s; delay = w.delay; chain = w.chain; zones = zones; pending = None; hosts = [] }

abbrev zoned : World → List Zone → WorldDraft
zoned w zones = zoned_at (stage_zoned zones) w zones

stage_push : (zones : List Zone) (z : Zone) → stage_zoned (zones ++ z ∷ []) ≡ Zoned
stage_push [] z = refl
stage_push (y ∷ ys) z = refl

may_zoned : (zones : List Zone) → may_zone (stage_zoned zones) ≡ true
may_zoned [] = refl
may_zoned (z ∷ zs) = refl

-- these records of a zone that has so many
abbrev part : Zone → List Record → ℕ → OpenZone
part z records count = record { zone = record { apex = z.apex; records = records }; count = count }

abbrev done : World → List Zone → Zone → List Record → Option WorldDraft
done w zones z records = Some (zoned_at Zoned w (zones ++ record { apex = z.apex; records = records } ∷ []))

records_again : (w : World) (zones : List Zone) (z : Zone) (front rs : List Record) (n : ℕ) → length front + length rs ≡ n → AllByRecursion IsZoneRecord rs
    → run (settled (zoned_at Zoned w zones) (part z front n)) (map record_text rs) ≡ done w zones z (front ++ rs)
records_again w zones z front [] n is all =
    let whole : eqb (length front) n ≡ true = eq-eqb (length front) n (omega arith) in
    rw whole (ap (done w zones z) (sym (append-nil front)))
records_again w zones z front (r ∷ rs) n is all =
    let d = zoned_at Zoned w zones in
    let o = part z front n in
    let unsettled : eqb (length front) n ≡ false = ne_eqb (length front) n (λ e. omega arith) in
    let waiting : settled d o ≡ record d { pending = Some o } = rw unsettled refl in
    ap (λ (e : WorldDraft). run e (map record_text (r ∷ rs))) waiting
    ∙ takes_record (record d { pending = Some o }) o r (map record_text rs) refl all.0
    ∙ records_again w zones z (front ++ r ∷ []) rs n (omega (arith, length_push front r)) all.1
    ∙ ap (done w zones z) (append_assoc front (r ∷ []) rs)

abbrev head_of : Zone → ZoneHead
head_of z = record { apex = z.apex; count = length z.records }

puts_zone : (w : World) (zones : List Zone) (z : Zone) → length zones < most_zones → has_apex zones z.apex ≡ false → put (zoned w zones) (form.Zone (head_of z)) ≡ Some (settled (zoned_at Zoned w zones) (opened (head_of z)))
puts_zone w zones z lt new =
    let room : ltb (length zones) most_zones ≡ true = lt-ltb _ _ lt in
    rw (may_zoned zones, room, new) refl

zone_again : (w : World) (zones : List Zone) (z : Zone) → length zones < most_zones → has_apex zones z.apex ≡ false → IsZone z → run (zoned w zones) (zone_lines z) ≡ Some (zoned w (zones ++ z ∷ []))
zone_again w zones z lt new fits =
    takes_form (zoned w zones) (settled (zoned_at Zoned w zones) (opened (head_of z))) (form.Zone (head_of z)) (map record_text z.records) refl fits.apex (puts_zone w zones z lt new)
    ∙ records_again w zones z [] z.records (length z.records) (omega arith) fits.records
    ∙ ap (λ (s : WorldStage). Some (zoned_at s w (zones ++ z ∷ []))) (sym (stage_push zones z))

abbrev like_zone : List Zone → Zone → Bool
like_zone before z = has_apex before z.apex

zones_again : (w : World) (front zones : List Zone) → length front + length zones ≤ most_zones → AllByRecursion IsZone zones → Differ like_zone front zones → run (zoned w front) (flat_map zone_lines zones) ≡ Some (zoned w (front ++ zones))
zones_again w front [] few all differ = ap (λ (l : List Zone). Some (zoned w l)) (sym (append-nil front))
zones_again w front (z ∷ zones) few all differ =
    run_append (zoned w front) (zoned w (front ++ z ∷ [])) (zone_lines z) (flat_map zone_lines zones) (zone_again w front z (omega arith) differ.0 all.0)
    ∙ zones_again w (front ++ z ∷ []) zones (omega (arith, length_push front z)) all.1 differ.1
    ∙ ap (λ (l : List Zone). Some (zoned w l)) (append_assoc front (z ∷ []) zones)

-- ---- hosts

abbrev stage_hosted : List Host → WorldStage
stage_hosted [] = Zoned
stage_hosted (h ∷ hs) = Hosted

abbrev hosted_at : WorldStage → World → List Host → WorldDraft
hosted_at s w hosts = record { stage = s; delay = w.delay; chain = w.chain; zones = w.zones; pending = None; hosts = hosts }

abbrev hosted : World → List Host → WorldDraft
hosted w hosts = hosted_at (stage_hosted hosts) w hosts

host_push : (hosts : List Host) (h : Host) → stage_hosted (hosts ++ h ∷ []) ≡ Hosted
host_push [] h = refl
host_push (g ∷ gs) h = refl

may_hosted : (hosts : List Host) → may_host (stage_hosted hosts) ≡ true
may_hosted [] = refl
may_hosted (h ∷ hs) = refl

named : (low count : ℕ) (ns : List ℕ) → RiseWithin low count ns → name_zones count ns ≡ true
named low count [] rise = refl
named low count (n ∷ ns) rise = rw (le-leb n count rise.1, named (n + 1) count ns rise.2) refl

wider : (low count most : ℕ) (ns : List ℕ) → count ≤ most → RiseWithin low count ns → RiseWithin low most ns
wider low count most [] le rise = tt
wider low count most (n ∷ ns) le rise = (rise.0, omega (arith, rise.1), wider (n + 1) count most ns le rise.2)

puts_host : (w : World) (hosts : List Host) (h : Host) → length hosts < most_hosts → has_address hosts h.ip ≡ false → IsHost (length w.zones) h → put (hosted w hosts) (form.Host h) ≡ Some (hosted w (hosts ++ h ∷ []))
puts_host w hosts h lt new fits =
    let room : ltb (length hosts) most_hosts ≡ true = lt-ltb _ _ lt in
    rw (may_hosted hosts, room, new, named 1 (length w.zones) h.zones fits.rise) (ap (λ (s : WorldStage). Some (hosted_at s w (hosts ++ h ∷ []))) (sym (host_push hosts h)))

abbrev like_host : List Host → Host → Bool
like_host before h = has_address before h.ip

hosts_again : (w : World) (front hosts : List Host) → length w.zones ≤ most_zones → length front + length hosts ≤ most_hosts → AllByRecursion (IsHost (length w.zones)) hosts → Differ like_host front hosts
    → run (hosted w front) (map host_line hosts) ≡ Some (hosted w (front ++ hosts))
hosts_again w front [] within few all differ = ap (λ (l : List Host). Some (hosted w l)) (sym (append-nil front))
hosts_again w front (h ∷ hosts) within few all differ =
    let line : IsHostLine h = record { address = all.0.address; some = all.0.some; rise = wider 1 (length w.zones) most_zones h.zones within all.0.rise } in
    takes_form (hosted w front) (hosted w (front ++ h ∷ [])) (form.Host h) (map host_line hosts) refl line (puts_host w front h (omega arith) differ.0 all.0)
    ∙ hosts_again w (front ++ h ∷ []) hosts within (omega (arith, length_push front h)) all.1 differ.1
    ∙ ap (λ (l : List Host). Some (hosted w l)) (append_assoc front (h ∷ []) hosts)

-- ---- all of it

some_stage : (zones : List Zone) → 0 < length zones → stage_zoned zones ≡ Zoned
some_stage [] lt = absurd (omega arith)
some_stage (z ∷ zs) lt = refl

pub run_again : (w : World) → IsWorld w → (d : WorldDraft) × (run start (world_lines w) ≡ Some d) × (may_close d ≡ true) × (world_of d ≡ w)
run_again w fits =
    let first : WorldDraft = record start { stage = Delayed; delay = w.delay } in
    let r1 : run start (to_aliases w) ≡ Some (zoned w []) =
    takes_form start first (form.Delay w.delay) (spelled (form_words (form.Aliases w.chain)) ∷ []) refl fits.soon refl
    ∙ takes_form first (zoned w []) (form.Aliases w.chain) [] refl tt refl in
    let r2 : run start (to_zones w) ≡ Some (zoned w w.zones) = run_append start (zoned w []) (to_aliases w) (flat_map zone_lines w.zones) r1 ∙ zones_again w [] w.zones (omega (arith, fits.few_zones)) fits.zones fits.apexes in
    let same : zoned w w.zones ≡ hosted w [] = ap (λ (s : WorldStage). zoned_at s w w.zones) (some_stage w.zones fits.some_zones) in
    let r3 : run start (world_lines w) ≡ Some (hosted w w.hosts) = run_append start (zoned w w.zones) (to_zones w) (map host_line w.hosts) r2
    ∙ ap (λ (d : WorldDraft). run d (map host_line w.hosts)) same
    ∙ hosts_again w [] w.hosts fits.few_zones (omega (arith, fits.few_hosts)) fits.hosts fits.addresses in
    (hosted w w.hosts, r3, rw (may_hosted w.hosts) refl, refl)

-- ---- each draft can be brought to the end of a world

abbrev pub Completes : WorldDraft → Type 0
Completes d = (ls : List (List ℕ)) × (e : WorldDraft) × (run d ls ≡ Some e) × (may_close e ≡ true)

by_form : (d e : WorldDraft) (f : WorldForm) → d.pending ≡ None → IsForm f → put d f ≡ Some e → Completes e → Completes d
by_form d e f shut fits h c = (spelled (form_words f) ∷ c.0, c.1, takes_form d e f c.0 shut fits h ∙ c.2, c.3)

from_close : (d : WorldDraft) → may_host d.stage ≡ true → d.pending ≡ None → Completes d
from_close d may shut = ([], d, refl, rw (may, shut) refl)

abbrev root : DomainName
root = record { labels = []; fqdn = true }

abbrev root_zone : Zone
root_zone = record { apex = root; records = [] }

abbrev root_head : ZoneHead
root_head = record { apex = root; count = 0 }

from_aliased : (d : WorldDraft) → d.stage ≡ Aliased → d.pending ≡ None → d.zones ≡ [] → Completes d
from_aliased d is shut none =
    let e : WorldDraft = record d { stage = Zoned; zones = d.zones ++ root_zone ∷ []; pending = None } in
    by_form d e (form.Zone root_head) shut (refl, refl) (rw (is, none) refl) (from_close e refl refl)

from_delayed : (d : WorldDraft) → d.stage ≡ Delayed → d.pending ≡ None → d.zones ≡ [] → Completes d
from_delayed d is shut none =
    let e : WorldDraft = record d { stage = Aliased; chain = false } in
    by_form d e (form.Aliases false) shut tt (rw is refl) (from_aliased e refl shut none)

from_start : (d : WorldDraft) → d.stage ≡ Start → d.pending ≡ None → d.zones ≡ [] → Completes d
from_start d is shut none =
    let e : WorldDraft = record d { stage = Delayed; delay = 0 } in
    by_form d e (form.Delay 0) shut (lit≤ tt) (rw is refl) (from_delayed e refl shut none)

abbrev nowhere : Ipv4Addr
nowhere = record { octets = 0 ∷ 0 ∷ 0 ∷ 0 ∷ [] }

is_ipv4 : IsIpv4Addr nowhere
is_ipv4 = (refl, octet_fits 0 0 0 0 (lit≤ tt) (lit≤ tt) (lit≤ tt) (lit≤ tt))

abbrev dummy : Record
dummy = record { name = root; ttl = 0; dns_class = class_in; record_type = record { code = 1 }; rdata = A nowhere; typed = refl }

is_dummy : IsZoneRecord dummy
is_dummy = record { fits = record { name = (refl, refl); life = lit≤ tt; class = lit≤ tt; type = lit≤ tt; told = is_ipv4 }; class = refl }

from_open : (k : ℕ) (d : WorldDraft) (o : OpenZone) → d.stage ≡ Zoned → d.pending ≡ Some o → owes o → length o.zone.records + k ≡ o.count → Completes d
from_open zero d o is there waits e = absurd (eqb-false (length o.zone.records) o.count waits (omega arith))
from_open (suc k) d o is there waits e =
    let p = filled o dummy in
    let next : Completes (settled d p) = elim (cases_Bool (eqb (length p.zone.records) p.count)) [
      | inl whole ↦ let made : settled d p ≡ record d { zones = d.zones ++ p.zone ∷ []; pending = None } = rw whole refl in
          subst Completes (sym made) (from_close (record d { zones = d.zones ++ p.zone ∷ []; pending = None }) (ap may_host is) refl)
      | inr rest ↦ let made : settled d p ≡ record d { pending = Some p } = rw rest refl in
          subst Completes (sym made) (from_open k (record d { pending = Some p }) p is refl rest (omega (arith, length_push o.zone.records dummy)))
    ] in
    (record_text dummy ∷ next.0, next.1, takes_record d o dummy next.0 there is_dummy ∙ next.2, next.3)

from_zoned : (p : Option OpenZone) (d : WorldDraft) → d.pending ≡ p → d.stage ≡ Zoned → Good d → Completes d
from_zoned None d shut is g = from_close d (ap may_host is) shut
from_zoned (Some o) d there is g =
    let fits : IsOpen d.zones o = subst (λ (p : Option OpenZone). IfSome p (IsOpen d.zones)) there g.pending in
    from_open (o.count - length o.zone.records) d o is there (subst (λ (p : Option OpenZone). IfSome p owes) there g.waits) (omega (arith, fits.few))

other : (s : WorldStage) (d : WorldDraft) → d.stage ≡ s → Good d → rank s ≢ 3 → d.pending ≡ None
other s d is g ne = g.no_pending (λ e. ne (sym (ap rank is) ∙ e))

pub completes : (s : WorldStage) (d : WorldDraft) → d.stage ≡ s → Good d → Completes d
completes Start d is g = let r : rank d.stage ≡ 0 = ap rank is in from_start d is (other Start d is g (λ e. omega arith)) (g.no_zones (omega arith))
completes Delayed d is g = let r : rank d.stage ≡ 1 = ap rank is in from_delayed d is (other Delayed d is g (λ e. omega arith)) (g.no_zones (omega arith))
completes Aliased d is g = let r : rank d.stage ≡ 2 = ap rank is in from_aliased d is (other Aliased d is g (λ e. omega arith)) (g.no_zones (omega arith))
completes Zoned d is g = from_zoned d.pending d refl is g
completes Hosted d is g = from_close d (ap may_host is) (other Hosted d is g (λ e. omega arith))

-- ---- what a run says

pub run_takes : (d e : WorldDraft) (ls : List (List ℕ)) → Good d → run d ls ≡ Some e → Good e × (so_far e ≡ so_far d ++ ls)
run_takes d e [] g h = let is : d ≡ e = draft_is d e h in (subst Good is g, ap so_far (sym is) ∙ sym (append-nil (so_far d)))
run_takes d e (l ∷ ls) g h =
    let b = bind_some (taken d l) (λ m. run m ls) e h in
    let t = taken_takes d l b.0 g b.1 in
    let r = run_takes b.0 e ls t.0 b.2 in
    (r.0, r.1 ∙ ap (λ (x : List (List ℕ)). x ++ ls) t.1 ∙ append_assoc (so_far d) (l ∷ []) ls)

pub found : (ls : List (List ℕ)) (w : World) → IsRead ls w → IsWorld w × (ls ≡ world_lines w)
found ls w r =
    let t = run_takes start r.0 ls start_good r.1 in
    let c = closed_is r.0 t.0 r.2 in
    (subst IsWorld r.3 c.0, sym t.1 ∙ c.1 ∙ ap world_lines r.3)

pub stands : (ls : List (List ℕ)) (d : WorldDraft) → run start ls ≡ Some d → CanStand ls
stands ls d h =
    let t = run_takes start d ls start_good h in
    let c = completes d.stage d refl t.0 in
    let r : run start (ls ++ c.0) ≡ Some c.1 = run_append start d ls c.0 h ∙ c.2 in
    let f = found (ls ++ c.0) (world_of c.1) (c.1, r, c.3, refl) in
    (world_of c.1, c.0, f.0, sym f.1)

pub fails : (ls : List (List ℕ)) (d : WorldDraft) (l : List ℕ) → run start ls ≡ Some d → taken d l ≡ None → CanStand (ls ++ l ∷ []) → ⊥
fails ls d l h refused can =
    let r = run_again can.0 can.2 in
    let same : world_lines can.0 ≡ ls ++ (l ∷ can.1) = can.3 ∙ append_assoc ls (l ∷ []) can.1 in
    let none : run d (l ∷ can.1) ≡ None = ap (λ (o : Option WorldDraft). o >>= λ m. run m can.1) refused in
    let both : Some r.0 ≡ None = sym r.1 ∙ ap (run start) same ∙ run_append start d ls (l ∷ can.1) h ∙ none in
    cc
