-- What a draft of a world holds is what the lines so far say.
use Rattle.std.proofs.Common.{◌≡◌, ◌≢◌, ℕ, ◌+◌, ◌<◌, ◌≤◌, Bool, true, false, not, ◌&&◌, cond, eqb, ltb, leb, List, [], ◌∷◌, ◌++◌, length, map, Option, Some, None, refl, sym, ap, subst, ◌∙◌, arith, inl, inr, append_assoc, lit<, lit≤}
use Rattle.std.specs.Prelude.{IfSome}
use Rattle.std.specs.List.{AllByRecursion}
use Rattle.std.proofs.lemmas.Bool.{and_parts, ltb-true, leb-true, eqb-true, eqb-false, cases_Bool}
use Rattle.std.proofs.lemmas.List.{append-nil, map_push, flat_map_more, length_push}
use Rattle.dns_core.specs.declared.record.Record.{Record}
use Rattle.dns_core.specs.declared.codes.DnsClass.{DnsClass}
use Rattle.text_lines.specs.Codes.{class_in}
use Rattle.text_lines.specs.Spelling.{spelled, IsFullName}
use Rattle.text_lines.specs.RecordLines.{record_of}
use Rattle.text_lines.specs.LineSpelling.{record_text, most_delay}
use Rattle.zone_rules.specs.declared.world.Zone.{Zone}
use Rattle.zone_rules.specs.declared.world.Host.{Host}
use Rattle.recursor_text.specs.declared.world_reading.lines.ZoneHead.{ZoneHead}
use Rattle.recursor_text.specs.declared.world_reading.lines.WorldForm.{WorldForm}
use Rattle.recursor_text.specs.declared.world_reading.lines.WorldForm.TheVariants as form
use Rattle.recursor_text.specs.declared.world_reading.draft.WorldStage.{WorldStage}
use Rattle.recursor_text.specs.declared.world_reading.draft.WorldStage.TheVariants.{Start, Delayed, Aliased, Zoned, Hosted}
use Rattle.recursor_text.specs.declared.world_reading.draft.OpenZone.{OpenZone}
use Rattle.recursor_text.specs.declared.world_reading.draft.WorldDraft.{WorldDraft}
use Rattle.recursor_text.specs.Lines.{most_zones, world_form_of}
use Rattle.recursor_text.specs.Listed.{has_apex, has_address}
use Rattle.recursor_text.specs.WorldSteps.{may_delay, may_alias, may_zone, may_host, most_hosts, start, may_close, opened, filled, settled, name_zones, put, added, taken_at, taken, world_of}
use Rattle.recursor_text.specs.WorldSpelling.{delay_words, aliases_words, zone_words, zone_lines, host_line, to_aliases, to_zones, world_lines, IsZoneRecord, IsZone, RiseWithin, IsHost, Differ, ApexesDiffer, AddressesDiffer, IsWorld}
use Rattle.text_lines.proofs.StepsThatFail.{bind_some, guard_some, some_is}
use Rattle.text_lines.proofs.RecordLaws.{record_takes}
use Rattle.recursor_text.proofs.FormLaws.{form_words, IsHostLine, IsForm, form_takes}

-- ---- lists that grow

pub all_push : {X : Type 0} (P : X → Type 0) (xs : List X) (x : X) → AllByRecursion P xs → P x → AllByRecursion P (xs ++ x ∷ [])
all_push P [] x all p = (p, tt)
all_push P (y ∷ ys) x all p = (all.0, all_push P ys x all.1 p)

differ_from : {X : Type 0} (like : List X → X → Bool) (before xs : List X) (x : X) → Differ like before xs → like (before ++ xs) x ≡ false → Differ like before (xs ++ x ∷ [])
differ_from {X = X} like before [] x all new = (ap (λ (l : List X). like l x) (sym (append-nil before)) ∙ new, tt)
differ_from {X = X} like before (y ∷ ys) x all new = (all.0, differ_from like (before ++ y ∷ []) ys x all.1 (ap (λ (l : List X). like l x) (append_assoc before (y ∷ []) ys) ∙ new))

-- ---- a draft

-- how far a stage is
abbrev pub rank : WorldStage → ℕ
rank Start = 0
rank Delayed = 1
rank Aliased = 2
rank Zoned = 3
rank Hosted = 4

-- a zone that is told up to here, beside others
pub record IsOpen (zones : List Zone) (o : OpenZone) : Type 0 where
  pub apex : IsFullName o.zone.apex
  pub few : length o.zone.records ≤ o.count
  pub records : AllByRecursion IsZoneRecord o.zone.records
  pub new : has_apex zones o.zone.apex ≡ false
  pub room : length zones < most_zones

-- it has more records than are told
abbrev pub owes : OpenZone → Type 0
owes o = eqb (length o.zone.records) o.count ≡ false

-- what is not yet told is empty, and what was told is well formed
pub record Good (d : WorldDraft) : Type 0 where
  pub soon : d.delay ≤ most_delay
  pub no_zones : rank d.stage < 3 → d.zones ≡ []
  pub some_zones : 3 ≤ rank d.stage → d.pending ≡ None → 0 < length d.zones
  pub no_pending : rank d.stage ≢ 3 → d.pending ≡ None
  pub no_hosts : rank d.stage < 4 → d.hosts ≡ []
  pub few_zones : length d.zones ≤ most_zones
  pub zones : AllByRecursion IsZone d.zones
  pub apexes : ApexesDiffer d.zones
  pub pending : IfSome d.pending (IsOpen d.zones)
  pub waits : IfSome d.pending owes
  pub few_hosts : length d.hosts ≤ most_hosts
  pub hosts : AllByRecursion (IsHost (length d.zones)) d.hosts
  pub addresses : AddressesDiffer d.hosts

abbrev pub open_lines : OpenZone → List (List ℕ)
open_lines o = spelled (zone_words o.zone.apex o.count) ∷ map record_text o.zone.records

abbrev pub pending_lines : Option OpenZone → List (List ℕ)
pending_lines None = []
pending_lines (Some o) = open_lines o

-- the lines so far
abbrev pub so_far_at : WorldStage → WorldDraft → List (List ℕ)
so_far_at Start d = []
so_far_at Delayed d = spelled (delay_words d.delay) ∷ []
so_far_at Aliased d = to_aliases (world_of d)
so_far_at Zoned d = to_zones (world_of d) ++ pending_lines d.pending
so_far_at Hosted d = world_lines (world_of d)

abbrev pub so_far : WorldDraft → List (List ℕ)
so_far d = so_far_at d.stage d

delay_rank : (s : WorldStage) → may_delay s ≡ true → s ≡ Start
delay_rank Start e = refl
delay_rank Delayed e = absurd cc
delay_rank Aliased e = absurd cc
delay_rank Zoned e = absurd cc
delay_rank Hosted e = absurd cc

alias_rank : (s : WorldStage) → may_alias s ≡ true → s ≡ Delayed
alias_rank Delayed e = refl
alias_rank Start e = absurd cc
alias_rank Aliased e = absurd cc
alias_rank Zoned e = absurd cc
alias_rank Hosted e = absurd cc

abbrev Between : ℕ → ℕ → ℕ → Type 0
Between low high n = (low ≤ n) × (n ≤ high)

at_zones : (s : WorldStage) (d : WorldDraft) → may_zone s ≡ true → d.pending ≡ None → (rank s < 3 → d.zones ≡ []) → Between 2 3 (rank s) × (so_far_at s d ≡ to_zones (world_of d))
at_zones Aliased d e shut none = ((lit≤ tt, lit≤ tt), rw (none (lit< tt)) refl)
at_zones Zoned d e shut none = ((lit≤ tt, lit≤ tt), rw shut (append-nil (to_zones (world_of d))))
at_zones Start d e shut none = absurd cc
at_zones Delayed d e shut none = absurd cc
at_zones Hosted d e shut none = absurd cc

pub at_hosts : (s : WorldStage) (d : WorldDraft) → may_host s ≡ true → d.pending ≡ None → (rank s < 4 → d.hosts ≡ []) → Between 3 4 (rank s) × (so_far_at s d ≡ world_lines (world_of d))
at_hosts Zoned d e shut none = ((lit≤ tt, lit≤ tt), rw (shut, none (lit< tt)) refl)
at_hosts Hosted d e shut none = ((lit≤ tt, lit≤ tt), refl)
at_hosts Start d e shut none = absurd cc
at_hosts Delayed d e shut none = absurd cc
at_hosts Aliased d e shut none = absurd cc

-- a line more
abbrev pub Takes : WorldDraft → List ℕ → WorldDraft → Type 0
Takes d line e = Good e × (so_far e ≡ so_far d ++ line ∷ [])

delayed : (d : WorldDraft) (n : ℕ) → Good d → n ≤ most_delay → may_delay d.stage ≡ true → d.pending ≡ None → Takes d (spelled (delay_words n)) (record d { stage = Delayed; delay = n })
delayed d n g fits e shut =
    let is : d.stage ≡ Start = delay_rank d.stage e in
    let r : rank d.stage ≡ 0 = ap rank is in (
      record {
        soon = fits;
        no_zones = λ h. g.no_zones (omega arith);
        some_zones = λ h. absurd (omega arith);
        no_pending = λ h. shut;
        no_hosts = λ h. g.no_hosts (omega arith);
        few_zones = g.few_zones;
        zones = g.zones;
        apexes = g.apexes;
        pending = g.pending;
        waits = g.waits;
        few_hosts = g.few_hosts;
        hosts = g.hosts;
        addresses = g.addresses;
      },
      sym (ap (λ (s : WorldStage). so_far_at s d ++ spelled (delay_words n) ∷ []) is),
    )

aliased : (d : WorldDraft) (chain : Bool) → Good d → may_alias d.stage ≡ true → d.pending ≡ None → Takes d (spelled (aliases_words chain)) (record d { stage = Aliased; chain = chain })
aliased d chain g e shut =
    let is : d.stage ≡ Delayed = alias_rank d.stage e in
    let r : rank d.stage ≡ 1 = ap rank is in (
      record {
        soon = g.soon;
        no_zones = λ h. g.no_zones (omega arith);
        some_zones = λ h. absurd (omega arith);
        no_pending = λ h. shut;
        no_hosts = λ h. g.no_hosts (omega arith);
        few_zones = g.few_zones;
        zones = g.zones;
        apexes = g.apexes;
        pending = g.pending;
        waits = g.waits;
        few_hosts = g.few_hosts;
        hosts = g.hosts;
        addresses = g.addresses;
      },
      sym (ap (λ (s : WorldStage). so_far_at s d ++ spelled (aliases_words chain) ∷ []) is),
    )

-- ---- zones

-- what holds of a draft among its zones
record Standing (d : WorldDraft) : Type 0 where
  pub stage : d.stage ≡ Zoned
  pub soon : d.delay ≤ most_delay
  pub no_hosts : d.hosts ≡ []
  pub zones : AllByRecursion IsZone d.zones
  pub apexes : ApexesDiffer d.zones

no_host : (count : ℕ) (hosts : List Host) → hosts ≡ [] → AllByRecursion (IsHost count) hosts
no_host count hosts e = subst (AllByRecursion (IsHost count)) (sym e) tt

no_address : (hosts : List Host) → hosts ≡ [] → AddressesDiffer hosts
no_address hosts e = subst AddressesDiffer (sym e) tt

abbrev with_zone : WorldDraft → Zone → WorldDraft
with_zone d z = record d { zones = d.zones ++ z ∷ []; pending = None }

abbrev with_open : WorldDraft → OpenZone → WorldDraft
with_open d o = record d { pending = Some o }

whole_zone : (zones : List Zone) (o : OpenZone) → IsOpen zones o → IsZone o.zone
whole_zone zones o fits = record { apex = fits.apex; records = fits.records }

-- a zone that is whole has its lines
whole_lines : (o : OpenZone) → length o.zone.records ≡ o.count → zone_lines o.zone ≡ open_lines o
whole_lines o all = ap (λ (n : ℕ). spelled (zone_words o.zone.apex n) ∷ map record_text o.zone.records) all

-- a zone that is told in part, or whole, stands after the zones before it
settles : (d : WorldDraft) (o : OpenZone) → Standing d → IsOpen d.zones o → Good (settled d o) × (so_far (settled d o) ≡ to_zones (world_of d) ++ open_lines o)
settles d o h fits =
    let r : rank d.stage ≡ 3 = ap rank h.stage in
    elim (cases_Bool (eqb (length o.zone.records) o.count)) [
      | inl whole ↦
          let made : settled d o ≡ with_zone d o.zone = rw whole refl in
          let e = with_zone d o.zone in
          let spelt : so_far e ≡ to_zones (world_of d) ++ open_lines o =
          ap (λ (s : WorldStage). so_far_at s e) h.stage ∙ append-nil (to_zones (world_of e))
          ∙ sym (flat_map_more zone_lines (to_aliases (world_of d)) d.zones o.zone) ∙ ap (λ (l : List (List ℕ)). to_zones (world_of d) ++ l) (whole_lines o (eqb-true _ _ whole)) in
          subst (λ (x : WorldDraft). Good x × (so_far x ≡ to_zones (world_of d) ++ open_lines o)) (sym made) (
            record {
              soon = h.soon;
              no_zones = λ k. absurd (omega arith);
              some_zones = λ k s. omega (arith, length_push d.zones o.zone);
              no_pending = λ k. refl;
              no_hosts = λ k. h.no_hosts;
              few_zones = omega (arith, fits.room, length_push d.zones o.zone);
              zones = all_push IsZone d.zones o.zone h.zones (whole_zone d.zones o fits);
              apexes = differ_from (λ before z. has_apex before z.apex) [] d.zones o.zone h.apexes fits.new;
              pending = tt;
              waits = tt;
              few_hosts = rw (h.no_hosts) (lit≤ tt);
              hosts = no_host (length (d.zones ++ o.zone ∷ [])) d.hosts h.no_hosts;
              addresses = no_address d.hosts h.no_hosts;
            },
            spelt,
          )
      | inr part ↦
          let made : settled d o ≡ with_open d o = rw part refl in
          subst (λ (x : WorldDraft). Good x × (so_far x ≡ to_zones (world_of d) ++ open_lines o)) (sym made) (
            record {
              soon = h.soon;
              no_zones = λ k. absurd (omega arith);
              some_zones = λ k s. absurd cc;
              no_pending = λ k. absurd (k r);
              no_hosts = λ k. h.no_hosts;
              few_zones = omega (arith, fits.room);
              zones = h.zones;
              apexes = h.apexes;
              pending = fits;
              waits = part;
              few_hosts = rw (h.no_hosts) (lit≤ tt);
              hosts = no_host (length d.zones) d.hosts h.no_hosts;
              addresses = no_address d.hosts h.no_hosts;
            },
            ap (λ (s : WorldStage). so_far_at s (with_open d o)) h.stage,
          )
    ]

abbrev zoned : WorldDraft → WorldDraft
zoned d = record d { stage = Zoned }

zone_put : (d : WorldDraft) (h : ZoneHead) → Good d → IsFullName h.apex → may_zone d.stage ≡ true → length d.zones < most_zones → has_apex d.zones h.apex ≡ false → d.pending ≡ None
    → Takes d (spelled (zone_words h.apex h.count)) (settled (zoned d) (opened h))
zone_put d h g fits e room new shut =
    let at = at_zones d.stage d e shut g.no_zones in
    let standing : Standing (zoned d) = record { stage = refl; soon = g.soon; no_hosts = g.no_hosts (omega (arith, at.0.1)); zones = g.zones; apexes = g.apexes } in
    let s = settles (zoned d) (opened h) standing (record { apex = fits; few = omega arith; records = tt; new = new; room = room }) in
    (s.0, s.1 ∙ sym (ap (λ (l : List (List ℕ)). l ++ spelled (zone_words h.apex h.count) ∷ []) at.1))

-- ---- records

at_pending : (s : WorldStage) (d : WorldDraft) (o : OpenZone) → d.pending ≡ Some o → (rank s ≢ 3 → d.pending ≡ None) → s ≡ Zoned
at_pending Zoned d o is none = refl
at_pending Start d o is none = absurd (let both : Some o ≡ None = sym is ∙ none (λ e. omega arith) in cc)
at_pending Delayed d o is none = absurd (let both : Some o ≡ None = sym is ∙ none (λ e. omega arith) in cc)
at_pending Aliased d o is none = absurd (let both : Some o ≡ None = sym is ∙ none (λ e. omega arith) in cc)
at_pending Hosted d o is none = absurd (let both : Some o ≡ None = sym is ∙ none (λ e. omega arith) in cc)

class_is : (c : DnsClass) → eqb c.code 1 ≡ true → c ≡ class_in
class_is c e = ap (λ (n : ℕ). record { code = n }) (eqb-true c.code 1 e)

-- a zone with a record more, of those that it owes
fills : (zones : List Zone) (o : OpenZone) (r : Record) → IsOpen zones o → owes o → IsZoneRecord r → IsOpen zones (filled o r) × (open_lines (filled o r) ≡ open_lines o ++ record_text r ∷ [])
fills zones o r fits waits is =
    let more : length (o.zone.records ++ r ∷ []) ≤ o.count = omega (arith, fits.few, length_push o.zone.records r, eqb-false (length o.zone.records) o.count waits) in (
      record { apex = fits.apex; few = more; records = all_push IsZoneRecord o.zone.records r fits.records is; new = fits.new; room = fits.room },
      ap (λ (l : List (List ℕ)). spelled (zone_words o.zone.apex o.count) ∷ l) (map_push record_text o.zone.records r),
    )

record_put : (d : WorldDraft) (o : OpenZone) (r : Record) → Good d → d.pending ≡ Some o → IsZoneRecord r → Takes d (record_text r) (settled d (filled o r))
record_put d o r g is fits =
    let stage : d.stage ≡ Zoned = at_pending d.stage d o is g.no_pending in
    let k : rank d.stage ≡ 3 = ap rank stage in
    let open_zone : IsOpen d.zones o = subst (λ (p : Option OpenZone). IfSome p (IsOpen d.zones)) is g.pending in
    let waits : owes o = subst (λ (p : Option OpenZone). IfSome p owes) is g.waits in
    let f = fills d.zones o r open_zone waits fits in
    let standing : Standing d = record { stage = stage; soon = g.soon; no_hosts = g.no_hosts (omega arith); zones = g.zones; apexes = g.apexes } in
    let s = settles d (filled o r) standing f.0 in
    let before : so_far d ≡ to_zones (world_of d) ++ open_lines o =
    ap (λ (s : WorldStage). so_far_at s d) stage ∙ ap (λ (p : Option OpenZone). to_zones (world_of d) ++ pending_lines p) is in
    (s.0, s.1 ∙ ap (λ (l : List (List ℕ)). to_zones (world_of d) ++ l) f.1 ∙ sym (append_assoc (to_zones (world_of d)) (open_lines o) (record_text r ∷ [])) ∙ sym (ap (λ (l : List (List ℕ)). l ++ record_text r ∷ []) before))

-- ---- hosts

-- numbers that rise, none of them above this one
lower : (low most count : ℕ) (ns : List ℕ) → RiseWithin low most ns → name_zones count ns ≡ true → RiseWithin low count ns
lower low most count [] rise e = tt
lower low most count (n ∷ ns) rise e = let p = and_parts (leb n count) (name_zones count ns) e in (rise.0, leb-true n count p.0, lower (n + 1) most count ns rise.2 p.1)

abbrev with_host : WorldDraft → Host → WorldDraft
with_host d h = record d { stage = Hosted; hosts = d.hosts ++ h ∷ [] }

host_put : (d : WorldDraft) (h : Host) → Good d → IsHostLine h → may_host d.stage ≡ true → length d.hosts < most_hosts → has_address d.hosts h.ip ≡ false → name_zones (length d.zones) h.zones ≡ true → d.pending ≡ None
    → Takes d (host_line h) (with_host d h)
host_put d h g fits e room new named shut =
    let at = at_hosts d.stage d e shut g.no_hosts in
    let is : IsHost (length d.zones) h = record { address = fits.address; some = fits.some; rise = lower 1 most_zones (length d.zones) h.zones fits.rise named } in (
      record {
        soon = g.soon;
        no_zones = λ k. absurd (omega arith);
        some_zones = λ k s. g.some_zones (omega (arith, at.0.0)) shut;
        no_pending = λ k. shut;
        no_hosts = λ k. absurd (omega arith);
        few_zones = g.few_zones;
        zones = g.zones;
        apexes = g.apexes;
        pending = g.pending;
        waits = g.waits;
        few_hosts = omega (arith, length_push d.hosts h);
        hosts = all_push (IsHost (length d.zones)) d.hosts h g.hosts is;
        addresses = differ_from (λ before h. has_address before h.ip) [] d.hosts h g.addresses new;
      },
      ap (λ (l : List (List ℕ)). to_zones (world_of d) ++ l) (map_push host_line d.hosts h) ∙ sym (append_assoc (to_zones (world_of d)) (map host_line d.hosts) (host_line h ∷ []))
          ∙ sym (ap (λ (l : List (List ℕ)). l ++ host_line h ∷ []) at.1),
    )

-- ---- any line

not_true : (b : Bool) → not b ≡ true → b ≡ false
not_true true e = absurd cc
not_true false e = refl

put_takes : (d : WorldDraft) (f : WorldForm) (e : WorldDraft) → Good d → d.pending ≡ None → IsForm f → put d f ≡ Some e → Takes d (spelled (form_words f)) e
put_takes d (form.Delay n) e g shut fits h =
    let k = guard_some (may_delay d.stage) _ e h in
    subst (Takes d (spelled (delay_words n))) (some_is (record d { stage = Delayed; delay = n }) e k.1) (delayed d n g fits k.0 shut)
put_takes d (form.Aliases chain) e g shut fits h =
    let k = guard_some (may_alias d.stage) _ e h in
    subst (Takes d (spelled (aliases_words chain))) (some_is (record d { stage = Aliased; chain = chain }) e k.1) (aliased d chain g k.0 shut)
put_takes d (form.Zone z) e g shut fits h =
    let k = guard_some (may_zone d.stage && ltb (length d.zones) most_zones && not (has_apex d.zones z.apex)) (Some (settled (zoned d) (opened z))) e h in
    let p = and_parts (may_zone d.stage && ltb (length d.zones) most_zones) (not (has_apex d.zones z.apex)) k.0 in
    let q = and_parts (may_zone d.stage) (ltb (length d.zones) most_zones) p.0 in
    subst (Takes d (spelled (zone_words z.apex z.count))) (some_is (settled (zoned d) (opened z)) e k.1) (zone_put d z g fits q.0 (ltb-true _ _ q.1) (not_true _ p.1) shut)
put_takes d (form.Host z) e g shut fits h =
    let k = guard_some (may_host d.stage && ltb (length d.hosts) most_hosts && not (has_address d.hosts z.ip) && name_zones (length d.zones) z.zones) (Some (with_host d z)) e h in
    let p = and_parts (may_host d.stage && ltb (length d.hosts) most_hosts && not (has_address d.hosts z.ip)) (name_zones (length d.zones) z.zones) k.0 in
    let q = and_parts (may_host d.stage && ltb (length d.hosts) most_hosts) (not (has_address d.hosts z.ip)) p.0 in
    let s = and_parts (may_host d.stage) (ltb (length d.hosts) most_hosts) q.0 in
    subst (Takes d (host_line z)) (some_is (with_host d z) e k.1) (host_put d z g fits s.0 (ltb-true _ _ s.1) (not_true _ q.1) p.1 shut)

added_takes : (d : WorldDraft) (o : OpenZone) (line : List ℕ) (e : WorldDraft) → Good d → d.pending ≡ Some o → added d o line ≡ Some e → Takes d line e
added_takes d o line e g is h =
    let b = bind_some (record_of line) (λ r. cond (eqb r.dns_class.code 1) (Some (settled d (filled o r))) None) e h in
    let k = guard_some (eqb b.0.dns_class.code 1) (Some (settled d (filled o b.0))) e b.2 in
    let t = record_takes line b.0 b.1 in
    subst (λ (l : List ℕ). Takes d l e) (sym t.0)
    (subst (Takes d (record_text b.0)) (some_is (settled d (filled o b.0)) e k.1) (record_put d o b.0 g is (record { fits = t.1; class = class_is b.0.dns_class k.0 })))

taken_by : (p : Option OpenZone) (d : WorldDraft) (line : List ℕ) (e : WorldDraft) → Good d → d.pending ≡ p → taken_at p d line ≡ Some e → Takes d line e
taken_by (Some o) d line e g is h = added_takes d o line e g is h
taken_by None d line e g is h =
    let b = bind_some (world_form_of line) (put d) e h in
    let t = form_takes line b.0 b.1 in
    subst (λ (l : List ℕ). Takes d l e) (sym t.0) (put_takes d b.0 e g is t.1 b.2)

pub taken_takes : (d : WorldDraft) (line : List ℕ) (e : WorldDraft) → Good d → taken d line ≡ Some e → Takes d line e
taken_takes d line e g h = taken_by d.pending d line e g refl h

pub start_good : Good start
start_good = record {
  soon = lit≤ tt;
  no_zones = λ h. refl;
  some_zones = λ h. absurd (omega arith);
  no_pending = λ h. refl;
  no_hosts = λ h. refl;
  few_zones = lit≤ tt;
  zones = tt;
  apexes = tt;
  pending = tt;
  waits = tt;
  few_hosts = lit≤ tt;
  hosts = tt;
  addresses = tt;
}

-- ---- a whole world

none_open : (p : Option OpenZone) → not (elim p [ None ↦ false | Some o ↦ true ]) ≡ true → p ≡ None
none_open None e = refl
none_open (Some o) e = absurd cc

pub closed_is : (d : WorldDraft) → Good d → may_close d ≡ true → IsWorld (world_of d) × (so_far d ≡ world_lines (world_of d))
closed_is d g e =
    let p = and_parts (may_host d.stage) _ e in
    let shut : d.pending ≡ None = none_open d.pending p.1 in
    let at = at_hosts d.stage d p.0 shut g.no_hosts in (
      record {
        soon = g.soon;
        some_zones = g.some_zones at.0.0 shut;
        few_zones = g.few_zones;
        zones = g.zones;
        apexes = g.apexes;
        few_hosts = g.few_hosts;
        hosts = g.hosts;
        addresses = g.addresses;
      },
      at.1,
    )
