-- Where the log shows no cut there is none in the world.
use Rattle.std.proofs.Common.{◌≡◌, ℕ, zero, suc, ◌+◌, ◌-◌, ◌<◌, ◌≤◌, Bool, true, false, List, [], ◌∷◌, ◌++◌, length, drop, Option, Some, None, refl, sym, ap, subst, ◌∙◌, arith}
use Rattle.std.specs.Prelude.{◌==◌, ◌&&◌, ◌||◌, not, nat_le, filter, if◌then◌else◌}
use Rattle.std.specs.Option.{is_some}
use Rattle.std.specs.List.{list_any, list_all}
use Rattle.std.specs.Cmp.{first_so, second_so}
use Rattle.std.specs.Cmp.Lexicographic.{pointwise}
use Rattle.std.specs.Bool.{beq}
use Rattle.std.specs.declared.net.IpAddr.{IpAddr}
use Rattle.std.specs.declared.net.ip_addr.IpAddr.TheVariants.{V4, V6}
use Rattle.std.proofs.lemmas.List.{length-drop}
use Rattle.std.proofs.lemmas.Option.{same_Some}
use Rattle.std.proofs.lemmas.Bool.Decides.{nat_tests}
use Rattle.dns_core.specs.Letters.{same_letter}
use Rattle.dns_core.specs.Name.{DomainName, same_names, same_labels, last_labels}
use Rattle.dns_core.specs.NameLaws.{same_names_equiv}
use Rattle.dns_core.specs.Log.{Log}
use Rattle.dns_core.specs.Record.{is_typed}
use Rattle.dns_core.specs.Classifying.{is_ns, is_soa, is_asked}
use Rattle.dns_core.specs.declared.codes.RecordType.{RecordType}
use Rattle.dns_core.specs.declared.message.Query.{Query}
use Rattle.dns_core.specs.declared.message.Message.{Message}
use Rattle.dns_core.specs.declared.record.Record.{Record}
use Rattle.dns_core.specs.declared.record.RData.{RData}
use Rattle.dns_core.specs.declared.record.RData.TheVariants.{A, AAAA, NS, CNAME, SOA, RRSIG, Opaque}
use Rattle.dns_core.specs.declared.log.ToldOutcome.{ToldOutcome}
use Rattle.resolution.specs.Names.{is_above, base, walk, last_name, question, same_query}
use Rattle.resolution.specs.Records.{records, only, cname_target}
use Rattle.resolution.specs.Class.{has_no_data_for, class_of_message}
use Rattle.resolver_settings.specs.Access.{denies as access_denies}
use Rattle.recursor_types.specs.declared.policy.Policy.{Policy}
use Rattle.resolution.specs.Telling.{Tells as LogTells}
use Rattle.resolution.specs.Verdict.{holds_denied, without_denied, is_in_bailiwick, in_bailiwick, is_emptied, verdict, verdict_of_told, verdict_of_message}
use Rattle.resolution.specs.Serving.{Serves, is_delegation}
use Rattle.resolution.specs.Serving.Heard.{heard}
use Rattle.resolution.specs.Walking.{at_any_time, is_cut, NoCutSeen}
use Rattle.resolution.specs.Walking.NoCutSeen.{told_otherwise, not_told}
use Rattle.resolution.specs.declared.class.Class.{Class}
use Rattle.resolution.specs.declared.class.Class.TheVariants.{Positive}
use Rattle.resolution.specs.declared.verdict.Verdict.{Verdict}
use Rattle.resolution.specs.declared.verdict.Verdict.TheVariants.{Pos, Made}
use Rattle.resolution.specs.declared.verdict.Cause.TheVariants.{Filter, Zone as OutsideZone}
use Rattle.resolution.proofs.AboveIsAnOrder.{pointwise-drop, is_above-refl}
use Rattle.resolution.proofs.Caseless.{both, flags, labels_same, length-same, names_same, types_same, is_above-same, walk-same}
use Rattle.resolution.proofs.ElementsFiltered.{Has, Has-append_left, Has-append_right, any_Has, Has_any}
use Rattle.zone_rules.specs.Tree.{qualified, exists_in}
use Rattle.zone_rules.specs.Choosing.{is_of, is_alias, alias_in, owned}
use Rattle.zone_rules.specs.declared.world.Zone.{Zone}
use Rattle.zone_rules.specs.declared.world.World.{World}
use Rattle.zone_worlds.specs.Telling.{child_of, Replies, Tells}
use Rattle.zone_worlds.specs.Telling.Replies.{denies as denies_name, by_alias, gives, lacks}
use Rattle.zone_worlds.specs.Telling.Tells.{refuses, refers, answers}
use Rattle.zone_worlds.proofs.FoundInLists.{find_passes, length_filter-lt}
use Rattle.zone_worlds.proofs.ZonesFound.{alias_in_Has}
use Rattle.world_layout.specs.Layout.{is_in_place, has_authority}
use Rattle.world_layout.specs.Naming.{owns_one, has_star, is_soundly_held, is_soundly_named}
use Rattle.world_facts.specs.Told.{TellsLog}
use Rattle.world_facts.specs.Served.{IsServed, IsServerOf}
use Rattle.world_facts.proofs.ElementsThatPass.{halves, all_Has, through, turned, filter_Has, clash, some_left}
use Rattle.world_facts.proofs.ToldRecords.{told_from, is_held, child_Has, zone_asked_Has, alias_no_ns}
use Rattle.world_facts.proofs.ServersOfZones.{was_told, serves-world}
use Rattle.world_facts.proofs.ZonesAsked.{IsAsked, asks, asked_labels, one_asked, IsCutAt, cut_is, no_cut_below, apex_is, none_at}
use Rattle.world_facts.proofs.AnswersAndDenials.{IsResponse, is_response, told_whole}
use Rattle.world_facts.proofs.AnswersAndDenials.IsResponse.{positive, negative}
use Rattle.world_facts.proofs.NoFailure.{ended-denied}

-- an NS record has the type NS
pub ns_typed : (r : Record) → is_ns r ≡ true → (r.record_type.code == 2) ≡ true
ns_typed r e = at_data r.rdata r.typed e
  where
    at_data : (d : RData) → is_typed r.record_type d ≡ true → (elim d [ NS n ↦ true | _ ↦ false ]) ≡ true → (r.record_type.code == 2) ≡ true
    at_data (NS n) t e = t
    at_data (A ip) t e = cc
    at_data (AAAA ip) t e = cc
    at_data (CNAME n) t e = cc
    at_data (SOA n) t e = cc
    at_data (RRSIG covered rest) t e = cc
    at_data (Opaque bytes) t e = cc

abbrev held : RData → Option IpAddr
held d = elim d [ A ip ↦ Some (V4 ip) | AAAA ip ↦ Some (V6 ip) | _ ↦ None ]

abbrev denies : (IpAddr → Bool) → Option IpAddr → Bool
denies denied o = elim o [ None ↦ false | Some ip ↦ denied ip ]

pub ns_no_address : (denied : IpAddr → Bool) (r : Record) → is_ns r ≡ true → holds_denied denied r ≡ false
ns_no_address denied r e = at_data r.rdata e
  where
    at_data : (d : RData) → (elim d [ NS n ↦ true | _ ↦ false ]) ≡ true → denies denied (held d) ≡ false
    at_data (NS n) e = refl
    at_data (A ip) e = cc
    at_data (AAAA ip) e = cc
    at_data (CNAME n) e = cc
    at_data (SOA n) e = cc
    at_data (RRSIG covered rest) e = cc
    at_data (Opaque bytes) e = cc

-- ---- what the clauses say of an apex

module _ (policy : Policy) (w : World) (ok : IsServed policy w) where
  -- an apex owns an NS record
  pub record HasNs (y : Zone) : Type 0 where
    pub ns : Record
    pub within : Has y.records ns
    pub is : is_ns ns ≡ true
    pub named : same_names ns.name y.apex ≡ true

  pub has_ns : (y : Zone) → Has w.zones y → HasNs y
  has_ns y h =
      let laid = all_Has (λ (z : Zone). list_all (is_in_place w z) z.records && has_authority z) w.zones y ok.laid_out h in
      let authority = (halves (list_all (is_in_place w y) y.records) (has_authority y) laid).1 in
      let some = second_so (length (filter (λ r. is_soa r && same_names r.name y.apex) y.records) == 1) _ authority in
      let r : (r : Record) × Has y.records r × ((is_ns r && same_names r.name y.apex) ≡ true) = Has_any (λ (r : Record). is_ns r && same_names r.name y.apex) y.records some in
      let parts : (is_ns r.0 ≡ true) × (same_names r.0.name y.apex ≡ true) = halves (is_ns r.0) (same_names r.0.name y.apex) r.2 in
      record { ns = r.0; within = r.1; is = parts.0; named = parts.1 }

  -- an apex is no alias
  pub no_alias : (y : Zone) (n : DomainName) (c : Record) → Has w.zones y → same_names y.apex n ≡ true → alias_in y n ≡ Some c → ⊥
  no_alias y n c h same e =
      let has = alias_in_Has y n c e in
      let is : (is_some (cname_target c) ≡ true) × (same_names c.name n ≡ true) = halves (is_some (cname_target c)) (same_names c.name n) (find_passes (is_alias n) y.records c e) in
      let of_zone = all_Has (λ (z : Zone). not (has_star z.apex) && list_all (is_soundly_named w) z.records) w.zones y ok.named h in
      let sound = all_Has (is_soundly_named w) y.records c (halves (not (has_star y.apex)) (list_all (is_soundly_named w) y.records) of_zone).1 has in
      let alone = owns_alone c is.0 (halves (not (has_star c.name)) (is_soundly_held w c.name c.rdata) sound).1 in
      let few = all_Has (λ (z : Zone). nat_le (length (filter (λ r. same_names r.name c.name) z.records)) 1) w.zones y (second_so (length (filter (λ z. list_any (λ r. same_names r.name c.name) z.records) w.zones) == 1) _ alone) h in
      let ns = has_ns y h in
      let named : same_names ns.ns.name c.name ≡ true = through ns.ns.name n c.name (through ns.ns.name y.apex n ns.named same) (turned c.name n is.1) in
      let passes : (same_names ns.ns.name c.name && is_ns ns.ns) ≡ true = both (same_names ns.ns.name c.name) (is_ns ns.ns) named ns.is in
      let fewer = length_filter-lt (λ (r : Record). same_names r.name c.name && is_ns r) (λ (r : Record). same_names r.name c.name) (λ r p. first_so (same_names r.name c.name) (is_ns r) p) y.records c has
      (other (is_ns c) (λ k. alias_no_ns c is.0 k)) (same_names_equiv.refl c.name) in
      let one = longer (filter (λ (r : Record). same_names r.name c.name && is_ns r) y.records) ns.ns (filter_Has (λ (r : Record). same_names r.name c.name && is_ns r) y.records ns.ns ns.within passes) in
      let most : length (filter (λ (r : Record). same_names r.name c.name) y.records) ≤ 1 = grind (arith, nat_tests) in
      omega (arith, fewer, one, most)
    where
      owns_alone : (c : Record) → is_some (cname_target c) ≡ true → is_soundly_held w c.name c.rdata ≡ true → owns_one w c.name ≡ true
      owns_alone c s h = at_data c.rdata s h
        where
          at_data : (d : RData) → is_some (elim d [ CNAME n ↦ Some n | _ ↦ None ]) ≡ true → is_soundly_held w c.name d ≡ true → owns_one w c.name ≡ true
          at_data (CNAME n) s h = (halves (owns_one w c.name) _ h).0
          at_data (A ip) s h = cc
          at_data (AAAA ip) s h = cc
          at_data (NS n) s h = cc
          at_data (SOA n) s h = cc
          at_data (RRSIG covered rest) s h = cc
          at_data (Opaque bytes) s h = cc

      other : (b : Bool) → (b ≡ true → ⊥) → (same_names c.name c.name && b) ≡ false
      other true f = absurd (f refl)
      other false f = at_flag (same_names c.name c.name)
        where
          at_flag : (b : Bool) → (b && false) ≡ false
          at_flag true = refl
          at_flag false = refl

      longer : (xs : List Record) (x : Record) → Has xs x → 1 ≤ length xs
      longer [] x h = elim h [ ]
      longer (z ∷ zs) x h = omega arith

  -- ---- the NS record by which a message shows a cut

  -- It stands among the answers; or among the authorities, where there are no answers.
  pub data IsShown (m : Message) (r : Record) : Type 0 where
    answered : Has m.answers r → IsShown m r
    referred : m.answers ≡ [] → Has m.authorities r → IsShown m r

  pub record ShowsCut (m : Message) (c : DomainName) : Type 0 where
    pub ns : Record
    pub shown : IsShown m ns
    pub is : is_ns ns ≡ true
    pub named : same_names ns.name c ≡ true

  -- no zone of the world lies between
  abbrev IsFree : DomainName → DomainName → Type 0
  IsFree z c = (x : Zone) → Has w.zones x → (k : ℕ) → length z.labels < k → k < length c.labels → same_names x.apex (last_name k c) ≡ true → ⊥

  -- A server of a zone shows the cut at an apex below it, where there is none between.
  pub shows : (ip : IpAddr) (p : Query) (m : Message) (z c : DomainName) (y : Zone) → same_query p (question c 2) ≡ true → is_above z c ≡ true → IsServerOf w ip z → Tells w ip p m
      → Has w.zones y → same_names y.apex c ≡ true → IsFree z c → ShowsCut m c
  shows ip p m z c y same above server tells hy is free = by tells
    where
      walk_is : walk p ≡ p.name
      walk_is = ap (λ (t : RecordType). if t.code == 43 then base p.name else p.name) (types_same p (question c 2) same)

      names : same_names p.name c ≡ true
      names = names_same p (question c 2) same

      qualified_c : c.fqdn ≡ true
      qualified_c = second_so z.fqdn c.fqdn (first_so (z.fqdn && c.fqdn) _ above)

      there : is_above z (walk p) ≡ true
      there = walk-same p (question c 2) same z ∙ above

      asked : IsAsked w ip p z
      asked = asks w ip p z server there

      long : length (walk p).labels ≡ length c.labels
      long = ap (λ (n : DomainName). length n.labels) walk_is ∙ length-same (pointwise same_letter) p.name.labels c.labels (labels_same p.name c names)

      -- what has the labels that are left of the walked name is the last name of the candidate
      last_is : (n : DomainName) (j : ℕ) → j ≤ length (walk p).labels → same_names n (qualified (drop j (walk p).labels)) ≡ true → same_names n (last_name (length c.labels - j) c) ≡ true
      last_is n j low h =
          let left : length c.labels - (length c.labels - j) ≡ j = omega (arith, low, long) in
          let tail : same_labels (drop j (walk p).labels) (drop j c.labels) ≡ true =
          pointwise-drop (pointwise same_letter) j (walk p).labels c.labels (subst (λ (x : DomainName). same_labels x.labels c.labels ≡ true) (sym walk_is) (labels_same p.name c names)) in
          let last : same_names (qualified (drop j (walk p).labels)) (last_name (length c.labels - j) c) ≡ true =
          both (same_labels (drop j (walk p).labels) (last_labels (length c.labels - j) c.labels)) (beq true c.fqdn)
          (subst (λ (k : ℕ). same_labels (drop j (walk p).labels) (drop k c.labels) ≡ true) (sym left) tail) (ap (beq true) qualified_c) in
          through n (qualified (drop j (walk p).labels)) (last_name (length c.labels - j) c) h last

      whole : (n : DomainName) → same_names n (qualified (drop 0 (walk p).labels)) ≡ true → same_names n c ≡ true
      whole n h = through n (qualified (walk p).labels) c h
          (both (same_labels (walk p).labels c.labels) (beq true c.fqdn) (subst (λ (x : DomainName). same_labels x.labels c.labels ≡ true) (sym walk_is) (labels_same p.name c names)) (ap (beq true) qualified_c))

      asked_long : length asked.zone.apex.labels + asked.dropped ≡ length (walk p).labels
      asked_long = asked_labels w ip p z asked

      from_child : (child : Zone) → child_of w asked.zone p ≡ Some child → same_names child.apex c ≡ true
      from_child child f = at_drop cut.dropped refl
        where
          cut : IsCutAt w.zones (length asked.zone.apex.labels) (walk p).labels child
          cut = cut_is w.zones (length asked.zone.apex.labels) (walk p).labels child f

          at_drop : (j : ℕ) → cut.dropped ≡ j → same_names child.apex c ≡ true
          at_drop zero e = whole child.apex (subst (λ (j : ℕ). same_names child.apex (qualified (drop j (walk p).labels)) ≡ true) e (apex_is w.zones (drop cut.dropped (walk p).labels) child cut.at))
          at_drop (suc j) e =
              let left = length-drop cut.dropped (walk p).labels in
              let below = cut.below in
              let within = cut.within in
              let low = asked.low in
              absurd (free child (child_Has w asked.zone p child f) (length c.labels - cut.dropped)
              (omega (arith, left, below, within, low, asked_long, long)) (omega (arith, e, within, long))
              (last_is child.apex cut.dropped within (apex_is w.zones (drop cut.dropped (walk p).labels) child cut.at)))

      from_zone : (m : Message) → child_of w asked.zone p ≡ None → Replies w asked.zone p m → ShowsCut m c
      from_zone m f r = by_case r
        where
          -- no deeper zone has the apex, so the zone is that of the apex
          apex : same_names asked.zone.apex c ≡ true
          apex = at_drop asked.dropped refl
            where
              at_drop : (j : ℕ) → asked.dropped ≡ j → same_names asked.zone.apex c ≡ true
              at_drop zero e = whole asked.zone.apex (subst (λ (j : ℕ). same_names asked.zone.apex (qualified (drop j (walk p).labels)) ≡ true) e asked.apex)
              at_drop (suc j) e = absurd (none_at w.zones (walk p).labels y (no_cut_below w.zones (length asked.zone.apex.labels) (walk p).labels f 0 (omega (arith, asked_long, e))) hy
                  (through y.apex c (qualified (walk p).labels) is (turned (qualified (walk p).labels) c (whole (qualified (walk p).labels) (same_names_equiv.refl (qualified (walk p).labels))))))

          named : same_names asked.zone.apex p.name ≡ true
          named = through asked.zone.apex c p.name apex (turned p.name c names)

          has : Has w.zones asked.zone
          has = zone_asked_Has w ip p asked.zone asked.is

          ns : HasNs asked.zone
          ns = has_ns asked.zone has

          at_name : same_names ns.ns.name p.name ≡ true
          at_name = through ns.ns.name asked.zone.apex p.name ns.named named

          exists : exists_in w p.name ≡ true
          exists = any_Has (λ (z : Zone). list_any (λ r. is_above p.name r.name) z.records) w.zones asked.zone has
              (any_Has (λ (r : Record). is_above p.name r.name) asked.zone.records ns.ns ns.within
              (is_above-same p.name ns.ns.name p.name at_name ∙ is_above-refl p.name (flags p.name c names ∙ qualified_c)))

          passes : (same_names ns.ns.name p.name && is_of p.query_type ns.ns) ≡ true
          passes = both (same_names ns.ns.name p.name) (is_of p.query_type ns.ns) at_name
              (ap (λ (t : RecordType). t.code == 255 || ns.ns.record_type.code == t.code) (types_same p (question c 2) same) ∙ ns_typed ns.ns ns.is)

          own : Has (owned asked.zone p.name p.query_type) ns.ns
          own = filter_Has (λ (r : Record). same_names r.name p.name && is_of p.query_type r) asked.zone.records ns.ns ns.within passes

          by_case : {m : Message} → Replies w asked.zone p m → ShowsCut m c
          by_case (denies_name e) = absurd (clash (exists_in w p.name) exists e)
          by_case (by_alias {c = alias} e a b) = absurd (no_alias asked.zone p.name alias has named
              (sym (ap (λ (t : RecordType). if t.code == 5 || t.code == 255 then None else alias_in asked.zone p.name) (types_same p (question c 2) same)) ∙ a))
          by_case (gives e a o) = record { ns = ns.ns; shown = answered own; is = ns.is; named = through ns.ns.name p.name c at_name names }
          by_case (lacks e a o) = absurd (clash (length (owned asked.zone p.name p.query_type) == 0) o (some_left (owned asked.zone p.name p.query_type) ns.ns own))

      by : {m : Message} → Tells w ip p m → ShowsCut m c
      by (refuses e) = let none : None ≡ Some asked.zone = sym e ∙ asked.is in cc
      by (refers {z = z0} {child = child} e f) =
          let at = one_asked w ip p z0 asked.zone e asked.is in
          let g : child_of w asked.zone p ≡ Some child = subst (λ (x : Zone). child_of w x p ≡ Some child) at f in
          let ns = has_ns child (child_Has w asked.zone p child g) in
          record {
            ns = ns.ns;
            shown = referred refl (filter_Has (λ (r : Record). is_ns r && same_names r.name child.apex) child.records ns.ns ns.within (both (is_ns ns.ns) (same_names ns.ns.name child.apex) ns.is ns.named));
            is = ns.is;
            named = through ns.ns.name child.apex c ns.named (from_child child g);
          }
      by (answers {z = z0} {m = n} e f r) =
          let at = one_asked w ip p z0 asked.zone e asked.is in
          from_zone n (subst (λ (x : Zone). child_of w x p ≡ None) at f) (subst (λ (x : Zone). Replies w x p n) at r)

  -- ---- what such a message counts for

  in_records : (m : Message) (r : Record) → IsShown m r → Has (records m) r
  in_records m r (answered h) = Has-append_left (m.answers ++ m.authorities) m.additionals r (Has-append_left m.answers m.authorities r h)
  in_records m r (referred e h) = Has-append_left (m.answers ++ m.authorities) m.additionals r (Has-append_right m.answers m.authorities r h)

  -- a filter that leaves the record leaves the cut shown
  left : (p : Record → Bool) (m : Message) (r : Record) → p r ≡ true → IsShown m r → IsShown (only p m) r
  left p m r e (answered h) = answered (filter_Has p m.answers r h e)
  left p m r e (referred n h) = referred (ap (filter p) n) (filter_Has p m.authorities r h e)

  -- and nothing is emptied
  unemptied : (p : Record → Bool) (m : Message) (r : Record) → p r ≡ true → IsShown m r → is_emptied m (only p m) ≡ false
  unemptied p m r e (answered h) = answers_left (length m.answers == 0) (length (filter p m.answers) == 0) (length m.authorities == 0) (length (filter p m.authorities) == 0)
      (some_left (filter p m.answers) r (filter_Has p m.answers r h e))
    where
      answers_left : (a b c d : Bool) → b ≡ false → ((not a && b) || (b && not c && d)) ≡ false
      answers_left a true c d f = cc
      answers_left true false c d f = refl
      answers_left false false c d f = refl
  unemptied p m r e (referred n h) = authorities_left (length m.answers == 0) (length (filter p m.answers) == 0) (length m.authorities == 0) (length (filter p m.authorities) == 0)
      (ap (λ (xs : List Record). length xs == 0) n) (some_left (filter p m.authorities) r (filter_Has p m.authorities r h e))
    where
      authorities_left : (a b c d : Bool) → a ≡ true → d ≡ false → ((not a && b) || (b && not c && d)) ≡ false
      authorities_left false b c d f g = cc
      authorities_left true b c true f g = cc
      authorities_left true true true false f g = refl
      authorities_left true true false false f g = refl
      authorities_left true false c false f g = refl

  -- what counts of the message, which names servers of c
  module _ (m : Message) (c z : DomainName) (s : ShowsCut m c) (above : is_above z c ≡ true) where
    allowed_left : Record → Bool
    allowed_left r = not (holds_denied (access_denies policy.answer_filter) r)

    abbrev kept_of : Message
    kept_of = in_bailiwick z (without_denied (access_denies policy.answer_filter) m)

    undenied : not (holds_denied (access_denies policy.answer_filter) s.ns) ≡ true
    undenied = ap not (ns_no_address (access_denies policy.answer_filter) s.ns s.is)

    inside : is_in_bailiwick z s.ns ≡ true
    inside = is_above-same z s.ns.name c s.named ∙ above

    shown_left : IsShown (without_denied (access_denies policy.answer_filter) m) s.ns
    shown_left = left (λ (r : Record). not (holds_denied (access_denies policy.answer_filter) r)) m s.ns undenied s.shown

    shown_within : IsShown kept_of s.ns
    shown_within = left (is_in_bailiwick z) (without_denied (access_denies policy.answer_filter) m) s.ns inside shown_left

    pub counts_whole : verdict_of_message (access_denies policy.answer_filter) m z ≡ Pos kept_of
    counts_whole =
        ap (λ (b : Bool). if b then Made Filter else (if is_emptied (without_denied (access_denies policy.answer_filter) m) kept_of then Made OutsideZone else Pos kept_of))
        (unemptied (λ (r : Record). not (holds_denied (access_denies policy.answer_filter) r)) m s.ns undenied s.shown)
        ∙ ap (λ (b : Bool). if b then Made OutsideZone else Pos kept_of) (unemptied (is_in_bailiwick z) (without_denied (access_denies policy.answer_filter) m) s.ns inside shown_left)

    pub delegates_left : is_delegation kept_of c ≡ true
    delegates_left = any_Has (λ (r : Record). is_ns r && same_names r.name c) (records kept_of) s.ns (in_records kept_of s.ns shown_within) (both (is_ns s.ns) (same_names s.ns.name c) s.is s.named)

    asked_for : is_asked (question c 2) s.ns ≡ true
    asked_for = both (s.ns.record_type.code == 2) (same_names s.ns.name c) (ns_typed s.ns s.is) s.named

    -- it has data for the question
    pub has_data : has_no_data_for (question c 2) m ≡ false
    has_data = by s.shown
      where
        by : IsShown m s.ns → has_no_data_for (question c 2) m ≡ false
        by (answered h) = at_flags (length m.answers == 0) _ _ (some_left m.answers s.ns h)
          where
            at_flags : (a b c : Bool) → a ≡ false → (a && not b && not c) ≡ false
            at_flags true b c e = cc
            at_flags false b c e = refl
        by (referred e h) = at_flags (length m.answers == 0) _ _ (any_Has (is_asked (question c 2)) m.authorities s.ns h asked_for)
          where
            at_flags : (a b c : Bool) → b ≡ true → (a && not b && not c) ≡ false
            at_flags a false c e = cc
            at_flags true true c e = refl
            at_flags false true c e = refl

module _ (policy : Policy) (w : World) (log : Log) (ok : IsServed policy w) (by : TellsLog w log) where
  -- what a server told for the NS records of an apex is a cut
  told_cut : (i ask moment : ℕ) (o : ToldOutcome) (teller : IpAddr) (z c : DomainName) (v : Verdict) (y : Zone)
      → LogTells log i (question c 2) o ask teller moment → Serves policy log ask teller z → is_above z c ≡ true → verdict policy o (question c 2) z ≡ Some v
      → Has w.zones y → same_names y.apex c ≡ true → IsFree policy w ok z c → is_cut v c ≡ true
  told_cut i ask moment o teller z c v y t s above e h same free =
      let told = was_told w log by t in
      let server = serves-world policy w log ok by s in
      let cut = shows policy w ok teller told.asked told.message z c y told.same above server told.tells h same free in
      let asked = asks w teller told.asked z server (walk-same told.asked (question c 2) told.same z ∙ above) in
      let class = is_response told.message (question c 2) (told_whole w teller told.asked told.message asked.zone asked.is told.tells)
      (λ r x. ok.internet r (is_held w told.message r (told_from w teller told.asked told.message r told.tells x) x)) in
      let verdict_is = sym e ∙ ap (λ (x : ToldOutcome). verdict policy x (question c 2) z) told.is ∙ ap (λ (x : Class). verdict_of_told (access_denies policy.answer_filter) (Some x) z) (answer told.message cut class)
      ∙ ap (λ (x : Verdict). Some x) (counts_whole policy w ok told.message c z cut above) in
      ap (λ (x : Verdict). is_cut x c) (same_Some v _ verdict_is) ∙ delegates_left policy w ok told.message c z cut above
    where
      answer : (m : Message) → ShowsCut policy w ok m c → IsResponse m (question c 2) → class_of_message m (question c 2) ≡ Positive m
      answer m cut (positive n k) = k
      answer m cut (negative n k) = absurd (clash (has_no_data_for (question c 2) m) n (has_data policy w ok m c z cut above))

  pub no_cut : {c : DomainName} → NoCutSeen policy log c → (y : Zone) → Has w.zones y → same_names y.apex c ≡ true → ⊥
  no_cut (told_otherwise {c = c} {i = i} {moment = moment} {o = o} {z = z} {v = v} (heard {ask = ask} {teller = teller} t s a) e n below) y h same =
      clash (is_cut v c) (told_cut i ask moment o teller z c v y t s a e h same (λ x k low high other is. no_cut (below low high other) x k is)) n
  no_cut (not_told {c = c} {z = z} {g = g} {e = e} f n below) y h same =
      let d = ended-denied policy w log ok by at_any_time 0 (question c 2) z g e refl f in
      let cut = shows policy w ok d.teller d.asked d.message z c y d.same f.above d.server d.tells h same (λ x k low high other is. no_cut (below low high other) x k is) in
      clash (has_no_data_for (question c 2) d.message) d.none (has_data policy w ok d.message c z cut f.above)
