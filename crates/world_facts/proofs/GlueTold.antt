-- In a well served world no delegation is without an address.
use Rattle.std.proofs.Common.{◌≡◌, ℕ, ◌-◌, ◌<◌, Bool, true, false, List, [], ◌++◌, length, drop, Option, Some, None, inl, inr, refl, sym, ap, subst, ◌∙◌, arith}
use Rattle.std.specs.Prelude.{◌==◌, ◌&&◌, ◌||◌, not, filter, find, if◌then◌else◌}
use Rattle.std.specs.Option.{option_to_list}
use Rattle.std.specs.List.{list_any, list_all}
use Rattle.std.specs.Cmp.{first_so, second_so}
use Rattle.std.specs.declared.net.IpAddr.{IpAddr}
use Rattle.std.specs.declared.net.ip_addr.IpAddr.TheVariants.{V4, V6}
use Rattle.dns_core.specs.Name.{DomainName, same_names}
use Rattle.dns_core.specs.Log.{Log}
use Rattle.dns_core.specs.Classifying.{is_ns, is_soa, is_address, is_glue_for}
use Rattle.dns_core.specs.declared.codes.RecordType.{RecordType}
use Rattle.dns_core.specs.declared.message.Query.{Query}
use Rattle.dns_core.specs.declared.message.Message.{Message}
use Rattle.dns_core.specs.declared.record.Record.{Record}
use Rattle.dns_core.specs.declared.record.RData.{RData}
use Rattle.dns_core.specs.declared.record.RData.TheVariants.{A, AAAA, NS, CNAME, SOA, RRSIG, Opaque}
use Rattle.resolution.specs.Names.{is_above, is_root, base, question, same_query}
use Rattle.resolution.specs.Records.{address, ns_target, records, only}
use Rattle.resolver_settings.specs.Access.{denies as access_denies}
use Rattle.recursor_types.specs.declared.policy.Policy.{Policy}
use Rattle.resolution.specs.Verdict.{holds_denied, without_denied, is_in_bailiwick, in_bailiwick}
use Rattle.resolution.specs.Serving.{Heard, target_below, targets, glue, address_under, allowed}
use Rattle.resolution.specs.Serving.Heard.{heard}
use Rattle.resolution.specs.Failing.{Glueless}
use Rattle.resolution.proofs.AboveIsAnOrder.{is_above-trans}
use Rattle.resolution.proofs.WayDown.{last-above}
use Rattle.resolution.proofs.Caseless.{both, names_same, types_same, is_above-same, length-same, labels_same}
use Rattle.std.specs.Cmp.Lexicographic.{pointwise}
use Rattle.dns_core.specs.Letters.{same_letter}
use Rattle.std.proofs.lemmas.Bool.Decides.{Decides-eqb}
use Rattle.resolution.proofs.ZoneCase.{above-same}
use Rattle.resolution.proofs.NoAddressIsInvented.{CountsOf, verdict-pos, Has-counted}
use Rattle.resolution.proofs.ElementsFiltered.{Has, Contains-from_Has, Has-append_left, Has-append_right, Has-append_cases, Has-filter, Has-passes, filter_map-Has, any_Has, Has_any}
use Rattle.zone_rules.specs.Choosing.{is_of, owned, soa_of, servers, names_server, server_addresses, alias_in}
use Rattle.zone_rules.specs.declared.world.Zone.{Zone}
use Rattle.zone_rules.specs.declared.world.World.{World}
use Rattle.zone_worlds.specs.Telling.{referral, positive, AnswersByAlias, Tells}
use Rattle.zone_worlds.specs.Telling.AnswersByAlias.{alone, chained}
use Rattle.zone_worlds.proofs.FoundInLists.{find_passes}
use Rattle.zone_worlds.proofs.ZonesFound.{alias_in_Has}
use Rattle.zone_worlds.specs.Telling.IsByAlias.{is_by_alias}
use Rattle.zone_worlds.specs.Telling.Replies.{denies, by_alias, gives, lacks}
use Rattle.zone_worlds.specs.Telling.Tells.{refuses, refers, answers}
use Rattle.world_check.specs.Serving.{is_own_server, has_own_server, is_served_as_named, is_served_at}
use Rattle.world_facts.specs.Told.{TellsLog}
use Rattle.world_facts.specs.Served.{IsHeld, IsServed}
use Rattle.world_facts.proofs.ElementsThatPass.{halves, all_Has, in_parts, through, turned, filter_Has}
use Rattle.world_facts.proofs.ToldRecords.{child_Has, zone_asked_Has, address_no_ns, soa_no_ns, follows_are}
use Rattle.world_facts.proofs.ServersOfZones.{was_told, one_message, ns_is, served_as}
use Rattle.world_facts.proofs.CutsShown.{ns_typed, ns_no_address, no_alias}

-- a record that passes is left
only_Has : (p : Record → Bool) (m : Message) (r : Record) → Has (records m) r → p r ≡ true → Has (records (only p m)) r
only_Has p m r h e = in_parts (Has (records (only p m)) r) m.answers m.authorities m.additionals r h
    (λ k. Has-append_left (filter p m.answers ++ filter p m.authorities) (filter p m.additionals) r (Has-append_left (filter p m.answers) (filter p m.authorities) r (filter_Has p m.answers r k e)))
    (λ k. Has-append_left (filter p m.answers ++ filter p m.authorities) (filter p m.additionals) r (Has-append_right (filter p m.answers) (filter p m.authorities) r (filter_Has p m.authorities r k e)))
    (λ k. Has-append_right (filter p m.answers ++ filter p m.authorities) (filter p m.additionals) r (filter_Has p m.additionals r k e))

-- the address of an address record
address_of : (r : Record) → is_address r ≡ true → (ip : IpAddr) × (address r ≡ Some ip)
address_of r e = at_data r.rdata e
  where
    at_data : (d : RData) → (elim d [ A ip ↦ true | AAAA ip ↦ true | _ ↦ false ]) ≡ true → (ip : IpAddr) × ((elim d [ A ip ↦ Some (V4 ip) | AAAA ip ↦ Some (V6 ip) | _ ↦ None ]) ≡ Some ip)
    at_data (A ip) e = (V4 ip, refl)
    at_data (AAAA ip) e = (V6 ip, refl)
    at_data (NS n) e = cc
    at_data (CNAME n) e = cc
    at_data (SOA n) e = cc
    at_data (RRSIG covered rest) e = cc
    at_data (Opaque bytes) e = cc

-- an own server of a zone, with its address
record OwnServer (z : Zone) : Type 0 where
  pub ns : Record
  pub within : Has z.records ns
  pub target : DomainName
  pub is : ns_target ns ≡ Some target
  pub named : same_names ns.name z.apex ≡ true
  pub below : is_above z.apex target ≡ true
  pub held : Record
  pub beside : Has z.records held
  pub an_address : is_address held ≡ true
  pub under : same_names held.name target ≡ true

own_of : (z : Zone) (r : Record) → Has z.records r → is_own_server z r ≡ true → OwnServer z
own_of z r h e = at_data r.rdata refl e
  where
    at_data : (d : RData) → r.rdata ≡ d → (elim d [ NS target ↦ same_names r.name z.apex && is_above z.apex target && list_any (is_glue_for target) z.records | _ ↦ false ]) ≡ true → OwnServer z
    at_data (NS t) s e =
        let first = first_so (same_names r.name z.apex && is_above z.apex t) _ e in
        let a : (a : Record) × Has z.records a × (is_glue_for t a ≡ true) = Has_any (is_glue_for t) z.records (second_so (same_names r.name z.apex && is_above z.apex t) _ e) in
        let kind : (is_address a.0 ≡ true) × (same_names a.0.name t ≡ true) = halves (is_address a.0) (same_names a.0.name t) a.2 in
        let parts : (same_names r.name z.apex ≡ true) × (is_above z.apex t ≡ true) = halves (same_names r.name z.apex) (is_above z.apex t) first in
        record { ns = r; within = h; target = t; is = ap (λ (x : RData). elim x as (λ y. Option DomainName) [ NS n ↦ Some n | _ ↦ None ]) s; named = parts.0; below = parts.1; held = a.0; beside = a.1; an_address = kind.0; under = kind.1 }
    at_data (A ip) s e = cc
    at_data (AAAA ip) s e = cc
    at_data (CNAME n) s e = cc
    at_data (SOA n) s e = cc
    at_data (RRSIG covered rest) s e = cc
    at_data (Opaque bytes) s e = cc

names_it : (owner t n : DomainName) (r : Record) → ns_target r ≡ Some t → same_names r.name owner ≡ true → same_names t n ≡ true → names_server owner n r ≡ true
names_it owner t n r e f g = at_data r.rdata e
  where
    at_data : (d : RData) → (elim d [ NS n ↦ Some n | _ ↦ None ]) ≡ Some t → (elim d [ NS s ↦ same_names r.name owner && same_names s n | _ ↦ false ]) ≡ true
    at_data (NS s) h = let same : s ≡ t = cc in both (same_names r.name owner) (same_names s n) f (ap (λ x. same_names x n) same ∙ g)
    at_data (A ip) h = cc
    at_data (AAAA ip) h = cc
    at_data (CNAME x) h = cc
    at_data (SOA x) h = cc
    at_data (RRSIG covered rest) h = cc
    at_data (Opaque bytes) h = cc

-- A message names a server of c, and has its address.
record HasGlue (w : World) (c : DomainName) (m : Message) : Type 0 where
  pub ns : Record
  pub ns_in : Has (records m) ns
  pub target : DomainName
  pub is : ns_target ns ≡ Some target
  pub named : same_names ns.name c ≡ true
  pub held : Record
  pub held_in : Has (records m) held
  pub of_world : IsHeld w held
  pub an_address : is_address held ≡ true
  pub under : same_names held.name target ≡ true
  pub below : is_above c held.name ≡ true

module _ (policy : Policy) (w : World) (ok : IsServed policy w) where
  -- an NS record of a zone is that of its apex
  at_apex : (z : Zone) (r : Record) → Has w.zones z → Has z.records r → is_ns r ≡ true → same_names r.name z.apex ≡ true
  at_apex z r hz hr e = at_data r.rdata refl e
    where
      named : is_served_as_named w z r ≡ true
      named = all_Has (is_served_as_named w z) z.records r (all_Has (λ (y : Zone). list_all (is_served_as_named w y) y.records) w.zones z ok.served hz) hr

      at_data : (d : RData) → r.rdata ≡ d → (elim d [ NS n ↦ true | _ ↦ false ]) ≡ true → same_names r.name z.apex ≡ true
      at_data (NS t) s e = (halves (same_names r.name z.apex) (is_served_at w z t) (served_as w z r t (ap (λ (x : RData). elim x as (λ y. Option DomainName) [ NS n ↦ Some n | _ ↦ None ]) s) named)).0
      at_data (A ip) s e = cc
      at_data (AAAA ip) s e = cc
      at_data (CNAME n) s e = cc
      at_data (SOA n) s e = cc
      at_data (RRSIG covered rest) s e = cc
      at_data (Opaque bytes) s e = cc

  own_server : (z : Zone) (c : DomainName) → Has w.zones z → same_names z.apex c ≡ true → 0 < length c.labels → OwnServer z
  own_server z c h same long =
      let own = all_Has has_own_server w.zones z ok.delegated h in
      let r : (r : Record) × Has z.records r × (is_own_server z r ≡ true) = Has_any (is_own_server z) z.records (other (is_root z.apex) (list_any (is_own_server z) z.records) (below_root z.apex c same long) own) in
      own_of z r.0 r.1 r.2
    where
      other : (a b : Bool) → a ≡ false → (a || b) ≡ true → b ≡ true
      other true b e h = cc
      other false b e h = h

      below_root : (a c : DomainName) → same_names a c ≡ true → 0 < length c.labels → is_root a ≡ false
      below_root a c s h = at_flag a.fqdn (length a.labels == 0) refl
        where
          at_flag : (f b : Bool) → (length a.labels == 0) ≡ b → (f && b) ≡ false
          at_flag true true e =
              let none = (Decides-eqb (length a.labels) 0).0 e in
              let same = length-same (pointwise same_letter) a.labels c.labels (labels_same a c s) in
              absurd (omega (arith, none, same, h))
          at_flag true false e = refl
          at_flag false b e = refl

  glue_in : (z : Zone) (m : Message) (c n : DomainName) → Has w.zones z → same_names z.apex c ≡ true → same_names n c ≡ true → 0 < length c.labels
      → ((r : Record) → Has z.records r → is_ns r ≡ true → same_names r.name z.apex ≡ true → Has (records m) r)
      → ((r : Record) → Has (server_addresses z n) r → Has (records m) r) → HasGlue w c m
  glue_in z m c n hz apex name long ns_of addresses_of =
      let s = own_server z c hz apex long in
      let under_apex : is_above z.apex s.held.name ≡ true = is_above-same z.apex s.held.name s.target s.under ∙ s.below in
      let named : list_any (names_server n s.held.name) z.records ≡ true =
      any_Has (names_server n s.held.name) z.records s.ns s.within (names_it n s.target s.held.name s.ns s.is (through s.ns.name c n (through s.ns.name z.apex c s.named apex) (turned n c name)) (turned s.held.name s.target s.under)) in
      let inside : Has (server_addresses z n) s.held =
      filter_Has (λ (r : Record). is_address r && is_above z.apex r.name && list_any (names_server n r.name) z.records) z.records s.held s.beside
      (both (is_address s.held && is_above z.apex s.held.name) _ (both (is_address s.held) _ s.an_address under_apex) named) in
      let from = addresses_of s.held inside in
      record {
        ns = s.ns;
        ns_in = ns_of s.ns s.within (ns_is s.ns s.target s.is) s.named;
        target = s.target;
        is = s.is;
        named = through s.ns.name z.apex c s.named apex;
        held = s.held;
        held_in = from;
        of_world = held_by z s.held hz s.beside;
        an_address = s.an_address;
        under = s.under;
        below = sym (above-same z.apex c s.held.name apex) ∙ under_apex;
      }
    where
      held_by : (z : Zone) (r : Record) → Has w.zones z → Has z.records r → IsHeld w r
      held_by z r hz hr = record { zone = z; has = Contains-from_Has w.zones z hz; within = Contains-from_Has z.records r hr }

  -- ---- what an address tells that names servers of c

  no_soa : (z : Zone) (r : Record) → Has (soa_of z) r → is_ns r ≡ true → ⊥
  no_soa z r h n = at_found (find (λ r. is_soa r && same_names r.name z.apex) z.records) refl h
    where
      at_found : (o : Option Record) → find (λ r. is_soa r && same_names r.name z.apex) z.records ≡ o → Has (option_to_list o) r → ⊥
      at_found None e k = k
      at_found (Some s) e (inl same) = soa_no_ns s (halves (is_soa s) _ (find_passes (λ r. is_soa r && same_names r.name z.apex) z.records s e)).0 (ap is_ns same ∙ n)
      at_found (Some s) e (inr k) = k

  no_server_address : (z : Zone) (n : DomainName) (r : Record) → Has (server_addresses z n) r → is_ns r ≡ true → ⊥
  no_server_address z n r h ns = address_no_ns r (first_so (is_address r) (is_above z.apex r.name) (first_so (is_address r && is_above z.apex r.name) _
      (Has-passes (λ (r : Record). is_address r && is_above z.apex r.name && list_any (names_server n r.name) z.records) z.records r h))) ns

  pub alias_within : (z : Zone) (p : Query) (chain : Bool) (rs : List Record) (r : Record) → AnswersByAlias z p chain rs → Has rs r → Has z.records r
  alias_within z p chain rs r (alone {c = c} f e) (inl same) = subst (λ (x : Record). Has z.records x) same (alias_in_Has z p.name c e)
  alias_within z p chain rs r (alone {c = c} f e) (inr h) = elim h [ ]
  alias_within z p chain rs r (chained {cs = cs} {last = last} f follows) h = elim (Has-append_cases cs (owned z last p.query_type) r h) [
    | inl a ↦ (follows_are p.name r follows a).within
    | inr a ↦ Has-filter (λ (r : Record). same_names r.name last && is_of p.query_type r) z.records r a
  ]

  told_glue : (ip : IpAddr) (p : Query) (m : Message) (c : DomainName) (r0 : Record) → same_query p (question c 2) ≡ true → 0 < length c.labels
      → Has (records m) r0 → is_ns r0 ≡ true → same_names r0.name c ≡ true → Tells w ip p m → HasGlue w c m
  told_glue ip p m c r0 same long h ns named t = by h t
    where
      names : same_names p.name c ≡ true
      names = names_same p (question c 2) same

      by : {m : Message} → Has (records m) r0 → Tells w ip p m → HasGlue w c m
      by h (refuses e) = elim h [ ]
      by h (refers {z = z} {child = child} e f) =
          let hc = child_Has w z p child f in
          let apex : same_names child.apex c ≡ true = in_parts (same_names child.apex c ≡ true) [] (servers child child.apex) (server_addresses child child.apex) r0 h (λ k. absurd k)
          (λ k. through child.apex r0.name c (turned r0.name child.apex (halves (is_ns r0) (same_names r0.name child.apex) (Has-passes (λ (r : Record). is_ns r && same_names r.name child.apex) child.records r0 k)).1) named)
          (λ k. absurd (no_server_address child child.apex r0 k ns)) in
          glue_in child (referral child p) c child.apex hc apex apex long
          (λ r k n at. Has-append_left ([] ++ servers child child.apex) (server_addresses child child.apex) r
          (Has-append_right [] (servers child child.apex) r (filter_Has (λ (r : Record). is_ns r && same_names r.name child.apex) child.records r k (both (is_ns r) (same_names r.name child.apex) n at))))
          (λ r k. Has-append_right ([] ++ servers child child.apex) (server_addresses child child.apex) r k)
      by h (answers {z = z} e f (denies x)) = absurd (in_parts ⊥ [] (soa_of z) [] r0 h (λ k. k) (λ k. no_soa z r0 k ns) (λ k. k))
      by h (answers {z = z} e f (lacks x y o)) = absurd (in_parts ⊥ [] (soa_of z) [] r0 h (λ k. k) (λ k. no_soa z r0 k ns) (λ k. k))
      by h (answers {z = z} e f (by_alias {c = alias} x y (is_by_alias {rs = rs} b))) =
          let hz = zone_asked_Has w ip p z e in
          let within_z : Has z.records r0 = in_parts (Has z.records r0) rs [] [] r0 h (λ k. alias_within z p w.chain rs r0 b k) (λ k. absurd k) (λ k. absurd k) in
          let apex = at_apex z r0 hz within_z ns in
          let at_name : same_names z.apex p.name ≡ true = through z.apex r0.name p.name (turned r0.name z.apex apex) (through r0.name c p.name named (turned p.name c names)) in
          absurd (no_alias policy w ok z p.name alias hz at_name
          (sym (ap (λ (t : RecordType). if t.code == 5 || t.code == 255 then None else alias_in z p.name) (types_same p (question c 2) same)) ∙ y))
      by h (answers {z = z} e f (gives x y o)) =
          let hz = zone_asked_Has w ip p z e in
          let extra : List Record = if p.query_type.code == 2 then server_addresses z p.name else [] in
          let flag = ap (λ (t : RecordType). if t.code == 2 then server_addresses z p.name else []) (types_same p (question c 2) same) in
          let within_z : Has z.records r0 = in_parts (Has z.records r0) (owned z p.name p.query_type) [] (if p.query_type.code == 2 then server_addresses z p.name else []) r0 h
          (λ k. Has-filter (λ (r : Record). same_names r.name p.name && is_of p.query_type r) z.records r0 k) (λ k. absurd k)
          (λ k. absurd (no_server_address z p.name r0 (subst (λ (xs : List Record). Has xs r0) flag k) ns)) in
          let apex : same_names z.apex c ≡ true = through z.apex r0.name c (turned r0.name z.apex (at_apex z r0 hz within_z ns)) named in
          glue_in z (positive z p (owned z p.name p.query_type)) c p.name hz apex names long
          (λ r k n at. Has-append_left (owned z p.name p.query_type ++ []) (if p.query_type.code == 2 then server_addresses z p.name else []) r (Has-append_left (owned z p.name p.query_type) [] r
          (filter_Has (λ (r : Record). same_names r.name p.name && is_of p.query_type r) z.records r k
          (both (same_names r.name p.name) (is_of p.query_type r) (through r.name c p.name (through r.name z.apex c at apex) (turned p.name c names))
          (ap (λ (t : RecordType). t.code == 255 || r.record_type.code == t.code) (types_same p (question c 2) same) ∙ ns_typed r n)))))
          (λ r k. Has-append_right (owned z p.name p.query_type ++ []) (if p.query_type.code == 2 then server_addresses z p.name else []) r (subst (λ (xs : List Record). Has xs r) (sym flag) k))

module _ (policy : Policy) (w : World) (log : Log) (ok : IsServed policy w) (by_world : TellsLog w log) where
  base_above : (c : DomainName) → c.fqdn ≡ true → 0 < length c.labels → is_above (base c) c ≡ true
  base_above c f long =
      let one : length c.labels - (length c.labels - 1) ≡ 1 = omega (arith, long) in
      subst (λ (k : ℕ). is_above (record { labels = drop k c.labels; fqdn = c.fqdn }) c ≡ true) one (last-above c (length c.labels - 1) f (omega arith))

  -- what counts of a delegation that was told has an address that may be asked
  pub no_glueless : (t0 : ℕ) (c : DomainName) (k : Message) → 0 < length c.labels → Glueless policy log t0 c k → ⊥
  no_glueless t0 c k long g = at_heard g.base.heard
    where
      counts : CountsOf policy g.base.told (question c 2) g.z k
      counts = verdict-pos policy g.base.told (question c 2) g.z k g.base.counts

      at_heard : Heard policy log g.i (question c 2) g.base.told g.base.moment g.z → ⊥
      at_heard (heard {teller = teller} t s above) =
          let told = was_told w log by_world t in
          let same = one_message g.base.told told.message counts.message told.is counts.told in
          let d : (r : Record) × Has (records k) r × ((is_ns r && same_names r.name c) ≡ true) = Has_any (λ (r : Record). is_ns r && same_names r.name c) (records k) g.delegates in
          let parts : (is_ns d.0 ≡ true) × (same_names d.0.name c ≡ true) = halves (is_ns d.0) (same_names d.0.name c) d.2 in
          let inside : Has (records told.message) d.0 = subst (λ (m : Message). Has (records m) d.0) (sym same) (Has-counted policy g.base.told (question c 2) g.z k d.0 counts d.1) in
          let x = told_glue policy w ok teller told.asked told.message c d.0 told.same long inside parts.0 parts.1 told.tells in
          let ip : (ip : IpAddr) × (address x.held ≡ Some ip) = address_of x.held x.an_address in
          let free : (access_denies policy.server_filter ip.0 ≡ false) × (access_denies policy.answer_filter ip.0 ≡ false) = ok.allowed x.held ip.0 x.of_world ip.1 in
          let kept : (r : Record) → Has (records told.message) r → holds_denied (access_denies policy.answer_filter) r ≡ false → is_above g.z r.name ≡ true → Has (records k) r =
          λ r h n a. subst (λ (m : Message). Has (records m) r) (sym (counts.kept ∙ ap (λ (m : Message). in_bailiwick g.z (without_denied (access_denies policy.answer_filter) m)) (sym same)))
          (only_Has (is_in_bailiwick g.z) (without_denied (access_denies policy.answer_filter) told.message) r (only_Has (λ (r : Record). not (holds_denied (access_denies policy.answer_filter) r)) told.message r h (ap not n)) a) in
          let ns = kept x.ns x.ns_in (ns_no_address (access_denies policy.answer_filter) x.ns (ns_is x.ns x.target x.is)) (is_above-same g.z x.ns.name c x.named ∙ above) in
          let at : holds_denied (access_denies policy.answer_filter) x.held ≡ false = ap (λ (o : Option IpAddr). elim o [ None ↦ false | Some i ↦ access_denies policy.answer_filter i ]) ip.1 ∙ free.1 in
          let held = kept x.held x.held_in at (is_above-trans g.z c x.held.name above x.below) in
          let qualified = second_so g.z.fqdn c.fqdn (first_so (g.z.fqdn && c.fqdn) _ above) in
          let up : is_above (base c) x.ns.name ≡ true = is_above-same (base c) x.ns.name c x.named ∙ base_above c qualified long in
          let target : Has (targets k c) x.target = filter_map-Has (target_below (base c)) (records k) x.ns x.target ns (ap (λ (b : Bool). if b then ns_target x.ns else None) up ∙ x.is) in
          let among = any_Has (same_names x.held.name) (targets k c) x.target target x.under in
          let glued : Has (glue k c) ip.0 = filter_map-Has (address_under (targets k c)) (records k) x.held ip.0 held (ap (λ (b : Bool). if b then address x.held else None) among ∙ ip.1) in
          let left : Has (allowed (access_denies policy.server_filter) (glue k c)) ip.0 = filter_Has (λ (i : IpAddr). not (access_denies policy.server_filter i)) (glue k c) ip.0 glued (ap not free.0) in
          subst (λ (xs : List IpAddr). Has xs ip.0) g.none left
