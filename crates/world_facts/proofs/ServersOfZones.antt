-- Who serves a zone, by what a well served world told, is a host that serves it.
use Rattle.std.proofs.Common.{◌≡◌, ℕ, Bool, true, false, cond, List, [], ◌++◌, length, Option, Some, None, inl, inr, refl, sym, ap, subst, ◌∙◌}
use Rattle.std.specs.Prelude.{Contains, not, ◌==◌, ◌&&◌, ◌||◌}
use Rattle.std.specs.List.{list_any, list_all, filter_map}
use Rattle.std.specs.Option.{is_some}
use Rattle.std.specs.declared.net.IpAddr.{IpAddr}
use Rattle.dns_core.specs.Name.{DomainName, same_names}
use Rattle.dns_core.specs.Classifying.{is_ns}
use Rattle.dns_core.specs.Log.{Log}
use Rattle.dns_core.specs.declared.message.Query.{Query}
use Rattle.dns_core.specs.declared.message.Message.{Message}
use Rattle.dns_core.specs.declared.record.Record.{Record}
use Rattle.dns_core.specs.declared.record.RData.{RData}
use Rattle.dns_core.specs.declared.record.RData.TheVariants.{A, AAAA, NS, CNAME, SOA, RRSIG, Opaque}
use Rattle.dns_core.specs.declared.log.ToldOutcome.{ToldOutcome}
use Rattle.dns_core.specs.declared.log.ToldOutcome.TheVariants as outcome
use Rattle.resolution.specs.Names.{root, is_root, is_above, base, question, same_query}
use Rattle.resolution.specs.Records.{records, address, ns_target, cname_target}
use Rattle.recursor_types.specs.declared.policy.Policy.{Policy}
use Rattle.resolution.specs.Telling.{Tells}
use Rattle.resolution.specs.Serving.{Serves, Delegates, Heard, IsAddressQuestion, target_below, targets, address_under, addresses_under}
use Rattle.resolution.specs.Serving.Serves.{of_root, of_glue, of_target, of_answer}
use Rattle.resolution.specs.Serving.Delegates.{delegates}
use Rattle.resolution.specs.Serving.Heard.{heard}
use Rattle.resolution.proofs.ElementsFiltered.{Has, Has-from_Contains, Contains-from_Has, Has-append_left, Has-filter_map, any_Has, Has_any}
use Rattle.resolution.proofs.NoAddressIsInvented.{verdict-pos, Has-counted, class_of-positive, of_address}
use Rattle.resolution.proofs.Caseless.{names_same}
use Rattle.zone_rules.specs.Tree.{serves}
use Rattle.zone_rules.specs.Choosing.{is_alias, alias_in}
use Rattle.zone_rules.specs.declared.world.Zone.{Zone}
use Rattle.zone_rules.specs.declared.world.World.{World}
use Rattle.zone_worlds.specs.Telling.{Tells as WorldTells}
use Rattle.zone_worlds.specs.Telling.Replies.{denies, by_alias, gives, lacks}
use Rattle.zone_worlds.specs.Telling.Tells.{refuses, refers, answers}
use Rattle.zone_worlds.proofs.ZonesFound.{alias_in_Has}
use Rattle.zone_worlds.proofs.FoundInLists.{find_passes}
use Rattle.world_layout.specs.Naming.{is_aliased, has_star, is_soundly_held, is_soundly_named}
use Rattle.world_check.specs.Serving.{is_served_by, is_served_at, is_served_as_named}
use Rattle.world_upstream.specs.Giving.{IsTold}
use Rattle.world_facts.specs.Told.{TellsLog}
use Rattle.world_facts.specs.Served.{IsHeld, IsServed, IsServerOf}
use Rattle.world_facts.proofs.ElementsThatPass.{halves, all_Has, through, turned, empty}
use Rattle.world_facts.proofs.ToldRecords.{IsFrom, told_from, is_held, owned_is, zone_asked_Has}

-- ---- what the clauses say of an NS record

pub ns_is : (r : Record) (t : DomainName) → ns_target r ≡ Some t → is_ns r ≡ true
ns_is r t e = at_data r.rdata e
  where
    at_data : (d : RData) → (elim d [ NS n ↦ Some n | _ ↦ None ]) ≡ Some t → (elim d [ NS n ↦ true | _ ↦ false ]) ≡ true
    at_data (NS n) e = refl
    at_data (A ip) e = cc
    at_data (AAAA ip) e = cc
    at_data (CNAME n) e = cc
    at_data (SOA n) e = cc
    at_data (RRSIG covered rest) e = cc
    at_data (Opaque bytes) e = cc

-- an NS record of a zone is that of its apex, and each address of its target serves the zone
pub served_as : (w : World) (z : Zone) (r : Record) (t : DomainName) → ns_target r ≡ Some t → is_served_as_named w z r ≡ true → (same_names r.name z.apex && is_served_at w z t) ≡ true
served_as w z r t e h = at_data r.rdata e h
  where
    at_data : (d : RData) → (elim d [ NS n ↦ Some n | _ ↦ None ]) ≡ Some t
        → (elim d [ NS n ↦ same_names r.name z.apex && is_served_at w z n | _ ↦ true ]) ≡ true → (same_names r.name z.apex && is_served_at w z t) ≡ true
    at_data (NS n) e h = let same : n ≡ t = cc in ap (λ x. same_names r.name z.apex && is_served_at w z x) (sym same) ∙ h
    at_data (A ip) e h = cc
    at_data (AAAA ip) e h = cc
    at_data (CNAME n) e h = cc
    at_data (SOA n) e h = cc
    at_data (RRSIG covered rest) e h = cc
    at_data (Opaque bytes) e h = cc

unaliased : (w : World) (r : Record) (t : DomainName) → ns_target r ≡ Some t → is_soundly_held w r.name r.rdata ≡ true → not (is_aliased w t) ≡ true
unaliased w r t e h = at_data r.rdata e h
  where
    at_data : (d : RData) → (elim d [ NS n ↦ Some n | _ ↦ None ]) ≡ Some t → is_soundly_held w r.name d ≡ true → not (is_aliased w t) ≡ true
    at_data (NS n) e h = let same : n ≡ t = cc in ap (λ x. not (is_aliased w x)) (sym same) ∙ (halves (not (is_aliased w n)) _ h).0
    at_data (A ip) e h = cc
    at_data (AAAA ip) e h = cc
    at_data (CNAME n) e h = cc
    at_data (SOA n) e h = cc
    at_data (RRSIG covered rest) e h = cc
    at_data (Opaque bytes) e h = cc

address_serves : (o : Option IpAddr) (ip : IpAddr) (b : Bool) (s : IpAddr → Bool) → o ≡ Some ip → b ≡ true → (elim o [ None ↦ true | Some i ↦ not b || s i ]) ≡ true → s ip ≡ true
address_serves None ip b s e f h = cc
address_serves (Some i) ip true s e f h = let same : i ≡ ip = cc in ap s (sym same) ∙ h
address_serves (Some i) ip false s e f h = cc

module _ (policy : Policy) (w : World) (ok : IsServed policy w) where
  -- the zone of an NS record, which all addresses of its target serve
  record HasServers (r : Record) (t : DomainName) : Type 0 where
    pub zone : Zone
    pub has : Has w.zones zone
    pub apex : same_names r.name zone.apex ≡ true
    pub each : (a : Record) (ip : IpAddr) → IsHeld w a → address a ≡ Some ip → same_names a.name t ≡ true → serves w ip zone.apex.labels ≡ true

  ns_serves : (r : Record) (t : DomainName) → IsHeld w r → ns_target r ≡ Some t → HasServers r t
  ns_serves r t held e =
      let z = held.zone in
      let has = Has-from_Contains w.zones z held.has in
      let named = all_Has (is_served_as_named w z) z.records r
      (all_Has (λ (y : Zone). list_all (is_served_as_named w y) y.records) w.zones z ok.served has) (Has-from_Contains z.records r held.within) in
      let both : (same_names r.name z.apex ≡ true) × (is_served_at w z t ≡ true) = halves (same_names r.name z.apex) (is_served_at w z t) (served_as w z r t e named) in
      record {
        zone = z;
        has = has;
        apex = both.0;
        each = λ a ip h at same.
            let holder = Has-from_Contains w.zones h.zone h.has in
            address_serves (address a) ip (same_names a.name t) (λ i. serves w i z.apex.labels) at same
            (all_Has (is_served_by w z t) h.zone.records a
            (all_Has (λ (y : Zone). list_all (is_served_by w z t) y.records) w.zones h.zone both.1 holder) (Has-from_Contains h.zone.records a h.within));
      }

  ns_unaliased : (r : Record) (t : DomainName) → IsHeld w r → ns_target r ≡ Some t → not (is_aliased w t) ≡ true
  ns_unaliased r t held e =
      let z = held.zone in
      let of_zone = all_Has (λ (y : Zone). not (has_star y.apex) && list_all (is_soundly_named w) y.records) w.zones z ok.named (Has-from_Contains w.zones z held.has) in
      let named = all_Has (is_soundly_named w) z.records r (halves (not (has_star z.apex)) (list_all (is_soundly_named w) z.records) of_zone).1 (Has-from_Contains z.records r held.within) in
      unaliased w r t e (halves (not (has_star r.name)) (is_soundly_held w r.name r.rdata) named).1

-- ---- what was told

-- It was told as a message, which the world tells at the address that was asked.
pub record WasTold (w : World) (teller : IpAddr) (q : Query) (o : ToldOutcome) : Type 0 where
  pub message : Message
  pub is : o ≡ outcome.Message message
  pub asked : Query
  pub same : same_query asked q ≡ true
  pub tells : WorldTells w teller asked message

pub message_of : (w : World) (ip : IpAddr) (q : Query) (o : ToldOutcome) → IsTold w ip q o → (m : Message) × (o ≡ outcome.Message m) × WorldTells w ip q m
message_of w ip q outcome.Connected t = absurd t
message_of w ip q (outcome.Message m) t = (m, refl, t)
message_of w ip q (outcome.Error e) t = absurd t

pub was_told : (w : World) (log : Log) → TellsLog w log → {i : ℕ} {q : Query} {o : ToldOutcome} {ask : ℕ} {teller : IpAddr} {moment : ℕ} → Tells log i q o ask teller moment → WasTold w teller q o
was_told w log by {i} {q} {o} {ask} {teller} {moment} t =
    let m : (m : Message) × (o ≡ outcome.Message m) × WorldTells w teller t.asked m = message_of w teller t.asked o (by.told i ask moment t.asked_at o teller t.protocol t.asked t.told t.question) in
    record { message = m.0; is = m.1; asked = t.asked; same = t.same; tells = m.2 }

-- some address told it
pub record WasHeard (w : World) (q : Query) (o : ToldOutcome) : Type 0 where
  pub teller : IpAddr
  pub told : WasTold w teller q o

pub heard_told : (policy : Policy) (w : World) (log : Log) → TellsLog w log → {i : ℕ} {q : Query} {o : ToldOutcome} {moment : ℕ} {z : DomainName} → Heard policy log i q o moment z → WasHeard w q o
heard_told policy w log by (heard {teller = teller} t s a) = record { teller = teller; told = was_told w log by t }

pub one_message : (o : ToldOutcome) (m n : Message) → o ≡ outcome.Message m → o ≡ outcome.Message n → m ≡ n
one_message o m n e f = let both : outcome.Message m ≡ outcome.Message n = sym e ∙ f in cc

-- ---- delegations

module _ (policy : Policy) (w : World) (log : Log) (ok : IsServed policy w) (by : TellsLog w log) where
  -- What counts of a delegation are records of the world, and its NS records are those of the zone.
  pub record IsDelegated (c : DomainName) (k : Message) : Type 0 where
    pub held : (r : Record) → Has (records k) r → IsHeld w r
    pub owner : (r : Record) → Has (records k) r → is_ns r ≡ true → same_names r.name c ≡ true

  pub is_delegated : {n : ℕ} {c : DomainName} {k : Message} → Delegates policy log n c k → IsDelegated c k
  is_delegated (delegates {c = c} {z = z} {k = k} {o = o} low h v d r) =
      let hears = heard_told policy w log by h in
      let t = hears.told in
      let counts = verdict-pos policy o (question c 2) z k v in
      let same = one_message o counts.message t.message counts.told t.is in
      let within : (r : Record) → Has (records k) r → Has (records t.message) r = λ r a. subst (λ (m : Message). Has (records m) r) same (Has-counted policy o (question c 2) z k r counts a) in
      let cut : (x : Record) × Has (records k) x × ((is_ns x && same_names x.name c) ≡ true) = Has_any (λ (r : Record). is_ns r && same_names r.name c) (records k) d in
      let from : (r : Record) → Has (records k) r → IsFrom w t.message = λ r a. told_from w hears.teller t.asked t.message r t.tells (within r a) in
      let f = from cut.0 cut.1 in
      let named : (is_ns cut.0 ≡ true) × (same_names cut.0.name c ≡ true) = halves (is_ns cut.0) (same_names cut.0.name c) cut.2 in
      let owner = (f.each cut.0 (within cut.0 cut.1)).owner_of named.0 in
      record {
        held = λ r a. is_held w t.message r f (within r a);
        owner = λ r a ns. through r.name f.owner c ((f.each r (within r a)).owner_of ns) (through f.owner cut.0.name c (turned cut.0.name f.owner owner) named.1);
      }

  -- an address of a target serves the zone
  by_target : (c : DomainName) (k : Message) → IsDelegated c k → (t : DomainName) → Has (targets k c) t → (a : Record) (ip : IpAddr) → IsHeld w a → address a ≡ Some ip → same_names a.name t ≡ true → IsServerOf w ip c
  by_target c k d t h a ip held at same =
      let found : (r : Record) × Has (records k) r × (target_below (base c) r ≡ Some t) = Has-filter_map (target_below (base c)) (records k) t h in
      let r = found.0 in
      let target = below (is_above (base c) r.name) r found.2 in
      let servers = ns_serves policy w ok r t (d.held r found.1) target in
      let owner = d.owner r found.1 (ns_is r t target) in
      record {
        zone = servers.zone;
        has = Contains-from_Has w.zones servers.zone servers.has;
        apex = through servers.zone.apex r.name c (turned r.name servers.zone.apex servers.apex) owner;
        by = servers.each a ip held at same;
      }
    where
      below : (b : Bool) (r : Record) → cond b (ns_target r) None ≡ Some t → ns_target r ≡ Some t
      below true r e = e
      below false r e = cc

  -- an address that stands under the name of a target serves it too
  by_address : (c : DomainName) (k : Message) → IsDelegated c k → (rs : List Record) → ((r : Record) → Has rs r → IsHeld w r) → (ip : IpAddr) → Contains (addresses_under (targets k c) rs) ip → IsServerOf w ip c
  by_address c k d rs held ip h =
      let found : (a : Record) × Has rs a × (address_under (targets k c) a ≡ Some ip) = Has-filter_map (address_under (targets k c)) rs ip (Has-from_Contains (addresses_under (targets k c) rs) ip h) in
      let a = found.0 in
      let among = under (list_any (same_names a.name) (targets k c)) a found.2 in
      let target : (t : DomainName) × Has (targets k c) t × (same_names a.name t ≡ true) = Has_any (same_names a.name) (targets k c) among in
      by_target c k d target.0 target.1 a ip (held a found.1) (of_address (targets k c) a ip found.2) target.2
    where
      under : (b : Bool) (a : Record) → cond b (address a) None ≡ Some ip → b ≡ true
      under true a e = refl
      under false a e = cc

  -- The addresses of an answer to a question for a target stand under its name, since a target is no alias.
  answer_owner : (ip : IpAddr) (q : Query) (m : Message) (t : DomainName) → not (is_aliased w t) ≡ true → same_names q.name t ≡ true → WorldTells w ip q m → (a : Record) → Has m.answers a → same_names a.name t ≡ true
  answer_owner ip q m t alone same (refuses e) a h = elim h [ ]
  answer_owner ip q m t alone same (refers e f) a h = elim h [ ]
  answer_owner ip q m t alone same (answers {z = z} e f (denies x)) a h = elim h [ ]
  answer_owner ip q m t alone same (answers {z = z} e f (lacks x y o)) a h = elim h [ ]
  answer_owner ip q m t alone same (answers {z = z} e f (gives x y o)) a h = through a.name q.name t (owned_is z q.name q a h) same
  answer_owner ip q m t alone same (answers {z = z} e f (by_alias {c = c} x y b)) a h = absurd (is_alone (q.query_type.code == 5 || q.query_type.code == 255) y)
    where
      clash : (b : Bool) → not b ≡ true → b ≡ true → ⊥
      clash true p q = cc
      clash false p q = cc

      is_alone : (b : Bool) → cond b None (alias_in z q.name) ≡ Some c → ⊥
      is_alone true e = cc
      is_alone false g =
          let passes : (is_some (cname_target c) ≡ true) × (same_names c.name q.name ≡ true) = halves (is_some (cname_target c)) (same_names c.name q.name) (find_passes (is_alias q.name) z.records c g) in
          let target = both (is_some (cname_target c)) (same_names c.name t) passes.0 (through c.name q.name t passes.1 same) in
          clash (is_aliased w t) alone
          (any_Has (λ (y : Zone). list_any (is_alias t) y.records) w.zones z (zone_asked_Has w ip q z e) (any_Has (is_alias t) z.records c (alias_in_Has z q.name c g) target))
        where
          both : (a b : Bool) → a ≡ true → b ≡ true → (a && b) ≡ true
          both true b p q = q
          both false b p q = p

  -- the root is served by its hosts
  by_root : (ip : IpAddr) → Contains policy.roots ip → IsServerOf w ip root
  by_root ip h =
      let parts : (list_any (λ (z : Zone). is_root z.apex) w.zones ≡ true) × (list_all (λ (i : IpAddr). serves w i []) policy.roots ≡ true)
      = halves (list_any (λ (z : Zone). is_root z.apex) w.zones) (list_all (λ (i : IpAddr). serves w i []) policy.roots) ok.root in
      let z : (z : Zone) × Has w.zones z × (is_root z.apex ≡ true) = Has_any (λ (z : Zone). is_root z.apex) w.zones parts.0 in
      let is : z.0.apex ≡ root = named z.0.apex z.2 in
      record {
        zone = z.0;
        has = Contains-from_Has w.zones z.0 z.1;
        apex = ap (λ (n : DomainName). same_names n root) is;
        by = ap (λ (n : DomainName). serves w ip n.labels) is ∙ all_Has (λ (i : IpAddr). serves w i []) policy.roots ip parts.1 (Has-from_Contains policy.roots ip h);
      }
    where
      named : (n : DomainName) → is_root n ≡ true → n ≡ root
      named n e =
          let flags : (n.fqdn ≡ true) × ((length n.labels == 0) ≡ true) = halves n.fqdn (length n.labels == 0) e in
          let none : n.labels ≡ [] = empty n.labels flags.1 in
          ap (λ (ls : List (List ℕ)). let x : DomainName = record { labels = ls; fqdn = n.fqdn } in x) none ∙ ap (λ (b : Bool). let x : DomainName = record { labels = []; fqdn = b } in x) flags.0

  pub serves-world : {n : ℕ} {ip : IpAddr} {z : DomainName} → Serves policy log n ip z → IsServerOf w ip z
  serves-world (of_root r) = by_root _ r
  serves-world {ip = ip} (of_glue {c = c} {k = k} d a h) = let x = is_delegated d in by_address c k x (records k) (λ r y. x.held r y) ip h
  serves-world {ip = ip} (of_target {c = c} {z = z} {k = k} {answer = answer} {q = q} {o = o} d a t e low h v x) =
      let hears = heard_told policy w log by h in
      let told = hears.told in
      let counts = verdict-pos policy o q z answer v in
      let same = one_message o counts.message told.message counts.told told.is in
      by_address c k (is_delegated d) (records answer)
      (λ r y. let within = subst (λ (m : Message). Has (records m) r) same (Has-counted policy o q z answer r counts y) in
      is_held w told.message r (told_from w hears.teller told.asked told.message r told.tells within) within) ip x
  serves-world {ip = ip} (of_answer {c = c} {t = t} {k = k} {m = m} {q = q} {o = o} d a target e low h p v x f) =
      let hears = heard_told policy w log by h in
      let told = hears.told in
      let same = one_message o told.message m told.is (class_of-positive o q m p) in
      let found : (r : Record) × Has m.answers r × (address r ≡ Some ip) = Has-filter_map address m.answers ip (Has-from_Contains (filter_map address m.answers) ip x) in
      let inside : Has told.message.answers found.0 = subst (λ (n : Message). Has n.answers found.0) (sym same) found.1 in
      let within : Has (records told.message) found.0 = Has-append_left (told.message.answers ++ told.message.authorities) told.message.additionals found.0 (Has-append_left told.message.answers told.message.authorities found.0 inside) in
      let held = is_held w told.message found.0 (told_from w hears.teller told.asked told.message found.0 told.tells within) within in
      let dd = is_delegated d in
      let has : Has (targets k c) t = Has-from_Contains (targets k c) t target in
      let ns : (r : Record) × Has (records k) r × (target_below (base c) r ≡ Some t) = Has-filter_map (target_below (base c)) (records k) t has in
      let single = ns_unaliased policy w ok ns.0 t (dd.held ns.0 ns.1) (below (is_above (base c) ns.0.name) ns.0 ns.2) in
      let asked : same_names told.asked.name t ≡ true = for_target q t told.asked e told.same in
      by_target c k dd t has found.0 ip held found.2 (answer_owner hears.teller told.asked told.message t single asked told.tells found.0 inside)
    where
      below : (b : Bool) (r : Record) → cond b (ns_target r) None ≡ Some t → ns_target r ≡ Some t
      below true r e = e
      below false r e = cc

      for_target : (q : Query) (t : DomainName) (asked : Query) → IsAddressQuestion t q → same_query asked q ≡ true → same_names asked.name t ≡ true
      for_target q t asked (inl e) same = subst (λ (x : Query). same_names asked.name x.name ≡ true) e (names_same asked q same)
      for_target q t asked (inr e) same = subst (λ (x : Query). same_names asked.name x.name ≡ true) e (names_same asked q same)
