-- Nothing of what a well served world tells is left out.
use Rattle.std.proofs.Common.{◌≡◌, ℕ, ◌+◌, ◌-◌, ◌≤◌, Bool, true, false, cond, List, [], ◌∷◌, ◌++◌, length, drop, Option, Some, None, inl, inr, refl, sym, ap, subst, ◌∙◌, arith}
use Rattle.std.specs.Prelude.{◌==◌, ◌&&◌, ◌||◌, not, filter, if◌then◌else◌}
use Rattle.std.specs.List.{list_all}
use Rattle.std.specs.Cmp.{first_so, second_so}
use Rattle.std.specs.declared.net.IpAddr.{IpAddr}
use Rattle.dns_core.specs.Name.{DomainName, same_names}
use Rattle.dns_core.specs.Log.{Log}
use Rattle.dns_core.specs.Classifying.{no_records}
use Rattle.dns_core.specs.declared.message.Query.{Query}
use Rattle.dns_core.specs.declared.message.Message.{Message}
use Rattle.dns_core.specs.declared.record.Record.{Record}
use Rattle.dns_core.specs.declared.log.ToldOutcome.{ToldOutcome}
use Rattle.dns_core.specs.declared.log.ToldOutcome.TheVariants as outcome
use Rattle.resolution.specs.Names.{root, is_above, walk}
use Rattle.resolution.specs.Records.{address, records, only}
use Rattle.resolver_settings.specs.Access.{denies as access_denies}
use Rattle.recursor_types.specs.declared.policy.Policy.{Policy}
use Rattle.resolution.specs.Verdict.{holds_denied, without_denied, is_in_bailiwick, in_bailiwick, is_emptied, scrub_negative, verdict, verdict_of_told, verdict_of_message}
use Rattle.resolution.specs.Serving.{Heard}
use Rattle.resolution.specs.Serving.Heard.{heard}
use Rattle.resolution.specs.declared.class.Class.{Class}
use Rattle.resolution.specs.declared.verdict.Verdict.{Verdict}
use Rattle.resolution.specs.declared.verdict.Verdict.TheVariants.{Pos, Neg, Made}
use Rattle.resolution.specs.declared.verdict.Cause.TheVariants.{Filter, Zone as OutsideZone}
use Rattle.resolution.proofs.AboveIsAnOrder.{is_above-trans}
use Rattle.resolution.proofs.WayDown.{above-last}
use Rattle.resolution.proofs.Caseless.{is_above-same, walk-same}
use Rattle.std.proofs.lemmas.List.{length-drop}
use Rattle.std.proofs.lemmas.Option.{same_Some}
use Rattle.resolution.proofs.ElementsFiltered.{Has, Has-append_left, Has-append_right, Has-filter}
use Rattle.zone_rules.specs.Tree.{qualified}
use Rattle.zone_rules.specs.Choosing.{is_of, owned, soa_of, servers, server_addresses}
use Rattle.zone_rules.specs.declared.world.Zone.{Zone}
use Rattle.zone_rules.specs.declared.world.World.{World}
use Rattle.zone_worlds.specs.Telling.{zone_asked, child_of, Replies, Tells}
use Rattle.zone_worlds.specs.Telling.IsByAlias.{is_by_alias}
use Rattle.zone_worlds.specs.Telling.Replies.{denies, by_alias, gives, lacks}
use Rattle.zone_worlds.specs.Telling.Tells.{refuses, refers, answers}
use Rattle.world_layout.specs.Layout.{is_left_by, is_in_place, has_authority}
use Rattle.world_facts.specs.Told.{TellsLog}
use Rattle.world_facts.specs.Served.{IsHeld, IsServed, IsServerOf}
use Rattle.world_facts.specs.Counting.{CountsWhole}
use Rattle.world_facts.specs.Counting.CountsWhole.{as_answer, as_denial}
use Rattle.world_facts.proofs.ElementsThatPass.{halves, all_Has, in_parts}
use Rattle.world_facts.proofs.ToldRecords.{told_from, is_held, child_Has, zone_asked_Has, soa_is, servers_of, addresses_of}
use Rattle.world_facts.proofs.ServersOfZones.{was_told, serves-world}
use Rattle.world_facts.proofs.ZonesAsked.{IsAsked, asks, asked_labels, one_asked, cut_is, apex_is}
use Rattle.world_facts.proofs.AnswersAndDenials.{IsResponse, is_response, told_whole}
use Rattle.world_facts.proofs.AnswersAndDenials.IsResponse.{positive, negative}
use Rattle.world_facts.proofs.GlueTold.{alias_within}

filter_all : (p : Record → Bool) (xs : List Record) → ((r : Record) → Has xs r → p r ≡ true) → filter p xs ≡ xs
filter_all p [] each = refl
filter_all p (x ∷ xs) each = ap (λ (b : Bool). cond b (x ∷ filter p xs) (filter p xs)) (each x (inl refl)) ∙ ap (λ (ys : List Record). x ∷ ys) (filter_all p xs (λ r h. each r (inr h)))

-- a message of which all passes is left whole
only_all : (p : Record → Bool) (m : Message) → ((r : Record) → Has (records m) r → p r ≡ true) → only p m ≡ m
only_all p m each i =
    record m {
      answers = filter_all p m.answers (λ r h. each r (Has-append_left (m.answers ++ m.authorities) m.additionals r (Has-append_left m.answers m.authorities r h))) i;
      authorities = filter_all p m.authorities (λ r h. each r (Has-append_left (m.answers ++ m.authorities) m.additionals r (Has-append_right m.answers m.authorities r h))) i;
      additionals = filter_all p m.additionals (λ r h. each r (Has-append_right (m.answers ++ m.authorities) m.additionals r h)) i;
    }

unemptied : (m : Message) → is_emptied m m ≡ false
unemptied m = at_flags (length m.answers == 0) (length m.authorities == 0)
  where
    at_flags : (a b : Bool) → ((not a && a) || (a && not b && b)) ≡ false
    at_flags true true = refl
    at_flags true false = refl
    at_flags false b = refl

module _ (policy : Policy) (w : World) (log : Log) (ok : IsServed policy w) (by_world : TellsLog w log) where
  -- a record lies in its zone
  pub in_its_zone : (y : Zone) (r : Record) → Has w.zones y → Has y.records r → is_above y.apex r.name ≡ true
  in_its_zone y r hy hr =
      let laid = all_Has (λ (z : Zone). list_all (is_in_place w z) z.records && has_authority z) w.zones y ok.laid_out hy in
      let place = all_Has (is_in_place w y) y.records r (halves (list_all (is_in_place w y) y.records) (has_authority y) laid).0 hr in
      first_so (is_above y.apex r.name) (list_all (is_left_by y r) w.zones) (first_so (is_above y.apex r.name && list_all (is_left_by y r) w.zones) _ place)

  replies_within : (z : Zone) (q : Query) (m : Message) (r : Record) → Replies w z q m → Has (records m) r → Has z.records r
  replies_within z q m r (denies e) h = in_parts (Has z.records r) [] (soa_of z) [] r h (λ k. absurd k) (λ k. (soa_is z root r k).within) (λ k. absurd k)
  replies_within z q m r (lacks e a o) h = in_parts (Has z.records r) [] (soa_of z) [] r h (λ k. absurd k) (λ k. (soa_is z root r k).within) (λ k. absurd k)
  replies_within z q m r (by_alias e a (is_by_alias {rs = rs} b)) h = in_parts (Has z.records r) rs [] [] r h (λ k. alias_within policy w ok z q w.chain rs r b k) (λ k. absurd k) (λ k. absurd k)
  replies_within z q m r (gives e a o) h = in_parts (Has z.records r) (owned z q.name q.query_type) [] (if q.query_type.code == 2 then server_addresses z q.name else []) r h
      (λ k. Has-filter (λ (r : Record). same_names r.name q.name && is_of q.query_type r) z.records r k) (λ k. absurd k) (λ k. beside (q.query_type.code == 2) k)
    where
      beside : (b : Bool) → Has (cond b (server_addresses z q.name) []) r → Has z.records r
      beside true k = (addresses_of z root q.name r k).within
      beside false k = elim k [ ]

  -- a name with these labels of a walked name lies below each zone above it that has no more
  above_dropped : (z n : DomainName) (d : ℕ) (a : DomainName) → is_above z n ≡ true → d + length z.labels ≤ length n.labels → same_names a (qualified (drop d n.labels)) ≡ true → is_above z a ≡ true
  above_dropped z n d a above low same =
      let back : length n.labels - (length n.labels - d) ≡ d = omega (arith, low) in
      let flag = second_so z.fqdn n.fqdn (first_so (z.fqdn && n.fqdn) _ above) in
      let last = above-last z n (length n.labels - d) above (omega (arith, low)) (omega arith) in
      let at = subst (λ (k : ℕ). is_above z (record { labels = drop k n.labels; fqdn = n.fqdn }) ≡ true) back last in
      is_above-same z a (qualified (drop d n.labels)) same ∙ subst (λ (f : Bool). is_above z (record { labels = drop d n.labels; fqdn = f }) ≡ true) flag at

  -- what a server of a zone tells lies in the zone
  told_below : (ip : IpAddr) (p : Query) (m : Message) (z : DomainName) (r : Record) → IsServerOf w ip z → is_above z (walk p) ≡ true → Tells w ip p m → Has (records m) r → is_above z r.name ≡ true
  told_below ip p m z r server above t h = by t h
    where
      asked : IsAsked w ip p z
      asked = asks w ip p z server above

      at_zone : is_above z asked.zone.apex ≡ true
      at_zone = let low = asked.low in above_dropped z (walk p) asked.dropped asked.zone.apex above low asked.apex

      child_below : (z0 child : Zone) → zone_asked w ip p ≡ Some z0 → child_of w z0 p ≡ Some child → is_above z child.apex ≡ true
      child_below z0 child e f =
          let at = one_asked w ip p z0 asked.zone e asked.is in
          let cut = cut_is w.zones (length asked.zone.apex.labels) (walk p).labels child (subst (λ (x : Zone). child_of w x p ≡ Some child) at f) in
          let below = cut.below in
          let left = length-drop cut.dropped (walk p).labels in
          let within = cut.within in
          let low = asked.low in
          let asked_long = asked_labels w ip p z asked in
          above_dropped z (walk p) cut.dropped child.apex above (omega (arith, below, left, within, low, asked_long)) (apex_is w.zones (drop cut.dropped (walk p).labels) child cut.at)

      by : {m : Message} → Tells w ip p m → Has (records m) r → is_above z r.name ≡ true
      by (refuses e) h = elim h [ ]
      by (refers {z = z0} {child = child} e f) h =
          let own : Has child.records r = in_parts (Has child.records r) [] (servers child child.apex) (server_addresses child child.apex) r h (λ k. absurd k)
          (λ k. (servers_of child child.apex r k).within) (λ k. (addresses_of child root child.apex r k).within) in
          is_above-trans z child.apex r.name (child_below z0 child e f) (in_its_zone child r (child_Has w z0 p child f) own)
      by (answers {z = z0} {m = n} e f reply) h =
          is_above-trans z z0.apex r.name (subst (λ (x : Zone). is_above z x.apex ≡ true) (sym (one_asked w ip p z0 asked.zone e asked.is)) at_zone) (in_its_zone z0 r (zone_asked_Has w ip p z0 e) (replies_within z0 p n r reply h))

  undenied : (r : Record) → IsHeld w r → not (holds_denied (access_denies policy.answer_filter) r) ≡ true
  undenied r held = at_address (address r) refl
    where
      at_address : (o : Option IpAddr) → address r ≡ o → not (elim o [ None ↦ false | Some ip ↦ access_denies policy.answer_filter ip ]) ≡ true
      at_address None e = refl
      at_address (Some ip) e = let free : (access_denies policy.server_filter ip ≡ false) × (access_denies policy.answer_filter ip ≡ false) = ok.allowed r ip held e in ap not free.1

  whole_verdict : (m : Message) (z : DomainName) → without_denied (access_denies policy.answer_filter) m ≡ m → in_bailiwick z m ≡ m → verdict_of_message (access_denies policy.answer_filter) m z ≡ Pos m
  whole_verdict m z a b =
      ap (λ (x : Message). if is_emptied m x then Made Filter else (if is_emptied x (in_bailiwick z x) then Made OutsideZone else Pos (in_bailiwick z x))) a
      ∙ ap (λ (x : Message). if is_emptied m m then Made Filter else (if is_emptied m x then Made OutsideZone else Pos x)) b
      ∙ ap (λ (f : Bool). if f then Made Filter else (if f then Made OutsideZone else Pos m)) (unemptied m)

  pub counts : (q : Query) (o : ToldOutcome) (z : DomainName) (v : Verdict) → q.query_class.code ≡ 1 → {i moment : ℕ} → Heard policy log i q o moment z → verdict policy o q z ≡ Some v → CountsWhole q z o v
  counts q o z v in_class (heard {teller = teller} t s above) e =
      let told = was_told w log by_world t in
      let server = serves-world policy w log ok by_world s in
      let there = walk-same told.asked q told.same z ∙ above in
      let asked = asks w teller told.asked z server there in
      let held : (r : Record) → Has (records told.message) r → IsHeld w r = λ r h. is_held w told.message r (told_from w teller told.asked told.message r told.tells h) h in
      let response = is_response told.message q (told_whole w teller told.asked told.message asked.zone asked.is told.tells) (λ r h. ok.internet r (held r h) ∙ sym in_class) in
      let all_allowed = only_all (λ (r : Record). not (holds_denied (access_denies policy.answer_filter) r)) told.message (λ r h. undenied r (held r h)) in
      let all_inside = only_all (is_in_bailiwick z) told.message (λ r h. told_below teller told.asked told.message z r server there told.tells h) in
      by_response told.message told.is all_allowed all_inside response
    where
      by_response : (m : Message) → o ≡ outcome.Message m → without_denied (access_denies policy.answer_filter) m ≡ m → in_bailiwick z m ≡ m → IsResponse m q → CountsWhole q z o v
      by_response m is a b (positive n k) = as_answer is n (same_Some v (Pos m) (sym e ∙ ap (λ (x : ToldOutcome). verdict policy x q z) is ∙ ap (λ (c : Class). verdict_of_told (access_denies policy.answer_filter) (Some c) z) k ∙ ap (λ (x : Verdict). Some x) (whole_verdict m z a b)))
      by_response m is a b (negative n k) = as_denial is n (same_Some v (Neg (scrub_negative z (no_records m))) (sym e ∙ ap (λ (x : ToldOutcome). verdict policy x q z) is ∙ ap (λ (c : Class). verdict_of_told (access_denies policy.answer_filter) (Some c) z) k))
