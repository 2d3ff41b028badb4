-- A denial that counts, and that names no other servers, is the world's.
use Rattle.std.proofs.Common.{◌≡◌, ℕ, Bool, true, false, cond, List, ◌∷◌, ◌++◌, length, Some, None, inl, refl, sym, ap, subst, ◌∙◌}
use Rattle.std.specs.Prelude.{◌==◌, ◌&&◌, ◌||◌, not, filter, if◌then◌else◌}
use Rattle.std.specs.List.{list_any}
use Rattle.std.specs.Cmp.{first_so}
use Rattle.std.specs.declared.net.IpAddr.{IpAddr}
use Rattle.dns_core.specs.Name.{DomainName, same_names}
use Rattle.dns_core.specs.Log.{Log}
use Rattle.dns_core.specs.Classifying.{is_ns, is_asked, delegations, no_records}
use Rattle.dns_core.specs.declared.codes.RecordType.{RecordType}
use Rattle.dns_core.specs.declared.message.Query.{Query}
use Rattle.dns_core.specs.declared.message.Message.{Message}
use Rattle.dns_core.specs.declared.record.Record.{Record}
use Rattle.dns_core.specs.declared.net_error.NoRecords.{NoRecords}
use Rattle.dns_core.specs.declared.log.ToldOutcome.{ToldOutcome}
use Rattle.resolution.specs.Names.{is_above, walk, same_query}
use Rattle.recursor_types.specs.declared.policy.Policy.{Policy}
use Rattle.resolution.specs.Verdict.{scrub_negative, verdict}
use Rattle.resolution.specs.Serving.{Heard}
use Rattle.resolution.specs.Serving.Heard.{heard}
use Rattle.resolution.specs.declared.verdict.Verdict.TheVariants.{Neg}
use Rattle.resolution.proofs.Caseless.{both, is_above-same, types_same, walk-same}
use Rattle.resolution.proofs.ElementsFiltered.{Has}
use Rattle.zone_rules.specs.Tree.{zone_of}
use Rattle.zone_rules.specs.Choosing.{owned, alias_in, servers, server_addresses}
use Rattle.zone_rules.specs.declared.world.Zone.{Zone}
use Rattle.zone_rules.specs.declared.world.World.{World}
use Rattle.zone_worlds.specs.Telling.{child_of, AnswersByAlias, Replies, Tells}
use Rattle.zone_worlds.specs.Telling.Follows.{ends, leads}
use Rattle.zone_worlds.specs.Telling.AnswersByAlias.{alone, chained}
use Rattle.zone_worlds.specs.Telling.IsByAlias.{is_by_alias}
use Rattle.zone_worlds.specs.Telling.Replies.{denies, by_alias, gives, lacks}
use Rattle.zone_worlds.specs.Telling.Tells.{refuses, refers, answers}
use Rattle.zone_worlds.proofs.ZonesFound.{alias_in_Has, alias_in_owner}
use Rattle.world_facts.specs.Told.{TellsLog}
use Rattle.world_facts.specs.Served.{IsServed, IsServerOf}
use Rattle.world_facts.specs.Counting.{CountsWhole}
use Rattle.world_facts.specs.Counting.CountsWhole.{as_answer, as_denial}
use Rattle.world_facts.specs.Denials.{DeniesAsWorld}
use Rattle.world_facts.specs.Denials.DeniesAsWorld.{of_name, of_type}
use Rattle.world_facts.proofs.ElementsThatPass.{clash, empty, filter_Has, some_left}
use Rattle.world_facts.proofs.ToldRecords.{child_Has, zone_asked_Has}
use Rattle.world_facts.proofs.ServersOfZones.{WasTold, was_told, one_message, serves-world}
use Rattle.world_facts.proofs.ZonesAsked.{IsAsked, asks, one_asked}
use Rattle.world_facts.proofs.CutsShown.{has_ns}
use Rattle.world_facts.proofs.DeepestZone.{deepest}
use Rattle.world_facts.proofs.WorldAnswers.{alias_is}
use Rattle.world_facts.proofs.WholeCounts.{in_its_zone, counts}
use Rattle.world_facts.proofs.AnyCase.{zone_of-same, exists_in-same, owned-same, alias_for-same}

-- a denial is the world's of the question in any case
in_any_case : (w : World) (p q : Query) (n : NoRecords) → same_query p q ≡ true → DeniesAsWorld w p n → DeniesAsWorld w q n
in_any_case w p q n e (of_name c x) = of_name c (sym (exists_in-same p q e w) ∙ x)
in_any_case w p q n e (of_type {zone = z} c x a d o) =
    of_type c (sym (exists_in-same p q e w) ∙ x) (sym (alias_for-same p q e w) ∙ a) (sym (zone_of-same p q e w) ∙ d) (sym (owned-same p q e z) ∙ o)

module _ (policy : Policy) (w : World) (log : Log) (ok : IsServed policy w) (by_world : TellsLog w log) where
  -- an answer by an alias is not empty
  by_alias_some : (z : Zone) (q : Query) (chain : Bool) (rs : List Record) (c : Record) → Has w.zones z → alias_in z q.name ≡ Some c → AnswersByAlias z q chain rs → (length rs == 0) ≡ true → ⊥
  by_alias_some z q chain rs c h e (alone f g) none = cc
  by_alias_some z q chain rs c h e (chained {last = last} f (leads {c = d} {cs = ds} g t more)) none =
      clash (length (d ∷ (ds ++ owned z last q.query_type)) == 0) none (some_left (d ∷ (ds ++ owned z last q.query_type)) d (inl refl))
  by_alias_some z q chain rs c h e (chained f (ends last)) none =
      let inside = sym (is_above-same z.apex c.name q.name (alias_in_owner z q.name c e)) ∙ in_its_zone policy w log ok by_world z c h (alias_in_Has z q.name c e) in
      let next : None ≡ Some c = sym last ∙ ap (λ (b : Bool). if b && not false then alias_in z q.name else None) inside ∙ e in cc

  -- a referral names servers
  refers_on : (child : Zone) (glue : List Record) → Has w.zones child
      → (if length (filter is_ns (servers child child.apex)) == 0 then None else Some (delegations (servers child child.apex) glue)) ≡ None → ⊥
  refers_on child glue h e =
      let ns = has_ns policy w ok child h in
      let there = filter_Has (λ (r : Record). is_ns r && same_names r.name child.apex) child.records ns.ns ns.within (both (is_ns ns.ns) (same_names ns.ns.name child.apex) ns.is ns.named) in
      let some = some_left (filter is_ns (servers child child.apex)) ns.ns (filter_Has is_ns (servers child child.apex) ns.ns there ns.is) in
      let none : Some (delegations (servers child child.apex) glue) ≡ None
      = sym (ap (λ (b : Bool). if b then None else Some (delegations (servers child child.apex) glue)) some) ∙ e in cc

  -- the zone that is asked denies as the world does
  of_zone : (z : Zone) (p : Query) (m : Message) (zone : DomainName) → Has w.zones z → zone_of w p ≡ Some z → (p.query_type.code == 255) ≡ false
      → Replies w z p m → (length m.answers == 0) ≡ true → DeniesAsWorld w p (scrub_negative zone (no_records m))
  of_zone z p m zone h d other (denies e) none = of_name refl e
  of_zone z p m zone h d other (lacks e a o) none = of_type refl e (sym (alias_is w p z d other) ∙ a) d (empty (owned z p.name p.query_type) o)
  of_zone z p m zone h d other (gives e a o) none = absurd (clash (length (owned z p.name p.query_type) == 0) none o)
  of_zone z p m zone h d other (by_alias {c = c} e a (is_by_alias {rs = rs} b)) none = absurd (by_alias_some z p w.chain rs c h (own (p.query_type.code == 5 || p.query_type.code == 255) a) b none)
    where
      own : (b : Bool) → cond b None (alias_in z p.name) ≡ Some c → alias_in z p.name ≡ Some c
      own true x = cc
      own false x = x

  -- what a server tells denies as the world does
  of_told : (teller : IpAddr) (p : Query) (m : Message) (zone : DomainName) → IsServerOf w teller zone → is_above zone (walk p) ≡ true → (p.query_type.code == 255) ≡ false
      → Tells w teller p m → (length m.answers == 0) ≡ true → (no_records m).ns ≡ None → DeniesAsWorld w p (scrub_negative zone (no_records m))
  of_told teller p m zone server above other tells none no_ns = by tells none no_ns
    where
      asked : IsAsked w teller p zone
      asked = asks w teller p zone server above

      by : {m : Message} → Tells w teller p m → (length m.answers == 0) ≡ true → (no_records m).ns ≡ None → DeniesAsWorld w p (scrub_negative zone (no_records m))
      by (refuses e) none no_ns = let nothing : None ≡ Some asked.zone = sym e ∙ asked.is in cc
      by (refers {z = z} {child = child} e f) none no_ns = absurd (refers_on child (server_addresses child child.apex) (child_Has w z p child f) no_ns)
      by (answers {z = z} {m = n} e f r) none no_ns =
          let at = one_asked w teller p z asked.zone e asked.is in
          of_zone asked.zone p n zone (zone_asked_Has w teller p asked.zone asked.is)
          (deepest policy w log ok by_world teller p zone above asked (subst (λ (x : Zone). child_of w x p ≡ None) at f)) other (subst (λ (x : Zone). Replies w x p n) at r) none

  -- a denial without a referral is that of the deepest zone
  pub denies_as_world : {i moment : ℕ} (q : Query) (o : ToldOutcome) (z : DomainName) (n : NoRecords) → q.query_class.code ≡ 1 → (q.query_type.code == 255) ≡ false
      → Heard policy log i q o moment z → verdict policy o q z ≡ Some (Neg n) → n.ns ≡ None → DeniesAsWorld w q n
  denies_as_world q o z n in_class other (heard {teller = teller} t s above) e no_ns = by (counts policy w log ok by_world q o z (Neg n) in_class (heard t s above) e)
    where
      told : WasTold w teller q o
      told = was_told w log by_world t

      by : CountsWhole q z o (Neg n) → DeniesAsWorld w q n
      by (as_answer is d v) = cc
      by (as_denial {m = m} is d v) =
          let same = one_message o told.message m told.is is in
          let are : scrub_negative z (no_records m) ≡ n = cc in
          let none = first_so (length m.answers == 0) _ (first_so (length m.answers == 0 && not (list_any (is_asked q) m.authorities)) _ d) in
          let kind = ap (λ (t : RecordType). t.code == 255) (types_same told.asked q told.same) ∙ other in
          subst (λ (x : NoRecords). DeniesAsWorld w q x) are
          (in_any_case w told.asked q (scrub_negative z (no_records m)) told.same
          (of_told teller told.asked m z (serves-world policy w log ok by_world s) (walk-same told.asked q told.same z ∙ above) kind
          (subst (λ (x : Message). Tells w teller told.asked x) same told.tells) none (ap (λ (x : NoRecords). x.ns) are ∙ no_ns)))
