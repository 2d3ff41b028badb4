use Rattle.std.proofs.Common.{◌≡◌, ℕ, inl, inr, Bool, true, List, drop, get_or, refl, sym, ap, subst, ◌∙◌, arith}
use Rattle.std.specs.List.{list_any}
use Rattle.std.specs.declared.net.ip_addr.IpAddr.{IpAddr}
use borrow.Author.Count.{below_more}
use Rattle.dns_core.specs.Name.{DomainName}
use Rattle.dns_core.specs.declared.message.Query.{Query}
use Rattle.dns_core.specs.declared.record.Record.{Record}
use Rattle.resolution.specs.Names.{is_root}
use Rattle.resolution.specs.Records.{records}
use Rattle.resolution.specs.Serving.{Serves, targets, target_below}
use Rattle.resolution.specs.Serving.Serves.{of_root}
use Rattle.resolution_reference.specs.Plain.{apex, asks, among, kept, holds_for, passes}
use Rattle.resolution_reference.specs.PlainServing.{log_in, ListedFrom, ListedBy, GivenFrom, AnswerGives, ServerGives, TargetGives}
use Rattle.resolution_reference.specs.PlainServing.TargetGives.{gives}
use Rattle.resolution_reference.specs.PlainServing.Lists.{beside}
use Rattle.resolution.proofs.ElementsFiltered.{Has, Has-from_Contains, Contains-from_Has}
use Rattle.resolution_reference.proofs.PlainServed.{none_listed, listed_from, from_listed, to_serves, of_serves, root_serves, none_given, given_from, from_given, among-Contains, Contains-among, under-test, from_server, lists_by, is_given, is_qualified, as_question, is_empty_list, target_found, last_or_below, get_or-in_range, clash}
use Rattle.resolution_reference.proofs.PlainServed.ListsBy.{by_glue, by_record}
use Rattle.resolution_reference.proofs.setting.Setting.+serving.Goals as goal

-- ---- entries

pub serves_apex-returns-then-is_empty : goal.serves_apex-returns-then-is_empty
serves_apex-returns-then-is_empty t c =
    let s = c.args.self.now in
    let of_roots = ap (λ (ips : List IpAddr). among ips c.args.ip) c.items.ensures in
    let empty : is_root (apex c.args.zone.now) ≡ true = sym c.is_empty.ensures ∙ c.if-is_empty.true in (
      (λ e. subst (λ (ls : List (List ℕ)). Serves s.policy.now (log_in s) c.args.n c.args.ip (apex ls)) (sym (is_empty_list c.args.zone.now empty)) (of_root (among-Contains s.policy.now.roots c.args.ip (sym of_roots ∙ (sym c.is_among.ensures ∙ e))))),
      (λ x. c.is_among.ensures ∙ of_roots ∙ Contains-among s.policy.now.roots c.args.ip (root_serves s empty x)),
    )

pub serves_apex-returns-then-is_listed_by : goal.serves_apex-returns-then-is_listed_by
serves_apex-returns-then-is_listed_by t c =
    ((λ e. to_serves c.args.self.now (sym c.is_empty.ensures ∙ c.if-is_empty.false) (sym c.denied.ensures ∙ c.if-denied.false) c.entries-test.true (c.is_listed_by.ensures.0 c.if-is_listed_by.true)), (λ x. refl))

pub serves_apex-entries-preserved : goal.serves_apex-entries-preserved
serves_apex-entries-preserved t c =
    below_more (λ k. ListedBy c.args.self.now.policy.now (log_in c.args.self.now) k c.args.n c.args.ip (apex c.args.zone.now) → ⊥) c.entries.i c.entries.invariant
    (λ l. clash c.is_listed_by.result (c.is_listed_by.ensures.1 l) c.if-is_listed_by.false)

pub serves_apex-returns : goal.serves_apex-returns
serves_apex-returns t c =
    ((λ e. cc), (λ x. let l = of_serves c.args.self.now (sym c.is_empty.ensures ∙ c.if-is_empty.false) x in let low = l.below in absurd (c.entries.invariant l.i (omega arith) l.listed)))

-- ---- a delegation

pub is_listed_by-returns-in_default : goal.is_listed_by-returns-in_default
is_listed_by-returns-in_default t c = ((λ e. cc), (λ l. absurd (none_listed c.args.self.now c.args.i c.args.n c.args.ip c.args.zone.now c.in_default.ensures.none l)))

pub is_listed_by-returns-then-is_listed_from : goal.is_listed_by-returns-then-is_listed_from
is_listed_by-returns-then-is_listed_from t c =
    let s = c.args.self.now in
    let w = c.in-Some.told in
    let F : List (List ℕ) → Type 0 = λ ls. ListedFrom s.policy.now (log_in s) w.ask w.teller s.policy.now.answer_filter ls w.message.now c.args.n c.args.ip (apex c.args.zone.now) in (
      (λ e. from_listed s c.args.i c.args.n w.ask w.moment c.cuts.cut c.args.ip w.teller c.args.zone.now w.message.now c.in-Some.ensures.tells c.in-Some.ensures.answers c.cuts-test.true
          (subst F c.behind-rest.ensures (c.is_listed_from.ensures.0 c.if-is_listed_from.true))),
      (λ l. refl),
    )

pub is_listed_by-cuts-preserved : goal.is_listed_by-cuts-preserved
is_listed_by-cuts-preserved t c =
    let s = c.args.self.now in
    let w = c.in-Some.told in
    let F : List (List ℕ) → Type 0 = λ ls. ListedFrom s.policy.now (log_in s) w.ask w.teller s.policy.now.answer_filter ls w.message.now c.args.n c.args.ip (apex c.args.zone.now) in
    below_more (λ k. F (drop k c.args.zone.now) → ⊥) c.cuts.cut c.cuts.invariant
    (λ f. clash c.is_listed_from.result (c.is_listed_from.ensures.1 (subst F (sym c.behind-rest.ensures) f)) c.if-is_listed_from.false)

pub is_listed_by-returns : goal.is_listed_by-returns
is_listed_by-returns t c =
    let w = c.in-Some.told in (
      (λ e. cc),
      (λ l.
          let x = listed_from c.args.self.now c.args.i c.args.n w.ask w.moment c.args.ip w.teller c.args.zone.now w.message.now c.in-Some.ensures.tells l in
          let low = x.1 in absurd (c.cuts.invariant (x.0) (omega arith) (x.2))),
    )

-- ---- its servers

pub any_server-returns-then-server_gives : goal.any_server-returns-then-server_gives
any_server-returns-then-server_gives t c =
    ((λ e. (c.r-item.result, (c.servers.r-index, c.servers-test.true, sym c.r-item.is), c.server_gives.ensures.0 c.if-server_gives.true)), (λ x. refl))

pub any_server-servers-preserved : goal.any_server-servers-preserved
any_server-servers-preserved t c = λ k r h e f.
    elim (last_or_below k c.servers.r-index h) [
      | inl low ↦ c.servers.invariant k r low e f
      | inr at ↦
          let rs = c.args.rs.now in
          let there : get_or rs c.servers.r-index r ≡ r = subst (λ (i : ℕ). get_or rs i r ≡ r) at e in
          let is : r ≡ c.r-item.result = sym there ∙ get_or-in_range rs c.servers.r-index r c.r-item.result c.servers-test.true ∙ sym c.r-item.is in
          clash c.server_gives.result (c.server_gives.ensures.1 (subst (λ (x : Record). ServerGives c.args.self.now.policy.now (log_in c.args.self.now) c.args.n c.args.ip (apex c.args.zone.now) c.args.kept.now x) is f)) c.if-server_gives.false
    ]

pub lists-returns-then-has_glue : goal.lists-returns-then-has_glue
lists-returns-then-has_glue t c =
    let k = kept c.args.kept.now in
    let test : List (List ℕ) → Bool = λ ls. list_any (holds_for k (apex ls) c.args.ip) (records k) in
    ((λ e. beside (under-test k (apex c.args.zone.now) c.args.ip (records k) (sym (ap test c.base_of-base.ensures) ∙ sym c.has_glue.ensures ∙ c.if-has_glue.true))), (λ l. refl))

pub lists-returns-then-any_server : goal.lists-returns-then-any_server
lists-returns-then-any_server t c = (
  (λ e. let x = c.any_server.ensures.0 c.if-any_server.true in
      from_server c.args.self.now c.args.n c.args.ip (apex c.args.zone.now) c.args.kept.now (x.0) (inl (subst (λ (rs : List Record). Has rs (x.0)) c.items.ensures (Has-from_Contains _ (x.0) (x.1)))) (x.2)),
  (λ l. refl),
)

pub lists-returns-then-any_server-2 : goal.lists-returns-then-any_server-2
lists-returns-then-any_server-2 t c = (
  (λ e. let x = c.any_server-2.ensures.0 c.if-any_server-2.true in
      from_server c.args.self.now c.args.n c.args.ip (apex c.args.zone.now) c.args.kept.now (x.0) (inr (inl (subst (λ (rs : List Record). Has rs (x.0)) c.items-2.ensures (Has-from_Contains _ (x.0) (x.1))))) (x.2)),
  (λ l. refl),
)

pub lists-returns : goal.lists-returns
lists-returns t c =
    let k = kept c.args.kept.now in
    let test : List (List ℕ) → Bool = λ ls. list_any (holds_for k (apex ls) c.args.ip) (records k) in (
      (λ e. let x = c.any_server-3.ensures.0 e in
          from_server c.args.self.now c.args.n c.args.ip (apex c.args.zone.now) c.args.kept.now (x.0) (inr (inr (subst (λ (rs : List Record). Has rs (x.0)) c.items-3.ensures (Has-from_Contains _ (x.0) (x.1))))) (x.2)),
      (λ l. elim (lists_by c.args.self.now c.args.n c.args.ip (apex c.args.zone.now) c.args.kept.now l) [
        | by_glue g ↦ absurd (clash c.has_glue.result (c.has_glue.ensures ∙ ap test c.base_of-base.ensures ∙ g) c.if-has_glue.false)
        | by_record {r = r} (inl h) g ↦ absurd (clash c.any_server.result (c.any_server.ensures.1 (r, Contains-from_Has _ r (subst (λ (rs : List Record). Has rs r) (sym c.items.ensures) h), g)) c.if-any_server.false)
        | by_record {r = r} (inr (inl h)) g ↦ absurd (clash c.any_server-2.result (c.any_server-2.ensures.1 (r, Contains-from_Has _ r (subst (λ (rs : List Record). Has rs r) (sym c.items-2.ensures) h), g)) c.if-any_server-2.false)
        | by_record {r = r} (inr (inr h)) g ↦ c.any_server-3.ensures.1 (r, Contains-from_Has _ r (subst (λ (rs : List Record). Has rs r) (sym c.items-3.ensures) h), g)
      ]),
    )

pub server_gives-returns : goal.server_gives-returns
server_gives-returns t c =
    let found = target_found (passes c.args.kept.now c.args.r.now) _ c.in-Some.target.now c.in-Some.ensures in
    let names = sym (ap (λ (ls : List (List ℕ)). target_below (apex ls) c.args.r.now) c.base_of.ensures) ∙ found.1 in (
      (λ e. record { left = found.0; target = c.in-Some.target.now; names = names; gives = c.target_gives.ensures.0 e }),
      (λ g. c.target_gives.ensures.1 (let at = g.names in let same : g.target ≡ c.in-Some.target.now = cc in
          subst (λ (n : DomainName). TargetGives c.args.self.now.policy.now (log_in c.args.self.now) c.args.n c.args.ip (targets (kept c.args.kept.now) (apex c.args.zone.now)) n) same g.gives)),
    )

pub target_gives-returns-then-not-is_fqdn : goal.target_gives-returns-then-not-is_fqdn
target_gives-returns-then-not-is_fqdn t c =
    ((λ e. cc), (λ g. let q = is_qualified c.args.self.now c.args.target.now g in let a = c.if-not-is_fqdn.true in let b = c.is_fqdn.ensures in cc))

pub target_gives-returns-then-answer_gives : goal.target_gives-returns-then-answer_gives
target_gives-returns-then-answer_gives t c =
    let s = c.args.self.now in
    let names = targets (kept c.args.kept.now) (apex c.args.zone.now) in
    let full : (c.args.target.now).fqdn ≡ true = let a = c.if-not-is_fqdn.false in let b = c.is_fqdn.ensures in cc in
    let asked = as_question c.args.target.now 1 full in
    let G : Query → Type 0 = λ q. AnswerGives s.policy.now (log_in s) c.answers.j c.args.ip names q in
    ((λ e. gives (inl refl) c.answers-test.true (subst G asked (subst (λ (ls : List (List ℕ)). G (asks ls 1 1)) c.labels.ensures.labels (c.answer_gives.ensures.0 c.if-answer_gives.true)))), (λ g. refl))

pub target_gives-returns-then-answer_gives-2 : goal.target_gives-returns-then-answer_gives-2
target_gives-returns-then-answer_gives-2 t c =
    let s = c.args.self.now in
    let names = targets (kept c.args.kept.now) (apex c.args.zone.now) in
    let full : (c.args.target.now).fqdn ≡ true = let a = c.if-not-is_fqdn.false in let b = c.is_fqdn.ensures in cc in
    let asked = as_question c.args.target.now 28 full in
    let G : Query → Type 0 = λ q. AnswerGives s.policy.now (log_in s) c.answers.j c.args.ip names q in
    ((λ e. gives (inr refl) c.answers-test.true (subst G asked (subst (λ (ls : List (List ℕ)). G (asks ls 28 1)) c.labels-in-answers.ensures.labels (c.answer_gives-in-answers.ensures.0 c.if-answer_gives-2.true)))), (λ g. refl))

pub target_gives-answers-preserved : goal.target_gives-answers-preserved
target_gives-answers-preserved t c = λ k q h a g.
    let s = c.args.self.now in
    let names = targets (kept c.args.kept.now) (apex c.args.zone.now) in
    let full : (c.args.target.now).fqdn ≡ true = let x = c.if-not-is_fqdn.false in let y = c.is_fqdn.ensures in cc in
    let G : Query → Type 0 = λ x. AnswerGives s.policy.now (log_in s) c.answers.j c.args.ip names x in
    elim (last_or_below k c.answers.j h) [
      | inl low ↦ c.answers.invariant k q low a g
      | inr at ↦
          let here : G q = subst (λ (i : ℕ). AnswerGives s.policy.now (log_in s) i c.args.ip names q) at g in
          elim a [
            | inl is ↦ clash c.answer_gives.result (c.answer_gives.ensures.1 (subst (λ (ls : List (List ℕ)). G (asks ls 1 1)) (sym c.labels.ensures.labels) (subst G (is ∙ sym (as_question c.args.target.now 1 full)) here))) c.if-answer_gives.false
            | inr is ↦ clash c.answer_gives-in-answers.result (c.answer_gives-in-answers.ensures.1 (subst (λ (ls : List (List ℕ)). G (asks ls 28 1)) (sym c.labels-in-answers.ensures.labels) (subst G (is ∙ sym (as_question c.args.target.now 28 full)) here))) c.if-answer_gives-2.false
          ]
    ]

pub target_gives-returns : goal.target_gives-returns
target_gives-returns t c = ((λ e. cc), (λ g. let x = is_given c.args.self.now g in let low = x.below in absurd (c.answers.invariant x.j x.q (omega arith) x.asked x.given)))

-- ---- the answers for one of them

pub answer_gives-returns-in_default : goal.answer_gives-returns-in_default
answer_gives-returns-in_default t c = ((λ e. cc), (λ g. absurd (none_given c.args.self.now c.args.j c.args.record_type c.args.ip (targets (kept c.args.kept.now) (apex c.args.zone.now)) c.args.labels.now c.in_default.ensures.none g)))

pub answer_gives-returns-then-is_given_from : goal.answer_gives-returns-then-is_given_from
answer_gives-returns-then-is_given_from t c =
    let s = c.args.self.now in
    let w = c.in-Some.told in
    let F : List (List ℕ) → Type 0 = λ ls. GivenFrom s.policy.now (log_in s) w.ask w.teller s.policy.now.answer_filter ls w.message.now (kept c.args.kept.now) (apex c.args.zone.now) c.args.ip in (
      (λ e. from_given s c.args.j w.ask w.moment c.args.record_type c.cuts.cut c.args.ip w.teller c.args.labels.now w.message.now (kept c.args.kept.now) (apex c.args.zone.now) c.requires c.in-Some.ensures.tells c.in-Some.ensures.answers c.cuts-test.true
          (subst F c.behind-rest.ensures (c.is_given_from.ensures.0 c.if-is_given_from.true))),
      (λ g. refl),
    )

pub answer_gives-cuts-preserved : goal.answer_gives-cuts-preserved
answer_gives-cuts-preserved t c =
    let s = c.args.self.now in
    let w = c.in-Some.told in
    let F : List (List ℕ) → Type 0 = λ ls. GivenFrom s.policy.now (log_in s) w.ask w.teller s.policy.now.answer_filter ls w.message.now (kept c.args.kept.now) (apex c.args.zone.now) c.args.ip in
    below_more (λ k. F (drop k c.args.labels.now) → ⊥) c.cuts.cut c.cuts.invariant
    (λ f. clash c.is_given_from.result (c.is_given_from.ensures.1 (subst F (sym c.behind-rest.ensures) f)) c.if-is_given_from.false)

pub answer_gives-returns : goal.answer_gives-returns
answer_gives-returns t c =
    let w = c.in-Some.told in (
      (λ e. cc),
      (λ g.
          let x = given_from c.args.self.now c.args.j w.ask w.moment c.args.record_type c.args.ip w.teller c.args.labels.now w.message.now (kept c.args.kept.now) (apex c.args.zone.now) c.requires c.in-Some.ensures.tells g in
          let low = x.1 in absurd (c.cuts.invariant (x.0) (omega arith) (x.2))),
    )
