-- What a plain program finds entry by entry is who serves a zone.
use Rattle.std.proofs.Common.{◌≡◌, ℕ, zero, suc, ◌+◌, ◌-◌, ◌<◌, ◌⊎◌, inl, inr, Bool, true, false, cond, List, [], ◌∷◌, ◌++◌, length, drop, get_or, length-drop, Option, Some, None, refl, sym, ap, subst, ◌∙◌, arith}
use Rattle.std.specs.Prelude.{not, ◌&&◌, ◌||◌, ◌==◌, nat_le, Contains, filter, find}
use Rattle.std.specs.List.{list_any, filter_map}
use Rattle.std.specs.Bool.{beq}
use Rattle.std.proofs.lemmas.List.Folds.{list_any-append}
use Rattle.std.proofs.lemmas.Bool.Decides.{nat_tests}
use Rattle.std.specs.declared.net.ip_addr.IpAddr.{IpAddr}
use Rattle.dns_core.specs.Name.{DomainName, same_names, same_labels}
use Rattle.dns_core.specs.declared.message.Query.{Query}
use Rattle.dns_core.specs.declared.message.Message.{Message}
use Rattle.dns_core.specs.declared.record.Record.{Record}
use Rattle.dns_core.specs.declared.log.ToldOutcome.{ToldOutcome}
use Rattle.dns_core.specs.declared.log.ToldOutcome.TheVariants as told
use Rattle.resolver_settings.specs.Access.{denies}
use Rattle.resolution.specs.Names.{is_above, base}
use Rattle.resolution.specs.Records.{address, records}
use Rattle.resolution.specs.Class.{class_of, class_of_message, has_no_data_for, is_foreign}
use Rattle.resolution.specs.Verdict.{verdict, is_emptied, is_all_denied, without_denied}
use Rattle.resolution.specs.Serving.{targets, target_below, address_under, addresses_under}
use Rattle.resolution.specs.Ending.{same_ip}
use Rattle.resolution_reference.specs.Plain.{apex, among, holds, holds_for, names_target, left_of, counts_of, is_answer}
use Rattle.resolution.specs.Names.{is_root, walk}
use Rattle.resolution.specs.Verdict.{verdict_of_message, verdict_of_told, holds_denied, is_in_bailiwick}
use Rattle.resolution.specs.Telling.{Tells}
use Rattle.resolution.specs.Names.{question}
use Rattle.std.proofs.lemmas.Bool.{cases_lt}
use Rattle.resolution.specs.Serving.{Serves, Heard, is_delegation, IsAddressQuestion}
use Rattle.resolution.specs.Serving.Serves.{of_root, of_glue, of_target, of_answer}
use Rattle.resolution.specs.Serving.Delegates.{delegates}
use Rattle.resolution.specs.Serving.Heard.{heard}
use Rattle.resolution_reference.specs.Plain.{asks, kept, passes, has_in_answers}
use Rattle.resolution_reference.specs.declared.kept.kept.Kept.{Kept}
use Rattle.resolution_reference.specs.PlainServing.{log_in, AnswerGives, TargetGives, Lists, ListedBy, ListedFrom, GivenFrom, ServerGives}
use Rattle.resolution_reference.specs.PlainServing.AnswerGives.{under, anywhere}
use Rattle.resolution_reference.specs.PlainServing.TargetGives.{gives}
use Rattle.resolution_reference.specs.PlainServing.Lists.{beside, for_server}
use Rattle.resolution_reference.specs.PlainServing.ListedBy.{listed_by}
use Rattle.resolution_reference.specs.declared.setting.Setting.{Setting}
use Rattle.resolution.specs.declared.verdict.Cause.TheVariants.{Filter, Zone}
use Rattle.dns_core.specs.Log.{numbered}
use Rattle.dns_core.specs.declared.log.LogEntry.TheVariants.{Asked}
use Rattle.resolution.specs.declared.class.Class.{Class}
use Rattle.resolution.specs.declared.class.Class.TheVariants.{Foreign, Positive}
use Rattle.resolution.specs.declared.verdict.Verdict.TheVariants.{Pos, Made}
use Rattle.resolution.proofs.ElementsFiltered.{Has, Has-from_Contains, Contains-from_Has, Has-filter_map, filter_map-Has, Has-append_left, Has-append_right, Has-append_cases, Has-filter, Has-passes, any_Has, Has_any}
use Rattle.resolution.proofs.AddressesAreEqual.{same_ip-true, same_ip-itself}
use Rattle.resolution.proofs.AboveIsAnOrder.{labels_equiv}
use Rattle.resolution_reference.proofs.SectionTests.{list_any-filter_map}
use Rattle.resolution.proofs.NoAddressIsInvented.{chosen, verdict-pos, class_of-positive}
use Rattle.resolution.proofs.ZoneCase.{Serves-zone, verdict-zone}

-- ---- tests and elements

pub among-Contains : (ips : List IpAddr) (ip : IpAddr) → among ips ip ≡ true → Contains ips ip
among-Contains ips ip e = let r : (x : IpAddr) × Has ips x × (same_ip ip x ≡ true) = Has_any (same_ip ip) ips e in Contains-from_Has ips ip (subst (λ (x : IpAddr). Has ips x) (sym (same_ip-true ip r.0 r.2)) r.1)

pub Contains-among : (ips : List IpAddr) (ip : IpAddr) → Contains ips ip → among ips ip ≡ true
Contains-among ips ip h = any_Has (same_ip ip) ips ip (Has-from_Contains ips ip h) (same_ip-itself ip)

held : (ip : IpAddr) (o : Option IpAddr) → (elim o [ None ↦ false | Some a ↦ same_ip ip a ]) ≡ true → o ≡ Some ip
held ip None e = cc
held ip (Some a) e = ap Some (sym (same_ip-true ip a e))

pub holds-address : (ip : IpAddr) (r : Record) → holds ip r ≡ true → address r ≡ Some ip
holds-address ip r e = held ip (address r) e

pub address-holds : (ip : IpAddr) (r : Record) → address r ≡ Some ip → holds ip r ≡ true
address-holds ip r e = ap (λ (o : Option IpAddr). let b : Bool = elim o [ None ↦ false | Some a ↦ same_ip ip a ] in b) e ∙ same_ip-itself ip

-- the names of the servers of a delegation, by a test
names-test : (k : Message) (c n : DomainName) → list_any (same_names n) (targets k c) ≡ list_any (names_target (base c) n) (records k)
names-test k c n = list_any-filter_map (same_names n) (target_below (base c)) (records k)

split : (a b : Bool) → (a && b) ≡ true → (a ≡ true) × (b ≡ true)
split true b h = (refl, h)
split false b h = cc

pub join : (a b : Bool) → a ≡ true → b ≡ true → (a && b) ≡ true
join true b p q = q
join false b p q = p

pub under-test : (k : Message) (c : DomainName) (ip : IpAddr) (rs : List Record) → list_any (holds_for k (base c) ip) rs ≡ true → Contains (addresses_under (targets k c) rs) ip
under-test k c ip rs e =
    let r : (x : Record) × Has rs x × (holds_for k (base c) ip x ≡ true) = Has_any (holds_for k (base c) ip) rs e in
    let parts = split (holds ip r.0) (list_any (names_target (base c) (r.0).name) (records k)) r.2 in
    let named = names-test k c (r.0).name ∙ parts.1 in
    Contains-from_Has _ ip (filter_map-Has (address_under (targets k c)) rs r.0 ip r.1 (ap (λ (b : Bool). cond b (address r.0) None) named ∙ holds-address ip r.0 parts.0))

pub test-under : (k : Message) (c : DomainName) (ip : IpAddr) (rs : List Record) → Contains (addresses_under (targets k c) rs) ip → list_any (holds_for k (base c) ip) rs ≡ true
test-under k c ip rs h =
    let r : (x : Record) × Has rs x × (address_under (targets k c) x ≡ Some ip) = Has-filter_map (address_under (targets k c)) rs ip (Has-from_Contains _ ip h) in
    elim (chosen (list_any (same_names (r.0).name) (targets k c)) _ _ _ r.2) [
      | inl a ↦ any_Has (holds_for k (base c) ip) rs r.0 r.1 (join _ _ (address-holds ip r.0 a.1) (sym (names-test k c (r.0).name) ∙ a.0))
      | inr a ↦ let x = a.1 in cc
    ]

pub answers-test : (ip : IpAddr) (rs : List Record) → list_any (holds ip) rs ≡ true → Contains (filter_map address rs) ip
answers-test ip rs e = let r : (x : Record) × Has rs x × (holds ip x ≡ true) = Has_any (holds ip) rs e in Contains-from_Has _ ip (filter_map-Has address rs r.0 ip r.1 (holds-address ip r.0 r.2))

pub test-answers : (ip : IpAddr) (rs : List Record) → Contains (filter_map address rs) ip → list_any (holds ip) rs ≡ true
test-answers ip rs h = let r : (x : Record) × Has rs x × (address x ≡ Some ip) = Has-filter_map address rs ip (Has-from_Contains _ ip h) in any_Has (holds ip) rs r.0 r.1 (address-holds ip r.0 r.2)

-- ---- answers

not_found : {X : Type 0} (p : X → Bool) (xs : List X) → list_any p xs ≡ false → find p xs ≡ None
not_found p [] e = refl
not_found {X} p (x ∷ xs) e = at_head (p x) e (not_found p xs)
  where
    at_head : (b : Bool) → (b || list_any p xs) ≡ false → (list_any p xs ≡ false → find p xs ≡ None) → cond b (Some x) (find p xs) ≡ None
    at_head true h next = cc
    at_head false h next = next h

found_none : {X : Type 0} (p : X → Bool) (xs : List X) → find p xs ≡ None → list_any p xs ≡ false
found_none p [] e = refl
found_none {X} p (x ∷ xs) e = at_head (p x) e (found_none p xs)
  where
    at_head : (b : Bool) → cond b (Some x) (find p xs) ≡ None → (find p xs ≡ None → list_any p xs ≡ false) → (b || list_any p xs) ≡ false
    at_head true h next = cc
    at_head false h next = next h

any_records : (p : Record → Bool) (m : Message) → list_any p (records m) ≡ (list_any p m.answers || list_any p m.authorities || list_any p m.additionals)
any_records p m = list_any-append p (m.answers ++ m.authorities) m.additionals ∙ ap (λ (t : Bool). t || list_any p m.additionals) (list_any-append p m.answers m.authorities)

not_false : (b : Bool) → not b ≡ true → b ≡ false
not_false true e = cc
not_false false e = refl

false_not : (b : Bool) → b ≡ false → not b ≡ true
false_not true e = cc
false_not false e = refl

not_true : (b : Bool) → not b ≡ false → b ≡ true
not_true true e = refl
not_true false e = cc

-- the class of a message, from its tests
class_by : (code cut bare : Bool) (foreign : Option Record) (x y z : Class) (m : Message) → code ≡ true → cut ≡ false → bare ≡ false → foreign ≡ None
    → cond (not code) x (cond cut y (cond bare z (elim foreign [ Some r ↦ Foreign r | None ↦ Positive m ]))) ≡ Positive m
class_by true false false None x y z m a b c d = refl
class_by false cut bare foreign x y z m a b c d = cc
class_by true true bare foreign x y z m a b c d = cc
class_by true false true foreign x y z m a b c d = cc
class_by true false false (Some r) x y z m a b c d = cc

pub is_answer-class : (q : Query) (m : Message) → is_answer q m ≡ true → class_of (told.Message m) q ≡ Some (Positive m)
is_answer-class q m e =
    let a = split _ _ e in
    let b = split _ _ a.1 in
    let c = split _ _ b.1 in
    ap Some (class_by (m.response_code.code == 0 || m.response_code.code == 3) m.truncation (has_no_data_for q m) (find (is_foreign q) (records m)) _ _ _ m a.0 (not_false _ b.0) (not_false _ c.0)
    (not_found (is_foreign q) (records m) (any_records (is_foreign q) m ∙ not_false _ c.1)))

none_foreign : (o : Option Record) (m m' : Message) → (elim o [ Some r ↦ Foreign r | None ↦ Positive m ]) ≡ Positive m' → o ≡ None
none_foreign None m m' e = refl
none_foreign (Some r) m m' e = cc

pub class-is_answer : (q : Query) (m m' : Message) → class_of_message m q ≡ Positive m' → is_answer q m ≡ true
class-is_answer q m m' e = elim (chosen (not (m.response_code.code == 0 || m.response_code.code == 3)) _ _ _ e) [
  | inl a ↦ let x = a.1 in cc
  | inr a ↦ elim (chosen m.truncation _ _ _ a.1) [
    | inl b ↦ let x = b.1 in cc
    | inr b ↦ elim (chosen (has_no_data_for q m) _ _ _ b.1) [
      | inl d ↦ let x = d.1 in cc
      | inr d ↦ join _ _ (not_true _ a.0) (join _ _ (false_not _ b.0) (join _ _ (false_not _ d.0)
          (false_not _ (sym (any_records (is_foreign q) m) ∙ found_none (is_foreign q) (records m) (none_foreign _ m m' d.1)))))
    ]
  ]
]

-- ---- cuts

pub cut_of : (z : DomainName) (ls : List (List ℕ)) → is_above z (apex ls) ≡ true → (cut : ℕ) × (cut < length ls + 1) × (same_names z (apex (drop cut ls)) ≡ true)
cut_of z ls e =
    let a = split _ _ e in
    let b = split _ _ a.0 in
    let c = split (nat_le (length z.labels) (length ls)) _ a.1 in
    (length ls - length z.labels, omega arith, join _ _ c.1 (ap (λ (f : Bool). beq f true) b.0))

pub cut_above : (ls : List (List ℕ)) (cut : ℕ) → cut < length ls + 1 → is_above (apex (drop cut ls)) (apex ls) ≡ true
cut_above ls cut h =
    let len : length (drop cut ls) ≡ length ls - cut = length-drop cut ls in
    let left : length ls - length (drop cut ls) ≡ cut = omega arith in
    join (nat_le (length (drop cut ls)) (length ls)) _ (grind (arith, nat_tests))
    (ap (λ (n : ℕ). same_labels (drop cut ls) (drop n ls)) left ∙ labels_equiv.refl (drop cut ls))

-- ---- what counts

module _ (s : Setting) where
  counted : (m k : Message) (ls : List (List ℕ)) → verdict_of_message (denies s.policy.now.answer_filter) m (apex ls) ≡ Pos k → (counts_of s.policy.now.answer_filter ls m ≡ true) × (k ≡ left_of s.policy.now.answer_filter ls m)
  counted m k ls e = elim (chosen (is_all_denied (denies s.policy.now.answer_filter) m) _ _ _ e) [
    | inl a ↦ let x = a.1 in cc
    | inr a ↦ elim (chosen (is_emptied (without_denied (denies s.policy.now.answer_filter) m) (left_of s.policy.now.answer_filter ls m)) _ _ _ a.1) [
      | inl b ↦ let x = b.1 in cc
      | inr b ↦ let x = b.1 in (join _ _ (false_not _ a.0) (false_not _ b.0), cc)
    ]
  ]

  message_by : (a b : Bool) (m : Message) → a ≡ false → b ≡ false → cond a (Made Filter) (cond b (Made Zone) (Pos m)) ≡ Pos m
  message_by false false m e f = refl
  message_by true b m e f = cc
  message_by false true m e f = cc

  -- an answer that counts in a zone counts there with what is left of it
  pub counts-verdict : (q : Query) (m : Message) (ls : List (List ℕ)) → is_answer q m ≡ true → counts_of s.policy.now.answer_filter ls m ≡ true → verdict s.policy.now (told.Message m) q (apex ls) ≡ Some (Pos (left_of s.policy.now.answer_filter ls m))
  counts-verdict q m ls e c =
      let parts = split _ _ c in
      ap (λ (x : Option Class). verdict_of_told (denies s.policy.now.answer_filter) x (apex ls)) (is_answer-class q m e)
      ∙ ap Some (message_by _ _ (left_of s.policy.now.answer_filter ls m) (not_false _ parts.0) (not_false _ parts.1))

  pub verdict-counts : (q : Query) (m k : Message) (ls : List (List ℕ)) → class_of (told.Message m) q ≡ Some (Positive m) → verdict s.policy.now (told.Message m) q (apex ls) ≡ Some (Pos k) → (counts_of s.policy.now.answer_filter ls m ≡ true) × (k ≡ left_of s.policy.now.answer_filter ls m)
  verdict-counts q m k ls e v =
      let w = ap (λ (x : Option Class). verdict_of_told (denies s.policy.now.answer_filter) x (apex ls)) (sym e) ∙ v in
      counted m k ls cc

  -- ---- who told

  -- An answer to q was told by entry i, by a server of z.
  pub record AnsweredBy (i : ℕ) (q : Query) (m : Message) (z : DomainName) : Type 0 where
    pub ask : ℕ
    pub teller : IpAddr
    pub moment : ℕ
    pub tells : Tells (log_in s) i q (told.Message m) ask teller moment
    pub serves : Serves s.policy.now (log_in s) ask teller z
    pub above : is_above z (walk q) ≡ true
    pub answers : is_answer q m ≡ true
    pub class : class_of (told.Message m) q ≡ Some (Positive m)

  pub heard_answer : {i moment : ℕ} {q : Query} {o : ToldOutcome} {z : DomainName} (m : Message) → Heard s.policy.now (log_in s) i q o moment z → class_of o q ≡ Some (Positive m) → AnsweredBy i q m z
  heard_answer m (heard {i = i} {ask = ask} {moment = moment} {q = q} {o = o} {teller = teller} t x a) e =
      let is = class_of-positive o q m e in
      let class = ap (λ (x : ToldOutcome). class_of x q) (sym is) ∙ e in
      record {
        ask = ask;
        teller = teller;
        moment = moment;
        tells = subst (λ (x : ToldOutcome). Tells (log_in s) i q x ask teller moment) is t;
        serves = x;
        above = a;
        answers = class-is_answer q m m cc;
        class = class;
      }

  -- an entry tells one outcome, of one ask, by one teller
  pub record SameTelling (m other : Message) (n before : ℕ) (ip another : IpAddr) : Type 0 where
    pub message : other ≡ m
    pub ask : before ≡ n
    pub teller : another ≡ ip

  pub one_telling : {i ask before moment later : ℕ} {q : Query} {m other : Message} {teller another : IpAddr}
      → Tells (log_in s) i q (told.Message m) ask teller moment → Tells (log_in s) i q (told.Message other) before another later → SameTelling m other ask before teller another
  one_telling {ask = ask} {before = before} {teller = teller} {another = another} t u =
      let x = t.told.is in
      let y = u.told.is in
      let asks : before ≡ ask = cc in
      let v = subst (λ (n : ℕ). numbered s.log.now n ≡ Some (Asked another u.protocol u.asked u.asked_at None)) asks u.question.is in
      let w = t.question.is in
      record { message = cc; ask = asks; teller = cc }

  -- ---- delegations

  pub none_listed : (i n : ℕ) (ip : IpAddr) (zone : List (List ℕ))
      → ((ask moment : ℕ) (teller : IpAddr) (m : Message) → Tells (log_in s) i (asks zone 2 1) (told.Message m) ask teller moment → is_answer (asks zone 2 1) m ≡ true → ⊥)
      → ListedBy s.policy.now (log_in s) i n ip (apex zone) → ⊥
  none_listed i n ip zone none (listed_by {z = z} {o = o} {k = k} h v d l) =
      let counts = verdict-pos s.policy.now o (asks zone 2 1) z k v in
      let by = heard_answer counts.message h counts.class in
      none by.ask by.moment by.teller counts.message by.tells by.answers

  -- at the zone that lies behind a cut
  pub listed_from : (i n ask moment : ℕ) (ip teller : IpAddr) (zone : List (List ℕ)) (m : Message) → Tells (log_in s) i (asks zone 2 1) (told.Message m) ask teller moment
      → ListedBy s.policy.now (log_in s) i n ip (apex zone) → (k : ℕ) × (k < length zone + 1) × ListedFrom s.policy.now (log_in s) ask teller s.policy.now.answer_filter (drop k zone) m n ip (apex zone)
  listed_from i n ask moment ip teller zone m t (listed_by {z = z} {o = o} {k = k} h v d l) =
      let q = asks zone 2 1 in
      let counts = verdict-pos s.policy.now o q z k v in
      let by = heard_answer counts.message h counts.class in
      let one = one_telling t by.tells in
      let cut : (n : ℕ) × (n < length zone + 1) × (same_names z (apex (drop n zone)) ≡ true) = cut_of z zone by.above in
      let serves = Serves-zone (apex (drop cut.0 zone)) cut.2 (subst (λ (n : ℕ). Serves s.policy.now (log_in s) n by.teller z) one.ask by.serves) in
      let at = subst (λ (x : ToldOutcome). verdict s.policy.now x q (apex (drop cut.0 zone)) ≡ Some (Pos k)) counts.told (sym (verdict-zone z (apex (drop cut.0 zone)) cut.2 s.policy.now o q) ∙ v) in
      let told_so = subst (λ (x : Message). (counts_of s.policy.now.answer_filter (drop cut.0 zone) x ≡ true) × (k ≡ left_of s.policy.now.answer_filter (drop cut.0 zone) x)) one.message (verdict-counts q counts.message k (drop cut.0 zone) by.class at) in (
        cut.0,
        cut.1,
        record {
          serves = subst (λ (x : IpAddr). Serves s.policy.now (log_in s) ask x (apex (drop cut.0 zone))) one.teller serves;
          counts = told_so.0;
          delegates = subst (λ (x : Message). is_delegation x (apex zone) ≡ true) told_so.1 d;
          lists = subst (λ (x : Message). Lists s.policy.now (log_in s) n ip (apex zone) x) told_so.1 l;
        },
      )

  pub from_listed : (i n ask moment k : ℕ) (ip teller : IpAddr) (zone : List (List ℕ)) (m : Message) → Tells (log_in s) i (asks zone 2 1) (told.Message m) ask teller moment → is_answer (asks zone 2 1) m ≡ true
      → k < length zone + 1 → ListedFrom s.policy.now (log_in s) ask teller s.policy.now.answer_filter (drop k zone) m n ip (apex zone) → ListedBy s.policy.now (log_in s) i n ip (apex zone)
  from_listed i n ask moment k ip teller zone m t e h f =
      listed_by (heard t f.serves (cut_above zone k h)) (counts-verdict (asks zone 2 1) m (drop k zone) e f.counts) f.delegates f.lists

  pub to_serves : {i n : ℕ} {ip : IpAddr} {c : DomainName} → is_root c ≡ false → denies s.policy.now.server_filter ip ≡ false → i < n → ListedBy s.policy.now (log_in s) i n ip c → Serves s.policy.now (log_in s) n ip c
  to_serves r a i (listed_by h v d (beside g)) = of_glue (delegates i h v d r) a g
  to_serves r a i (listed_by h v d (for_server t (gives q j (under x w g)))) = of_target (delegates i h v d r) a t q j x w g
  to_serves r a i (listed_by h v d (for_server t (gives q j (anywhere x p f g y)))) = of_answer (delegates i h v d r) a t q j x p f g y

  pub record IsListed (n : ℕ) (ip : IpAddr) (c : DomainName) : Type 0 where
    pub i : ℕ
    pub below : i < n
    pub allowed : denies s.policy.now.server_filter ip ≡ false
    pub listed : ListedBy s.policy.now (log_in s) i n ip c

  pub of_serves : {n : ℕ} {ip : IpAddr} {c : DomainName} → is_root c ≡ false → Serves s.policy.now (log_in s) n ip c → IsListed n ip c
  of_serves e (of_root r) = cc
  of_serves e (of_glue (delegates {i = i} h v x d r) a g) = record { i = i; below = h; allowed = a; listed = listed_by v x d (beside g) }
  of_serves e (of_target (delegates {i = i} h v x d r) a t q j y w g) = record { i = i; below = h; allowed = a; listed = listed_by v x d (for_server t (gives q j (under y w g))) }
  of_serves e (of_answer (delegates {i = i} h v x d r) a t q j y p f g z) = record { i = i; below = h; allowed = a; listed = listed_by v x d (for_server t (gives q j (anywhere y p f g z))) }

  pub root_serves : {n : ℕ} {ip : IpAddr} {c : DomainName} → is_root c ≡ true → Serves s.policy.now (log_in s) n ip c → Contains s.policy.now.roots ip
  root_serves e (of_root r) = r
  root_serves e (of_glue (delegates h v x d r) a g) = cc
  root_serves e (of_target (delegates h v x d r) a t q j y w g) = cc
  root_serves e (of_answer (delegates h v x d r) a t q j y p f g z) = cc

  -- ---- answers to questions for addresses

  pub none_given : (j ty : ℕ) (ip : IpAddr) (names : List DomainName) (labels : List (List ℕ))
      → ((ask moment : ℕ) (teller : IpAddr) (m : Message) → Tells (log_in s) j (asks labels ty 1) (told.Message m) ask teller moment → is_answer (asks labels ty 1) m ≡ true → ⊥)
      → AnswerGives s.policy.now (log_in s) j ip names (asks labels ty 1) → ⊥
  none_given j ty ip names labels none (under {o = o} {z = z} {answer = k} h v g) =
      let counts = verdict-pos s.policy.now o (asks labels ty 1) z k v in
      let by = heard_answer counts.message h counts.class in
      none by.ask by.moment by.teller counts.message by.tells by.answers
  none_given j ty ip names labels none (anywhere {m = m} h p f g y) =
      let by = heard_answer m h p in
      none by.ask by.moment by.teller m by.tells by.answers

  or_left : (a b : Bool) → a ≡ true → (a || b) ≡ true
  or_left true b h = refl
  or_left false b h = cc

  or_right : (a b : Bool) → b ≡ true → (a || b) ≡ true
  or_right true b h = refl
  or_right false b h = h

  either : (a b : Bool) → (a || b) ≡ true → (a ≡ true) ⊎ (b ≡ true)
  either true b h = inl refl
  either false b h = inr h

  -- the walk of an address question is to its name
  plain_walk : (labels : List (List ℕ)) (ty : ℕ) (z : DomainName) → (ty == 43) ≡ false → is_above z (walk (asks labels ty 1)) ≡ is_above z (apex labels)
  plain_walk labels ty z e = ap (λ (b : Bool). is_above z (cond b (base (apex labels)) (apex labels))) e

  pub given_from : (j ask moment ty : ℕ) (ip teller : IpAddr) (labels : List (List ℕ)) (m delegation : Message) (c : DomainName) → (ty == 43) ≡ false
      → Tells (log_in s) j (asks labels ty 1) (told.Message m) ask teller moment → AnswerGives s.policy.now (log_in s) j ip (targets delegation c) (asks labels ty 1)
      → (k : ℕ) × (k < length labels + 1) × GivenFrom s.policy.now (log_in s) ask teller s.policy.now.answer_filter (drop k labels) m delegation c ip
  given_from j ask moment ty ip teller labels m delegation c plain t (under {o = o} {z = z} {answer = k} h v g) =
      let q = asks labels ty 1 in
      let counts = verdict-pos s.policy.now o q z k v in
      let by = heard_answer counts.message h counts.class in
      let one = one_telling t by.tells in
      let cut : (n : ℕ) × (n < length labels + 1) × (same_names z (apex (drop n labels)) ≡ true) = cut_of z labels (sym (plain_walk labels ty z plain) ∙ by.above) in
      let serves = Serves-zone (apex (drop cut.0 labels)) cut.2 (subst (λ (n : ℕ). Serves s.policy.now (log_in s) n by.teller z) one.ask by.serves) in
      let at = subst (λ (x : ToldOutcome). verdict s.policy.now x q (apex (drop cut.0 labels)) ≡ Some (Pos k)) counts.told (sym (verdict-zone z (apex (drop cut.0 labels)) cut.2 s.policy.now o q) ∙ v) in
      let told_so = subst (λ (x : Message). (counts_of s.policy.now.answer_filter (drop cut.0 labels) x ≡ true) × (k ≡ left_of s.policy.now.answer_filter (drop cut.0 labels) x)) one.message (verdict-counts q counts.message k (drop cut.0 labels) by.class at) in (
        cut.0,
        cut.1,
        record {
          serves = subst (λ (x : IpAddr). Serves s.policy.now (log_in s) ask x (apex (drop cut.0 labels))) one.teller serves;
          gives = or_left _ _ (join _ _ told_so.0 (test-under delegation c ip (records (left_of s.policy.now.answer_filter (drop cut.0 labels) m)) (subst (λ (x : Message). Contains (addresses_under (targets delegation c) (records x)) ip) told_so.1 g)));
        },
      )
  given_from j ask moment ty ip teller labels m delegation c plain t (anywhere {z = z} {m = other} h p f g y) =
      let q = asks labels ty 1 in
      let by = heard_answer other h p in
      let one = one_telling t by.tells in
      let cut : (n : ℕ) × (n < length labels + 1) × (same_names z (apex (drop n labels)) ≡ true) = cut_of z labels (sym (plain_walk labels ty z plain) ∙ by.above) in
      let serves = Serves-zone (apex (drop cut.0 labels)) cut.2 (subst (λ (n : ℕ). Serves s.policy.now (log_in s) n by.teller z) one.ask by.serves) in
      let has = subst (λ (x : Message). has_in_answers s.policy.now.answer_filter x ip ≡ true) one.message (join _ _ (join _ _ (false_not _ f) (false_not _ y)) (test-answers ip other.answers g)) in (
        cut.0,
        cut.1,
        record {
          serves = subst (λ (x : IpAddr). Serves s.policy.now (log_in s) ask x (apex (drop cut.0 labels))) one.teller serves;
          gives = or_right _ _ has;
        },
      )

  pub from_given : (j ask moment ty k : ℕ) (ip teller : IpAddr) (labels : List (List ℕ)) (m delegation : Message) (c : DomainName) → (ty == 43) ≡ false
      → Tells (log_in s) j (asks labels ty 1) (told.Message m) ask teller moment → is_answer (asks labels ty 1) m ≡ true → k < length labels + 1
      → GivenFrom s.policy.now (log_in s) ask teller s.policy.now.answer_filter (drop k labels) m delegation c ip → AnswerGives s.policy.now (log_in s) j ip (targets delegation c) (asks labels ty 1)
  from_given j ask moment ty k ip teller labels m delegation c plain t e h f =
      let at = plain_walk labels ty (apex (drop k labels)) plain ∙ cut_above labels k h in
      elim (either _ _ f.gives) [
        | inl a ↦ let parts = split _ _ a in
            under (heard t f.serves at) (counts-verdict (asks labels ty 1) m (drop k labels) e parts.0) (under-test delegation c ip (records (left_of s.policy.now.answer_filter (drop k labels) m)) parts.1)
        | inr a ↦ let parts = split _ _ a in let left = split _ _ parts.0 in
            anywhere (heard t f.serves at) (is_answer-class (asks labels ty 1) m e) (not_false _ left.0) (answers-test ip m.answers parts.1) (not_false _ left.1)
      ]

  -- ---- servers of a delegation

  filtered_Has : {X : Type 0} (p : X → Bool) (xs : List X) (x : X) → Has xs x → p x ≡ true → Has (filter p xs) x
  filtered_Has p [] x h e = elim h [ ]
  filtered_Has {X} p (y ∷ xs) x (inl is) e = rw (ap p is ∙ e) (inl is)
  filtered_Has {X} p (y ∷ xs) x (inr h) e = at_head (p y) (filtered_Has p xs x h e)
    where
      at_head : (b : Bool) → Has (filter p xs) x → Has (cond b (y ∷ filter p xs) (filter p xs)) x
      at_head true k = inr k
      at_head false k = k

  -- the record is in a section of the message
  abbrev pub InSection : Message → Record → Type 0
  InSection m r = Has m.answers r ⊎ (Has m.authorities r ⊎ Has m.additionals r)

  section_record : (k : Kept) (r : Record) → InSection k.message.now r → passes k r ≡ true → Has (records (kept k)) r
  section_record k r h e =
      let parts = split _ _ e in
      let d : Record → Bool = λ x. not (holds_denied (denies k.denied.now) x) in
      let z : Record → Bool = is_in_bailiwick (apex k.zone.now) in
      let a = filter z (filter d k.message.now.answers) in
      let u = filter z (filter d k.message.now.authorities) in
      let x = filter z (filter d k.message.now.additionals) in
      elim h [
        | inl g ↦ Has-append_left (a ++ u) x r (Has-append_left a u r (filtered_Has z _ r (filtered_Has d _ r g parts.0) parts.1))
        | inr (inl g) ↦ Has-append_left (a ++ u) x r (Has-append_right a u r (filtered_Has z _ r (filtered_Has d _ r g parts.0) parts.1))
        | inr (inr g) ↦ Has-append_right (a ++ u) x r (filtered_Has z _ r (filtered_Has d _ r g parts.0) parts.1)
      ]

  both_pass : (k : Kept) (xs : List Record) (r : Record) → Has (filter (is_in_bailiwick (apex k.zone.now)) (filter (λ x. not (holds_denied (denies k.denied.now) x)) xs)) r → Has xs r × (passes k r ≡ true)
  both_pass k xs r h =
      let d : Record → Bool = λ x. not (holds_denied (denies k.denied.now) x) in
      let g = Has-filter (is_in_bailiwick (apex k.zone.now)) (filter d xs) r h in
      (Has-filter d xs r g, join _ _ (Has-passes d xs r g) (Has-passes (is_in_bailiwick (apex k.zone.now)) (filter d xs) r h))

  record_section : (k : Kept) (r : Record) → Has (records (kept k)) r → InSection k.message.now r × (passes k r ≡ true)
  record_section k r h =
      let d : Record → Bool = λ x. not (holds_denied (denies k.denied.now) x) in
      let z : Record → Bool = is_in_bailiwick (apex k.zone.now) in
      let a = filter z (filter d k.message.now.answers) in
      let u = filter z (filter d k.message.now.authorities) in
      let x = filter z (filter d k.message.now.additionals) in
      elim (Has-append_cases (a ++ u) x r h) [
        | inl g ↦ (elim (Has-append_cases a u r g) [
          | inl f ↦ let p = both_pass k k.message.now.answers r f in (inl p.0, p.1)
          | inr f ↦ let p = both_pass k k.message.now.authorities r f in (inr (inl p.0), p.1)
        ])
        | inr f ↦ let p = both_pass k k.message.now.additionals r f in (inr (inr p.0), p.1)
      ]

  pub from_server : (n : ℕ) (ip : IpAddr) (c : DomainName) (k : Kept) (r : Record) → InSection k.message.now r → ServerGives s.policy.now (log_in s) n ip c k r → Lists s.policy.now (log_in s) n ip c (kept k)
  from_server n ip c k r h g = for_server {t = g.target} (Contains-from_Has _ g.target (filter_map-Has (target_below (base c)) (records (kept k)) r g.target (section_record k r h g.left) g.names)) g.gives

  -- beside it, or by a record of one of its sections
  pub data ListsBy (n : ℕ) (ip : IpAddr) (c : DomainName) (k : Kept) : Type 0 where
    by_glue : list_any (holds_for (kept k) (base c) ip) (records (kept k)) ≡ true → ListsBy n ip c k
    by_record : {r : Record} → InSection k.message.now r → ServerGives s.policy.now (log_in s) n ip c k r → ListsBy n ip c k

  pub lists_by : (n : ℕ) (ip : IpAddr) (c : DomainName) (k : Kept) → Lists s.policy.now (log_in s) n ip c (kept k) → ListsBy n ip c k
  lists_by n ip c k (beside g) = by_glue (test-under (kept k) c ip (records (kept k)) g)
  lists_by n ip c k (for_server {t = t} h g) =
      let r : (x : Record) × Has (records (kept k)) x × (target_below (base c) x ≡ Some t) = Has-filter_map (target_below (base c)) (records (kept k)) t (Has-from_Contains _ t h) in
      let at = record_section k r.0 r.1 in
      by_record at.0 (record { left = at.1; target = t; names = r.2; gives = g })

  -- ---- what the loops left

  pub record IsGiven (n : ℕ) (ip : IpAddr) (names : List DomainName) (t : DomainName) : Type 0 where
    pub j : ℕ
    pub q : Query
    pub asked : IsAddressQuestion t q
    pub below : j < n
    pub given : AnswerGives s.policy.now (log_in s) j ip names q

  pub is_given : {n : ℕ} {ip : IpAddr} {names : List DomainName} {t : DomainName} → TargetGives s.policy.now (log_in s) n ip names t → IsGiven n ip names t
  is_given (gives {j = j} {q = q} a h g) = record { j = j; q = q; asked = a; below = h; given = g }

  heard_above : {j moment : ℕ} {q : Query} {o : ToldOutcome} {z : DomainName} → Heard s.policy.now (log_in s) j q o moment z → (w : DomainName) × (is_above w (walk q) ≡ true)
  heard_above {z = z} (heard t x a) = (z, a)

  given_above : {j : ℕ} {ip : IpAddr} {names : List DomainName} {q : Query} → AnswerGives s.policy.now (log_in s) j ip names q → (w : DomainName) × (is_above w (walk q) ≡ true)
  given_above (under h v g) = heard_above h
  given_above (anywhere h p f g y) = heard_above h

  qualified_below : (w t : DomainName) → is_above w t ≡ true → t.fqdn ≡ true
  qualified_below w t e = (split _ _ ((split _ _ e).0)).1

  -- a server whose name is not fully qualified was not asked for
  pub is_qualified : {n : ℕ} {ip : IpAddr} {names : List DomainName} (t : DomainName) → TargetGives s.policy.now (log_in s) n ip names t → t.fqdn ≡ true
  is_qualified t (gives {q = q} a h g) =
      let w : (w : DomainName) × (is_above w (walk q) ≡ true) = given_above g in
      elim a [
        | inl e ↦ qualified_below w.0 t (ap (λ (x : Query). is_above w.0 (walk x)) (sym e) ∙ w.1)
        | inr e ↦ qualified_below w.0 t (ap (λ (x : Query). is_above w.0 (walk x)) (sym e) ∙ w.1)
      ]

pub served_qualified : (s : Setting) {n : ℕ} {ip : IpAddr} (c : DomainName) → Serves s.policy.now (log_in s) n ip c → c.fqdn ≡ true
served_qualified s c (of_root r) = refl
served_qualified s c (of_glue (delegates i (heard {z = z} t x a) v d r) b g) = qualified_below s z c a
served_qualified s c (of_target (delegates i (heard {z = z} t x a) v d r) b m q j h w g) = qualified_below s z c a
served_qualified s c (of_answer (delegates i (heard {z = z} t x a) v d r) b m q j h p f g y) = qualified_below s z c a

pub apex-labels : (n : DomainName) → n.fqdn ≡ true → apex n.labels ≡ n
apex-labels n e = ap (λ (f : Bool). let m : DomainName = record { labels = n.labels; fqdn = f } in m) (sym e)

pub as_question : (t : DomainName) (ty : ℕ) → t.fqdn ≡ true → asks t.labels ty 1 ≡ question t ty
as_question t ty e = ap (λ (f : Bool). let q : Query = question (record { labels = t.labels; fqdn = f }) ty in q) (sym e)

pub is_empty_list : {X : Type 0} (xs : List X) → (length xs == 0) ≡ true → xs ≡ []
is_empty_list [] e = refl
is_empty_list (x ∷ xs) e = absurd (apart (length xs) e)
  where
    apart : (n : ℕ) → (suc n == 0) ≡ true → ⊥
    apart n e = grind (arith, nat_tests)

pub target_found : (b : Bool) (o : Option DomainName) (t : DomainName) → Some t ≡ cond b o None → (b ≡ true) × (o ≡ Some t)
target_found true o t e = (refl, sym e)
target_found false o t e = cc

pub last_or_below : (k n : ℕ) → k < n + 1 → (k < n) ⊎ (k ≡ n)
last_or_below k n h = elim (cases_lt k n) [ inl a ↦ inl a | inr b ↦ inr (omega arith) ]

pub get_or-in_range : {X : Type 0} (xs : List X) (i : ℕ) (d e : X) → i < length xs → get_or xs i d ≡ get_or xs i e
get_or-in_range [] i d e h = absurd (omega arith)
get_or-in_range (x ∷ xs) zero d e h = refl
get_or-in_range (x ∷ xs) (suc i) d e h = get_or-in_range xs i d e (omega arith)

pub clash : (b : Bool) → b ≡ true → b ≡ false → ⊥
clash b e f = cc
