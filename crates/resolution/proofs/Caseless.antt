-- What is said of a question is said of it in any case.
use Rattle.std.proofs.Common.{◌≡◌, ℕ, suc, ◌-◌, ◌≤◌, Bool, true, false, ◌&&◌, List, [], ◌∷◌, length, drop, refl, ap, subst, ◌∙◌, sym, cond, Option, Some, None}
use Rattle.std.specs.Prelude.{Result, Ok, Err, IsSomeAnd, ◌⊎◌, ◌*◌, ◌+◌, nat_le, not, ◌||◌, ◌==◌, find, if◌then◌else◌}
use Rattle.std.specs.List.{list_any}
use Rattle.std.specs.Bool.{beq}
use Rattle.std.specs.declared.net.ip_addr.IpAddr.{IpAddr}
use Rattle.std.specs.Cmp.{IsEquivalence, first_so, second_so, booleans_Decides, unsigned_Decides}
use Rattle.std.specs.Cmp.Lexicographic.{pointwise}
use Rattle.dns_core.specs.Letters.{same_letter}
use Rattle.dns_core.specs.Name.{DomainName, same_names, same_labels, is_suffix}
use Rattle.dns_core.specs.NameLaws.{same_names_equiv}
use Rattle.dns_core.specs.Classifying.{is_asked, no_records}
use Rattle.dns_core.specs.Log.{Log}
use Rattle.dns_core.specs.declared.codes.RecordType.{RecordType}
use Rattle.dns_core.specs.declared.message.Query.{Query}
use Rattle.dns_core.specs.declared.message.Message.{Message}
use Rattle.dns_core.specs.declared.record.Record.{Record}
use Rattle.dns_core.specs.declared.net_error.DnsError.{DnsError}
use Rattle.dns_core.specs.declared.net_error.DnsError.TheVariants as dns
use Rattle.dns_core.specs.declared.log.ToldOutcome.{ToldOutcome}
use Rattle.dns_core.specs.declared.log.ToldOutcome.TheVariants as outcome
use Rattle.resolver_settings.specs.Access.{denies}
use Rattle.resolution.specs.Names.{is_above, base, walk, same_query}
use Rattle.resolution.specs.Records.{records}
use Rattle.resolution.specs.Class.{class_of_message, class_of_classified, class_of}
use Rattle.recursor_types.specs.declared.policy.Policy.{Policy}
use Rattle.resolution.specs.Verdict.{verdict, verdict_of_told}
use Rattle.resolution.specs.Life.{life_in_seconds}
use Rattle.resolution.specs.Telling.{Tells}
use Rattle.resolution.specs.Serving.{Heard}
use Rattle.resolution.specs.Serving.Heard.{heard}
use Rattle.resolution.specs.Answering.{Base}
use Rattle.resolution.specs.declared.class.Class.{Class}
use Rattle.resolution.specs.declared.class.Class.TheVariants.{Code, Truncated, Negative, Foreign, Positive}
use Rattle.resolution.specs.declared.verdict.Verdict.{Verdict}
use Rattle.resolution.proofs.AboveIsAnOrder.{labels_equiv, pointwise-drop}

-- equal tests
pub alike : {A : Type 0} (E : A → A → Bool) → IsEquivalence E → (a b n : A) → E a b ≡ true → E n a ≡ E n b
alike E laws a b n e = laws.symm n a ∙ laws.congr a b n e ∙ laws.symm b n

pub length-same : {X : Type 0} (E : X → X → Bool) (xs ys : List X) → pointwise E xs ys ≡ true → length xs ≡ length ys
length-same E [] [] h = refl
length-same E [] (y ∷ ys) h = cc
length-same E (x ∷ xs) [] h = cc
length-same E (x ∷ xs) (y ∷ ys) h = ap suc (length-same E xs ys (second_so (E x y) (pointwise E xs ys) h))

is_suffix-same : (z a b : List (List ℕ)) → same_labels a b ≡ true → is_suffix z a ≡ is_suffix z b
is_suffix-same z a b e =
    let n = length-same (pointwise same_letter) a b e in
    let dropped = alike same_labels labels_equiv _ _ z (pointwise-drop (pointwise same_letter) (length a - length z) a b e) in
    ap (λ (t : Bool). nat_le (length z) (length a) && t) dropped ∙ ap (λ (k : ℕ). nat_le (length z) k && same_labels z (drop (k - length z) b)) n

pub flags : (a b : DomainName) → same_names a b ≡ true → a.fqdn ≡ b.fqdn
flags a b e = (booleans_Decides a.fqdn b.fqdn).0 (second_so (same_labels a.labels b.labels) (beq a.fqdn b.fqdn) e)

pub labels_same : (a b : DomainName) → same_names a b ≡ true → same_labels a.labels b.labels ≡ true
labels_same a b e = first_so (same_labels a.labels b.labels) _ e

pub is_above-same : (z a b : DomainName) → same_names a b ≡ true → is_above z a ≡ is_above z b
is_above-same z a b e =
    ap (λ (f : Bool). z.fqdn && f && is_suffix z.labels a.labels) (flags a b e)
    ∙ ap (λ (t : Bool). z.fqdn && b.fqdn && t) (is_suffix-same z.labels a.labels b.labels (labels_same a b e))

pub both : (s t : Bool) → s ≡ true → t ≡ true → (s && t) ≡ true
both true t p q = q
both false t p q = p

pub base-same : (a b : DomainName) → same_names a b ≡ true → same_names (base a) (base b) ≡ true
base-same a b e = both _ _ (pointwise-drop (pointwise same_letter) 1 a.labels b.labels (labels_same a b e)) (second_so (same_labels a.labels b.labels) _ e)

module _ (q p : Query) (e : same_query q p ≡ true) where
  pub names_same : same_names q.name p.name ≡ true
  names_same = first_so (same_names q.name p.name) _ (first_so (same_names q.name p.name && q.query_type.code == p.query_type.code) _ e)

  pub types_same : q.query_type ≡ p.query_type
  types_same = ap (λ (n : ℕ). let t : RecordType = record { code = n } in t) ((unsigned_Decides q.query_type.code p.query_type.code).0 (second_so (same_names q.name p.name) _ (first_so (same_names q.name p.name && q.query_type.code == p.query_type.code) _ e)))

  classes_same : q.query_class.code ≡ p.query_class.code
  classes_same = (unsigned_Decides q.query_class.code p.query_class.code).0 (second_so (same_names q.name p.name && q.query_type.code == p.query_type.code) _ e)

  is_asked-same : is_asked q ≡ is_asked p
  is_asked-same i r = (ap (λ (t : RecordType). r.record_type.code == t.code && same_names r.name q.name) types_same ∙ ap (λ (t : Bool). r.record_type.code == p.query_type.code && t) (alike same_names same_names_equiv q.name p.name r.name names_same)) i

  pub class_of_message-same : (m : Message) → class_of_message m q ≡ class_of_message m p
  class_of_message-same m =
      let F : (Record → Bool) → ℕ → Class = λ asked c.
      if not (m.response_code.code == 0 || m.response_code.code == 3) then Code m.response_code else (
      if m.truncation then Truncated else (
      if length m.answers == 0 && not (list_any asked m.authorities) && not (list_any asked m.additionals) then Negative (no_records m) else
      elim (find (λ r. not (r.dns_class.code == c)) (records m)) [ Some r ↦ Foreign r | None ↦ Positive m ])) in
      ap (λ (asked : Record → Bool). F asked q.query_class.code) is_asked-same ∙ ap (λ (c : ℕ). F (is_asked p) c) classes_same

  pub classified-same : (r : Result Message DnsError) → class_of_classified q r ≡ class_of_classified p r
  classified-same (Err (dns.ResponseCode code)) = refl
  classified-same (Err (dns.NoRecordsFound found)) = refl
  classified-same (Ok m) = ap (λ (c : ℕ). let class : Class = if m.truncation then Truncated else elim (find (λ r. not (r.dns_class.code == c)) (records m)) [ Some r ↦ Foreign r | None ↦ Positive m ] in class) classes_same

  pub class_of-same : (o : ToldOutcome) → class_of o q ≡ class_of o p
  class_of-same outcome.Connected = refl
  class_of-same (outcome.Message m) = ap Some (class_of_message-same m)
  class_of-same (outcome.Error f) = refl

  pub walk-same : (z : DomainName) → is_above z (walk q) ≡ is_above z (walk p)
  walk-same z = ap (λ (t : RecordType). is_above z (if t.code == 43 then base q.name else q.name)) types_same ∙ chosen (p.query_type.code == 43)
    where
      chosen : (b : Bool) → is_above z (cond b (base q.name) q.name) ≡ is_above z (cond b (base p.name) p.name)
      chosen true = is_above-same z (base q.name) (base p.name) (base-same q.name p.name names_same)
      chosen false = is_above-same z q.name p.name names_same

  pub verdict-same : (policy : Policy) (o : ToldOutcome) (z : DomainName) → verdict policy o q z ≡ verdict policy o p z
  verdict-same policy o z = ap (λ (c : Option Class). verdict_of_told (denies policy.answer_filter) c z) (class_of-same o)

  pub same_through : (a : Query) → same_query a q ≡ true → same_query a p ≡ true
  same_through a h =
      let n = first_so (same_names a.name q.name) _ (first_so (same_names a.name q.name && a.query_type.code == q.query_type.code) _ h) in
      let t = second_so (same_names a.name q.name) _ (first_so (same_names a.name q.name && a.query_type.code == q.query_type.code) _ h) in
      let c = second_so (same_names a.name q.name && a.query_type.code == q.query_type.code) _ h in
      both (same_names a.name p.name && a.query_type.code == p.query_type.code) (a.query_class.code == p.query_class.code)
      (both (same_names a.name p.name) (a.query_type.code == p.query_type.code)
      (sym (alike same_names same_names_equiv q.name p.name a.name names_same) ∙ n)
      (sym (ap (λ (x : RecordType). a.query_type.code == x.code) types_same) ∙ t))
      (sym (ap (λ (x : ℕ). a.query_class.code == x) classes_same) ∙ c)

  pub Tells-same : {log : Log} {i : ℕ} {o : ToldOutcome} {ask : ℕ} {teller : IpAddr} {moment : ℕ} → Tells log i q o ask teller moment → Tells log i p o ask teller moment
  Tells-same t = record { protocol = t.protocol; asked = t.asked; asked_at = t.asked_at; told = t.told; question = t.question; before = t.before; same = same_through t.asked t.same }

  pub Heard-same : {policy : Policy} {log : Log} {i : ℕ} {o : ToldOutcome} {moment : ℕ} {z : DomainName} → Heard policy log i q o moment z → Heard policy log i p o moment z
  Heard-same {z = z} (heard t s a) = heard (Tells-same t) s (sym (walk-same z) ∙ a)

  pub Base-same : {policy : Policy} {log : Log} {t0 i : ℕ} {z : DomainName} {v : Verdict} → Base policy log t0 q i z v → Base policy log t0 p i z v
  Base-same {policy = policy} {t0 = t0} {z = z} {v = v} b = record {
    told = b.told;
    moment = b.moment;
    heard = Heard-same b.heard;
    counts = sym (verdict-same policy b.told z) ∙ b.counts;
    fresh = subst (λ (t : RecordType). (t0 ≤ b.moment) ⊎ IsSomeAnd (life_in_seconds policy t v) (λ life. t0 ≤ b.moment + 1000000 * life)) types_same b.fresh;
  }
