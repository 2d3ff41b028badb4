-- What is said of a zone is said of it in any case.
use Rattle.std.proofs.Common.{◌≡◌, ℕ, Bool, true, ◌&&◌, List, [], ◌∷◌, length, refl, ap, subst, ◌∙◌, sym, Option, Some, None}
use Rattle.std.specs.Prelude.{nat_le, ◌==◌, filter, if◌then◌else◌, Contains}
use Rattle.std.specs.List.{list_any, filter_map}
use Rattle.std.specs.declared.net.ip_addr.IpAddr.{IpAddr}
use Rattle.std.specs.Cmp.Lexicographic.{pointwise}
use Rattle.dns_core.specs.Letters.{same_letter}
use Rattle.dns_core.specs.Name.{DomainName, same_names, same_labels, is_suffix, last_labels}
use Rattle.dns_core.specs.NameLaws.{same_names_equiv}
use Rattle.dns_core.specs.Classifying.{is_ns}
use Rattle.dns_core.specs.Log.{Log}
use Rattle.dns_core.specs.declared.message.Query.{Query}
use Rattle.dns_core.specs.declared.message.Message.{Message}
use Rattle.dns_core.specs.declared.record.Record.{Record}
use Rattle.dns_core.specs.declared.net_error.NoRecords.{NoRecords}
use Rattle.dns_core.specs.declared.log.ToldOutcome.{ToldOutcome}
use Rattle.resolver_settings.specs.Access.{denies}
use Rattle.resolution.specs.Names.{root, is_root, is_above, base, walk, question, same_query}
use Rattle.resolution.specs.Records.{records, ns_target, only}
use Rattle.resolution.specs.Class.{class_of}
use Rattle.recursor_types.specs.declared.policy.Policy.{Policy}
use Rattle.resolution.specs.Verdict.{verdict, verdict_of_told, verdict_of_class, is_in_bailiwick, if_in_bailiwick, is_all_denied, without_denied, is_emptied}
use Rattle.resolution.specs.Serving.{Serves, Delegates, Heard, targets, target_below, is_delegation, addresses_under}
use Rattle.resolution.specs.Serving.Serves.{of_root, of_glue, of_target, of_answer}
use Rattle.resolution.specs.Serving.Delegates.{delegates}
use Rattle.resolution.specs.Serving.Heard.{heard}
use Rattle.resolution.specs.Answering.{Base}
use Rattle.resolution.specs.declared.class.Class.{Class}
use Rattle.resolution.specs.declared.class.Class.TheVariants.{Error, Code, Truncated, Negative, Foreign, Positive}
use Rattle.resolution.specs.declared.verdict.Verdict.{Verdict}
use Rattle.resolution.specs.declared.verdict.Verdict.TheVariants.{Pos, Neg, Made}
use Rattle.resolution.specs.declared.verdict.Cause.TheVariants.{Filter, Zone}
use Rattle.resolution.proofs.AboveIsAnOrder.{labels_equiv}
use Rattle.resolution.proofs.Caseless.{alike, length-same, flags, labels_same, base-same, both, Heard-same, verdict-same}

suffix_of-same : (a b n : List (List ℕ)) → same_labels a b ≡ true → is_suffix a n ≡ is_suffix b n
suffix_of-same a b n e =
    let len = length-same (pointwise same_letter) a b e in
    ap (λ (t : Bool). nat_le (length a) (length n) && t) (labels_equiv.congr a b (last_labels (length a) n) e)
    ∙ ap (λ (k : ℕ). nat_le k (length n) && same_labels b (last_labels k n)) len

pub above-same : (a b n : DomainName) → same_names a b ≡ true → is_above a n ≡ is_above b n
above-same a b n e =
    ap (λ (f : Bool). f && n.fqdn && is_suffix a.labels n.labels) (flags a b e)
    ∙ ap (λ (t : Bool). b.fqdn && n.fqdn && t) (suffix_of-same a.labels b.labels n.labels (labels_same a b e))

no_labels : (ls : List (List ℕ)) → same_labels [] ls ≡ true → ls ≡ []
no_labels [] e = refl
no_labels (l ∷ ls) e = cc

-- the root has one spelling
pub root_alone : (d : DomainName) → same_names root d ≡ true → root ≡ d
root_alone d e =
    ap (λ (ls : List (List ℕ)). let n : DomainName = record { labels = ls; fqdn = true } in n) (sym (no_labels d.labels (labels_same root d e)))
    ∙ ap (λ (f : Bool). let n : DomainName = record { labels = d.labels; fqdn = f } in n) (flags root d e)

module _ (c d : DomainName) (e : same_names c d ≡ true) where
  in_zone-same : is_in_bailiwick c ≡ is_in_bailiwick d
  in_zone-same i r = above-same c d r.name e i

  if_in_zone-same : (o : Option Record) → if_in_bailiwick c o ≡ if_in_bailiwick d o
  if_in_zone-same None = refl
  if_in_zone-same (Some r) = ap (λ (b : Bool). if b then Some r else None) (above-same c d r.name e)

  of_class : (denied : IpAddr → Bool) (class : Class) → verdict_of_class denied class c ≡ verdict_of_class denied class d
  of_class denied (Positive m) =
      let F : (Record → Bool) → Verdict = λ p. if is_all_denied denied m then Made Filter else (if is_emptied (without_denied denied m) (only p (without_denied denied m)) then Made Zone else Pos (only p (without_denied denied m))) in
      ap (λ (p : Record → Bool). Some (F p)) in_zone-same
  of_class denied (Negative n) =
      let G : Option Record → (Record → Bool) → NoRecords = λ soa p. record n { soa = soa; authorities = filter p n.authorities } in
      ap (λ (soa : Option Record). Some (Neg (G soa (is_in_bailiwick c)))) (if_in_zone-same n.soa) ∙ ap (λ (p : Record → Bool). Some (Neg (G (if_in_bailiwick d n.soa) p))) in_zone-same
  of_class denied (Error f) = refl
  of_class denied (Code f) = refl
  of_class denied Truncated = refl
  of_class denied (Foreign r) = refl

  of_told : (denied : IpAddr → Bool) (class : Option Class) → verdict_of_told denied class c ≡ verdict_of_told denied class d
  of_told denied None = refl
  of_told denied (Some class) = of_class denied class

  pub verdict-zone : (policy : Policy) (o : ToldOutcome) (q : Query) → verdict policy o q c ≡ verdict policy o q d
  verdict-zone policy o q = of_told (denies policy.answer_filter) (class_of o q)

  target_below-same : target_below (base c) ≡ target_below (base d)
  target_below-same i r = ap (λ (b : Bool). if b then ns_target r else None) (above-same (base c) (base d) r.name (base-same c d e)) i

  targets-same : (k : Message) → targets k c ≡ targets k d
  targets-same k = ap (λ (f : Record → Option DomainName). filter_map f (records k)) target_below-same

  pub is_delegation-same : (k : Message) → is_delegation k c ≡ is_delegation k d
  is_delegation-same k =
      let tests : (λ (r : Record). is_ns r && same_names r.name c) ≡ (λ (r : Record). is_ns r && same_names r.name d) = λ i r. is_ns r && alike same_names same_names_equiv c d r.name e i in
      ap (λ (p : Record → Bool). list_any p (records k)) tests

  is_root-same : is_root c ≡ is_root d
  is_root-same =
      ap (λ (f : Bool). f && length c.labels == 0) (flags c d e)
      ∙ ap (λ (n : ℕ). d.fqdn && n == 0) (length-same (pointwise same_letter) c.labels d.labels (labels_same c d e))

  pub ns_question : same_query (question c 2) (question d 2) ≡ true
  ns_question = both (same_names c d && true) true (both (same_names c d) true e refl) refl

  pub Delegates-zone : {policy : Policy} {log : Log} {n : ℕ} {k : Message} → Delegates policy log n c k → Delegates policy log n d k
  Delegates-zone {policy = policy} {k = k} (delegates {z = z} {o = o} i h v x r) = delegates i (Heard-same (question c 2) (question d 2) ns_question h)
      (sym (verdict-same (question c 2) (question d 2) ns_question policy o z) ∙ v) (sym (is_delegation-same k) ∙ x) (sym is_root-same ∙ r)

-- the family is by the zone, so the root is one case of it
pub Serves-zone : {policy : Policy} {log : Log} {n : ℕ} {ip : IpAddr} {c : DomainName} (d : DomainName) → same_names c d ≡ true → Serves policy log n ip c → Serves policy log n ip d
Serves-zone {policy = policy} {log = log} {n = n} {ip = ip} d e (of_root r) = subst (λ (x : DomainName). Serves policy log n ip x) (root_alone d e) (of_root r)
Serves-zone {ip = ip} d e (of_glue {c = c} {k = k} g a h) = of_glue (Delegates-zone c d e g) a (subst (λ (ts : List DomainName). Contains (addresses_under ts (records k)) ip) (targets-same c d e k) h)
Serves-zone {ip = ip} d e (of_target {c = c} {t = t} {k = k} {answer = answer} g a m q j h v x) =
    of_target (Delegates-zone c d e g) a (subst (λ (ts : List DomainName). Contains ts t) (targets-same c d e k) m) q j h v
    (subst (λ (ts : List DomainName). Contains (addresses_under ts (records answer)) ip) (targets-same c d e k) x)
Serves-zone d e (of_answer {c = c} {t = t} {k = k} g a m q j h p v x f) =
    of_answer (Delegates-zone c d e g) a (subst (λ (ts : List DomainName). Contains ts t) (targets-same c d e k) m) q j h p v x f

pub Heard-zone : {policy : Policy} {log : Log} {i : ℕ} {q : Query} {o : ToldOutcome} {moment : ℕ} {c : DomainName} (d : DomainName) → same_names c d ≡ true → Heard policy log i q o moment c → Heard policy log i q o moment d
Heard-zone {q = q} {c = c} d e (heard t s a) = heard t (Serves-zone d e s) (sym (above-same c d (walk q) e) ∙ a)

pub Base-zone : {policy : Policy} {log : Log} {t0 : ℕ} {q : Query} {i : ℕ} {c : DomainName} {v : Verdict} (d : DomainName) → same_names c d ≡ true → Base policy log t0 q i c v → Base policy log t0 q i d v
Base-zone {policy = policy} {q = q} {c = c} d e b = record { told = b.told; moment = b.moment; heard = Heard-zone d e b.heard; counts = sym (verdict-zone c d e policy b.told q) ∙ b.counts; fresh = b.fresh }
