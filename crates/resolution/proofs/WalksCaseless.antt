-- Where a walk goes does not depend on the case of its question.
use Rattle.std.proofs.Common.{◌≡◌, ℕ, ◌-◌, ◌<◌, Bool, true, false, cond, ◌&&◌, List, [], ◌∷◌, length, drop, refl, ap, subst, ◌∙◌, sym}
use Rattle.std.specs.Prelude.{not, ◌==◌, map, filter, if◌then◌else◌}
use Rattle.std.specs.List.{AllByRecursion, range_with_len}
use Rattle.std.specs.Cmp.{second_so}
use Rattle.std.specs.Cmp.Lexicographic.{pointwise}
use Rattle.std.specs.Bool.{beq}
use Rattle.dns_core.specs.Letters.{same_letter}
use Rattle.dns_core.specs.Name.{DomainName, same_names, same_labels, last_labels}
use Rattle.dns_core.specs.NameLaws.{same_names_equiv}
use Rattle.dns_core.specs.Log.{Log}
use Rattle.dns_core.specs.declared.codes.RecordType.{RecordType}
use Rattle.dns_core.specs.declared.message.Query.{Query}
use Rattle.resolution.specs.Names.{is_above, base, walk, question, same_query}
use Rattle.recursor_types.specs.declared.policy.Policy.{Policy}
use Rattle.resolution.specs.Walking.{at_any_time, is_cut, NoCutSeen, Walked}
use Rattle.resolution.specs.Walking.NoCutSeen.{told_otherwise, not_told}
use Rattle.resolution.specs.declared.verdict.Verdict.{Verdict}
use Rattle.resolution.specs.declared.verdict.Verdict.TheVariants.{Pos, Neg, Made}
use Rattle.resolution.proofs.AboveIsAnOrder.{pointwise-drop}
use Rattle.resolution.proofs.Caseless.{alike, length-same, labels_same, base-same, both, names_same, types_same, verdict-same, Heard-same}
use Rattle.resolution.proofs.ZoneCase.{above-same, is_delegation-same, ns_question}
use Rattle.resolution.proofs.FailuresCaseless.{Finished-same}

pub is_cut-same : (v : Verdict) (c d : DomainName) → same_names c d ≡ true → is_cut v c ≡ is_cut v d
is_cut-same (Pos k) c d e = is_delegation-same c d e k
is_cut-same (Neg n) c d e = refl
is_cut-same (Made cause) c d e = refl

-- the last k labels
abbrev last_of : DomainName → ℕ → DomainName
last_of n k = record { labels = last_labels k n.labels; fqdn = n.fqdn }

last_of-same : (n m : DomainName) (k : ℕ) → same_names n m ≡ true → same_names (last_of n k) (last_of m k) ≡ true
last_of-same n m k e =
    let long = length-same (pointwise same_letter) n.labels m.labels (labels_same n m e) in
    let dropped = pointwise-drop (pointwise same_letter) (length n.labels - k) n.labels m.labels (labels_same n m e) in
    let last = subst (λ (l : ℕ). same_labels (drop (length n.labels - k) n.labels) (drop (l - k) m.labels) ≡ true) long dropped in
    both (same_labels (last_labels k n.labels) (last_labels k m.labels)) (beq n.fqdn m.fqdn) last (second_so (same_labels n.labels m.labels) _ e)

-- a name in another case has as many labels
longer-same : (c d : DomainName) → same_names c d ≡ true → (k : ℕ) → k < length d.labels → k < length c.labels
longer-same c d e k h = subst (λ (n : ℕ). k < n) (sym (length-same (pointwise same_letter) c.labels d.labels (labels_same c d e))) h

pub NoCut-same : (policy : Policy) (log : Log) {c : DomainName} (d : DomainName) → NoCutSeen policy log c → same_names c d ≡ true → NoCutSeen policy log d
NoCut-same policy log d (told_otherwise {c = c} {o = o} {z = z} {v = v} h w n below) e =
    let asks = ns_question c d e in
    told_otherwise (Heard-same (question c 2) (question d 2) asks h) (sym (verdict-same (question c 2) (question d 2) asks policy o z) ∙ w) (sym (is_cut-same v c d e) ∙ n)
    (λ k low high. NoCut-same policy log (last_of d k) (below k low (longer-same c d e k high)) (last_of-same c d k e))
NoCut-same policy log d (not_told {c = c} f n below) e =
    not_told (Finished-same (question c 2) (question d 2) (ns_question c d e) at_any_time at_any_time (λ ips g moments ends start now t. t) f) n
    (λ k low high. NoCut-same policy log (last_of d k) (below k low (longer-same c d e k high)) (last_of-same c d k e))

-- what is said of each image that passes one test, for images and tests that agree
each_passing : {X Y : Type 0} (P : Y → Type 0) (f g : X → Y) (s t : Y → Bool) → ((x : X) → s (f x) ≡ t (g x)) → ((x : X) → P (f x) → P (g x))
    → (xs : List X) → AllByRecursion P (filter s (map f xs)) → AllByRecursion P (filter t (map g xs))
each_passing P f g s t agree move [] h = h
each_passing {X} {Y} P f g s t agree move (x ∷ xs) h =
    at_head (t (g x)) (subst (λ (b : Bool). AllByRecursion P (cond b (f x ∷ filter s (map f xs)) (filter s (map f xs)))) (agree x) h) (each_passing P f g s t agree move xs)
  where
    at_head : (b : Bool) → AllByRecursion P (cond b (f x ∷ filter s (map f xs)) (filter s (map f xs)))
        → (AllByRecursion P (filter s (map f xs)) → AllByRecursion P (filter t (map g xs))) → AllByRecursion P (cond b (g x ∷ filter t (map g xs)) (filter t (map g xs)))
    at_head true (p, rest) next = (move x p, next rest)
    at_head false rest next = next rest

-- below z, and not what is asked for itself
abbrev looks : DomainName → Query → DomainName → Bool
looks z q c = not (is_above c z) && not (q.query_type.code == 2 && same_names c q.name)

module _ (q p : Query) (e : same_query q p ≡ true) where
  pub walks_same : same_names (walk q) (walk p) ≡ true
  walks_same = ap (λ (t : RecordType). same_names (if t.code == 43 then base q.name else q.name) (walk p)) (types_same q p e) ∙ chosen (p.query_type.code == 43)
    where
      chosen : (b : Bool) → same_names (cond b (base q.name) q.name) (cond b (base p.name) p.name) ≡ true
      chosen true = base-same q.name p.name (names_same q p e)
      chosen false = names_same q p e

  looks-same : (z c d : DomainName) → same_names c d ≡ true → looks z q c ≡ looks z p d
  looks-same z c d h =
      ap (λ (b : Bool). not b && not (q.query_type.code == 2 && same_names c q.name)) (above-same c d z h)
      ∙ ap (λ (t : RecordType). not (is_above d z) && not (t.code == 2 && same_names c q.name)) (types_same q p e)
      ∙ ap (λ (b : Bool). not (is_above d z) && not (p.query_type.code == 2 && b)) (same_names_equiv.congr c d q.name h ∙ alike same_names same_names_equiv q.name p.name d (names_same q p e))

pub Walked-same : (policy : Policy) (log : Log) (q p : Query) (z : DomainName) → same_query q p ≡ true → Walked policy log q z → Walked policy log p z
Walked-same policy log q p z e w =
    let walks = walks_same q p e in
    let long = length-same (pointwise same_letter) (walk q).labels (walk p).labels (labels_same (walk q) (walk p) walks) in
    let same : (k : ℕ) → same_names (last_of (walk q) k) (last_of (walk p) k) ≡ true = λ k. last_of-same (walk q) (walk p) k walks in
    let moved = each_passing (NoCutSeen policy log) (last_of (walk q)) (last_of (walk p)) (looks z q) (looks z p) (λ k. looks-same q p e z _ _ (same k)) (λ k n. NoCut-same policy log (last_of (walk p) k) n (same k)) (range_with_len 1 (length (walk q).labels)) w in
    subst (λ (n : ℕ). AllByRecursion (NoCutSeen policy log) (filter (looks z p) (map (last_of (walk p)) (range_with_len 1 n)))) long moved
