use Rattle.std.proofs.Common.{◌≡◌, ℕ, zero, suc, ◌⊎◌, inl, inr, Bool, true, false, List, [], ◌∷◌, Option, Some, None, refl, sym, ap, subst, ◌∙◌}
use Rattle.std.specs.Prelude.{nat_eq, Contains}
use Rattle.std.specs.Cmp.Lexicographic.{pointwise}
use Rattle.std.specs.declared.net.ip_addr.IpAddr.{IpAddr}
use Rattle.std.specs.declared.net.ip_addr.IpAddr.TheVariants.{V4, V6}
use Rattle.dns_core.specs.Name.{DomainName, same_names}
use Rattle.dns_core.specs.Log.{numbered}
use Rattle.dns_core.specs.declared.message.Query.{Query}
use Rattle.dns_core.specs.declared.message.Message.{Message}
use Rattle.dns_core.specs.declared.record.Record.{Record}
use Rattle.dns_core.specs.declared.connection.Protocol.{Protocol}
use Rattle.dns_core.specs.declared.log.LogEntry.TheVariants.{Asked, Told}
use Rattle.dns_core.specs.declared.log.ToldOutcome.{ToldOutcome}
use Rattle.dns_core.specs.declared.log.ToldOutcome.TheVariants as outcome
use Rattle.resolution.specs.Names.{is_above, question, same_query}
use Rattle.resolution.specs.Records.{address, records}
use Rattle.resolution.specs.Verdict.{verdict}
use Rattle.resolution.specs.Serving.{Serves, Heard, IsAddressQuestion, targets, glue, addresses_under, address_under}
use Rattle.resolution.specs.Serving.Serves.{of_root, of_glue, of_target, of_answer}
use Rattle.resolution.specs.Serving.Delegates.{delegates}
use Rattle.resolution.specs.Serving.Heard.{heard}
use Rattle.resolution.specs.BaseScript as script
use Rattle.resolution.specs.declared.verdict.Verdict.TheVariants.{Pos}
use Rattle.resolution.proofs.ElementsFiltered.{Has, Has-from_Contains, Has-filter_map}
use Rattle.resolution.proofs.EntriesNumbered.{none_passes}
use Rattle.dns_core.specs.declared.codes.RecordType.{RecordType}
use Rattle.resolution.proofs.Caseless.{types_same, names_same}
use Rattle.resolution.proofs.ZoneCase.{above-same}
use Rattle.resolution.proofs.NoAddressIsInvented.{verdict-pos, Has-counted, in_zone-counted, of_address, served_was_asked}
use Rattle.resolution.proofs.strangers.stray_glue_serves_nothing.Goals as goal

abbrev is_at : List ℕ → IpAddr → Bool
is_at octets (V4 a) = pointwise nat_eq a.octets octets
is_at octets (V6 a) = false

abbrev is_stranger : IpAddr → Bool
is_stranger ip = is_at (66 ∷ 6 ∷ 6 ∷ 6 ∷ []) ip

abbrev is_root_server : IpAddr → Bool
is_root_server ip = is_at (11 ∷ 0 ∷ 0 ∷ 1 ∷ []) ip

abbrev com_server : IpAddr
com_server = V4 (script.quad 11 0 0 2)

abbrev first : Message
first = script.referral script.commercial script.nic (script.quad 11 0 0 2)

abbrev second : Message
second = script.referral script.example script.elsewhere (script.quad 66 6 6 6)

told_cases : (i ask moment : ℕ) (m : Message) → numbered script.stray_glue_entries i ≡ Some (Told ask moment (outcome.Message m)) → (m ≡ first) ⊎ ((ask ≡ 7) × (m ≡ second))
told_cases zero ask moment m e = cc
told_cases (suc zero) ask moment m e = cc
told_cases (suc (suc zero)) ask moment m e = cc
told_cases (suc (suc (suc zero))) ask moment m e = cc
told_cases (suc (suc (suc (suc zero)))) ask moment m e = inl cc
told_cases (suc (suc (suc (suc (suc zero))))) ask moment m e = cc
told_cases (suc (suc (suc (suc (suc (suc zero)))))) ask moment m e = cc
told_cases (suc (suc (suc (suc (suc (suc (suc zero))))))) ask moment m e = cc
told_cases (suc (suc (suc (suc (suc (suc (suc (suc zero)))))))) ask moment m e = inr (cc, cc)
told_cases (suc (suc (suc (suc (suc (suc (suc (suc (suc i))))))))) ask moment m e = cc

asked_cases : (n moment : ℕ) (ip : IpAddr) (p : Protocol) (q : Query) → numbered script.stray_glue_entries n ≡ Some (Asked ip p q moment None) → (q ≡ question script.commercial 2) ⊎ (q ≡ question script.example 2)
asked_cases zero moment ip p q e = cc
asked_cases (suc zero) moment ip p q e = cc
asked_cases (suc (suc zero)) moment ip p q e = cc
asked_cases (suc (suc (suc zero))) moment ip p q e = inl cc
asked_cases (suc (suc (suc (suc zero)))) moment ip p q e = cc
asked_cases (suc (suc (suc (suc (suc zero))))) moment ip p q e = cc
asked_cases (suc (suc (suc (suc (suc (suc zero)))))) moment ip p q e = cc
asked_cases (suc (suc (suc (suc (suc (suc (suc zero))))))) moment ip p q e = inr cc
asked_cases (suc (suc (suc (suc (suc (suc (suc (suc zero)))))))) moment ip p q e = cc
asked_cases (suc (suc (suc (suc (suc (suc (suc (suc (suc i))))))))) moment ip p q e = cc

seventh : (moment : ℕ) (ip : IpAddr) (p : Protocol) (q : Query) → numbered script.stray_glue_entries 7 ≡ Some (Asked ip p q moment None) → com_server ≡ ip
seventh moment ip p q e = cc

-- no address was asked for
not_asked : (q p : Query) (t : DomainName) → (q ≡ question script.commercial 2) ⊎ (q ≡ question script.example 2) → IsAddressQuestion t p → same_query q p ≡ true → ⊥
not_asked q p t a b e =
    let type : Query → ℕ = λ x. x.query_type.code in
    let same : type q ≡ type p = ap (λ (x : RecordType). x.code) (types_same q p e) in
    let two : type q ≡ 2 = elim a [ inl x ↦ ap type x | inr x ↦ ap type x ] in
    let other : (type p ≡ 1) ⊎ (type p ≡ 28) = elim b [ inl x ↦ inl (ap type x) | inr x ↦ inr (ap type x) ] in
    elim other [ inl x ↦ apart 1 refl (sym two ∙ same ∙ x) | inr x ↦ apart 28 refl (sym two ∙ same ∙ x) ]
  where
    apart : (n : ℕ) → nat_eq 2 n ≡ false → 2 ≡ n → ⊥
    apart n differ equal = let t = ap (λ (m : ℕ). nat_eq 2 m) equal in cc

-- the first message does not hold the address, and the second has it outside com.
not_first : (m : Message) (r : Record) → m ≡ first → Has (records m) r → address r ≡ Some script.stranger → ⊥
not_first m r is h a =
    let test : Record → Bool = λ x. elim (address x) [ None ↦ false | Some ip ↦ is_stranger ip ] in
    none_passes test (records first) r (subst (λ (x : Message). Has (records x) r) is h) refl (ap (λ (o : Option IpAddr). let b : Bool = elim o [ None ↦ false | Some ip ↦ is_stranger ip ] in b) a)

outside : (m : Message) (r : Record) → m ≡ second → Has (records m) r → address r ≡ Some script.stranger → script.elsewhere ≡ r.name
outside m r is h a = of_two (subst (λ (x : Message). Has (records x) r) is h)
  where
    of_two : Has (records second) r → script.elsewhere ≡ r.name
    of_two (inl e) = let none = ap address e in cc
    of_two (inr (inl e)) = ap (λ (x : Record). x.name) e
    of_two (inr (inr none)) = elim none [ ]

-- neither com. nor example.com. is above it
not_above : (q : Query) (z : DomainName) → (q ≡ question script.commercial 2) ⊎ (q ≡ question script.example 2) → same_names q.name z ≡ true → is_above z script.elsewhere ≡ true → ⊥
not_above q z (inl a) e h = let t = above-same q.name z script.elsewhere e in let s = ap (λ (x : Query). is_above x.name script.elsewhere) a in cc
not_above q z (inr a) e h = let t = above-same q.name z script.elsewhere e in let s = ap (λ (x : Query). is_above x.name script.elsewhere) a in cc

not_root : (ip : IpAddr) → com_server ≡ ip → Contains script.policy.roots ip → ⊥
not_root ip is h = none_passes (is_at (11 ∷ 0 ∷ 0 ∷ 2 ∷ [])) script.policy.roots com_server (Has-from_Contains script.policy.roots com_server (subst (λ (x : IpAddr). Contains script.policy.roots x) (sym is) h)) refl refl

-- 11.0.0.2 serves no zone above it
not_served : {n : ℕ} (z : DomainName) (ip : IpAddr) → com_server ≡ ip → Serves script.policy script.stray_glue_log n ip z → is_above z script.elsewhere ≡ true → ⊥
not_served z ip is s h = elim (served_was_asked script.policy script.stray_glue_log s) [
  | inl r ↦ not_root ip is r.1
  | inr w ↦ not_above w.asked z (asked_cases w.n w.moment w.ip w.protocol w.asked w.logged.is) (names_same w.asked (question z 2) w.same) h
]

stray : {i moment : ℕ} {q : Query} {o : ToldOutcome} {z : DomainName} (k : Message) (names : List DomainName) → Heard script.policy script.stray_glue_log i q o moment z
    → verdict script.policy o q z ≡ Some (Pos k) → Contains (addresses_under names (records k)) script.stranger → ⊥
stray k names (heard {i = i} {ask = ask} {moment = moment} {q = q} {o = o} {teller = teller} {z = z} t s a) v m =
    let r : (x : Record) × Has (records k) x × (address_under names x ≡ Some script.stranger) = Has-filter_map (address_under names) (records k) script.stranger (Has-from_Contains _ script.stranger m) in
    let counts = verdict-pos script.policy o q z k v in
    let held = Has-counted script.policy o q z k r.0 counts r.1 in
    let at = of_address names r.0 script.stranger r.2 in
    let told = subst (λ (x : ToldOutcome). numbered script.stray_glue_entries i ≡ Some (Told ask moment x)) counts.told t.told.is in
    elim (told_cases i ask moment counts.message told) [
      | inl is ↦ not_first counts.message r.0 is held at
      | inr is ↦
          let asked = subst (λ (n : ℕ). numbered script.stray_glue_entries n ≡ Some (Asked teller t.protocol t.asked t.asked_at None)) is.0 t.question.is in
          let inside = in_zone-counted script.policy o q z k r.0 v r.1 in
          not_served z teller (seventh t.asked_at teller t.protocol t.asked asked) s
          (ap (λ (x : DomainName). is_above z x) (outside counts.message r.0 is.1 held at) ∙ inside)
    ]

unasked : {j moment : ℕ} {q : Query} {o : ToldOutcome} {z : DomainName} (t : DomainName) → IsAddressQuestion t q → Heard script.policy script.stray_glue_log j q o moment z → ⊥
unasked {q = q} name b (heard {ask = ask} {teller = teller} t s a) = not_asked t.asked q name (asked_cases ask t.asked_at teller t.protocol t.asked t.question.is) b t.same

of_serves : {n : ℕ} {ip : IpAddr} {z : DomainName} → script.stranger ≡ ip → Serves script.policy script.stray_glue_log n ip z → ⊥
of_serves {ip = ip} is (of_root r) = none_passes is_stranger script.policy.roots script.stranger (Has-from_Contains script.policy.roots script.stranger (subst (λ (x : IpAddr). Contains script.policy.roots x) (sym is) r)) refl refl
of_serves is (of_glue {c = c} (delegates {k = k} i h v d r) a m) = stray k (targets k c) h v (subst (λ (x : IpAddr). Contains (glue k c) x) (sym is) m)
of_serves is (of_target {t = t} d a m q j h v k) = unasked t q h
of_serves is (of_answer {t = t} d a m q j h p v k f) = unasked t q h

pub returns : goal.returns
returns c = λ n z s. of_serves refl s
