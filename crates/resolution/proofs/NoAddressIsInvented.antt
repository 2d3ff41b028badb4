-- No address serves that is no root and stands in no message that was told.
use Rattle.std.proofs.Common.{◌≡◌, ℕ, ◌⊎◌, inl, inr, Bool, true, false, cond, List, ◌++◌, Option, Some, None, refl, subst, ap}
use Rattle.std.specs.Prelude.{Contains, filter, not, ◌||◌, ◌==◌}
use Rattle.std.specs.List.{filter_map, list_any}
use Rattle.std.specs.declared.net.ip_addr.IpAddr.{IpAddr}
use Rattle.dns_core.specs.Name.{DomainName, same_names}
use Rattle.dns_core.specs.Log.{Log}
use Rattle.dns_core.specs.declared.message.Query.{Query}
use Rattle.dns_core.specs.declared.message.Message.{Message}
use Rattle.dns_core.specs.declared.record.Record.{Record}
use Rattle.dns_core.specs.declared.net_error.NetError.{NetError}
use Rattle.dns_core.specs.declared.net_error.NetError.TheVariants as net
use Rattle.dns_core.specs.declared.net_error.DnsError.TheVariants as dns
use Rattle.dns_core.specs.declared.log.ToldOutcome.{ToldOutcome}
use Rattle.dns_core.specs.declared.log.ToldOutcome.TheVariants as outcome
use Rattle.resolver_settings.specs.Access.{denies}
use Rattle.resolution.specs.Records.{address, records, only}
use Rattle.resolution.specs.Class.{has_no_data_for, class_of, class_of_message, class_of_error}
use Rattle.recursor_types.specs.declared.policy.Policy.{Policy}
use Rattle.resolution.specs.Verdict.{is_in_bailiwick, in_bailiwick, without_denied, is_emptied, holds_denied, verdict, verdict_of_told, verdict_of_class, verdict_of_message}
use Rattle.resolution.specs.Names.{root, question}
use Rattle.resolution.specs.Telling.{Logged, IsTold, WasAsked}
use Rattle.dns_core.specs.declared.log.LogEntry.TheVariants.{Told}
use Rattle.resolution.specs.Serving.{Serves, Delegates, Heard, addresses_under, address_under}
use Rattle.resolution.specs.Serving.Serves.{of_root, of_glue, of_target, of_answer}
use Rattle.resolution.specs.Serving.Delegates.{delegates}
use Rattle.resolution.specs.Serving.Heard.{heard}
use Rattle.resolution.specs.declared.class.Class.{Class}
use Rattle.resolution.specs.declared.class.Class.TheVariants.{Error, Code, Truncated, Negative, Foreign, Positive}
use Rattle.resolution.specs.declared.verdict.Verdict.TheVariants.{Pos}
use Rattle.resolution.proofs.ElementsFiltered.{Has, Has-from_Contains, Contains-from_Has, Has-append_left, Has-append_right, Has-append_cases, Has-filter_map, filter_map-Has, Has-filter, Has-passes}

pub chosen : {X : Type 0} (b : Bool) (x y z : X) → cond b x y ≡ z → ((b ≡ true) × (x ≡ z)) ⊎ ((b ≡ false) × (y ≡ z))
chosen true x y z e = inl (refl, e)
chosen false x y z e = inr (refl, e)

-- a record of a filtered message is one of the message
pub Has-only : (p : Record → Bool) (m : Message) (r : Record) → Has (records (only p m)) r → Has (records m) r
Has-only p m r h = elim (Has-append_cases (filter p m.answers ++ filter p m.authorities) (filter p m.additionals) r h) [
  | inl k ↦ Has-append_left (m.answers ++ m.authorities) m.additionals r (elim (Has-append_cases (filter p m.answers) (filter p m.authorities) r k) [
    | inl a ↦ Has-append_left m.answers m.authorities r (Has-filter p m.answers r a)
    | inr a ↦ Has-append_right m.answers m.authorities r (Has-filter p m.authorities r a)
  ])
  | inr k ↦ Has-append_right (m.answers ++ m.authorities) m.additionals r (Has-filter p m.additionals r k)
]

foreign_or_positive : (o : Option Record) (m m' : Message) → (elim o [ Some r ↦ Foreign r | None ↦ Positive m ]) ≡ Positive m' → m ≡ m'
foreign_or_positive (Some r) m m' e = cc
foreign_or_positive None m m' e = cc

-- a message that is an answer is the answer
pub class_positive : (m m' : Message) (q : Query) → class_of_message m q ≡ Positive m' → m ≡ m'
class_positive m m' q e = elim (chosen (not (m.response_code.code == 0 || m.response_code.code == 3)) _ _ _ e) [
  | inl a ↦ let x = a.1 in cc
  | inr a ↦ elim (chosen m.truncation _ _ _ a.1) [
    | inl b ↦ let x = b.1 in cc
    | inr b ↦ elim (chosen (has_no_data_for q m) _ _ _ b.1) [
      | inl d ↦ let x = d.1 in cc
      | inr d ↦ foreign_or_positive _ m m' d.1
    ]
  ]
]

pub verdict_of_message-pos : (denied : IpAddr → Bool) (m k : Message) (z : DomainName) → verdict_of_message denied m z ≡ Pos k → k ≡ in_bailiwick z (without_denied denied m)
verdict_of_message-pos denied m k z e = elim (chosen (is_emptied m (without_denied denied m)) _ _ _ e) [
  | inl a ↦ let x = a.1 in cc
  | inr a ↦ elim (chosen (is_emptied (without_denied denied m) (in_bailiwick z (without_denied denied m))) _ _ _ a.1) [
    | inl b ↦ let x = b.1 in cc
    | inr b ↦ let x = b.1 in cc
  ]
]

-- what counts as an answer is what the filter and the zone leave of one
pub verdict_of_class-pos : (denied : IpAddr → Bool) (c : Class) (z : DomainName) (k : Message) → verdict_of_class denied c z ≡ Some (Pos k) → (m : Message) × (c ≡ Positive m) × (k ≡ in_bailiwick z (without_denied denied m))
verdict_of_class-pos denied (Positive m) z k e = (m, refl, verdict_of_message-pos denied m k z cc)
verdict_of_class-pos denied (Negative n) z k e = cc
verdict_of_class-pos denied (Error n) z k e = cc
verdict_of_class-pos denied (Code n) z k e = cc
verdict_of_class-pos denied Truncated z k e = cc
verdict_of_class-pos denied (Foreign n) z k e = cc

pub error_not_positive : (e : NetError) (m : Message) → class_of_error e ≡ Positive m → ⊥
error_not_positive (net.Dns (dns.NoRecordsFound d)) m h = cc
error_not_positive (net.Dns (dns.ResponseCode d)) m h = cc
error_not_positive net.Busy m h = cc
error_not_positive (net.Io kind) m h = cc
error_not_positive net.Timeout m h = cc
error_not_positive net.NoConnections m h = cc
error_not_positive net.Truncated m h = cc
error_not_positive net.QueryCaseMismatch m h = cc
error_not_positive (net.ForeignClassRecord n c t) m h = cc
error_not_positive (net.Msg text) m h = cc
error_not_positive net.NoMemory m h = cc

-- an answer was told as a message
pub class_of-positive : (o : ToldOutcome) (q : Query) (m : Message) → class_of o q ≡ Some (Positive m) → o ≡ outcome.Message m
class_of-positive outcome.Connected q m e = cc
class_of-positive (outcome.Message n) q m e = let same = class_positive n m q cc in cc
class_of-positive (outcome.Error f) q m e = absurd (error_not_positive f m cc)

-- What counts as an answer was told as a message, and is what the filter and the zone leave of it.
pub record CountsOf (policy : Policy) (o : ToldOutcome) (q : Query) (z : DomainName) (k : Message) : Type 0 where
  pub message : Message
  pub told : o ≡ outcome.Message message
  pub class : class_of o q ≡ Some (Positive message)
  pub kept : k ≡ in_bailiwick z (without_denied (denies policy.answer_filter) message)

of_some : (denied : IpAddr → Bool) (c : Option Class) (z : DomainName) (k : Message) → verdict_of_told denied c z ≡ Some (Pos k) → (m : Message) × (c ≡ Some (Positive m)) × (k ≡ in_bailiwick z (without_denied denied m))
of_some denied None z k e = cc
of_some denied (Some c) z k e = let x : (m : Message) × (c ≡ Positive m) × (k ≡ in_bailiwick z (without_denied denied m)) = verdict_of_class-pos denied c z k e in (x.0, ap Some x.1, x.2)

pub verdict-pos : (policy : Policy) (o : ToldOutcome) (q : Query) (z : DomainName) (k : Message) → verdict policy o q z ≡ Some (Pos k) → CountsOf policy o q z k
verdict-pos policy o q z k e =
    let x : (m : Message) × (class_of o q ≡ Some (Positive m)) × (k ≡ in_bailiwick z (without_denied (denies policy.answer_filter) m)) = of_some (denies policy.answer_filter) (class_of o q) z k e in
    record { message = x.0; told = class_of-positive o q x.0 x.1; class = x.1; kept = x.2 }

-- a record of what counts is one of the message told
pub Has-counted : (policy : Policy) (o : ToldOutcome) (q : Query) (z : DomainName) (k : Message) (r : Record) → (counts : CountsOf policy o q z k) → Has (records k) r → Has (records counts.message) r
Has-counted policy o q z k r counts h = Has-only _ counts.message r (Has-only (is_in_bailiwick z) (without_denied (denies policy.answer_filter) counts.message) r (subst (λ (x : Message). Has (records x) r) counts.kept h))

pub of_address : (names : List DomainName) (r : Record) (ip : IpAddr) → address_under names r ≡ Some ip → address r ≡ Some ip
of_address names r ip e = elim (chosen (list_any (same_names r.name) names) _ _ _ e) [ inl a ↦ a.1 | inr a ↦ let x = a.1 in cc ]

-- an answer is among all records
answers_in_records : (m : Message) (r : Record) → Has m.answers r → Has (records m) r
answers_in_records m r h = Has-append_left (m.answers ++ m.authorities) m.additionals r (Has-append_left m.answers m.authorities r h)

told_by : (log : Log) (i ask moment : ℕ) (o : ToldOutcome) (m : Message) (r : Record) (ip : IpAddr) → o ≡ outcome.Message m → Logged log i (Told ask moment o) → Has (records m) r → address r ≡ Some ip → IsTold log ip
told_by log i ask moment o m r ip is told h a = record {
  i = i;
  ask = ask;
  moment = moment;
  message = m;
  told = subst (λ (x : ToldOutcome). Logged log i (Told ask moment x)) is told;
  held = Contains-from_Has _ ip (filter_map-Has address (records m) r ip h a);
}

module _ (policy : Policy) (log : Log) where
  heard_told : {i moment : ℕ} {q : Query} {o : ToldOutcome} {z : DomainName} (m : Message) (r : Record) (ip : IpAddr) → Heard policy log i q o moment z → o ≡ outcome.Message m → Has (records m) r → address r ≡ Some ip → IsTold log ip
  heard_told m r ip (heard t s a) is h e = told_by log _ _ _ _ m r ip is t.told h e

  listed_told : {i moment : ℕ} {q : Query} {o : ToldOutcome} {z : DomainName} (k : Message) (names : List DomainName) (ip : IpAddr) → Heard policy log i q o moment z → verdict policy o q z ≡ Some (Pos k) → Contains (addresses_under names (records k)) ip → IsTold log ip
  listed_told {q = q} {o = o} {z = z} k names ip h v c =
      let r : (x : Record) × Has (records k) x × (address_under names x ≡ Some ip) = Has-filter_map (address_under names) (records k) ip (Has-from_Contains _ ip c) in
      let counts = verdict-pos policy o q z k v in
      heard_told counts.message r.0 ip h counts.told (Has-counted policy o q z k r.0 counts r.1) (of_address names r.0 ip r.2)

  answered_told : {i moment : ℕ} {q : Query} {o : ToldOutcome} {z : DomainName} (m : Message) (ip : IpAddr) → Heard policy log i q o moment z → class_of o q ≡ Some (Positive m) → Contains (filter_map address m.answers) ip → IsTold log ip
  answered_told {q = q} {o = o} m ip h p c =
      let r : (x : Record) × Has m.answers x × (address x ≡ Some ip) = Has-filter_map address m.answers ip (Has-from_Contains _ ip c) in
      heard_told m r.0 ip h (class_of-positive o q m p) (answers_in_records m r.0 r.1) r.2

  -- an address that serves is a root, or stands in a message told
  pub no_invention : {n : ℕ} {ip : IpAddr} {c : DomainName} → Serves policy log n ip c → Contains policy.roots ip ⊎ IsTold log ip
  no_invention (of_root r) = inl r
  no_invention {ip = ip} (of_glue (delegates {k = k} i h v d r) a m) = inr (listed_told k _ ip h v m)
  no_invention {ip = ip} (of_target {answer = answer} d a t q j h v m) = inr (listed_told answer _ ip h v m)
  no_invention {ip = ip} (of_answer {m = m} d a t x j h p v c f) = inr (answered_told m ip h p c)

  -- a zone that is served is the root, or its NS records were asked for
  asked_of : {i moment : ℕ} {q : Query} {o : ToldOutcome} {z : DomainName} → Heard policy log i q o moment z → WasAsked log q
  asked_of (heard {ask = ask} {teller = teller} t s a) = record { n = ask; ip = teller; protocol = t.protocol; asked = t.asked; moment = t.asked_at; logged = t.question; same = t.same }

  delegated : {n : ℕ} {c : DomainName} {k : Message} → Delegates policy log n c k → WasAsked log (question c 2)
  delegated (delegates i h v d r) = asked_of h

  pub served_was_asked : {n : ℕ} {ip : IpAddr} {c : DomainName} → Serves policy log n ip c → ((c ≡ root) × Contains policy.roots ip) ⊎ WasAsked log (question c 2)
  served_was_asked (of_root r) = inl (refl, r)
  served_was_asked (of_glue d a m) = inr (delegated d)
  served_was_asked (of_target d a t q j h v m) = inr (delegated d)
  served_was_asked (of_answer d a t x j h p v c f) = inr (delegated d)

-- ---- what counts lies in the zone

Has-only_passes : (p : Record → Bool) (m : Message) (r : Record) → Has (records (only p m)) r → p r ≡ true
Has-only_passes p m r h = elim (Has-append_cases (filter p m.answers ++ filter p m.authorities) (filter p m.additionals) r h) [
  | inl k ↦ (elim (Has-append_cases (filter p m.answers) (filter p m.authorities) r k) [
    | inl a ↦ Has-passes p m.answers r a
    | inr a ↦ Has-passes p m.authorities r a
  ])
  | inr k ↦ Has-passes p m.additionals r k
]

pub in_zone-counted : (policy : Policy) (o : ToldOutcome) (q : Query) (z : DomainName) (k : Message) (r : Record) → verdict policy o q z ≡ Some (Pos k) → Has (records k) r → is_in_bailiwick z r ≡ true
in_zone-counted policy o q z k r v h =
    let counts = verdict-pos policy o q z k v in
    Has-only_passes (is_in_bailiwick z) (without_denied (denies policy.answer_filter) counts.message) r (subst (λ (x : Message). Has (records x) r) counts.kept h)

not_true : (b : Bool) → not b ≡ true → b ≡ false
not_true true e = cc
not_true false e = refl

pub allowed-counted : (policy : Policy) (o : ToldOutcome) (q : Query) (z : DomainName) (k : Message) (r : Record) → verdict policy o q z ≡ Some (Pos k) → Has (records k) r → holds_denied (denies policy.answer_filter) r ≡ false
allowed-counted policy o q z k r v h =
    let counts = verdict-pos policy o q z k v in
    not_true _ (Has-only_passes _ counts.message r (Has-only (is_in_bailiwick z) (without_denied (denies policy.answer_filter) counts.message) r (subst (λ (x : Message). Has (records x) r) counts.kept h)))
