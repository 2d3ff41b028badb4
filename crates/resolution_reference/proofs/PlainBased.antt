-- What a plain program finds of an entry is what it answers.
use Rattle.std.proofs.Common.{◌≡◌, ℕ, Bool, true, List, Some, sym, ap, subst, ◌∙◌}
use Rattle.std.specs.declared.net.ip_addr.IpAddr.{IpAddr}
use Rattle.dns_core.specs.Name.{DomainName}
use Rattle.dns_core.specs.declared.message.Query.{Query}
use Rattle.dns_core.specs.declared.message.Message.{Message}
use Rattle.dns_core.specs.declared.log.ToldOutcome.{ToldOutcome}
use Rattle.dns_core.specs.declared.log.ToldOutcome.TheVariants as told
use Rattle.resolution.specs.Names.{is_above, walk}
use Rattle.resolver_settings.specs.Ttl.{bounds_of}
use Rattle.resolution.specs.Class.{class_of}
use Rattle.resolution.specs.Verdict.{verdict}
use Rattle.resolution.specs.Life.{positive_life}
use Rattle.resolution.specs.Telling.{Tells}
use Rattle.resolution.specs.Serving.{Serves, Heard}
use Rattle.resolution.specs.Serving.Heard.{heard}
use Rattle.resolution_reference.specs.Plain.{apex, asks, left_of, counts_of, is_answer}
use Rattle.resolution_reference.specs.PlainServing.{log_in}
use Rattle.resolution_reference.specs.PlainBase.{IsBase, IsFreshFor}
use Rattle.resolution.specs.declared.class.Class.TheVariants.{Positive}
use Rattle.resolution_reference.specs.declared.setting.Setting.{Setting}
use Rattle.resolution.proofs.NoAddressIsInvented.{verdict-pos}
use Rattle.resolution_reference.proofs.PlainServed.{counts-verdict, verdict-counts, class-is_answer, one_telling}

-- ---- an entry

module _ (s : Setting) where
  -- Entry i told the message for q at the moment, by a server of z.
  record HeardBy (i : ℕ) (q : Query) (m : Message) (moment : ℕ) (z : DomainName) : Type 0 where
    pub ask : ℕ
    pub teller : IpAddr
    pub tells : Tells (log_in s) i q (told.Message m) ask teller moment
    pub serves : Serves s.policy.now (log_in s) ask teller z
    pub above : is_above z (walk q) ≡ true

  heard_by : {i moment : ℕ} {q : Query} {o : ToldOutcome} {z : DomainName} (m : Message) → Heard s.policy.now (log_in s) i q o moment z → o ≡ told.Message m → HeardBy i q m moment z
  heard_by m (heard {i = i} {ask = ask} {moment = moment} {q = q} {teller = teller} t x a) e =
      record { ask = ask; teller = teller; tells = subst (λ (x : ToldOutcome). Tells (log_in s) i q x ask teller moment) e t; serves = x; above = a }

  one_moment : {i ask before moment later : ℕ} {q : Query} {m other : Message} {teller another : IpAddr}
      → Tells (log_in s) i q (told.Message m) ask teller moment → Tells (log_in s) i q (told.Message other) before another later → later ≡ moment
  one_moment t u = let x = t.told.is in let y = u.told.is in cc

  pub none_based : (t0 i : ℕ) (q : Query) (z : DomainName)
      → ((ask moment : ℕ) (teller : IpAddr) (m : Message) → Tells (log_in s) i q (told.Message m) ask teller moment → is_answer q m ≡ true → ⊥)
      → IsBase s.policy.now (log_in s) t0 q i z → ⊥
  none_based t0 i q z none b =
      let x = b.base in
      let counts = verdict-pos s.policy.now x.told q z b.answer x.counts in
      let by = heard_by counts.message x.heard counts.told in
      let class = ap (λ (o : ToldOutcome). class_of o q) (sym counts.told) ∙ counts.class in
      none by.ask x.moment by.teller counts.message by.tells (class-is_answer q counts.message counts.message cc)

  -- What a plain program tests of an answer that was told: it counts in the zone, for long enough, and the teller serves it.
  pub record Based (t0 : ℕ) (q : Query) (ask : ℕ) (teller : IpAddr) (moment : ℕ) (m : Message) (zone : List (List ℕ)) : Type 0 where
    pub above : is_above (apex zone) (walk q) ≡ true
    pub counts : counts_of s.policy.now.answer_filter zone m ≡ true
    pub fresh : IsFreshFor t0 moment (positive_life (bounds_of s.policy.now.ttl_bounds q.query_type) (left_of s.policy.now.answer_filter zone m))
    pub serves : Serves s.policy.now (log_in s) ask teller (apex zone)

  pub based : {i ask moment : ℕ} {teller : IpAddr} (t0 : ℕ) (q : Query) (m : Message) (zone : List (List ℕ)) → Tells (log_in s) i q (told.Message m) ask teller moment
      → IsBase s.policy.now (log_in s) t0 q i (apex zone) → Based t0 q ask teller moment m zone
  based {ask = ask} {moment = moment} t0 q m zone t b =
      let x = b.base in
      let counts = verdict-pos s.policy.now x.told q (apex zone) b.answer x.counts in
      let by = heard_by counts.message x.heard counts.told in
      let one = one_telling s t by.tells in
      let is = counts.told ∙ ap told.Message one.message in
      let class = ap (λ (o : ToldOutcome). class_of o q) (sym is) ∙ counts.class ∙ ap (λ (m : Message). Some (Positive m)) one.message in
      let left = verdict-counts s q m b.answer zone class (ap (λ (o : ToldOutcome). verdict s.policy.now o q (apex zone)) (sym is) ∙ x.counts) in
      let life : Message → ℕ = λ k. positive_life (bounds_of s.policy.now.ttl_bounds q.query_type) k in
      let fresh = subst (λ (n : ℕ). IsFreshFor t0 n (life b.answer)) (one_moment t by.tells) x.fresh in
      record {
        above = by.above;
        counts = left.0;
        fresh = subst (λ (k : Message). IsFreshFor t0 moment (life k)) left.1 fresh;
        serves = subst (λ (ip : IpAddr). Serves s.policy.now (log_in s) ask ip (apex zone)) one.teller (subst (λ (n : ℕ). Serves s.policy.now (log_in s) n by.teller (apex zone)) one.ask by.serves);
      }

  pub is_base : {i ask moment : ℕ} {teller : IpAddr} (t0 : ℕ) (q : Query) (m : Message) (zone : List (List ℕ)) → Tells (log_in s) i q (told.Message m) ask teller moment → is_answer q m ≡ true
      → Based t0 q ask teller moment m zone → IsBase s.policy.now (log_in s) t0 q i (apex zone)
  is_base {moment = moment} t0 q m zone t e b = record {
    answer = left_of s.policy.now.answer_filter zone m;
    base = record {
      told = told.Message m;
      moment = moment;
      heard = heard t b.serves b.above;
      counts = counts-verdict s q m zone e b.counts;
      fresh = b.fresh;
    };
  }

-- ---- names

pub as_query : (q : Query) → (q.name).fqdn ≡ true → asks (q.name).labels (q.query_type).code (q.query_class).code ≡ q
as_query q e = ap (λ (f : Bool). let x : Query = record { name = record { labels = (q.name).labels; fqdn = f }; query_type = q.query_type; query_class = q.query_class } in x) (sym e)
