-- In a well served world no lookup fails: each send is answered, and each answer is final.
use Rattle.std.proofs.Common.{◌≡◌, ℕ, ◌+◌, ◌<◌, ◌≤◌, Bool, true, false, cond, List, [], ◌∷◌, ◌++◌, length, take, Some, inl, inr, refl, sym, ap, subst, ◌∙◌, arith, one-add}
use Rattle.std.specs.Prelude.{Ok, Err, not, ◌==◌, ◌&&◌, ◌||◌}
use Rattle.std.specs.List.{list_all, AllByRecursion, position_or_len, before_first, after_first}
use Rattle.std.specs.declared.net.IpAddr.{IpAddr}
use Rattle.dns_core.specs.Name.{DomainName}
use Rattle.dns_core.specs.Log.{Log}
use Rattle.dns_core.specs.Classifying.{no_records}
use Rattle.dns_core.specs.declared.message.Query.{Query}
use Rattle.dns_core.specs.declared.message.Message.{Message}
use Rattle.dns_core.specs.declared.net_error.NetError.{NetError}
use Rattle.dns_core.specs.declared.net_error.NetError.TheVariants as net
use Rattle.dns_core.specs.declared.net_error.DnsError.TheVariants as dns
use Rattle.dns_core.specs.declared.log.ToldOutcome.TheVariants as outcome
use Rattle.resolution.specs.Names.{is_above, walk, same_query}
use Rattle.resolution.specs.Class.{has_no_data_for}
use Rattle.recursor_types.specs.declared.policy.Policy.{Policy}
use Rattle.resolution.specs.Serving.{Serves}
use Rattle.resolution.specs.Serving.Serves.{of_root as by_root}
use Rattle.resolution.specs.Lookups.{End, PoolRun, class_of_answer, answer_of, falls_back, retries, none_is_final, is_tcp_fallback, is_retryable, all_were_tried}
use Rattle.resolution.specs.Lookups.PoolRun.{decided, spent, late}
use Rattle.resolution.specs.Ending.{LookupTiming, by_address, waits, EndsSend, EndSends, Listed, Ended}
use Rattle.resolution.specs.Ending.EndsSend.{open_refused, ask_refused, open_failed, ask_failed, answered, given_up}
use Rattle.resolution.specs.Ending.EndSends.{no_send, and_send}
use Rattle.resolution.specs.Ending.Listed.{of_roots, of_told}
use Rattle.resolution.specs.declared.class.Class.{Class}
use Rattle.resolution.specs.declared.class.Class.TheVariants.{Negative, Positive}
use Rattle.resolution.proofs.ElementsFiltered.{Has, Has-from_Contains, Contains-from_Has, Has-append_right}
use Rattle.resolution.proofs.Caseless.{walk-same}
use Rattle.zone_rules.specs.declared.world.World.{World}
use Rattle.zone_worlds.specs.Telling.{Tells}
use Rattle.world_upstream.specs.Giving.{IsTold}
use Rattle.world_facts.specs.Told.{TellsLog}
use Rattle.world_facts.specs.Served.{IsServed, IsServerOf}
use Rattle.world_facts.proofs.ElementsThatPass.{halves, clash}
use Rattle.world_facts.proofs.ToldRecords.{told_from, is_held}
use Rattle.world_facts.proofs.ServersOfZones.{serves-world}
use Rattle.world_facts.proofs.ZonesAsked.{asks}
use Rattle.world_facts.proofs.AnswersAndDenials.{IsResponse, is_response, told_whole}
use Rattle.world_facts.proofs.AnswersAndDenials.IsResponse.{positive, negative}

-- ---- lists

before_no : {X : Type 0} (p : X → Bool) (x : X) (xs : List X) → p x ≡ false → before_first p (x ∷ xs) ≡ x ∷ before_first p xs
before_no p x xs h =
    ap (λ (b : Bool). take (cond (not b) (1 + position_or_len p xs) 0) (x ∷ xs)) h
    ∙ ap (λ (n : ℕ). take n (x ∷ xs)) (one-add (position_or_len p xs))

-- the first is left beside what passes the first test, where it does not pass that
first_final : {X : Type 0} (t r : X → Bool) (x : X) (xs : List X) → t x ≡ false → r x ≡ false → list_all r (before_first t (x ∷ xs) ++ after_first t (x ∷ xs)) ≡ true → ⊥
first_final {X} t r x xs a b h =
    let whole : (r x && list_all r (before_first t xs ++ after_first t (x ∷ xs))) ≡ true = subst (λ (l : List X). list_all r (l ++ after_first t (x ∷ xs)) ≡ true) (before_no t x xs a) h in
    let first = (halves (r x) _ whole).0 in
    clash (r x) first b

-- ---- how a send ends

-- A send ended with a message that the server tells for the question.
pub record IsAnswered (w : World) (q : Query) (e : End IpAddr) : Type 0 where
  pub message : Message
  pub is : e.outcome ≡ Ok message
  pub asked : Query
  pub same : same_query asked q ≡ true
  pub tells : Tells w e.server asked message

no_error : (w : World) (ip : IpAddr) (q : Query) (e : NetError) → IsTold w ip q (outcome.Error e) → ⊥
no_error w ip q e t = t

module _ (policy : Policy) (w : World) (log : Log) (ok : IsServed policy w) (by : TellsLog w log) where
  not_given_up : (n k : ℕ) → policy.patience ≤ waits log k n → ⊥
  not_given_up n k h = let a = by.patient n k in let b = ok.patient in absurd (omega (arith, h, a, b))

  pub end-answered : (q : Query) {n moment : ℕ} {e : End IpAddr} → EndsSend policy log q n e moment → IsAnswered w q e
  end-answered q {n = n} {moment = moment} (open_refused {ip = ip} {protocol = protocol} {e = e} h) = let none = by.opened n ip protocol moment (Some e) h in cc
  end-answered q {n = n} {moment = moment} (ask_refused {ip = ip} {protocol = protocol} {asked = asked} {e = e} h s) = let none = by.asked n ip protocol asked moment (Some e) h in cc
  end-answered q {n = n} {moment = moment} (open_failed {k = k} {since = since} {ip = ip} {protocol = protocol} {e = e} h g) = let stands = by.connected n k moment since (outcome.Error e) ip protocol h g in cc
  end-answered q {n = n} {moment = moment} (ask_failed {k = k} {since = since} {ip = ip} {protocol = protocol} {asked = asked} {e = e} h g s) = absurd (no_error w ip asked e (by.told n k moment since (outcome.Error e) ip protocol asked h g))
  end-answered q {n = n} {moment = moment} (answered {k = k} {since = since} {ip = ip} {protocol = protocol} {asked = asked} {m = m} h g s) =
      record { message = m; is = refl; asked = asked; same = s; tells = by.told n k moment since (outcome.Message m) ip protocol asked h g }
  end-answered q {n = n} (given_up {k = k} h g s p) = absurd (not_given_up n k p)

  -- each end of a lookup is that of a send to one of these, which was answered
  pub ends-answered : (q : Query) (ips : List IpAddr) {g moments : List ℕ} {ends : List (End IpAddr)} → EndSends policy log q ips g ends moments → (e : End IpAddr) → Has ends e → Has ips e.server × IsAnswered w q e
  ends-answered q ips no_send e h = elim h [ ]
  ends-answered q ips (and_send {e = f} s at more) e (inl same) = subst (λ (x : End IpAddr). Has ips x.server × IsAnswered w q x) same (Has-from_Contains ips f.server at, end-answered q s)
  ends-answered q ips (and_send s at more) e (inr h) = ends-answered q ips more e h

  -- the servers of a pool for a zone serve it in the world, and there is one
  listed-serve : (z : DomainName) (ips : List IpAddr) → Listed policy log z ips → (0 < length ips) × ((ip : IpAddr) → Has ips ip → IsServerOf w ip z)
  listed-serve z ips of_roots = (ok.rooted, λ ip h. serves-world policy w log ok by {n = 0} (by_root (Contains-from_Has policy.roots ip h)))
  listed-serve z ips (of_told l) = (l.some, λ ip h. serves-world policy w log ok by (each ips l.serve ip h))
    where
      each : (ips : List IpAddr) → AllByRecursion (λ ip. Serves policy log l.below ip z) ips → (ip : IpAddr) → Has ips ip → Serves policy log l.below ip z
      each [] a ip h = elim h [ ]
      each (x ∷ xs) a ip (inl e) = subst (λ i. Serves policy log l.below i z) e a.0
      each (x ∷ xs) a ip (inr h) = each xs a.1 ip h

  -- What ended a send for a question of class IN is an answer or a denial.
  pub is-response : (q : Query) (z : DomainName) (e : End IpAddr) → q.query_class.code ≡ 1 → is_above z (walk q) ≡ true → IsServerOf w e.server z → (a : IsAnswered w q e) → IsResponse a.message q
  is-response q z e in_class above server a =
      let there : is_above z (walk a.asked) ≡ true = walk-same a.asked q a.same z ∙ above in
      let asked = asks w e.server a.asked z server there in
      is_response a.message q (told_whole w e.server a.asked a.message asked.zone asked.is a.tells)
      (λ r h. ok.internet r (is_held w a.message r (told_from w e.server a.asked a.message r a.tells h) h) ∙ sym in_class)

  -- ---- how a lookup ends

  -- It is a denial, which a server of the zone told for the question.
  pub record IsDenial (q : Query) (z : DomainName) (e : NetError) : Type 0 where
    pub teller : IpAddr
    pub server : IsServerOf w teller z
    pub asked : Query
    pub same : same_query asked q ≡ true
    pub message : Message
    pub tells : Tells w teller asked message
    pub none : has_no_data_for q message ≡ true
    pub is : e ≡ net.Dns (dns.NoRecordsFound (no_records message))

  -- an end is final: it is no turn, and no other server is asked after it
  final : (q : Query) (e : End IpAddr) (a : IsAnswered w q e) → IsResponse a.message q
      → (falls_back (by_address policy.timeout) (class_of_answer q) e ≡ false) × (retries (by_address policy.timeout) (class_of_answer q) e ≡ false)
  final q e a r = (ap (λ (c : Class). is_tcp_fallback c) (class q e a r).1 ∙ (class q e a r).2, ap (λ (c : Class). is_retryable true c) (class q e a r).1 ∙ (class q e a r).3)
    where
      class : (q : Query) (e : End IpAddr) (a : IsAnswered w q e) → IsResponse a.message q → (c : Class) × (class_of_answer q e.outcome ≡ c) × (is_tcp_fallback c ≡ false) × (is_retryable true c ≡ false)
      class q e a (positive n h) = (Positive a.message, ap (class_of_answer q) a.is ∙ h, refl, refl)
      class q e a (negative n h) = (Negative (no_records a.message), ap (class_of_answer q) a.is ∙ h, refl, kept (a.message.response_code.code == 3))
        where
          kept : (b : Bool) → (b && not true) ≡ false
          kept true = refl
          kept false = refl

  -- where none of the ends is final there is none
  nothing_ended : (q : Query) (ends : List (End IpAddr)) → ((e : End IpAddr) → Has ends e → (falls_back (by_address policy.timeout) (class_of_answer q) e ≡ false) × (retries (by_address policy.timeout) (class_of_answer q) e ≡ false))
      → none_is_final (by_address policy.timeout) (class_of_answer q) ends ≡ true → ends ≡ []
  nothing_ended q [] each h = refl
  nothing_ended q (e ∷ ends) each h = let f = each e (inl refl) in absurd (first_final (falls_back (by_address policy.timeout) (class_of_answer q)) (retries (by_address policy.timeout) (class_of_answer q)) e ends f.0 f.1 h)

  pub ended-denied : (known : LookupTiming) (t0 : ℕ) (q : Query) (z : DomainName) (g : List ℕ) (e : NetError) → q.query_class.code ≡ 1 → Ended policy known log t0 q z g e → IsDenial q z e
  ended-denied known t0 q z g e in_class f = at_run f.run
    where
      serve : (0 < length f.ips) × ((ip : IpAddr) → Has f.ips ip → IsServerOf w ip z)
      serve = listed-serve z f.ips f.listed

      responses : (x : End IpAddr) → Has f.ends x → (a : IsAnswered w q x) × IsServerOf w x.server z × IsResponse a.message q
      responses x h =
          let a = ends-answered q f.ips f.logged x h in
          let s = serve.1 x.server a.0 in
          (a.1, s, is-response q z x in_class f.above s a.1)

      finals : (x : End IpAddr) → Has f.ends x → (falls_back (by_address policy.timeout) (class_of_answer q) x ≡ false) × (retries (by_address policy.timeout) (class_of_answer q) x ≡ false)
      finals x h = let r = responses x h in final q x r.0 r.2

      at_run : PoolRun (by_address policy.timeout) (class_of_answer q) f.ips f.ends (Err e) f.start f.now → IsDenial q z e
      at_run (spent s) = absurd (untried f.ips serve.0 (subst (λ (xs : List (End IpAddr)). all_were_tried (by_address policy.timeout) (class_of_answer q) f.ips xs ≡ true) (nothing_ended q f.ends finals s.none) s.tried))
        where
          untried : (ips : List IpAddr) → 0 < length ips → all_were_tried (by_address policy.timeout) (class_of_answer q) ips [] ≡ true → ⊥
          untried [] h t = absurd (omega (arith, h))
          untried (ip ∷ ips) h t = cc
      at_run (late l) = let none = nothing_ended q f.ends finals l.none in absurd (soon policy.timeout ok.timed (subst (λ (xs : List (End IpAddr)). (not (length xs == 0) || policy.timeout == 0) ≡ true) none l.some))
        where
          soon : (t : ℕ) → 0 < t → (t == 0) ≡ true → ⊥
          soon t h e = absurd (grind (arith, h, e))
      at_run (decided d) =
          let h : Has f.ends d.last = subst (λ (xs : List (End IpAddr)). Has xs d.last) (sym d.whole) (Has-append_right d.earlier (d.last ∷ []) d.last (inl refl)) in
          let r = responses d.last h in
          denial d.last r.0 r.1 r.2 d.answers
        where
          denial : (x : End IpAddr) (a : IsAnswered w q x) → IsServerOf w x.server z → IsResponse a.message q → Err e ≡ answer_of (class_of_answer q x.outcome) → IsDenial q z e
          denial x a s (positive n h) k = let both : Err e ≡ Ok a.message = k ∙ ap (λ (c : Class). answer_of c) (ap (class_of_answer q) a.is ∙ h) in cc
          denial x a s (negative n h) k =
              let both : Err e ≡ Err (net.Dns (dns.NoRecordsFound (no_records a.message))) = k ∙ ap (λ (c : Class). answer_of c) (ap (class_of_answer q) a.is ∙ h) in
              record { teller = x.server; server = s; asked = a.asked; same = a.same; message = a.message; tells = a.tells; none = n; is = cc }
