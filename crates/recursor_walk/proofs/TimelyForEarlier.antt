-- A reply to a question that began later is one to a question that began earlier, where as much is known of moments.
use Rattle.recursor_walk.proofs.QueryWords.{◌≤◌, ◌+◌, ◌*◌, ℕ, List, Option, Some, None, arith, inl, inr, ⊎_elim, IsSomeAnd, Result, last_or, IpAddr, DomainName, Log, Query, Message, Question, ForwardNsData, NetError, Policy, Fresh, life_in_seconds, Base, IsOwn, below-greater, run_later, LookupTiming, EndSends, FinishedLookup, Verdict, AnswerIsSound, OutcomeIsSound, IsNegative, IsReferral, LookupFailed, NoServerFound, CauseOf, RestsOn, received, made, referred, outcome-carried, leads-anywhere, AuthorityData, WalkCause, RecursorError, LogView, Replied, machine_timer, Reply}
use Rattle.resolution.specs.Lookups.{End, Answered}
use Rattle.resolution.specs.Names.{question as question_for}
use Rattle.dns_core.specs.declared.net_error.NetError.TheVariants as net
use Rattle.recursor_types.specs.declared.error.WalkCause.TheVariants as why
use Rattle.recursor_types.specs.declared.error.RecursorError.TheVariants as error

-- what holds of what is there, where one follows from the other
pub some-weaker : {A : Type 0} (P Q : A → Type 0) → ((x : A) → P x → Q x) → (o : Option A) → IsSomeAnd o P → IsSomeAnd o Q
some-weaker P Q f None h = h
some-weaker P Q f (Some x) h = f x h

-- what is fresh late is fresh early
Fresh-earlier : (given : Policy) (early late moment : ℕ) (q : Query) (v : Verdict) → early ≤ late → Fresh given late moment q v → Fresh given early moment q v
Fresh-earlier given early late moment q v le = ⊎_elim (λ h. inl (omega arith))
    (λ h. inr (some-weaker (λ life. late ≤ moment + 1000000 * life) (λ life. early ≤ moment + 1000000 * life) (λ life l. omega arith) (life_in_seconds given q.query_type v) h))

-- what is authoritative, or current and from the name's own servers, late is so early
IsOwn-earlier : (given : Policy) (log : Log) (early late : ℕ) (q : Query) (z : DomainName) (moment : ℕ) (k : Message) → early ≤ late
    → IsOwn given log late q z moment k → IsOwn given log early q z moment k
IsOwn-earlier given log early late q z moment k le = ⊎_elim (λ h. inl h) (λ h. inr (let late_enough = h.0 in omega (arith, late_enough), h.1))

-- The late moment may be the early one: then a reply holds by what else is known of moments.
module _ (given : Policy) (log : Log) (early late : ℕ) (le : early ≤ late) (known wider : LookupTiming)
    (timed : (q : Query) (ips : List IpAddr) (g moments : List ℕ) (ends : List (End IpAddr)) (start now : ℕ)
    → EndSends given log q ips g ends moments → late ≤ now → known.Timed q ips g ends moments start now
    → (later : ℕ) × (now ≤ later) × wider.Timed q ips g ends moments start later) where
  -- an entry that counts for late counts for early
  abbrev Base-earlier : {q : Query} {i : ℕ} {z : DomainName} {v : Verdict} → Base given log late q i z v → Base given log early q i z v
  Base-earlier {q = q} {v = v} b = record {
    told = b.told;
    moment = b.moment;
    heard = b.heard;
    counts = b.counts;
    fresh = Fresh-earlier given early late
        b.moment q v le b.fresh;
  }

  -- an answer at late is one at early
  answer-earlier : (question : Question) (g : List ℕ) (r : Message) → AnswerIsSound given log late question g r → AnswerIsSound given log early question g r
  answer-earlier question g r a = record {
    links = a.links;
    last = a.last;
    entry = a.entry;
    zone = a.zone;
    kept = a.kept;
    leads = leads-anywhere a.leads;
    rest = a.rest;
    base = Base-earlier a.base;
    deepest = a.deepest;
    own = IsOwn-earlier given log early late a.last a.zone a.base.moment a.kept le a.own;
    same = a.same;
  }

  rests-earlier : {q : Query} {i : ℕ} {z : DomainName} {v : Verdict} → RestsOn given log late q i z v → RestsOn given log early q i z v
  rests-earlier r = record { base = Base-earlier r.base; walked = r.walked }

  -- a negative response at late is one at early
  negative-earlier : (q : Query) (g : List ℕ) (d : AuthorityData) → IsNegative given log late q g d → IsNegative given log early q g d
  negative-earlier q _ _ (received by r n s) = received by (rests-earlier r) n s
  negative-earlier q _ _ (made by r m a) = made by (rests-earlier r) m a

  -- a referral at late is one at early
  referral-earlier : (q : Query) (g : List ℕ) (servers : List ForwardNsData) → IsReferral given log late q g servers → IsReferral given log early q g servers
  referral-earlier q _ servers (referred r n s) = referred (rests-earlier r) n s

  -- a lookup that was finished in time for the late moment was so for the early one
  abbrev pub Finished-earlier : {q : Query} {z : DomainName} {g : List ℕ} {result : Answered} → FinishedLookup given known log late q z g result
      → FinishedLookup given wider log early q z g result
  Finished-earlier f =
      let t = timed _ _ _ _ _ _ _ f.logged f.asked f.timed in
      record {
        ips = f.ips;
        ends = f.ends;
        moments = f.moments;
        start = f.start;
        now = t.0;
        above = f.above;
        listed = f.listed;
        rises = f.rises;
        logged = f.logged;
        run = run_later _ _ t.1 f.run;
        bounded = f.bounded;
        since = f.since;
        till = below-greater f.now t.0 t.1 f.moments f.till;
        asked = let a = f.asked in let l = t.1 in omega arith;
        timed = t.2;
        fresh = ⊎_elim (λ h. inl (some-weaker (λ m. late ≤ m) (λ m. early ≤ m) (λ m l. omega arith) (last_or None f.moments) h)) (λ h. inr (h.0, let r = h.1 in let l = t.1 in omega arith)) f.fresh;
      }

  -- a failure at late is one at early
  failed-earlier : (q : Query) (g : List ℕ) (e : NetError) → LookupFailed given known log late q g e → LookupFailed given wider log early q g e
  failed-earlier q g e f = record { zone = f.zone; is = f.is; ended = Finished-earlier f.ended; walked = f.walked }

  -- where no server was found at late none was at early
  server-earlier : (q : Query) (cause : WalkCause) → NoServerFound given known log late q cause → NoServerFound given wider log early q cause
  server-earlier q why.NoAddress (name, told, has, glueless) =
      (name, told, has, record { i = glueless.i; z = glueless.z; base = Base-earlier glueless.base; delegates = glueless.delegates; none = glueless.none })
  server-earlier q why.Timeout (name, silent, has, failed) = (name, silent, has, failed-earlier (question_for name 2) silent net.Timeout failed)
  server-earlier q _ h = h

  -- the cause of an error at late is one at early
  cause-earlier : (q : Query) (g : List ℕ) (e : RecursorError) → CauseOf given known log late q g e → CauseOf given wider log early q g e
  cause-earlier q g (error.Negative d) h = negative-earlier q g d h
  cause-earlier q g (error.ForwardNS servers) h = referral-earlier q g servers h
  cause-earlier q g (error.Net e) h = failed-earlier q g e h
  cause-earlier q g (error.NoNameServer zone cause) h = (h.0, h.1, server-earlier q cause h.2)
  cause-earlier q g _ h = h

  -- what is answered at the late moment is so at the early one
  pub outcome-earlier : (question : Question) (g : List ℕ) (o : Result Message RecursorError) → OutcomeIsSound given known log late question g o
      → OutcomeIsSound given wider log early question g o
  outcome-earlier question g o h = outcome-carried given given known wider log log late early question g (answer-earlier question g) cause-earlier o h

-- a reply at the late moment is one at the early one
pub reply-earlier : (view : LogView) (early late : ℕ) (question : Question) (reply : Reply) → early ≤ late → Replied view late question reply → Replied view early question reply
reply-earlier view early late question reply le h =
    outcome-earlier view.policy view.log early late le (machine_timer view.moment view.log late) (machine_timer view.moment view.log early)
    (λ q ips g moments ends start at sends asked t. (at, omega arith, record { some = t.some; began = t.began; since = let s = t.since in omega arith; answered = t.answered }))
    question reply.grounds reply.outcome h
