-- What is known of a lookup, and of what is kept of responses, goes on holding as a machine comes further.
use Rattle.walk_lookup.proofs.Names.{◌≡◌, ◌≤◌, ◌<◌, ◌+◌, ℕ, Bool, true, false, List, [], ◌∷◌, Option, Some, None, IfSome, Err, refl, sym, ap, subst, ◌∙◌, arith, nat_le, ◌*◌, list_all, leb-true, le-leb, and_parts, All-weaker, IpAddr, DomainName, Log, Extends, Query, ToldOutcome, Cached, Entry, Access, denies, with_patience, Answered, End, Serves, Heard, Listed, EndSends, FinishedLookup, life_in_seconds, verdict, Walked, Logged-extend, Serves-extend, Serves-later, Heard-extend, waits-extend, EndSends-extend, Listed-extend, Walked-extend, Finished-extend, both, pendings, LookupState, HoldsBy, PoolServer, Policy, AskedAs, LogView, Advances, BeganBy, Began, AreHeard, Tried, IsTimed, machine_timer, Concluded, AreServers, IsWaitedFor, IsSentTo, OpenOrderHolds, PendingHolds, ZoneServers, ServersForQuery, EntryHolds, CacheHolds, left_of_class, FoundHolds, LookupResult, OrderTarget, OpenOrder, PendingLookup, Shared}
use Rattle.std.proofs.Common.{IsTrue}
use Rattle.std.specs.Prelude.{IsSomeAnd}
use Rattle.recursor_types.specs.declared.policy.Policy.{Policy as Resolver}
use Rattle.walk_lookup.specs.declared.lookup_result.LookupResult.TheVariants as found
use Rattle.walk_lookup.specs.declared.pending_lookup.OrderTarget.TheVariants as aim

-- ---- the relation

-- a longer log, with the same policy
pub later-by : (policy : Policy) (g g' moment moment' : ℕ) (log longer : Log) → g ≤ g' → moment ≤ moment' → Extends log longer
    → Advances (record { policy = policy; greatest = g; moment = moment; log = log }) (record { policy = policy; greatest = g'; moment = moment'; log = longer })
later-by policy g g' moment moment' log longer le later x = record { policy = refl; patience = omega arith; greatest = le; moment = later; extends = x }

-- ---- lists

-- what holds of each in a list, where one test follows from the other
pub list_all-weaker : {X : Type 0} (p q : X → Bool) → ((x : X) → IsTrue (p x) → IsTrue (q x)) → (xs : List X) → IsTrue (list_all p xs)
    → IsTrue (list_all q xs)
list_all-weaker p q f [] h = h
list_all-weaker p q f (x ∷ xs) h = let h2 = and_parts (p x) (list_all p xs) h in both (q x) (list_all q xs) (f x h2.0) (list_all-weaker p q f xs h2.1)

-- each of the numbers is below a greater bound
pub below-greater : (g g' : ℕ) → g ≤ g' → (ns : List ℕ) → IsTrue (list_all (λ n. nat_le n g) ns) → IsTrue (list_all (λ n. nat_le n g') ns)
below-greater g g' le ns h = list_all-weaker (λ n. nat_le n g) (λ n. nat_le n g') (λ n k. le-leb n g' (let b = leb-true n g k in omega arith)) ns h

-- ---- the log alone

pub asked-kept : (log longer : Log) (x : Extends log longer) (i : ℕ) (q : Query) → AskedAs log i q → AskedAs longer i q
asked-kept log longer x i q a = record {
  ask = a.ask;
  moment = a.moment;
  outcome = a.outcome;
  ip = a.ip;
  protocol = a.protocol;
  asked_at = a.asked_at;
  told = Logged-extend log longer x i _ a.told;
  question = Logged-extend log longer x a.ask _ a.question;
}

module _ (log longer : Log) (x : Extends log longer) where
  -- a send that began has begun by the longer log
  pub began_by-kept : (q : Query) (server : IpAddr) (n m start : ℕ) → n ≤ m → BeganBy log q server n start → BeganBy longer q server m start
  began_by-kept q server n m start le b = record {
    n = b.n;
    e = b.e;
    begun = Logged-extend log longer x b.n b.e b.begun;
    is = b.is;
    at = b.at;
    early = let e = b.early in omega arith;
  }

  began_some : (q : Query) (g g' : ℕ) (first : Option IpAddr) (start : ℕ) → g ≤ g' → IfSome first (λ ip. BeganBy log q ip g start) → IfSome first (λ ip. BeganBy longer q ip g' start)
  began_some q g g' None start le b = tt
  began_some q g g' (Some ip) start le b = began_by-kept q ip g g' start le b

  -- so began the first of them
  pub began-kept : (q : Query) (g g' : ℕ) (first : Option IpAddr) (ns : List ℕ) (ends : List (End IpAddr)) (start : ℕ) → g ≤ g'
      → Began log q g first ns ends start → Began longer q g' first ns ends start
  began-kept q g g' first [] ends start le b = began_some q g g' first start le b
  began-kept q g g' first (n ∷ ns) [] start le b = b
  began-kept q g g' first (n ∷ ns) (e ∷ ends) start le b = began_by-kept q e.server n n start (omega arith) b

-- ---- what is known

module _ (old new : LogView) (later : Advances old new) where
  abbrev less : ℕ
  less = new.policy.patience

  fewer : less ≤ old.policy.patience
  fewer = later.patience

  -- what is given stays, but for patience
  pub given-is : with_patience less old.policy ≡ new.policy
  given-is = sym later.policy

  -- what serves goes on serving
  pub serves-on : (n m : ℕ) (ip : IpAddr) (zone : DomainName) → n ≤ m → Serves old.policy old.log n ip zone → Serves new.policy new.log m ip zone
  serves-on n m ip zone le s =
      subst (λ (g : Resolver). Serves g new.log m ip zone) given-is
      (Serves-later (with_patience less old.policy) new.log le (Serves-extend old.policy less old.log new.log later.extends s))

  pub heard-on : {i : ℕ} {q : Query} {o : ToldOutcome} {moment : ℕ} {zone : DomainName} → Heard old.policy old.log i q o moment zone
      → Heard new.policy new.log i q o moment zone
  heard-on {i} {q} {o} {moment} {zone} h = subst (λ (g : Resolver). Heard g new.log i q o moment zone) given-is (Heard-extend old.policy less old.log new.log later.extends h)

  pub walked-on : (q : Query) (zone : DomainName) → Walked old.policy old.log q zone → Walked new.policy new.log q zone
  walked-on q zone w = subst (λ (g : Resolver). Walked g new.log q zone) given-is (Walked-extend old.policy less fewer old.log new.log later.extends q zone w)

  listed-on : (zone : DomainName) (ips : List IpAddr) → Listed old.policy old.log zone ips → Listed new.policy new.log zone ips
  listed-on zone ips l = subst (λ (g : Resolver). Listed g new.log zone ips) given-is (Listed-extend old.policy less fewer old.log new.log later.extends l)

  ended-on : {q : Query} {ips : List IpAddr} {g moments : List ℕ} {ends : List (End IpAddr)} → EndSends old.policy old.log q ips g ends moments
      → EndSends new.policy new.log q ips g ends moments
  ended-on {q} {ips} {g} {moments} {ends} e =
      subst (λ (r : Resolver). EndSends r new.log q ips g ends moments) given-is (EndSends-extend old.policy less fewer old.log new.log later.extends e)

  -- a pool stays one
  pub servers-on : (zone : DomainName) (ips : List IpAddr) → AreServers old zone ips → AreServers new zone ips
  servers-on zone ips =
      All-weaker (λ ip. Serves old.policy old.log (old.greatest + 1) ip zone) (λ ip. Serves new.policy new.log (new.greatest + 1) ip zone)
      (λ ip. serves-on (old.greatest + 1) (new.greatest + 1) ip zone (let le = later.greatest in omega arith)) ips

  pub pool-on : (zone : DomainName) (ips : List IpAddr) → ZoneServers old zone ips → ZoneServers new zone ips
  pool-on zone ips p = record { serve = servers-on zone ips p.serve; listed = listed-on zone ips p.listed; some = p.some }

  pub for-on : (q : Query) (zone : DomainName) (ips : List IpAddr) → ServersForQuery old q zone ips → ServersForQuery new q zone ips
  for-on q zone ips f = record { above = f.above; walked = walked-on q zone f.walked; pool = pool-on zone ips f.pool }

  -- what was waited for so often was so
  pub waited-on : (polled : Option ℕ) (polls : ℕ) → IsWaitedFor old polled polls → IsWaitedFor new polled polls
  waited-on None polls h = h
  waited-on (Some of) polls h =
      let le = later.greatest in
      let longer = later.extends.later in
      let early = h.early in
      let within = h.within in
      let enough = h.enough in
      let same = waits-extend old.log new.log later.extends of h.below within in
      record { below = h.below; early = omega (arith, early, le); within = omega (arith, within, longer); enough = omega (arith, enough, same) }

  -- what was heard was heard
  are-heard-on : (zone : DomainName) (q : Query) (g : List ℕ) (ends : List (End IpAddr)) (moments : List ℕ) → AreHeard old zone q g ends moments → AreHeard new zone q g ends moments
  are-heard-on zone q (n ∷ g) (e ∷ ends) (m ∷ moments) h = (
    λ is. let told = h.0 is in (heard-on told.0, asked-kept old.log new.log later.extends n q told.1),
    are-heard-on zone q g ends moments h.1,
  )
  are-heard-on zone q _ _ _ h = tt

  -- what a lookup has behind it
  pub tried-later : (zone : DomainName) (q : Query) (ips : List IpAddr) (start : ℕ) (first : Option IpAddr) (ns : List ℕ) (ends : List (End IpAddr)) (at : ℕ)
      → Tried old zone q ips start first ns ends at → Tried new zone q ips start first ns ends at
  tried-later zone q ips start first ns ends at t = record {
    moments = t.moments;
    logged = ended-on t.logged;
    heard = are-heard-on zone q ns ends t.moments t.heard;
    rises = t.rises;
    early = below-greater old.greatest new.greatest later.greatest ns t.early;
    began = began-kept old.log new.log later.extends q old.greatest new.greatest first ns ends start later.greatest t.began;
    since = t.since;
    till = below-greater old.moment new.moment later.moment t.moments t.till;
    last = t.last;
  }

  -- an order that is open
  sent-on : (shared : Shared) (n : ℕ) (zone : DomainName) (pool : List PoolServer) (l : LookupState) (given : OpenOrder) (asks : Bool) (ip : IpAddr)
      → IsSentTo old shared n zone pool l given asks ip → IsSentTo new shared n zone pool l given asks ip
  sent-on shared n zone pool l given asks ip h = record {
    of = h.of;
    candidate = h.candidate;
    from_pool = h.from_pool;
    at = h.at;
    open_to = h.open_to;
    past = let p = h.past in let le = later.greatest in omega arith;
    serves = serves-on (given.since + 1) (given.since + 1) ip zone (omega arith) h.serves;
    polled = waited-on given.polled (pendings h.open_to.attempt.send.stage) h.polled;
  }

  given-on : (shared : Shared) (n : ℕ) (zone : DomainName) (pool : List PoolServer) (l : LookupState) (given : OpenOrder) (a : OrderTarget)
      → OpenOrderHolds old shared n zone pool l given a → OpenOrderHolds new shared n zone pool l given a
  given-on shared n zone pool l given (aim.Open ip) h = sent-on shared n zone pool l given false ip h
  given-on shared n zone pool l given (aim.Ask ip) h = sent-on shared n zone pool l given true ip h
  given-on shared n zone pool l given aim.Sleep h = h

  given_some : (shared : Shared) (n : ℕ) (zone : DomainName) (pool : List PoolServer) (l : LookupState) (given : Option OpenOrder)
      → IfSome given (λ o. OpenOrderHolds old shared n zone pool l o o.aim) → IfSome given (λ o. OpenOrderHolds new shared n zone pool l o o.aim)
  given_some shared n zone pool l None h = tt
  given_some shared n zone pool l (Some o) h = given-on shared n zone pool l o o.aim h

  -- the filter of answers stays
  pub answers-same : new.policy.answer_filter ≡ old.policy.answer_filter
  answers-same = ap (λ (s : Policy). s.answer_filter) later.policy

  -- the time of a lookup stays
  pub timeout-same : new.policy.timeout ≡ old.policy.timeout
  timeout-same = ap (λ (s : Policy). s.timeout) later.policy

  -- what is sought
  pub sought-later : (shared : Shared) (n : ℕ) (s : PendingLookup) → PendingHolds old shared n s → PendingHolds new shared n s
  sought-later shared n s h = record {
    shared_by = h.shared_by;
    there = h.there;
    asks = h.asks;
    starts = h.starts;
    time = h.time ∙ sym timeout-same;
    lasts = subst (λ (t : ℕ). 0 < t) (sym timeout-same) h.lasts;
    past = let p = h.past in let le = later.moment in omega arith;
    ips = h.ips;
    served = for-on s.query s.zone h.ips h.served;
    ip_of = h.ip_of;
    known = h.known;
    whole = h.whole;
    heard = h.heard;
    stands = subst (λ (access : Access). HoldsBy (denies access) h.heard h.shared_by.lookup) (sym answers-same) h.stands;
    decided = λ answer at is. (let early = h.decided answer at is in let le = later.moment in omega (arith, early, le));
    ends = h.ends;
    beside = h.beside;
    tried = tried-later s.zone s.query h.ips s.start s.first _ h.ends s.at h.tried;
    given = given_some shared n s.zone h.shared_by.lookup.servers h.shared_by.lookup s.given h.given;
    came = h.came;
  }

  -- what is kept of responses
  lives-same : new.policy.ttl_bounds ≡ old.policy.ttl_bounds
  lives-same = ap (λ (s : Policy). s.ttl_bounds) later.policy

  entry-later : (e : Entry) → EntryHolds old e → EntryHolds new e
  entry-later e h = record {
    zone = h.zone;
    told = h.told;
    moment = h.moment;
    whole = h.whole;
    early = let early = h.early in let le = later.greatest in omega arith;
    heard = heard-on h.heard;
    asked = asked-kept old.log new.log later.extends e.source e.query h.asked;
    counts = subst (λ (g : Resolver). verdict g h.told e.query h.zone ≡ Some h.whole) given-is h.counts;
    walked = walked-on e.query h.zone h.walked;
    shown = h.shown;
    as_shown = h.as_shown;
    kept = h.kept;
    expires = subst (λ (g : Resolver). IsSomeAnd (life_in_seconds g e.query.query_type h.whole) (λ life. e.expiry ≤ h.moment + 1000000 * life)) given-is h.expires;
  }

  pub cache-later : (cache : Cached) → CacheHolds old cache → CacheHolds new cache
  cache-later cache h = record { size = h.size ∙ sym (ap (λ (s : Policy). s.response_cache_size) later.policy); ttl_bounds = h.ttl_bounds ∙ sym lives-same; entries = All-weaker (EntryHolds old) (EntryHolds new) entry-later cache.entries h.entries }

  -- ---- a lookup

  timed-on : (t0 : ℕ) (q : Query) (ips : List IpAddr) (g moments : List ℕ) (ends : List (End IpAddr)) (start now : ℕ)
      → EndSends old.policy old.log q ips g ends moments → IsTimed old.moment old.log t0 q g ends start now → IsTimed new.moment new.log t0 q g ends start now
  timed-on t0 q ips g moments ends start now s t = record {
    some = t.some;
    began = began-kept old.log new.log later.extends q 0 0 None g ends start (omega arith) t.began;
    since = t.since;
    answered = let a = t.answered in let le = later.moment in omega arith;
  }

  -- a lookup that ended has ended
  pub concluded-later : (t0 : ℕ) (q : Query) (zone : DomainName) (g : List ℕ) (result : Answered) → Concluded old t0 zone q g result → Concluded new t0 zone q g result
  concluded-later t0 q zone g result f =
      subst (λ (r : Resolver). FinishedLookup r (machine_timer new.moment new.log t0) new.log t0 q zone g result) given-is
      (Finished-extend old.policy less fewer old.log new.log later.extends (machine_timer old.moment old.log t0) (machine_timer new.moment new.log t0) (timed-on t0) (λ e. e) f)

  -- what it came to
  pub found-later : (t0 : ℕ) (zone : DomainName) (q : Query) (ends : List ℕ) (came : LookupResult) → FoundHolds old t0 zone q ends came → FoundHolds new t0 zone q ends came
  found-later t0 zone q ends (found.Error error) h = record { is = h.is; concluded = concluded-later t0 q zone ends (Err error) h.concluded }
  found-later t0 zone q ends (found.Told entry verdict) h =
      let t = h.told in
      record {
        at = h.at;
        class = h.class;
        told = record {
          outcome = t.outcome;
          response = t.response;
          early = let e = t.early in let le = later.greatest in omega arith;
          heard = heard-on t.heard;
          asked = asked-kept old.log new.log later.extends entry q t.asked;
          late = t.late;
          is = t.is;
          left = subst (λ (access : Access). left_of_class (denies access) q t.response ≡ Some h.class) (sym answers-same) t.left;
        };
        counts = h.counts;
      }
