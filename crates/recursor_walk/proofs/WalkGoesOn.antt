-- How a walk goes on.
use Rattle.recursor_walk.proofs.Names.{◌≡◌, ◌≤◌, ◌<◌, ◌+◌, ◌-◌, ◌↔◌, ℕ, Bool, true, false, List, length, Contains, refl, sym, ◌∙◌, ap, subst, arith, Result, Ok, Err, nat_lt, ◌&&◌, IsTrue, nat_tests, DomainName, Query, NetError, root, candidates, is_above, last_name, walk, question, FinishedLookup, is_timeout, NoCutSeen, Walked, at_any_time, is_cut, Pos, Verdict, LogView, IsUsableFor, LookupHolds, ZoneQueryHolds, SameSite, Passed, LeavesBehind, IsAtServers, ReachesName, WayHolds, WalkHolds, Walk, steps_after, Goes, Passes, WalkOutcome, NoMemory, IfOk, Question, Reply, CameTo, IsWalkOutcomeOf, WalkComes}
use Rattle.recursor_walk.specs.Way.{CanWalk}
use Rattle.std.specs.Prelude.{drop}
use Rattle.std.specs.Cmp.{second_so, first_so}
use Rattle.std.specs.declared.net.ip_addr.IpAddr.{IpAddr}
use Rattle.walk_lookup.specs.Tried.{Concluded, machine_timer}
use Rattle.resolution.specs.Causes.{NoServerFound}
use Rattle.dns_core.specs.declared.message.Message.{Message}
use Rattle.resolution.specs.Serving.{is_delegation, glue, allowed}
use Rattle.std.proofs.lemmas.Result.{IfOk-weaker}
use Rattle.resolver_settings.specs.Access.{denies}
use Rattle.resolution.specs.Walking.NoCutSeen.{told_otherwise, not_told}
use Rattle.walk_response.specs.Candidate.{candidate_query}
use Rattle.walk_lookup.specs.PendingLookup.{ZoneServers, ServersForQuery}
use Rattle.recursor_walk.specs.declared.zone_query.asking.ZoneQuery.{ZoneQuery}
use Rattle.walk_tables.specs.declared.lookup.Lookup.{Lookup}
use Rattle.resolution.proofs.WayDown.{above-last, last-above, last-length, walked-from-passed, walked-at-candidate, passed-at-candidate}
use Rattle.recursor_walk.proofs.ReplyRestsOn.{lookup-failed}
use Rattle.recursor_walk.proofs.TimelyForEarlier.{Finished-earlier}
use Rattle.recursor_walk.proofs.CandidatesAndServers.{among, cut-same, roots-pool, root-above-for, cut-delegates, cut-pool}
use Rattle.recursor_walk.specs.Walk.{steps}
use Rattle.dns_core.specs.declared.net_error.NetError.TheVariants as net
use Rattle.recursor_types.specs.declared.error.WalkCause.TheVariants as why
use Rattle.recursor_walk.specs.declared.walk.WalkOutcome.TheVariants as course

-- what is past its candidate goes further, whatever became of its lookup meanwhile
pub past-falls : (old middle new : Walk) (result : Result WalkOutcome NoMemory) → steps_after middle ≡ steps_after old → steps_after old < steps old
    → Passes middle new result → Goes old new result
past-falls old middle new (Ok course.Continue) same fewer past = omega (arith, same, fewer, past)
past-falls old middle new (Ok course.ServersReached) same fewer past = tt
past-falls old middle new (Ok (course.Reply reply)) same fewer past = tt
past-falls old middle new (Err e) same fewer past = tt

-- ---- replies

-- it is the reply of a walk
stopped : (view : LogView) (t0 : ℕ) (asked : Question) (w : Walk) (reply : Reply) (came : WalkOutcome)
    → IsWalkOutcomeOf reply came → CameTo view t0 asked reply → WalkComes view t0 asked w came
stopped view t0 asked w reply (course.Reply b) is h = subst (CameTo view t0 asked) (sym is) h
stopped view t0 asked w reply _ is h = absurd is

-- a walk that stops with a reply
pub stops : (view : LogView) (t0 : ℕ) (asked : Question) (w : Walk) (r : Result WalkOutcome NoMemory) (reply : Reply)
    → IfOk r (IsWalkOutcomeOf reply) → CameTo view t0 asked reply → IfOk r (WalkComes view t0 asked w)
stops view t0 asked w r reply is h =
    IfOk-weaker r _ (WalkComes view t0 asked w) (λ came e. stopped view t0 asked w reply came e h) is

-- ---- at a candidate

module _ (view : LogView) (q : Query) (w : Walk) (way : WayHolds view q w) where
  -- it has the last labels of the name
  named : w.asking.lookup.query.name ≡ last_name w.labels w.name
  named = ap (λ (p : Query). p.name) way.asks

  -- the NS records of the candidate are asked for
  pub candidate-asked : w.asking.lookup.query ≡ question w.asking.lookup.query.name 2
  candidate-asked = way.asks ∙ ap (λ (n : DomainName). question n 2) (sym named)

  -- the candidate is on the way
  pub candidate-on-the-way : Contains (candidates (walk q)) w.asking.lookup.query.name
  candidate-on-the-way = subst (Contains (candidates (walk q))) (sym named)
      (subst (λ (d : DomainName). Contains (candidates d) (last_name w.labels w.name)) way.name (among w.name w.labels way.low way.high))

  -- the walk went down to its zone for the candidate
  pub candidate-walked : Walked view.policy view.log w.asking.lookup.query w.asking.zone
  candidate-walked = subst (λ (p : Query). Walked view.policy view.log p w.asking.zone) (sym way.asks)
      (walked-at-candidate view.policy view.log w.asking.zone w.name w.labels way.above way.beyond way.high way.passed)

  -- where no cut is shown at the candidate, none is shown up to it
  passed-by : LeavesBehind view w → Passed view w.asking.zone w.name (w.labels + 1)
  passed-by leaves k low short = pick (nat_lt k w.labels) refl
    where
      pick : (b : Bool) → nat_lt k w.labels ≡ b → NoCutSeen view.policy view.log (last_name k w.name)
      pick true e = way.passed k low (grind (arith, nat_tests))
      pick false e =
          let more : w.labels ≤ k = grind (arith, nat_tests) in
          let same : w.labels ≡ k = omega (arith, more, short) in
          subst (NoCutSeen view.policy view.log) (named ∙ ap (λ (j : ℕ). last_name j w.name) same) (leaves (omega (arith, same, low)))

  -- no cut is shown at the candidate by a verdict that is none
  pub leaves-told : (t0 entry : ℕ) (v : Verdict) → IsUsableFor view t0 w.asking.lookup.query entry v → is_cut v w.asking.lookup.query.name ≡ false
      → LeavesBehind view w
  leaves-told t0 entry v stands none far =
      let now = subst (λ (p : Query). IsUsableFor view t0 p entry v) candidate-asked stands in
      told_otherwise now.base.heard now.base.counts (sym (cut-same (question w.asking.lookup.query.name 2) v now.whole w.asking.lookup.query.name now.same) ∙ none)
      (passed-at-candidate view.policy view.log now.zone w.asking.lookup.query.name now.walked)

  -- no cut is shown at the candidate by a lookup that failed otherwise than by a timeout
  pub leaves-failed : (t0 : ℕ) (e : NetError) → Concluded view t0 w.asking.zone w.asking.lookup.query w.asking.lookup.ends (Err e) → is_timeout e ≡ false
      → LeavesBehind view w
  leaves-failed t0 e ended otherwise far =
      let f = subst (λ (p : Query). FinishedLookup view.policy (machine_timer view.moment view.log t0) view.log t0 p w.asking.zone w.asking.lookup.ends (Err e)) candidate-asked ended in
      not_told (Finished-earlier view.policy view.log 0 t0 (omega arith) (machine_timer view.moment view.log t0) at_any_time
      (λ p ips g moments ends start now sends asked t. (now, omega arith, tt)) f) otherwise
      (passed-at-candidate view.policy view.log w.asking.zone w.asking.lookup.query.name
      (subst (λ (p : Query). Walked view.policy view.log p w.asking.zone) candidate-asked candidate-walked))

  -- the servers stayed silent for the candidate
  pub timed-out : (t0 : ℕ) → Concluded view t0 w.asking.zone w.asking.lookup.query w.asking.lookup.ends (Err net.Timeout)
      → NoServerFound view.policy (machine_timer view.moment view.log t0) view.log t0 q why.Timeout
  timed-out t0 ended = (
    w.asking.lookup.query.name,
    w.asking.lookup.ends,
    candidate-on-the-way,
    lookup-failed view t0 w.asking.zone w.asking.lookup.query (question w.asking.lookup.query.name 2) w.asking.lookup.ends net.Timeout refl
        candidate-asked ended (subst (λ (p : Query). Walked view.policy view.log p w.asking.zone) candidate-asked candidate-walked),
  )

-- ---- further

-- a walk that goes on from a candidate to the next one
pub goes-further : (view : LogView) (t0 : ℕ) (q : Query) (w : Walk) (labels : ℕ) (asked : Query) (l : Lookup)
    → WayHolds view q w → LeavesBehind view w → w.labels < length w.name.labels → labels ≡ w.labels + 1
    → asked ≡ candidate_query w.name labels → l.query ≡ asked
    → ((z : DomainName) → IsTrue (is_above z (walk asked)) → LookupHolds view t0 z l)
    → WalkHolds view t0 q (record w { labels = labels; asking = record w.asking { lookup = l } })
goes-further view t0 q w labels asked l way leaves more next ask query made =
    let beyond = way.beyond in
    let above : is_above w.asking.zone (last_name labels w.name) ≡ true =
    above-last w.asking.zone w.name labels way.above (omega (arith, next, beyond)) (omega (arith, next, more)) in
    record {
      way = record {
        name = way.name;
        above = way.above;
        pool = way.pool;
        low = omega (arith, next);
        high = omega (arith, next, more);
        beyond = omega (arith, next, beyond);
        asks = query ∙ ask;
        passed = subst (Passed view w.asking.zone w.name) (sym next) (passed-by view q w way leaves);
        strict = way.strict;
      };
      lookup = made w.asking.zone (subst (λ (p : Query). is_above w.asking.zone (walk p) ≡ true) (sym ask) above);
    }

-- a walk that has passed all candidates: for NS records it has come to the name's own servers, since the last candidate is the name
reaches-name : (view : LogView) (q : Query) (w : Walk) → WayHolds view q w → LeavesBehind view w → length w.name.labels ≤ w.labels
    → ReachesName view.policy view.log q w.asking.zone
reaches-name view q w way leaves all ns far =
    let no_ds : walk q ≡ q.name = rw ns refl in
    let its_name : w.name ≡ q.name = way.name ∙ no_ds in
    let n = length w.name.labels in
    let count : n ≡ length q.name.labels = ap (λ (d : DomainName). length d.labels) its_name in
    let none_left : n - n ≡ 0 = omega arith in
    let whole : last_name n w.name ≡ w.name = ap (λ (k : ℕ). record w.name { labels = drop k w.name.labels }) none_left in
    subst (NoCutSeen view.policy view.log) (whole ∙ its_name) (passed-by view q w way leaves n (omega (arith, far, count)) (omega (arith, all)))

-- where there is no candidate nothing is above the name
pub reaches-root : (view : LogView) (q : Query) (zone : DomainName) → length (walk q).labels ≡ 0 → ReachesName view.policy view.log q zone
reaches-root view q zone none ns far =
    let no_ds : walk q ≡ q.name = rw ns refl in
    let count : length (walk q).labels ≡ length q.name.labels = ap (λ (d : DomainName). length d.labels) no_ds in
    absurd (omega (arith, none, count, far))

-- a walk that has gone down to its zone for the question: it has come to the servers of the name
pub comes-there : (view : LogView) (q : Query) (w : Walk) → WayHolds view q w → LeavesBehind view w → length w.name.labels ≤ w.labels
    → IsAtServers view q w
comes-there view q w way leaves all =
    let passed = passed-by view q w way leaves in
    record {
      site = record {
        above = subst (λ (d : DomainName). is_above w.asking.zone d ≡ true) way.name way.above;
        walked = walked-from-passed view.policy view.log q w.asking.zone w.name way.name way.above (λ k low high. passed k low (omega (arith, high, all)));
        pool = way.pool;
      };
      own = reaches-name view q w way leaves all;
    }

-- ---- the beginning

-- a walk that begins at the roots
pub at-start : (view : LogView) (t0 : ℕ) (q : Query) (name : DomainName) (a : ZoneQuery) (asked : Query)
    → CanWalk view.policy → q.name.fqdn ≡ true → name ≡ walk q → 1 ≤ length name.labels
    → a.zone ≡ root → a.servers ≡ view.policy.roots → a.lookup.query ≡ asked → asked ≡ candidate_query name 1
    → (ServersForQuery view asked a.zone a.servers → ZoneQueryHolds view t0 a)
    → WalkHolds view t0 q (record { name = name; labels = 1; asking = a })
at-start view t0 q name a asked walks f n low z s query ask made =
    let top : is_above root name ≡ true = subst (λ (d : DomainName). is_above root d ≡ true) (sym n) (root-above-for q f) in
    let above : is_above a.zone name ≡ true = subst (λ (d : DomainName). is_above d name ≡ true) (sym z) top in
    let short : length a.zone.labels ≡ 0 = ap (λ (d : DomainName). length d.labels) z in
    let passed : Passed view a.zone name 1 = λ k longer few. absurd (omega (arith, longer, few)) in
    let pool : ZoneServers view a.zone a.servers =
    subst (λ (d : DomainName). ZoneServers view d a.servers) (sym z) (subst (ZoneServers view root) (sym s) (roots-pool view walks.some)) in
    let near : is_above a.zone (last_name 1 name) ≡ true = above-last a.zone name 1 above (omega (arith, short)) low in
    let site : ServersForQuery view asked a.zone a.servers = record {
      above = subst (λ (p : Query). is_above a.zone (walk p) ≡ true) (sym ask) near;
      walked = subst (λ (p : Query). Walked view.policy view.log p a.zone) (sym ask)
          (walked-at-candidate view.policy view.log a.zone name 1 above (omega (arith, short)) low passed);
      pool = pool;
    } in
    record {
      way = record {
        name = n;
        above = above;
        pool = pool;
        low = omega arith;
        high = low;
        beyond = omega (arith, short);
        asks = query ∙ ask;
        passed = passed;
        strict = walks.strict;
      };
      lookup = (made site).lookup;
    }

-- ---- a zone cut

-- a zone that is the candidate has as many labels
zone-length : (view : LogView) (q : Query) (w : Walk) (zone : DomainName) → WayHolds view q w → zone ≡ w.asking.lookup.query.name → length zone.labels ≡ w.labels
zone-length view q w zone way z = ap (λ (x : DomainName). length x.labels) (z ∙ named view q w way) ∙ last-length w.name w.labels way.high

-- the way from a zone cut on
pub cut-way : (view : LogView) (t0 : ℕ) (q : Query) (w : Walk) (kept : Message) (entry : ℕ) (zone : DomainName) (ips : List IpAddr)
    → WayHolds view q w → IsUsableFor view t0 w.asking.lookup.query entry (Pos kept)
    → is_delegation kept w.asking.lookup.query.name ≡ true → zone ≡ w.asking.lookup.query.name → 0 < length ips
    → ((ip : IpAddr) → Contains ips ip ↔ Contains (allowed (denies view.policy.server_filter) (glue kept w.asking.lookup.query.name)) ip)
    → WayHolds view q (record w { asking = record w.asking { zone = zone; servers = ips } })
cut-way view t0 q w kept entry zone ips way stands d z some glued =
    let there : zone ≡ last_name w.labels w.name = z ∙ named view q w way in
    let qualified : w.name.fqdn ≡ true = second_so w.asking.zone.fqdn w.name.fqdn (first_so (w.asking.zone.fqdn && w.name.fqdn) _ way.above) in
    let count = zone-length view q w zone way z in
    let low = way.low in
    let long : 1 ≤ length w.asking.lookup.query.name.labels = subst (λ (x : DomainName). 1 ≤ length x.labels) z (omega (arith, count, low)) in
    let cut = cut-delegates view t0 w.asking.lookup.query.name w.asking.lookup.query entry kept stands (candidate-asked view q w way) d long in
    record {
      name = way.name;
      above = subst (λ (x : DomainName). is_above x w.name ≡ true) (sym there) (last-above w.name w.labels qualified way.high);
      pool = subst (λ (x : DomainName). ZoneServers view x ips) (sym z)
          (cut-pool view w.asking.lookup.query.name cut.told ips cut.delegates some
          (λ ip. subst (λ (xs : List IpAddr). Contains ips ip ↔ Contains (allowed (denies view.policy.server_filter) xs) ip) cut.beside (glued ip)));
      low = way.low;
      high = way.high;
      beyond = omega (arith, count);
      asks = way.asks;
      passed = λ k longer short. absurd (omega (arith, count, longer, short));
      strict = way.strict;
    }

-- a zone cut leaves nothing behind
pub cut-leaves : (view : LogView) (q : Query) (w : Walk) (zone : DomainName) (ips : List IpAddr) → WayHolds view q w → zone ≡ w.asking.lookup.query.name
    → LeavesBehind view (record w { asking = record w.asking { zone = zone; servers = ips } })
cut-leaves view q w zone ips way z far =
    let count = zone-length view q w zone way z in
    absurd (omega (arith, count, far))

-- ---- on the same way

-- a walk that asks the same at the same servers is on the same way
pub way-looked : (view : LogView) (q : Query) (w : Walk) (a : ZoneQuery) → SameSite w.asking a → WayHolds view q w → WayHolds view q (record w { asking = a })
way-looked view q w a same way = record {
  name = way.name;
  above = subst (λ (z : DomainName). is_above z w.name ≡ true) (sym same.0) way.above;
  pool = subst (λ (z : DomainName). ZoneServers view z a.servers) (sym same.0) (subst (ZoneServers view w.asking.zone) (sym same.1) way.pool);
  low = way.low;
  high = way.high;
  beyond = subst (λ (z : DomainName). length z.labels ≤ w.labels) (sym same.0) way.beyond;
  asks = same.2 ∙ way.asks;
  passed = subst (λ (z : DomainName). Passed view z w.name w.labels) (sym same.0) way.passed;
  strict = way.strict;
}

-- a walk asks at its servers
pub walk-asks : (view : LogView) (t0 : ℕ) (q : Query) (w : Walk) → WalkHolds view t0 q w → ZoneQueryHolds view t0 w.asking
walk-asks view t0 q w h = record {
  site = record { above = h.lookup.above; walked = candidate-walked view q w h.way; pool = h.way.pool };
  lookup = h.lookup;
}

-- and goes on as that goes on
pub walk-asked : (view : LogView) (t0 : ℕ) (q : Query) (w : Walk) (a : ZoneQuery) → WalkHolds view t0 q w → SameSite w.asking a → ZoneQueryHolds view t0 a
    → WalkHolds view t0 q (record w { asking = a })
walk-asked view t0 q w a h same asks = record { way = way-looked view q w a same h.way; lookup = asks.lookup }
