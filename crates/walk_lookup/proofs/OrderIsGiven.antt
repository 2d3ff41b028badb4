-- What is sought by a lookup that gave an order, and to whom the order goes.
use Rattle.walk_lookup.proofs.Names.{◌≡◌, ℕ, ◌+◌, ⊎_elim, Bool, true, false, List, map, find, All, Contains, Option, Some, None, refl, sym, ap, subst, ◌∙◌, arith, IsPermutation, IsTrue, option_and_then, option_map, same_Some, All-weaker, All-contains, Contains-permutation, IsPermutation-sym, IpAddr, Query, DnsRequest, denies, NameServer, is_above, walk, Serves, pendings, Server, server_of, Order, GoesToServer, PoolServer, LookupStep, Attempt, Asking, opens, answer_in, Answered, is_open_at, Gives, LookupState, BegunWith, started, IsGivenFor, at_address, moved_to, IsOpenOrder, Shared, under, lookup_at, lookup_of, SameBut, HasStepped, told_as, OpenLookup, PoolStep, address_from_pool, next_runs, next_rest, order_goes, found_with, LogView, either, server_at, IsAt, IsSentTo, OpenOrderHolds, PendingHolds, aim_of, noted, answer_at, OrderTarget, OpenOrder, PendingLookup, no_polls, Tried, entries_of}
use Rattle.std.specs.Prelude.{IfSome}
use Rattle.pool_lookup.specs.Asked.{answer_of}
use Rattle.pool_lookup.proofs.OneOpenOrder.{opens_started}
use Rattle.server_pool.specs.Running.{RunsOn}
use Rattle.walk_lookup.proofs.KnownIsCarried.{config-same}
use Rattle.pool_lookup.specs.Running.{IsSentTo as IsSentOut}
use Rattle.server_core.specs.declared.orders.order.Order.TheVariants as order
use Rattle.pool_lookup.specs.declared.giving.LookupStep.TheVariants as step
use Rattle.server_pool.specs.declared.pool_shared.PoolStep.TheVariants as gives
use Rattle.walk_lookup.specs.declared.pending_lookup.OrderTarget.TheVariants as aim

-- the address of a server that is reached so
address-config : (o : Option Server) (config : NameServer) (ip : IpAddr) → option_map (λ server. server.config) o ≡ Some config
    → (elim o [ None ↦ None | Some server ↦ Some server.config.ip ]) ≡ Some ip → config.ip ≡ ip
address-config None config ip is at = cc
address-config (Some server) config ip is at = ap (λ (c : NameServer). c.ip) (sym (same_Some _ _ is)) ∙ same_Some _ _ at

module _ (view : LogView) (old new : Shared) (n : ℕ) (s : PendingLookup) (rest : SameBut n old new)
    (h : PendingHolds view old n s) where
  -- how each candidate is reached stays
  pub known-still : (servers : List PoolServer) → servers ≡ h.shared_by.lookup.servers → All (λ c. IsAt new.table (h.ip_of c.server) c) servers
  known-still servers same =
      subst (λ (cs : List PoolServer). All (λ c. IsAt new.table (h.ip_of c.server) c) cs) (sym same)
      (All-weaker (λ c. IsAt old.table (h.ip_of c.server) c) (λ c. IsAt new.table (h.ip_of c.server) c)
      (λ c at. record {
        config = config-same old.table new.table c.server (server_at (h.ip_of c.server)) rest.servers.configs at.config;
        beyond_udp = at.beyond_udp;
        trusted = at.trusted;
      }) h.shared_by.lookup.servers h.known)

-- ---- a step

module _ (view : LogView) (old new : Shared) (n : ℕ) (s : PendingLookup) (told : PoolStep) (h : PendingHolds view old n s)
    (t : HasStepped n view.moment h.shared_by old told new) where
  abbrev l : LookupState
  l = h.shared_by.lookup

  abbrev denied : IpAddr → Bool
  denied = denies view.policy.answer_filter

  -- the others are as they were
  pub step-rest : SameBut n old new
  step-rest = next_rest n view.moment h.shared_by old new told t

  -- it is there, and runs on
  step-runs : RunsOn denied h.heard view.moment n h.shared_by new
  step-runs = next_runs denied h.heard n view.moment h.shared_by old new told h.there t h.stands

  abbrev next : LookupState
  next = step-runs.next.lookup

  same-servers : next.servers ≡ l.servers
  same-servers = ap (λ (b : BegunWith). b.servers) step-runs.same

  -- the first address stays
  first-stays : (first : Option IpAddr) → either first None ≡ first
  first-stays None = refl
  first-stays (Some ip) = refl

  -- What is sought by it, with this order.
  step-holds : (given : Option OpenOrder) → IfSome given (λ g. OpenOrderHolds view new n s.zone next.servers next g g.aim) → PendingHolds view new n (noted given None None s)
  step-holds given gave = record {
    shared_by = step-runs.next;
    there = step-runs.there;
    asks = ap (λ (b : BegunWith). b.request.query) step-runs.same ∙ h.asks;
    starts = ap (λ (b : BegunWith). b.start) step-runs.same ∙ h.starts;
    time = ap (λ (b : BegunWith). b.timeout) step-runs.same ∙ h.time;
    lasts = h.lasts;
    past = h.past;
    ips = h.ips;
    served = h.served;
    ip_of = h.ip_of;
    known = known-still view old new n s step-rest h next.servers same-servers;
    whole = subst (λ (cs : List PoolServer). IsPermutation h.ips (map (at_address h.ip_of) cs)) (sym same-servers) h.whole;
    heard = h.heard;
    stands = step-runs.stands;
    decided = λ answer at is. ⊎_elim (λ here. omega (arith, here)) (λ before. h.decided answer at before) (step-runs.decides answer at is);
    ends = h.ends;
    beside = h.beside;
    tried = subst (λ (first : Option IpAddr). Tried view s.zone s.query h.ips s.start first (entries_of h.heard) h.ends s.at) (sym (first-stays s.first)) h.tried;
    given = gave;
    came = tt;
  }

  -- the step left it there
  moved-there : lookup_at new n ≡ Some (moved_to t.step.next h.shared_by)
  moved-there = ap (under n) t.step.lookups ∙ found_with n (moved_to t.step.next) h.shared_by old.lookups h.there

  -- its answer is what it told
  pub done-answer : (answer : Answered) → told ≡ gives.Done answer → answer_at new n ≡ Some answer
  done-answer answer is = ap (option_and_then (λ (x : OpenLookup). answer_of x.lookup)) moved-there ∙ by t.made (sym is ∙ t.is) t.step.gives
    where
      by : (made : LookupStep) → gives.Done answer ≡ told_as (old.given + 1) made → Gives (old.given + 1) view.moment old.table (started view.moment l) made t.step.next → answer_of t.step.next ≡ Some answer
      by (step.Order order) e g = cc
      by step.Waiting e g = cc
      by (step.Done made) e g = let same : made ≡ answer = cc in ap answer_of g.1 ∙ ap answer_in g.0.1 ∙ ap Some same

  -- ---- with an order

  module _ (number : ℕ) (o : Order) (is : told ≡ gives.Order number o) where
    step-goes : (x : OpenLookup) × IsOpenOrder number n x new × IsGivenFor old.table number o x.lookup
    step-goes =
        order_goes denied h.heard n view.moment number h.shared_by old new o h.there (subst (λ (x : PoolStep). HasStepped n view.moment h.shared_by old x new) is t) h.stands

    of-number : lookup_of new number ≡ Some n
    of-number = step-goes.1.order

    goes-to : IsGivenFor old.table number o next
    goes-to = subst (λ (x : OpenLookup). IsGivenFor old.table number o x.lookup) (same_Some _ _ (sym step-goes.1.there ∙ step-runs.there)) step-goes.2

    -- as the step left it
    left-so : t.step.next ≡ next
    left-so = ap (λ (x : OpenLookup). x.lookup) (same_Some _ _ (sym moved-there ∙ step-runs.there))

    -- no poll of it was put yet
    never-polled : (a : Attempt) → t.step.next.state ≡ Asking → find (is_open_at number) t.step.next.attempts ≡ Some a → pendings a.send.stage ≡ 0
    never-polled a asking found = by t.made (sym is ∙ t.is) t.step.gives
      where
        idle : opens (old.given + 1) (started view.moment l) ≡ 0
        idle = let less = opens_started (old.given + 1) view.moment l in let none = t.idle in omega (arith, less, none)

        by : (made : LookupStep) → gives.Order number o ≡ told_as (old.given + 1) made → Gives (old.given + 1) view.moment old.table (started view.moment l) made t.step.next → pendings a.send.stage ≡ 0
        by (step.Order given) e g =
            let same : number ≡ old.given + 1 = cc in
            no_polls (old.given + 1) view.moment old.table (started view.moment l) given t.step.next idle g asking a
            (subst (λ (k : ℕ). find (is_open_at k) t.step.next.attempts ≡ Some a) same found)
        by step.Waiting e g = cc
        by (step.Done answer) e g = cc

    abbrev ordered-given : OrderTarget → OpenOrder
    ordered-given a = record { number = number; aim = a; since = view.greatest; polled = None }

    module _ (asks : Bool) (ip : IpAddr) (to : IsSentOut old.table number asks ip next) where
      from-pool : Contains l.servers to.candidate
      from-pool = subst (λ (cs : List PoolServer). Contains cs to.candidate) same-servers to.from_pool

      at-known : IsAt old.table (h.ip_of to.candidate.server) to.candidate
      at-known = All-contains (λ c. IsAt old.table (h.ip_of c.server) c) l.servers to.candidate h.known from-pool

      -- to the address at which it is known
      at-ip : h.ip_of to.candidate.server ≡ ip
      at-ip = address-config (server_of old.table to.candidate.server) (server_at (h.ip_of to.candidate.server)) ip at-known.config to.at

      at-still : IsAt new.table ip to.candidate
      at-still =
          subst (λ (x : IpAddr). IsAt new.table x to.candidate) at-ip
          (All-contains (λ c. IsAt new.table (h.ip_of c.server) c) l.servers to.candidate (known-still view old new n s step-rest h l.servers refl) from-pool)

      -- it goes to one of the addresses of the zone, which serves it
      serves-ip : Serves view.policy view.log (view.greatest + 1) ip s.zone
      serves-ip =
          let from : Contains h.ips ip =
          subst (Contains h.ips) at-ip
          (Contains-permutation (map (at_address h.ip_of) l.servers) h.ips (h.ip_of to.candidate.server) (IsPermutation-sym h.ips (map (at_address h.ip_of) l.servers) h.whole)
          (address_from_pool h.ip_of l.servers to.candidate from-pool)) in
          All-contains (λ x. Serves view.policy view.log (view.greatest + 1) x s.zone) h.ips ip h.served.pool.serve from

      sent-out : (a : OrderTarget) → IsSentTo view new n s.zone next.servers next (ordered-given a) asks ip
      sent-out a = record {
        of = of-number;
        candidate = to.candidate;
        from_pool = to.from_pool;
        at = at-still;
        open_to = to.open_to;
        past = omega arith;
        serves = serves-ip;
        polled = never-polled to.open_to.attempt (ap (λ (x : LookupState). x.state) left-so ∙ to.open_to.asking) (ap (λ (x : LookupState). find (is_open_at number) x.attempts) left-so ∙ to.open_to.at);
      }

    -- the order, as it is kept, by what it does
    kept-as : (x : Order) → IsGivenFor old.table number x next → OpenOrderHolds view new n s.zone next.servers next (ordered-given (aim_of x)) (aim_of x)
    kept-as (order.Open ip config) to = sent-out false ip to (aim.Open ip)
    kept-as (order.Ask conn ip protocol request) to = sent-out true ip to.1 (aim.Ask ip)
    kept-as (order.Sleep until) under = (of-number, under)

    -- it goes to a server; a question to one of a zone at or above its name
    goes-as : (x : Order) → IsGivenFor old.table number x next → GoesToServer view.policy view.log (view.greatest + 1) x
    goes-as (order.Open ip config) to = record { zone = s.zone; serves = serves-ip false ip to }
    goes-as (order.Ask conn ip protocol request) to =
        let query : request.query ≡ s.query = ap (λ (r : DnsRequest). r.query) (to.0 ∙ ap (λ (b : BegunWith). b.request) step-runs.same) ∙ h.asks in
        record {
          zone = s.zone;
          serves = serves-ip true ip to.1;
          above = subst (λ (q : Query). IsTrue (is_above s.zone (walk q))) (sym query) h.served.above;
        }
    goes-as (order.Sleep until) under = tt

    -- What is sought by a lookup that gave it.
    pub ordered-holds : PendingHolds view new n (noted (Some (ordered-given (aim_of o))) None None s)
    ordered-holds = step-holds (Some (ordered-given (aim_of o))) (kept-as o goes-to)

    -- And where it goes.
    pub order-goes : GoesToServer view.policy view.log (view.greatest + 1) o
    order-goes = goes-as o goes-to

  -- What is sought by one that has its answer, or waits.
  pub done-holds : PendingHolds view new n (noted None None None s)
  done-holds = step-holds None tt
