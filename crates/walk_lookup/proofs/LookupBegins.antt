-- What holds of a lookup that begins at the servers of a zone.
use Rattle.walk_lookup.proofs.Names.{◌≡◌, ℕ, ◌<◌, ◌≤◌, ◌⊎◌, inl, inr, Bool, true, false, cond, List, [], ◌∷◌, map, filter, take, drop, length, All, Option, Some, None, refl, sym, ap, subst, ◌∙◌, arith, ◌&&◌, not, eqb-true, option_map, AllZip, list_any, AllByRecursion, IsPermutation, same_Some, none-some, All-weaker, All-from_recursion, recursion_from_All, take-append-drop, IsPermutation-append_comm, IsPermutation-refl, IsPermutation-map, All-permutation, IpAddr, DomainName, DnsRequest, NameServer, over_udp, over_tcp, no_send, Server, server_of, denies, HoldsBy, LookupState, BegunWith, begun_with, fresh, is_decided, begun, round_same, begun_by, started_moment, Asking, Decided, Answered, HasBegun, SentTo, HasSent, lookup_at, turn_at, configs, Shared, SameBut, OpenLookup, PoolServer, at_address, LogView, config_at, server_at, IsAt, IsServerOf, PendingHolds, ServersForQuery, open_for}
use Rattle.std.proofs.Common.{◌==◌}
use Rattle.server_core.specs.Policy.{allows_config}
use Rattle.server_core.specs.declared.sends.policy.ConnectionPolicy.{ConnectionPolicy}
use Rattle.server_pool.specs.UsableServers.{is_reached, candidate_of, usable_servers}
use Rattle.resolver_settings.specs.declared.options.ResolverOpts.{ResolverOpts}
use Rattle.resolver_settings.specs.declared.options.ServerOrderingStrategy.{ServerOrderingStrategy}
use Rattle.resolver_settings.specs.declared.options.ServerOrderingStrategy.TheVariants.{QueryStatistics, UserProvidedOrder, RoundRobin}
use Rattle.pool_rules.specs.Ordering.{IsByDelay, IsOrdered, from_place, place_of_turn, concurrency_of}
use Rattle.server_pool.specs.ByAddress.Beside.{no_more}
use Rattle.walk_lookup.proofs.KnownIsCarried.{config-same}
use Rattle.pool_rules.specs.Key.{same_key}

-- ---- servers that were met

-- a server at an address is reached over UDP and beyond it, and is believed
reached-by : (policy : ConnectionPolicy) (ip : IpAddr) (o : Option Server) → option_map (λ server. server.config) o ≡ Some (server_at ip)
    → (elim o [ None ↦ false | Some server ↦ list_any (allows_config policy) server.config.connections ]) ≡ list_any (allows_config policy) (over_udp ∷ over_tcp ∷ [])
reached-by policy ip None is = cc
reached-by policy ip (Some server) is = ap (λ (config : NameServer). list_any (allows_config policy) config.connections) (same_Some _ _ is)

trusted-by : (ip : IpAddr) (o : Option Server) → option_map (λ server. server.config) o ≡ Some (server_at ip)
    → (elim o [ None ↦ false | Some server ↦ server.config.trust_negative_responses ]) ≡ true
trusted-by ip None is = cc
trusted-by ip (Some server) is = ap (λ (config : NameServer). config.trust_negative_responses) (same_Some _ _ is)

module _ (table : List Server) where
  reached-any : (off : Bool) → list_any (allows_config (record { disable_udp = off })) (over_udp ∷ over_tcp ∷ []) ≡ true
  reached-any true = refl
  reached-any false = refl

  reached-met : (policy : ConnectionPolicy) (ip : IpAddr) (k : ℕ) → config_at table k ≡ Some (server_at ip) → is_reached policy table k ≡ true
  reached-met policy ip k is = reached-by policy ip (server_of table k) is ∙ reached-any policy.disable_udp

  pub candidate-met : (ip : IpAddr) (k : ℕ) → config_at table k ≡ Some (server_at ip) → IsAt table ip (candidate_of table k)
  candidate-met ip k is = record {
    config = is;
    beyond_udp = reached-met (record { disable_udp = true }) ip k is;
    trusted = trusted-by ip (server_of table k) is;
  }

  module _ (other : IpAddr) where
    -- the address of the server of a number
    address-in : Option NameServer → IpAddr
    address-in None = other
    address-in (Some config) = config.ip

    address-of : ℕ → IpAddr
    address-of k = address-in (config_at table k)

    met-at : (ip : IpAddr) (k : ℕ) → config_at table k ≡ Some (server_at ip) → address-of k ≡ ip
    unfolding address-of address-in
    met-at ip k is = ap address-in is

    -- the server of the number is there, at its address
    abbrev IsThere : ℕ → Type 0
    IsThere k = config_at table k ≡ Some (server_at (address-of k))

    there-met : (ip : IpAddr) (k : ℕ) → config_at table k ≡ Some (server_at ip) → IsThere k
    there-met ip k is = is ∙ ap (λ (x : IpAddr). Some (server_at x)) (sym (met-at ip k is))

    -- so are they all, in the order of their addresses
    all-met : (ips : List IpAddr) (ks : List ℕ) → AllZip (λ ip k. config_at table k ≡ Some (server_at ip)) ips ks → (map address-of ks ≡ ips) × AllByRecursion IsThere ks
    all-met [] [] met = (refl, tt)
    all-met (ip ∷ ips) (k ∷ ks) met =
        let rest = all-met ips ks met.1 in
        (ap (λ (x : IpAddr). x ∷ map address-of ks) (met-at ip k met.0) ∙ ap (λ (xs : List IpAddr). ip ∷ xs) rest.0, (there-met ip k met.0, rest.1))
    all-met _ _ met = absurd met

    -- none of them is left out
    all-reached : (ks : List ℕ) → AllByRecursion IsThere ks → filter (is_reached (record { disable_udp = false }) table) ks ≡ ks
    all-reached [] a = refl
    all-reached (k ∷ ks) a =
        ap (λ (b : Bool). cond b (k ∷ filter (is_reached (record { disable_udp = false }) table) ks) (filter (is_reached (record { disable_udp = false }) table) ks))
        (reached-met (record { disable_udp = false }) (address-of k) k a.0)
        ∙ ap (λ (l : List ℕ). k ∷ l) (all-reached ks a.1)

    addresses-of : (ks : List ℕ) → map (at_address address-of) (map (candidate_of table) ks) ≡ map address-of ks
    addresses-of [] = refl
    addresses-of (k ∷ ks) = ap (λ (xs : List IpAddr). address-of k ∷ xs) (addresses-of ks)

    candidates-met : (ks : List ℕ) → AllByRecursion IsThere ks → AllByRecursion (λ c. IsAt table (address-of c.server) c) (map (candidate_of table) ks)
    candidates-met [] a = tt
    candidates-met (k ∷ ks) a = (candidate-met (address-of k) k a.0, candidates-met ks a.1)

-- ---- their order

-- in any order there are the same servers
pub ordered-same : (options : ResolverOpts) (table : List Server) (now turn : ℕ) (given asked : List ℕ) → IsOrdered options table now turn given asked → IsPermutation given asked
ordered-same options table now turn given asked h = by_strategy options.server_ordering_strategy h
  where
    turned : (place : ℕ) → IsPermutation given (from_place place given)
    turned place = subst (λ (xs : List ℕ). IsPermutation xs (from_place place given)) (take-append-drop place given) (IsPermutation-append_comm (take place given) (drop place given))

    by_strategy : (s : ServerOrderingStrategy) → elim s as (λ v. Type 0) [
      | QueryStatistics ↦ IsByDelay table now given asked
      | UserProvidedOrder ↦ asked ≡ given
      | RoundRobin ↦ asked ≡ from_place (place_of_turn (concurrency_of options) turn (length given)) given
    ] → IsPermutation given asked
    by_strategy QueryStatistics x = x.permutation
    by_strategy UserProvidedOrder x = subst (λ (xs : List ℕ). IsPermutation given xs) (sym x) (IsPermutation-refl given)
    by_strategy RoundRobin x = subst (λ (xs : List ℕ). IsPermutation given xs) (sym x) (turned _)

-- ---- the lookup

-- the first of some addresses
first-of : (ips : List IpAddr) → 0 < length ips → IpAddr
first-of [] some = absurd (omega (arith, some))
first-of (ip ∷ ips) some = ip

-- What a lookup seeks that has just begun.
pub begun-holds : (view : LogView) (zone : DomainName) (ips : List IpAddr) (numbers : List ℕ) (request : DnsRequest) (old new : Shared) (pool n : ℕ)
    → ServersForQuery view request.query zone ips → old.context.options.timeout ≡ view.policy.timeout → 0 < view.policy.timeout → AllZip (IsServerOf old.table) ips numbers
    → (b : HasBegun pool numbers request view.moment old new n) → (l : OpenLookup) → lookup_at new n ≡ Some l → l.lookup ≡ b.lookup
    → configs new.table ≡ configs old.table
    → PendingHolds view new n (record { query = request.query; zone = zone; start = view.moment; given = None; first = None; at = view.moment; came = None })
begun-holds view zone ips numbers request old new pool n served timeout lasts met b l there is same =
    let table = old.table in
    let options = old.context.options in
    let ordered = b.begins.ordered in
    let permutation = ordered-same options table view.moment (turn_at old pool) numbers ordered b.begins.in_order in
    let other = first-of ips served.pool.some in
    let ip_of = address-of table other in
    let all = all-met table other ips numbers met in
    let met_each = recursion_from_All (IsThere table other) ordered (All-permutation (IsThere table other) numbers ordered permutation (All-from_recursion (IsThere table other) numbers all.1)) in
    let cs = map (candidate_of table) ordered in
    let whole : usable_servers table ordered ≡ cs = ap (map (candidate_of table)) (all-reached table other ordered met_each) in
    let state : l.lookup ≡ begun request cs (concurrency_of options) options.timeout view.moment =
    is ∙ b.begins.is ∙ ap (λ (xs : List PoolServer). begun request xs (concurrency_of options) options.timeout view.moment) whole in
    let with_all : begun_with l.lookup ≡ begun_with (fresh request cs (concurrency_of options) options.timeout view.moment) =
    ap begun_with state ∙ round_same view.moment (fresh request cs (concurrency_of options) options.timeout view.moment) in
    let config : (c : PoolServer) → IsAt table (ip_of c.server) c → IsAt new.table (ip_of c.server) c =
    λ c at. record { config = config-same table new.table c.server (server_at (ip_of c.server)) same at.config; beyond_udp = at.beyond_udp; trusted = at.trusted } in
    let at_all : l.lookup.servers ≡ cs = ap (λ (x : BegunWith). x.servers) with_all in
    record {
      shared_by = l;
      there = there;
      asks = ap (λ (x : BegunWith). x.request.query) with_all;
      starts = ap (λ (x : BegunWith). x.start) with_all;
      time = ap (λ (x : BegunWith). x.timeout) with_all ∙ timeout;
      lasts = lasts;
      past = omega arith;
      ips = ips;
      served = served;
      ip_of = ip_of;
      known = subst (λ (xs : List PoolServer). All (λ c. IsAt new.table (ip_of c.server) c) xs) (sym at_all)
          (All-weaker (λ c. IsAt table (ip_of c.server) c) (λ c. IsAt new.table (ip_of c.server) c) config cs
          (All-from_recursion (λ c. IsAt table (ip_of c.server) c) cs (candidates-met table other ordered met_each)));
      whole = subst (λ (xs : List PoolServer). IsPermutation ips (map (at_address ip_of) xs)) (sym at_all)
          (subst (λ (xs : List IpAddr). IsPermutation xs (map (at_address ip_of) cs)) all.0
          (subst (λ (xs : List IpAddr). IsPermutation (map ip_of numbers) xs) (sym (addresses-of table other ordered)) (IsPermutation-map ip_of numbers ordered permutation)));
      heard = [];
      stands = subst (HoldsBy (denies view.policy.answer_filter) []) (sym state) (begun_by (denies view.policy.answer_filter) request cs (concurrency_of options) options.timeout view.moment (omega arith));
      decided = λ answer at was. decided-now answer at (started_moment view.moment (fresh request cs (concurrency_of options) options.timeout view.moment) answer at (sym (ap (λ (x : LookupState). x.state) state) ∙ was));
      ends = [];
      beside = no_more;
      tried = record { moments = []; logged = no_send; heard = tt; rises = tt; early = refl; began = tt; since = refl; till = refl; last = λ m is. absurd (none-some m is) };
      given = tt;
      came = tt;
    }
  where
    decided-now : (answer : Answered) (at : ℕ) → (at ≡ view.moment) ⊎ (Asking ≡ Decided answer at) → at ≤ view.moment
    decided-now answer at (inl is) = omega (arith, is)
    decided-now answer at (inr is) = cc

-- ---- a pool of a new number

-- a change of a lookup after another of the same one
pub same_but-trans : (n : ℕ) (a b c : Shared) → SameBut n a b → SameBut n b c → SameBut n a c
same_but-trans n a b c x y = record {
  servers = record { context = y.servers.context ∙ x.servers.context; configs = y.servers.configs ∙ x.servers.configs };
  lookups = λ m other. y.lookups m other ∙ x.lookups m other;
  orders = λ number m other is. y.orders number m other (x.orders number m other is);
}

both-true : (a b : Bool) → (a && b) ≡ true → (a ≡ true) × (b ≡ true)
both-true true b is = (refl, is)
both-true false b is = cc

-- at a pool that is later than those of all lookups each request begins one
pub has-begun : (pool : ℕ) (servers : List ℕ) (request : DnsRequest) (now : ℕ) (old new : Shared) (number : ℕ) → ((n : ℕ) (l : OpenLookup) → lookup_at old n ≡ Some l → l.pool < pool)
    → HasSent pool servers request now old new number → HasBegun pool servers request now old new number
has-begun pool servers request now old new number later sent = by (open_for pool request old.lookups) sent
  where
    by : (o : Option ℕ) → SentTo o pool servers request now old new number → HasBegun pool servers request now old new number
    by None begun = begun
    by (Some m) joined =
        let j = joined.1 in
        let l = j.lookup in
        let two = both-true (not (is_decided l.lookup.state) && l.pool == pool) (same_key l.lookup.request request) j.same in
        let one = both-true (not (is_decided l.lookup.state)) (l.pool == pool) two.0 in
        let same : l.pool ≡ pool = eqb-true l.pool pool one.1 in
        let before = later number l j.there in
        absurd (omega (arith, same, before))
