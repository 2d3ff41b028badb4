-- The servers that a lookup begins with are reached, and stay so where more servers are added.
use Rattle.std.proofs.Common.{◌≡◌, ◌∙◌, ℕ, ◌+◌, ◌<◌, Bool, true, false, not, cond, List, [], ◌∷◌, ◌++◌, map, filter, length, Option, Some, None, Result, Ok, Err, IfOk, refl, ap, sym, subst, arith}
use Rattle.std.specs.Prelude.{◌≢◌, IsTrue, nat_le}
use Rattle.std.specs.BTreeMap.{insert_entry}
use Rattle.std.specs.List.{AllByRecursion}
use Rattle.std.specs.Ordering.{nat_cmp}
use Rattle.std.proofs.lemmas.Bool.{leb-false}
use Rattle.std.specs.declared.net.ip_addr.IpAddr.{IpAddr}
use Rattle.resolver_settings.specs.declared.options.ResolverOpts.{ResolverOpts}
use Rattle.dns_core.specs.declared.request.DnsRequest.{DnsRequest}
use Rattle.server_core.specs.Policy.{allows_server}
use Rattle.server_core.specs.Servers.{Server, server_of}
use Rattle.pool_rules.specs.RetryQueue.{may_ask}
use Rattle.pool_rules.specs.Ordering.{IsOrdered, next_turn, concurrency_of}
use Rattle.pool_rules.specs.declared.pool_server.PoolServer.{PoolServer}
use Rattle.pool_lookup.specs.Asked.{opens}
use Rattle.pool_lookup.specs.Holds.{Holds, IsReached}
use Rattle.pool_lookup.specs.Lookup.{LookupState, BegunWith, fresh}
use Rattle.pool_lookup.specs.Rounds.{begun}
use Rattle.pool_lookup.proofs.BegunStays.{round_same}
use Rattle.pool_lookup.proofs.OneOpenOrder.{opens_begun}
use Rattle.pool_lookup.proofs.ReachedAsBefore.{more_reached}
use Rattle.server_pool.specs.UsableServers.{is_reached, candidate_of, usable_servers}
use Rattle.server_pool.specs.OpenLookups.{is_last, under}
use Rattle.server_pool.specs.declared.open_lookups.open_lookup.OpenLookup.{OpenLookup}
use Rattle.server_pool.specs.Holds.{LookupHolds, SharedHolds}
use Rattle.server_pool.specs.Sending.{Begins, HasBegun}
use Rattle.server_pool.specs.Shared.{Shared, turn_at}

-- ---- the candidates

one_reached : (table : List Server) (n : ℕ) → is_reached (record { disable_udp = false }) table n ≡ true → IsReached table (candidate_of table n)
one_reached table n h = at_server (server_of table n) refl h
  where
    twice : (b : Bool) → not (not b) ≡ true → b ≡ true
    twice true e = refl
    twice false e = cc

    at_server : (o : Option Server) → server_of table n ≡ o → elim o [ None ↦ false | Some server ↦ allows_server (record { disable_udp = false }) server ] ≡ true → IsReached table (candidate_of table n)
    at_server None none e = cc
    at_server (Some s) some e = record { server = s; there = some; over = over }
      where
        beyond : is_reached (record { disable_udp = true }) table n ≡ allows_server (record { disable_udp = true }) s
        beyond = ap (λ (o : Option Server). elim o as (λ x. Bool) [ None ↦ false | Some server ↦ allows_server (record { disable_udp = true }) server ]) some

        over : (udp_off : Bool) → IsTrue (may_ask udp_off (candidate_of table n)) → IsTrue (allows_server (record { disable_udp = udp_off }) s)
        over false may = e
        over true may = sym beyond ∙ twice (is_reached (record { disable_udp = true }) table n) may

pub reached_candidates : (table : List Server) (ns : List ℕ) → AllByRecursion (IsReached table) (usable_servers table ns)
reached_candidates table [] = tt
reached_candidates table (n ∷ ns) = at_head (is_reached (record { disable_udp = false }) table n) refl (reached_candidates table ns)
  where
    at_head : (b : Bool) → is_reached (record { disable_udp = false }) table n ≡ b → AllByRecursion (IsReached table) (usable_servers table ns)
        → AllByRecursion (IsReached table) (map (candidate_of table) (cond b (n ∷ filter (is_reached (record { disable_udp = false }) table) ns) (filter (is_reached (record { disable_udp = false }) table) ns)))
    at_head true e rest = (one_reached table n e, rest)
    at_head false e rest = rest

-- a lookup that begins is as it should be
pub begun_lookup : (denied : IpAddr → Bool) (options : ResolverOpts) (table : List Server) (servers : List ℕ) (turn : ℕ) (request : DnsRequest) (now pool sent : ℕ) (l : LookupState)
    → Begins options table servers turn request now l → Holds denied l → LookupHolds denied table (sent + 1) (record { pool = pool; waiters = 1; lookup = l })
begun_lookup denied options table servers turn request now pool sent l b h = record {
  rules = h;
  reached =
      rw b.is (subst (λ (cs : List PoolServer). AllByRecursion (IsReached table) cs) (sym (ap (λ (x : BegunWith). x.servers) (round_same now (fresh request (usable_servers table b.ordered) (concurrency_of options) options.timeout now))))
      (reached_candidates table b.ordered));
  some = omega arith;
  few = omega arith;
}

-- ---- more servers

pub added_holds : (denied : IpAddr → Bool) (table more : List Server) (ls : List (ℕ × OpenLookup)) (os : List (ℕ × ℕ)) (sent given : ℕ) → SharedHolds denied table ls os sent given → SharedHolds denied (table ++ more) ls os sent given
added_holds denied table more ls os sent given h = record {
  numbered = h.numbered;
  ordered = h.ordered;
  each = λ n l there. (let w = h.each n l there in record {
    rules = w.rules;
    reached = more_reached table more l.lookup w.reached;
    some = w.some;
    few = w.few;
  });
  listed = h.listed;
}

-- ---- a lookup begins

-- what the call says of a lookup that begins
pub begins_so : {E : Type 0} (r : Result LookupState E) (options : ResolverOpts) (table : List Server) (servers : List ℕ) (turn : ℕ) (request : DnsRequest) (now : ℕ) (ordered : List ℕ) (found : List PoolServer) (concurrency : ℕ)
    → IsOrdered options table now turn servers ordered → found ≡ usable_servers table ordered → concurrency ≡ concurrency_of options → IfOk r (λ l. l ≡ begun request found concurrency options.timeout now)
    → IfOk r (Begins options table servers turn request now)
begins_so (Ok l) options table servers turn request now ordered found concurrency order those many is = record {
  ordered = ordered;
  in_order = order;
  is = is ∙ ap (λ (cs : List PoolServer). begun request cs concurrency options.timeout now) those ∙ ap (λ (n : ℕ). begun request (usable_servers table ordered) n options.timeout now) many;
}
begins_so (Err e) options table servers turn request now ordered found concurrency order those many is = tt

-- it is one of its pool, with one that waits
pub begun_so : (pool : ℕ) (servers : List ℕ) (request : DnsRequest) (now number turn : ℕ) (lookup : LookupState) (old new : Shared) → number ≡ old.sent + 1 → turn ≡ turn_at old pool
    → Begins old.context.options old.table servers turn request now lookup
    → new ≡ record old { lookups = insert_entry nat_cmp old.lookups number (record { pool = pool; waiters = 1; lookup = lookup }); turns = new.turns; sent = number }
    → turn_at new pool ≡ next_turn old.context.options turn (length servers) → ((other : ℕ) → other ≢ pool → turn_at new other ≡ turn_at old other) → HasBegun pool servers request now old new number
begun_so pool servers request now number turn lookup old new next before b is after others = record {
  next = next;
  lookup = lookup;
  begins = subst (λ (t : ℕ). Begins old.context.options old.table servers t request now lookup) before b;
  is = is;
  turn = after ∙ ap (λ (t : ℕ). next_turn old.context.options t (length servers)) before;
  turns = others;
}

-- it idles before its first step
pub begun_idle : (options : ResolverOpts) (table : List Server) (servers : List ℕ) (turn : ℕ) (request : DnsRequest) (now : ℕ) (l : LookupState) → Begins options table servers turn request now l → (k : ℕ) → opens k l ≡ 0
begun_idle options table servers turn request now l b k = ap (opens k) b.is ∙ opens_begun k request (usable_servers table b.ordered) (concurrency_of options) options.timeout now

-- more than one waits for a lookup that has no last one
pub many_wait : (n : ℕ) (ls : List (ℕ × OpenLookup)) → is_last n ls ≡ false → (x : OpenLookup) → under n ls ≡ Some x → 1 < x.waiters
many_wait n ls shut x there = leb-false x.waiters 1 (sym (ap (λ (o : Option OpenLookup). elim o as (λ y. Bool) [ None ↦ true | Some l ↦ nat_le l.waiters 1 ]) there) ∙ shut)
