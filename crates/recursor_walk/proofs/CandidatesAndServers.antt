-- The candidates on the way down to a name, and the servers of a zone: the roots, and those beside a delegation.
use Rattle.recursor_walk.proofs.QueryWords.{◌≡◌, ℕ, Bool, true, false, cond, List, Contains, refl, sym, subst, ◌∙◌, ◌≤◌, arith, ◌&&◌, ◌==◌, not, ◌+◌, ◌<◌, ◌↔◌, ◌-◌, length, All-weaker, All-contains_itself, recursion_from_All, IpAddr, DomainName, Query, Message, candidates, walk, question, last_name, root, base, is_above, is_root, is_delegation, glue, allowed, Serves, Delegates, Base, Pos, Verdict, Same-is_delegation, Same-glue, LogView, is_cut, IsUsableFor, SameVerdict}
use Rattle.std.proofs.lemmas.Bool.Decides.{nat_tests}
use Rattle.std.proofs.lemmas.List.FromFn.{get_or-map-range_with_len, length-map-range_with_len}
use Rattle.std.proofs.lemmas.Bool.{not-true}
use Rattle.resolver_settings.specs.Access.{denies}
use Rattle.resolution.specs.Serving.Serves.{of_root, of_glue}
use Rattle.resolution.specs.Serving.Delegates.{delegates}
use Rattle.resolution.specs.Ending.Listed.{of_roots, of_told}
use Rattle.resolution.proofs.ElementsFiltered.{Has-from_Contains, Contains-from_Has, Has-filter, Has-passes}
use Rattle.walk_lookup.specs.PendingLookup.{ZoneServers, ServersForQuery}
use Rattle.resolution.proofs.WayDown.{root-above, walked-from-passed}

-- ---- candidates

-- the last labels of a name are among its candidates
pub among : (n : DomainName) (k : ℕ) → 1 ≤ k → k ≤ length n.labels → Contains (candidates n) (last_name k n)
among n k low high =
    let f : ℕ → DomainName = λ (i : ℕ). last_name i n in
    let count = length-map-range_with_len f 1 (length n.labels) in
    (k - 1, omega (arith, count, low, high), get_or-map-range_with_len f 1 (length n.labels) (k - 1) k (last_name k n) (omega (arith, low, high)) (omega (arith, low)))

-- a verdict shows a cut where one does that is the same but for TTLs
pub cut-same : (q : Query) (v w : Verdict) (c : DomainName) → SameVerdict q v w → is_cut v c ≡ is_cut w c
cut-same q (Pos a) (Pos b) c same = Same-is_delegation a b c same
cut-same q (Pos a) _ c same = absurd same
cut-same q _ (Pos b) c same = absurd same
cut-same q _ _ c same = refl

-- ---- the roots

-- a question whose name is fully qualified is walked to such a name
walk-qualified : (q : Query) → q.name.fqdn ≡ true → (walk q).fqdn ≡ true
walk-qualified q f = by (q.query_type.code == 43)
  where
    by : (b : Bool) → (cond b (base q.name) q.name).fqdn ≡ true
    by true = f
    by false = f

-- the roots are the servers of the root
pub roots-pool : (view : LogView) → 0 < length view.policy.roots → ZoneServers view root view.policy.roots
roots-pool view some = record {
  serve = All-weaker (Contains view.policy.roots) (λ (ip : IpAddr). Serves view.policy view.log (view.greatest + 1) ip root) (λ ip has. of_root has)
      view.policy.roots (All-contains_itself view.policy.roots);
  listed = of_roots;
  some = some;
}

-- the servers of the root are for each question whose name is fully qualified, before any cut
pub root-above-for : (q : Query) → q.name.fqdn ≡ true → is_above root (walk q) ≡ true
root-above-for q f = root-above (walk q) (walk-qualified q f)

-- the servers of the root are for a question that is walked to the root
pub at-root : (view : LogView) (q : Query) (zone : DomainName) (servers : List IpAddr) → 0 < length view.policy.roots → q.name.fqdn ≡ true
    → length (walk q).labels ≡ 0 → zone ≡ root → servers ≡ view.policy.roots → ServersForQuery view q zone servers
at-root view q zone servers some f none z s =
    subst (λ (d : DomainName). ServersForQuery view q d servers) (sym z) (subst (ServersForQuery view q root) (sym s) (record {
      above = root-above-for q f;
      walked = walked-from-passed view.policy view.log q root (walk q) refl (root-above-for q f) (λ k longer few. absurd (omega (arith, longer, few, none)));
      pool = roots-pool view some;
    }))

-- ---- a zone cut

-- a name with a label is not the root
not-root : (c : DomainName) → 1 ≤ length c.labels → is_root c ≡ false
not-root c h = by (c.fqdn) (length c.labels) h
  where
    by : (f : Bool) (k : ℕ) → 1 ≤ k → (f && (k == 0)) ≡ false
    by true k h = grind (arith, nat_tests)
    by false k h = refl

-- A delegation was told that has the same addresses beside it.
pub record Cut (view : LogView) (c : DomainName) (kept : Message) : Type 0 where
  pub told : Message
  pub delegates : Delegates view.policy view.log (view.greatest + 1) c told
  pub beside : glue kept c ≡ glue told c

cut-by : (view : LogView) (t0 : ℕ) (zone c : DomainName) (entry : ℕ) (kept : Message) (whole : Verdict)
    → entry ≤ view.greatest → Base view.policy view.log t0 (question c 2) entry zone whole → SameVerdict (question c 2) (Pos kept) whole
    → is_delegation kept c ≡ true → 1 ≤ length c.labels → Cut view c kept
cut-by view t0 zone c entry kept (Pos before) early base same d long = record {
  told = before;
  delegates = delegates (omega (arith, early)) base.heard base.counts (sym (Same-is_delegation kept before c same) ∙ d) (not-root c long);
  beside = Same-glue kept before c same;
}
cut-by view t0 zone c entry kept _ early base same d long = absurd same

-- a delegation that stands delegates
pub cut-delegates : (view : LogView) (t0 : ℕ) (c : DomainName) (asked : Query) (entry : ℕ) (kept : Message)
    → IsUsableFor view t0 asked entry (Pos kept) → asked ≡ question c 2 → is_delegation kept c ≡ true → 1 ≤ length c.labels
    → Cut view c kept
cut-delegates view t0 c asked entry kept stands is d long =
    let now = subst (λ (q : Query). IsUsableFor view t0 q entry (Pos kept)) is stands in
    cut-by view t0 now.zone c entry kept now.whole now.early now.base now.same d long

-- an address that may be asked is beside the delegation, and is not denied
may-ask : (denied : IpAddr → Bool) (ips : List IpAddr) (ip : IpAddr) → Contains (allowed denied ips) ip → (denied ip ≡ false) × Contains ips ip
may-ask denied ips ip h =
    let may : IpAddr → Bool = λ x. not (denied x) in
    let there = Has-from_Contains (allowed denied ips) ip h in
    (not-true (denied ip) (Has-passes may ips ip there), Contains-from_Has ips ip (Has-filter may ips ip there))

-- the addresses beside a delegation that may be asked are the servers of the delegated zone
pub cut-pool : (view : LogView) (c : DomainName) (kept : Message) (ips : List IpAddr)
    → Delegates view.policy view.log (view.greatest + 1) c kept → 0 < length ips → ((ip : IpAddr) → Contains ips ip ↔ Contains (allowed (denies view.policy.server_filter) (glue kept c)) ip)
    → ZoneServers view c ips
cut-pool view c kept ips told some glued =
    let serve = All-weaker (Contains ips) (λ (ip : IpAddr). Serves view.policy view.log (view.greatest + 1) ip c) (λ ip has. let may = may-ask (denies view.policy.server_filter) (glue kept c) ip ((glued ip).0 has) in
    of_glue told may.0 may.1) ips (All-contains_itself ips) in
    let asked = allowed (denies view.policy.server_filter) (glue kept c) in
    record {
      serve = serve;
      listed = of_told (record {
        below = view.greatest + 1;
        serve = recursion_from_All (λ (ip : IpAddr). Serves view.policy view.log (view.greatest + 1) ip c) ips serve;
        some = some;
        k = kept;
        told = told;
        whole = recursion_from_All (Contains ips) asked
            (All-weaker (Contains asked) (Contains ips) (λ ip has. (glued ip).1 has) asked (All-contains_itself asked));
      });
      some = some;
    }
