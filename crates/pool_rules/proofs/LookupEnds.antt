-- A lookup begins, sleeps, and ends: by its last end, by all its ends, or by its deadline.
use Rattle.std.proofs.Common.{◌≡◌, ◌∙◌, ℕ, ◌+◌, ◌*◌, ◌≤◌, Bool, true, false, ◌&&◌, ◌||◌, ◌==◌, not, List, [], ◌∷◌, ◌++◌, length, refl, ap, sym, subst, Option, Some, None, Err, arith, if◌then◌else◌, ◌⊎◌, inl, inr}
use Rattle.std.specs.Prelude.{count_by, nat_le, IsTrue}
use Rattle.std.specs.List.{list_any, list_all, last_or, after_first}
use Rattle.std.proofs.Math.Nat.{mul-le-mul_right}
use Rattle.std.proofs.lemmas.Bool.{le-leb}
use Rattle.dns_core.specs.declared.net_error.NetError.{NetError}
use Rattle.dns_core.specs.declared.net_error.NetError.TheVariants as net
use Rattle.resolution.specs.Lookups.{Answered, Rules, End, is_busy, class_of_end, falls_back, has_fallen_back, but_fallback, retries, is_at, is_fallback_at, turn_was_repeated, answer_of, PoolRun, IsBounded}
use Rattle.resolution.specs.Lookups.PoolRun.{decided, spent, late}
use Rattle.resolution.specs.declared.class.Class.{Class}
use Rattle.pool_rules.specs.RetryQueue.{among, places, own, was_busy, IsDealt, IsRepeated, Stands}
use Rattle.pool_rules.specs.RetryQueue.IsDealt.{refused, waits, goes_on, asked}
use Rattle.pool_rules.specs.RetryQueue.IsRepeated.{refused as refused_again, waits as waits_again, goes_on as goes_on_again, again}
use Rattle.pool_rules.proofs.FirstThatPasses.{find_none, find_some}
use Rattle.pool_rules.proofs.KeptErrorOverEnds.{kept_is_left}
use Rattle.pool_rules.proofs.QueueStandsOn.{or_left, or_right}

slept_share : (n b p m z : ℕ) → n + 0 + 0 ≤ m + z → b + 0 + 0 ≤ p → n + b + 0 ≤ (m + p) + z
slept_share n b p m z h g = omega arith

once_more : (k p : ℕ) → (k + 1) * p + p ≡ (k + 1 + 1) * p
once_more k p = omega arith

busy_first : (b p : ℕ) → 0 + 0 + b ≤ p → b + 0 + 0 ≤ p
busy_first b p h = omega arith

module _ {S : Type 0} (rules : Rules S) (class : Answered → Class) (same_self : (s : S) → rules.same s s ≡ true) (pool : List S) where
  abbrev cl : End S → Class
  cl e = class_of_end rules class e

  -- ---- it begins

  pub stands_begun : Stands rules class pool [] [] pool [] false net.NoConnections 0
  stands_begun = record {
    none = refl;
    udp = refl;
    error = refl;
    dealt = λ s h. waits h;
    repeated = λ s h. cc;
    rounds = λ s h. omega arith;
    delayed = λ s h. cc;
    few = omega arith;
    room = λ s. omega arith;
    share = λ s. omega arith;
    size = omega arith;
    total = omega arith;
  }

  module _ (ends : List (End S)) (busy : List S) (udp_off : Bool) (kept : NetError) (k : ℕ) where
    -- ---- it slept

    wake_deals : (s : S) → IsDealt rules class ends [] [] busy s → IsDealt rules class ends [] busy [] s
    wake_deals s (refused h) = refused h
    wake_deals s (waits h) = cc
    wake_deals s (goes_on h) = cc
    wake_deals s (asked a b) = at_busy (was_busy rules class s ends) refl
      where
        at_busy : (x : Bool) → was_busy rules class s ends ≡ x → IsDealt rules class ends [] busy [] s
        at_busy true w = waits (b w)
        at_busy false w = asked a (λ v. cc)

    wake_repeats : (s : S) → IsRepeated rules class ends [] [] s → IsRepeated rules class ends [] busy s
    wake_repeats s (refused_again h) = refused_again h
    wake_repeats s (waits_again h) = cc
    wake_repeats s (goes_on_again h) = cc
    wake_repeats s (again h) = again h

    or_none : (b : Bool) → (b || false) ≡ true → b ≡ true
    or_none true h = refl
    or_none false h = h

    pub stands_woken : k + 1 ≤ 4 → Stands rules class pool ends [] [] busy udp_off kept k → Stands rules class pool ends [] busy [] udp_off kept (k + 1)
    stands_woken few st = record {
      none = st.none;
      udp = st.udp;
      error = st.error;
      dealt = λ s h. wake_deals s (st.dealt s h);
      repeated = λ s h. wake_repeats s (st.repeated s h);
      rounds = λ s h. st.delayed s (or_none (among rules s busy) h);
      delayed = λ s h. cc;
      few = few;
      room = λ s. busy_first (places rules s busy) (places rules s pool) (st.room s);
      share = λ s. subst (λ (m : ℕ). count_by (is_at rules class s) ends + places rules s busy + 0 ≤ m + (if is_fallback_at rules class ends s then 1 else 0)) (once_more k (places rules s pool))
          (slept_share (count_by (is_at rules class s) ends) (places rules s busy) (places rules s pool) ((k + 1) * places rules s pool) _ (st.share s) (busy_first (places rules s busy) (places rules s pool) (st.room s)));
      size = busy_first (length busy) (length pool) st.size;
      total = subst (λ (m : ℕ). length ends + length busy + 0 ≤ m + (if has_fallen_back rules class ends then 1 else 0)) (once_more k (length pool))
          (slept_share (length ends) (length busy) (length pool) ((k + 1) * length pool) _ st.total (busy_first (length busy) (length pool) st.size));
    }

    -- ---- all its ends decide

    all_from : (p : S → Bool) (xs : List S) → ((s : S) → among rules s xs ≡ true → p s ≡ true) → list_all p xs ≡ true
    all_from p [] f = refl
    all_from p (x ∷ xs) f =
        ap (λ (b : Bool). b && list_all p xs) (f x (or_left (rules.same x x) _ (same_self x)))
        ∙ all_from p xs (λ s h. f s (or_right (rules.same s x) _ h))

    tried_one : (s : S) → IsDealt rules class ends [] [] busy s → ((has_fallen_back rules class ends && not (rules.beyond_udp s)) || list_any (is_at rules class s) (but_fallback rules class ends)) ≡ true
    tried_one s (refused h) = or_left _ _ h
    tried_one s (waits h) = cc
    tried_one s (goes_on h) = cc
    tried_one s (asked a b) = or_right (has_fallen_back rules class ends && not (rules.beyond_udp s)) _ a

    -- of the last end of a server: it was not busy, or the server was asked so often
    abbrev retried_of : ℕ → Option (End S) → Bool
    retried_of n o = elim o [ None ↦ true | Some e ↦ not (is_busy (cl e)) || nat_le 5 n ]

    abbrev busy_of : Option (End S) → Bool
    busy_of o = elim o [ None ↦ false | Some e ↦ is_busy (cl e) ]

    retried_by : (n : ℕ) (o : Option (End S)) → (busy_of o ≡ true → 5 ≤ n) → retried_of n o ≡ true
    retried_by n None h = refl
    retried_by n (Some e) h = at_busy (is_busy (cl e)) h
      where
        at_busy : (b : Bool) → (b ≡ true → 5 ≤ n) → (not b || nat_le 5 n) ≡ true
        at_busy true h = le-leb 5 n (h refl)
        at_busy false h = refl

    retried_one : (s : S) → 4 ≤ k ⊎ (busy ≡ []) → ((x : S) → among rules x busy ≡ true → k + 1 ≤ length (own rules class x ends)) → IsDealt rules class ends [] [] busy s
        → ((has_fallen_back rules class ends && not (rules.beyond_udp s)) || retried_of (length (own rules class s ends)) (last_or None (own rules class s ends))) ≡ true
    retried_one s f d (refused h) = or_left _ _ h
    retried_one s f d (waits h) = cc
    retried_one s f d (goes_on h) = cc
    retried_one s f d (asked a b) =
        or_right (has_fallen_back rules class ends && not (rules.beyond_udp s)) _
        (retried_by (length (own rules class s ends)) (last_or None (own rules class s ends)) (λ w. enough f (b w)))
      where
        enough : 4 ≤ k ⊎ (busy ≡ []) → among rules s busy ≡ true → 5 ≤ length (own rules class s ends)
        enough (inl g) m = let n : k + 1 ≤ length (own rules class s ends) = d s m in omega arith
        enough (inr g) m = let f : false ≡ true = sym (ap (among rules s) g) ∙ m in cc

    repeated_at : (e : End S) → IsRepeated rules class ends [] [] e.server → (not (rules.beyond_udp e.server) || list_any (is_at rules class e.server) (after_first (falls_back rules class) ends)) ≡ true
    repeated_at e (refused_again h) = or_left _ _ (second (has_fallen_back rules class ends) (not (rules.beyond_udp e.server)) h)
      where
        second : (a b : Bool) → (a && b) ≡ true → b ≡ true
        second true b h = h
        second false b h = cc
    repeated_at e (waits_again h) = cc
    repeated_at e (goes_on_again h) = cc
    repeated_at e (again h) = or_right (not (rules.beyond_udp e.server)) _ h

    abbrev repeated_of : Option (End S) → Bool
    repeated_of o = elim o [ None ↦ true | Some e ↦ not (rules.beyond_udp e.server) || list_any (is_at rules class e.server) (after_first (falls_back rules class) ends) ]

    abbrev turn_at : S → Option (End S) → Bool
    turn_at s o = elim o [ None ↦ false | Some e ↦ is_at rules class s e ]

    was_repeated : ((s : S) → is_fallback_at rules class ends s ≡ true → IsRepeated rules class ends [] [] s) → turn_was_repeated rules class ends ≡ true
    was_repeated f = at_turn (has_fallen_back rules class ends) refl
      where
        at_turn : (b : Bool) → has_fallen_back rules class ends ≡ b → turn_was_repeated rules class ends ≡ true
        at_turn false n = ap repeated_of (find_none (falls_back rules class) ends n)
        at_turn true t =
            let found = find_some (falls_back rules class) ends t in
            ap repeated_of found.1 ∙ repeated_at found.0 (f found.0.server (ap (turn_at found.0.server) found.1 ∙ same_self found.0.server))

    -- nothing is to be asked any more
    pub pool_spent : (start now : ℕ) → 4 ≤ k ⊎ (busy ≡ []) → Stands rules class pool ends [] [] busy udp_off kept k → PoolRun rules class pool ends (Err kept) start now
    pool_spent start now f st = spent (record {
      none = st.none;
      tried = all_from (λ s. (has_fallen_back rules class ends && not (rules.beyond_udp s)) || list_any (is_at rules class s) (but_fallback rules class ends)) pool (λ s h. tried_one s (st.dealt s h));
      again = was_repeated st.repeated;
      busy = all_from (λ s. (has_fallen_back rules class ends && not (rules.beyond_udp s)) || retried_of (length (own rules class s ends)) (last_or None (own rules class s ends))) pool
          (λ s h. retried_one s f st.delayed (st.dealt s h));
      answers = ap Err (st.error ∙ kept_is_left rules class ends st.none);
    })

  module _ (ends : List (End S)) (under waiting busy : List S) (udp_off : Bool) (kept : NetError) (k : ℕ) where
    -- ---- its last end decides
    pub pool_decided : (start now : ℕ) (e : End S) → retries rules class e ≡ false → (falls_back rules class e ≡ true → udp_off ≡ true)
        → Stands rules class pool ends (e.server ∷ under) waiting busy udp_off kept k → PoolRun rules class pool (ends ++ e ∷ []) (answer_of (cl e)) start now
    pool_decided start now e r t st = decided (record {
      earlier = ends;
      last = e;
      whole = refl;
      before = st.none;
      final = is_final (retries rules class e) (falls_back rules class e) r (λ g. sym st.udp ∙ t g);
      answers = refl;
    })
      where
        is_final : (a b : Bool) → a ≡ false → (b ≡ true → has_fallen_back rules class ends ≡ true) → (not a && (not b || has_fallen_back rules class ends)) ≡ true
        is_final false true h g = g refl
        is_final false false h g = refl
        is_final true b h g = cc

    -- ---- its deadline decides
    pub pool_late : (start now : ℕ) → start + rules.timeout ≤ now → IsTrue (not (length ends == 0) || rules.timeout == 0)
        → Stands rules class pool ends under waiting busy udp_off kept k → PoolRun rules class pool ends (Err net.Timeout) start now
    pool_late start now d some st = late (record { none = st.none; answers = refl; reached = d; some = some })

    -- ---- bounds
    five : (m p : ℕ) → m ≤ 4 → (m + 1) * p ≤ 5 * p
    five m p h = let j : m + 1 ≤ 5 = omega arith in mul-le-mul_right p j

    within : (n w u m p z : ℕ) → m ≤ p → n + w + u ≤ m + z → n ≤ p + z
    within n w u m p z h g = omega arith

    pub is_bounded : Stands rules class pool ends under waiting busy udp_off kept k → IsBounded rules class pool ends
    is_bounded st = λ s. within (count_by (is_at rules class s) ends) (places rules s waiting) (places rules s under) ((k + 1) * places rules s pool) (5 * places rules s pool) _
        (five k (places rules s pool) st.few) (st.share s)

    at_most_one : (b : Bool) → (if b then 1 else 0) ≤ 1
    at_most_one true = omega arith
    at_most_one false = omega arith

    sent_within : (n w u m p z : ℕ) → m ≤ p → z ≤ 1 → n + w + u ≤ m + z → n + u ≤ p + 1
    sent_within n w u m p z h y g = omega arith

    -- so many sends were made, ended or under way
    pub few_sends : Stands rules class pool ends under waiting busy udp_off kept k → length ends + length under ≤ 5 * length pool + 1
    few_sends st = sent_within (length ends) (length waiting) (length under) ((k + 1) * length pool) (5 * length pool) _
        (five k (length pool) st.few) (at_most_one (has_fallen_back rules class ends)) st.total
