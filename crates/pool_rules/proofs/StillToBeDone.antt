-- What is still to be done: the next server is taken, a sleep is over, and what the ends decide.
use Rattle.std.proofs.Common.{◌≡◌, ◌∙◌, ℕ, ◌+◌, ◌≤◌, Bool, true, false, ◌&&◌, ◌||◌, not, List, [], ◌∷◌, find, refl, ap, sym, subst, Some, None, cond, arith}
use Rattle.std.specs.Prelude.{count_by}
use Rattle.std.specs.List.{after_first}
use Rattle.dns_core.specs.declared.net_error.NetError.{NetError}
use Rattle.resolution.specs.Lookups.{Answered, Rules, End, has_fallen_back, is_at}
use Rattle.resolution.specs.declared.class.Class.{Class}
use Rattle.pool_rules.specs.RetryQueue.{among, places, is_refused, IsDealt, IsRepeated, Stands}
use Rattle.pool_rules.specs.RetryQueue.IsDealt.{refused, waits, goes_on, asked}
use Rattle.pool_rules.specs.RetryQueue.IsRepeated.{refused as refused_again, waits as waits_again, goes_on as goes_on_again, again}
use Rattle.pool_rules.proofs.FirstThatPasses.{after_yes, after_no}
use Rattle.pool_rules.proofs.QueueStandsOn.{count_cons, or_left, or_right}

dropped_room : (x w u b p wx : ℕ) → wx ≡ x + w → wx + u + b ≤ p → w + u + b ≤ p
dropped_room x w u b p wx e h = omega arith

dropped_share : (x n w u m wx : ℕ) → wx ≡ x + w → n + wx + u ≤ m → n + w + u ≤ m
dropped_share x n w u m wx e h = omega arith

started_room : (x w u b p wx ux : ℕ) → wx ≡ x + w → ux ≡ x + u → wx + u + b ≤ p → w + ux + b ≤ p
started_room x w u b p wx ux e f h = omega arith

started_share : (x n w u m wx ux : ℕ) → wx ≡ x + w → ux ≡ x + u → n + wx + u ≤ m → n + w + ux ≤ m
started_share x n w u m wx ux e f h = omega arith

from_first : (x w u : Bool) → (w || (x || u)) ≡ true → ((x || w) || u) ≡ true
from_first true w u h = refl
from_first false w u h = h

past_first : (x w u : Bool) → (w || u) ≡ true → ((x || w) || u) ≡ true
past_first true w u h = refl
past_first false w u h = h

not_not : (b : Bool) → not b ≡ false → b ≡ true
not_not true h = refl
not_not false h = cc

module _ {S : Type 0} (rules : Rules S) (class : Answered → Class) (same_is : (a b : S) → rules.same a b ≡ true → a ≡ b) (pool : List S) (ends : List (End S)) (under : List S) (busy : List S) (udp_off : Bool) (kept : NetError) (k : ℕ) where
  -- the policy allows the server
  abbrev allows : S → Bool
  allows s = not (udp_off && not (rules.beyond_udp s))

  module _ (c : S) (rest : List S) where
    -- a server that is not asked any more is dropped
    is_dropped : (s : S) → udp_off ≡ has_fallen_back rules class ends → allows c ≡ false → rules.same s c ≡ true → is_refused rules class s ends ≡ true
    is_dropped s udp denied g =
        let same : s ≡ c = same_is s c g in
        let gone : (udp_off && not (rules.beyond_udp c)) ≡ true = not_not (udp_off && not (rules.beyond_udp c)) denied in
        subst (λ (x : S). is_refused rules class x ends ≡ true) (sym same) (ap (λ (b : Bool). b && not (rules.beyond_udp c)) (sym udp) ∙ gone)

    drop_deals : (s : S) → udp_off ≡ has_fallen_back rules class ends → allows c ≡ false → IsDealt rules class ends under (c ∷ rest) busy s → IsDealt rules class ends under rest busy s
    drop_deals s udp denied (refused h) = refused h
    drop_deals s udp denied (waits h) = at_head (rules.same s c) refl h
      where
        at_head : (b : Bool) → rules.same s c ≡ b → (b || among rules s rest) ≡ true → IsDealt rules class ends under rest busy s
        at_head true g h = refused (is_dropped s udp denied g)
        at_head false g h = waits h
    drop_deals s udp denied (goes_on h) = goes_on h
    drop_deals s udp denied (asked a b) = asked a b

    drop_repeats : (s : S) → udp_off ≡ has_fallen_back rules class ends → allows c ≡ false → IsRepeated rules class ends under (c ∷ rest) s → IsRepeated rules class ends under rest s
    drop_repeats s udp denied (refused_again h) = refused_again h
    drop_repeats s udp denied (waits_again h) = at_head (rules.same s c) refl h
      where
        at_head : (b : Bool) → rules.same s c ≡ b → (b || among rules s rest) ≡ true → IsRepeated rules class ends under rest s
        at_head true g h = refused_again (is_dropped s udp denied g)
        at_head false g h = waits_again h
    drop_repeats s udp denied (goes_on_again h) = goes_on_again h
    drop_repeats s udp denied (again h) = again h

    stands_dropped : allows c ≡ false → Stands rules class pool ends under (c ∷ rest) busy udp_off kept k → Stands rules class pool ends under rest busy udp_off kept k
    stands_dropped denied st = record {
      none = st.none;
      udp = st.udp;
      error = st.error;
      dealt = λ s h. drop_deals s st.udp denied (st.dealt s h);
      repeated = λ s h. drop_repeats s st.udp denied (st.repeated s h);
      rounds = λ s h. st.rounds s (past_first (rules.same s c) (among rules s rest) (among rules s under) h);
      delayed = st.delayed;
      few = st.few;
      room = λ s. dropped_room (cond (rules.same s c) 1 0) (places rules s rest) (places rules s under) (places rules s busy) (places rules s pool) _ (count_cons (rules.same s) c rest) (st.room s);
      share = λ s. dropped_share (cond (rules.same s c) 1 0) (count_by (is_at rules class s) ends) (places rules s rest) (places rules s under) _ _ (count_cons (rules.same s) c rest) (st.share s);
      size = omega (arith, st.size);
      total = omega (arith, st.total);
    }

    start_deals : (s : S) → IsDealt rules class ends under (c ∷ rest) busy s → IsDealt rules class ends (c ∷ under) rest busy s
    start_deals s (refused h) = refused h
    start_deals s (waits h) = at_head (rules.same s c) refl h
      where
        at_head : (b : Bool) → rules.same s c ≡ b → (b || among rules s rest) ≡ true → IsDealt rules class ends (c ∷ under) rest busy s
        at_head true g h = goes_on (or_left (rules.same s c) _ g)
        at_head false g h = waits h
    start_deals s (goes_on h) = goes_on (or_right (rules.same s c) _ h)
    start_deals s (asked a b) = asked a b

    start_repeats : (s : S) → IsRepeated rules class ends under (c ∷ rest) s → IsRepeated rules class ends (c ∷ under) rest s
    start_repeats s (refused_again h) = refused_again h
    start_repeats s (waits_again h) = at_head (rules.same s c) refl h
      where
        at_head : (b : Bool) → rules.same s c ≡ b → (b || among rules s rest) ≡ true → IsRepeated rules class ends (c ∷ under) rest s
        at_head true g h = goes_on_again (or_left (rules.same s c) _ g)
        at_head false g h = waits_again h
    start_repeats s (goes_on_again h) = goes_on_again (or_right (rules.same s c) _ h)
    start_repeats s (again h) = again h

    stands_started : Stands rules class pool ends under (c ∷ rest) busy udp_off kept k → Stands rules class pool ends (c ∷ under) rest busy udp_off kept k
    stands_started st = record {
      none = st.none;
      udp = st.udp;
      error = st.error;
      dealt = λ s h. start_deals s (st.dealt s h);
      repeated = λ s h. start_repeats s (st.repeated s h);
      rounds = λ s h. st.rounds s (from_first (rules.same s c) (among rules s rest) (among rules s under) h);
      delayed = st.delayed;
      few = st.few;
      room = λ s. started_room (cond (rules.same s c) 1 0) (places rules s rest) (places rules s under) (places rules s busy) (places rules s pool) _ _
          (count_cons (rules.same s) c rest) (count_cons (rules.same s) c under) (st.room s);
      share = λ s. started_share (cond (rules.same s c) 1 0) (count_by (is_at rules class s) ends) (places rules s rest) (places rules s under) _ _ _
          (count_cons (rules.same s) c rest) (count_cons (rules.same s) c under) (st.share s);
      size = omega (arith, st.size);
      total = omega (arith, st.total);
    }

  -- the first allowed one is taken, those before it are dropped
  pub stands_taken : (waiting : List S) (c : S) → find allows waiting ≡ Some c → Stands rules class pool ends under waiting busy udp_off kept k
      → Stands rules class pool ends (c ∷ under) (after_first allows waiting) busy udp_off kept k
  stands_taken [] c f st = cc
  stands_taken (x ∷ xs) c f st = at_head (allows x) refl f (λ g n. stands_taken xs c g (stands_dropped x xs n st))
    where
      at_head : (b : Bool) → allows x ≡ b → cond b (Some x) (find allows xs) ≡ Some c
          → (find allows xs ≡ Some c → allows x ≡ false → Stands rules class pool ends (c ∷ under) (after_first allows xs) busy udp_off kept k)
          → Stands rules class pool ends (c ∷ under) (after_first allows (x ∷ xs)) busy udp_off kept k
      at_head true h g next =
          let same : x ≡ c = cc in
          let there : Stands rules class pool ends (x ∷ under) xs busy udp_off kept k = stands_started x xs st in
          subst (λ (l : List S). Stands rules class pool ends (c ∷ under) l busy udp_off kept k) (sym (after_yes allows x xs h))
          (subst (λ (y : S). Stands rules class pool ends (y ∷ under) xs busy udp_off kept k) same there)
      at_head false h g next = subst (λ (l : List S). Stands rules class pool ends (c ∷ under) l busy udp_off kept k) (sym (after_no allows x xs h)) (next g h)

  -- where none is allowed, all are dropped
  pub stands_empty : (waiting : List S) → find allows waiting ≡ None → Stands rules class pool ends under waiting busy udp_off kept k → Stands rules class pool ends under [] busy udp_off kept k
  stands_empty [] f st = st
  stands_empty (x ∷ xs) f st = at_head (allows x) refl f (λ g n. stands_empty xs g (stands_dropped x xs n st))
    where
      at_head : (b : Bool) → allows x ≡ b → cond b (Some x) (find allows xs) ≡ None
          → (find allows xs ≡ None → allows x ≡ false → Stands rules class pool ends under [] busy udp_off kept k) → Stands rules class pool ends under [] busy udp_off kept k
      at_head true h g next = cc
      at_head false h g next = next g h
