-- What the lists of a lookup say of how its plan stands.
use Rattle.std.proofs.Common.{inl, inr, ◌≡◌, ◌∙◌, ℕ, zero, suc, ◌+◌, ◌*◌, ◌≤◌, ◌||◌, Bool, true, false, cond, not, ◌==◌, ◌&&◌, nat_lt, List, [], ◌∷◌, ◌++◌, map, take, length, slice_get, find, filter, append_assoc, refl, ap, sym, subst, arith, length-append, Option, Some, None, if◌then◌else◌}
use Rattle.std.specs.Prelude.{count_by, Contains}
use Rattle.std.specs.List.{after_first}
use Rattle.std.proofs.Math.Nat.{mul-le-mul_right}
use Rattle.std.proofs.lemmas.List.{append-nil}
use Rattle.std.proofs.lemmas.List.Folds.{list_any-append}
use Rattle.std.proofs.lemmas.List.Sums.{sum_by-append}
use Rattle.dns_core.specs.declared.message.Query.{Query}
use Rattle.resolution.specs.Lookups.{Answered, End, Rules, IsBounded, is_at, is_fallback_at, falls_back}
use Rattle.resolution.specs.declared.class.Class.{Class}
use Rattle.resolution.proofs.ElementsFiltered.{Has, Contains-from_Has, any_Has, Has_any}
use Rattle.pool_rules.specs.RetryQueue.{QueueState, QueueStands, among, places, own, may_ask, may_sleep, same_candidate, rules_of, class_of_sent, end_at}
use Rattle.pool_rules.specs.declared.pool_server.PoolServer.{PoolServer}
use Rattle.pool_rules.proofs.QueueStandsOn.{count_cons, count_more}
use Rattle.pool_rules.proofs.QueueAfterEnd.{same_self, same_is, taken_some, taken_none}
use Rattle.pool_rules.proofs.AnyOrderOfSends.{IsSameList, stands_moved, first_last}
use Rattle.pool_rules.proofs.LookupEnds.{few_sends}
use Rattle.pool_lookup.specs.Lists.{after_firsts}
use Rattle.pool_lookup.specs.Rounds.{dealt, without_dealt}
use Rattle.pool_lookup.proofs.ListFacts.{first_passes, none_passes, none_after, firsts_none, any_count, count_any}

module _ (q : Query) (timeout : ℕ) (pool : List PoolServer) (ends : List (End PoolServer)) where
  -- ---- a round is dealt its servers

  moved : (under other : List PoolServer) (p : QueueState) → IsSameList (rules_of timeout) under other → QueueStands q timeout pool ends under p → QueueStands q timeout pool ends other p
  moved under other p m st = stands_moved (rules_of timeout) (class_of_sent q) pool ends under other p.waiting p.busy p.udp_off p.kept p.sleeps m st

  pub dealt_stands : (n : ℕ) (under : List PoolServer) (p : QueueState) → QueueStands q timeout pool ends under p → QueueStands q timeout pool ends (under ++ dealt n p) (without_dealt n p)
  dealt_stands zero under p st = subst (λ (l : List PoolServer). QueueStands q timeout pool ends l p) (sym (none_dealt (filter (may_ask p.udp_off) p.waiting))) st
    where
      none_dealt : (xs : List PoolServer) → under ++ take 0 xs ≡ under
      none_dealt [] = append-nil under
      none_dealt (x ∷ xs) = append-nil under
  dealt_stands (suc n) under p st = at_first (find (may_ask p.udp_off) p.waiting) refl (λ u x s. dealt_stands n u x s)
    where
      at_first : (o : Option PoolServer) → find (may_ask p.udp_off) p.waiting ≡ o
          → ((u : List PoolServer) (x : QueueState) → QueueStands q timeout pool ends u x → QueueStands q timeout pool ends (u ++ dealt n x) (without_dealt n x))
          → QueueStands q timeout pool ends (under ++ dealt (suc n) p) (without_dealt (suc n) p)
      at_first None none next =
          let gone : dealt (suc n) p ≡ [] = ap (take (suc n)) (none_passes (may_ask p.udp_off) p.waiting none) in
          let left : after_firsts (suc n) (may_ask p.udp_off) p.waiting ≡ after_first (may_ask p.udp_off) p.waiting =
          ap (after_firsts n (may_ask p.udp_off)) (none_after (may_ask p.udp_off) p.waiting none) ∙ firsts_none n (may_ask p.udp_off) ∙ sym (none_after (may_ask p.udp_off) p.waiting none) in
          let stands : QueueStands q timeout pool ends under (record p { waiting = after_first (may_ask p.udp_off) p.waiting }) =
          taken_none q timeout pool ends under p (record p { waiting = after_first (may_ask p.udp_off) p.waiting }) None (sym none) refl st in
          subst (λ (l : List PoolServer). QueueStands q timeout pool ends l (without_dealt (suc n) p)) (sym (ap (λ (l : List PoolServer). under ++ l) gone ∙ append-nil under))
          (subst (λ (w : List PoolServer). QueueStands q timeout pool ends under (record p { waiting = w })) (sym left) stands)
      at_first (Some c) some next =
          let stands : QueueStands q timeout pool ends (c ∷ under) (record p { waiting = after_first (may_ask p.udp_off) p.waiting }) =
          taken_some q timeout pool ends under p (record p { waiting = after_first (may_ask p.udp_off) p.waiting }) (Some c) (sym some) refl st in
          let last : QueueStands q timeout pool ends (under ++ c ∷ []) (record p { waiting = after_first (may_ask p.udp_off) p.waiting }) =
          moved (c ∷ under) (under ++ c ∷ []) (record p { waiting = after_first (may_ask p.udp_off) p.waiting }) (first_last (rules_of timeout) c under) stands in
          let rest = next (under ++ c ∷ []) (record p { waiting = after_first (may_ask p.udp_off) p.waiting }) last in
          let list : (under ++ c ∷ []) ++ take n (filter (may_ask p.udp_off) (after_first (may_ask p.udp_off) p.waiting)) ≡ under ++ dealt (suc n) p =
          append_assoc under (c ∷ []) (take n (filter (may_ask p.udp_off) (after_first (may_ask p.udp_off) p.waiting)))
          ∙ ap (λ (l : List PoolServer). under ++ take (suc n) l) (sym (first_passes (may_ask p.udp_off) p.waiting c some)) in
          subst (λ (l : List PoolServer). QueueStands q timeout pool ends l (without_dealt (suc n) p)) list rest

  -- ---- who is in flight is of the pool

  at_least : (w u b n : ℕ) → 1 ≤ u → w + u + b ≤ n → 1 ≤ n
  at_least w u b n h g = omega arith

  pub under_from_pool : (under : List PoolServer) (p : QueueState) (c : PoolServer) → QueueStands q timeout pool ends under p → Has under c → Contains pool c
  under_from_pool under p c st has =
      let asked : among (rules_of timeout) c under ≡ true = any_Has (same_candidate c) under c has (same_self c) in
      let listed : among (rules_of timeout) c pool ≡ true = count_any (same_candidate c) pool (at_least _ _ _ _ (any_count (same_candidate c) under asked) (st.room c)) in
      let found = Has_any (same_candidate c) pool listed in
      Contains-from_Has pool c (subst (λ (x : PoolServer). Has pool x) (sym (same_is c found.0 found.2)) found.1)

  -- ---- where servers were busy, there were ends

  own_of_none : {T : Type 0} (s : PoolServer) (k : ℕ) → ends ≡ [] → k + 1 ≤ length (own (rules_of timeout) (class_of_sent q) s ends) → T
  own_of_none s k none h = let n : k + 1 ≤ 0 = subst (λ (es : List (End PoolServer)). k + 1 ≤ length (own (rules_of timeout) (class_of_sent q) s es)) none h in absurd (omega arith)

  pub busy_some : (under : List PoolServer) (p : QueueState) → QueueStands q timeout pool ends under p → may_sleep p ≡ true → ends ≡ [] → ⊥
  busy_some under p st may none = at_busy p.busy refl
    where
      first_there : (s : PoolServer) (rest : List PoolServer) → among (rules_of timeout) s (s ∷ rest) ≡ true
      first_there s rest = ap (λ (b : Bool). b || among (rules_of timeout) s rest) (same_self s)

      no_busy : (xs : List PoolServer) → xs ≡ [] → (not (length xs == 0) && nat_lt p.sleeps 4) ≡ true → ⊥
      no_busy [] e h = cc
      no_busy (x ∷ xs) e h = cc

      at_busy : (xs : List PoolServer) → p.busy ≡ xs → ⊥
      at_busy [] e = no_busy p.busy e may
      at_busy (s ∷ rest) e = own_of_none s p.sleeps none (st.delayed s (ap (among (rules_of timeout) s) e ∙ first_there s rest))

  -- ---- so many sends
  pub few_made : (under : List PoolServer) (p : QueueState) → QueueStands q timeout pool ends under p → length ends + length under ≤ 5 * length pool + 1
  few_made under p st = few_sends (rules_of timeout) (class_of_sent q) same_self pool ends under p.waiting p.busy p.udp_off p.kept p.sleeps st

-- where none of a list may be taken, all of it is dropped
pub none_dealt_left : (n : ℕ) (p : PoolServer → Bool) (xs : List PoolServer) → 1 ≤ n → take n (filter p xs) ≡ [] → after_firsts n p xs ≡ []
none_dealt_left zero p xs some h = absurd (omega arith)
none_dealt_left (suc n) p xs some h = at_first (find p xs) refl
  where
    at_first : (o : Option PoolServer) → find p xs ≡ o → after_firsts n p (after_first p xs) ≡ []
    at_first None none = ap (after_firsts n p) (none_after p xs none) ∙ firsts_none n p
    at_first (Some c) found = let e : c ∷ take n (filter p (after_first p xs)) ≡ [] = sym (ap (take (suc n)) (first_passes p xs c found)) ∙ h in cc

-- ---- one attempt of those in flight, and then the servers that were not asked yet

pub same_append : {S : Type 0} (rules : Rules S) (xs ys zs : List S) → IsSameList rules xs ys → IsSameList rules (xs ++ zs) (ys ++ zs)
same_append rules xs ys zs m = record {
  among_same = λ s. list_any-append (rules.same s) xs zs ∙ ap (λ (b : Bool). b || among rules s zs) (m.among_same s) ∙ sym (list_any-append (rules.same s) ys zs);
  places_same = λ s.
      let a = sum_by-append (λ y. cond (rules.same s y) 1 0) xs zs in
      let b = sum_by-append (λ y. cond (rules.same s y) 1 0) ys zs in
      let e = m.places_same s in
      omega arith;
  length_same = let a = length-append xs zs in let b = length-append ys zs in let e = m.length_same in omega arith;
}

-- the attempt at a place is one of those under way
pub picked_has : {X S : Type 0} (f : X → S) (xs : List X) (i : ℕ) (x : X) (zs : List S) → slice_get xs i ≡ Some x → Has (map f xs ++ zs) (f x)
picked_has f [] i x zs h = cc
picked_has f (y ∷ xs) zero x zs h = let e : y ≡ x = cc in inl (ap f e)
picked_has f (y ∷ xs) (suc i) x zs h = inr (picked_has f xs i x zs h)

-- ---- five ends for each place, with one more end

abbrev at_turn : {S : Type 0} → Rules S → (Answered → Class) → S → Option (End S) → Bool
at_turn rules class s o = elim o [ None ↦ false | Some e ↦ is_at rules class s e ]

-- the turn of fewer ends is that of more
pub turn_stays : {S : Type 0} (rules : Rules S) (class : Answered → Class) (ends : List (End S)) (e : End S) (s : S) → is_fallback_at rules class ends s ≡ true → is_fallback_at rules class (ends ++ e ∷ []) s ≡ true
turn_stays rules class [] e s h = cc
turn_stays {S = S} rules class (x ∷ xs) e s h = at_head (falls_back rules class x) h (turn_stays rules class xs e s)
  where
    at_head : (b : Bool) → at_turn rules class s (cond b (Some x) (find (falls_back rules class) xs)) ≡ true
        → (at_turn rules class s (find (falls_back rules class) xs) ≡ true → at_turn rules class s (find (falls_back rules class) (xs ++ e ∷ [])) ≡ true)
        → at_turn rules class s (cond b (Some x) (find (falls_back rules class) (xs ++ e ∷ []))) ≡ true
    at_head true k next = k
    at_head false k next = next k

more_turns : (a b : Bool) → (a ≡ true → b ≡ true) → (if a then 1 else 0) ≤ (if b then 1 else 0)
more_turns true b h = let e : b ≡ true = h refl in subst (λ (x : Bool). 1 ≤ (if x then 1 else 0)) (sym e) (omega arith)
more_turns false b h = omega arith

within_more : (n w u m p z x ux nx y : ℕ) → m ≤ p → ux ≡ x + u → nx ≡ n + x → z ≤ y → n + w + ux ≤ m + z → nx ≤ p + y
within_more n w u m p z x ux nx y a b c d h = omega arith

five : (m p : ℕ) → m ≤ 4 → (m + 1) * p ≤ 5 * p
five m p h = let j : m + 1 ≤ 5 = omega arith in mul-le-mul_right p j

pub bounded_more : (q : Query) (timeout : ℕ) (pool : List PoolServer) (ends : List (End PoolServer)) (c : PoolServer) (under : List PoolServer) (p : QueueState) (o : Answered)
    → QueueStands q timeout pool ends (c ∷ under) p → IsBounded (rules_of timeout) (class_of_sent q) pool (ends ++ end_at c o ∷ [])
bounded_more q timeout pool ends c under p o st = λ s.
    let rules = rules_of timeout in
    let class = class_of_sent q in
    within_more (count_by (is_at rules class s) ends) (places rules s p.waiting) (places rules s under) ((p.sleeps + 1) * places rules s pool) (5 * places rules s pool)
    (if is_fallback_at rules class ends s then 1 else 0) (cond (same_candidate s c) 1 0) (places rules s (c ∷ under)) (count_by (is_at rules class s) (ends ++ end_at c o ∷ []))
    (if is_fallback_at rules class (ends ++ end_at c o ∷ []) s then 1 else 0)
    (five p.sleeps (places rules s pool) st.few) (count_cons (same_candidate s) c under) (count_more (is_at rules class s) ends (end_at c o))
    (more_turns (is_fallback_at rules class ends s) (is_fallback_at rules class (ends ++ end_at c o ∷ []) s) (turn_stays rules class ends (end_at c o) s)) (st.share s)
