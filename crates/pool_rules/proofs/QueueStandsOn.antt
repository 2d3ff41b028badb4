-- How what is still to be done stands, after one more end.
use Rattle.std.proofs.Common.{◌≡◌, ◌∙◌, ℕ, suc, ◌+◌, ◌*◌, ◌≤◌, Bool, true, false, ◌&&◌, ◌||◌, not, List, [], ◌∷◌, ◌++◌, map, filter, length, refl, ap, sym, subst, Option, Some, None, cond, arith, if◌then◌else◌, length-append, ◌⊎◌, inl, inr}
use Rattle.std.specs.Prelude.{count_by}
use Rattle.std.specs.List.{list_any, list_all, last_or, after_first}
use Rattle.std.proofs.lemmas.List.{map-append, append-nil}
use Rattle.std.proofs.lemmas.List.Sums.{fold-append, sum_by-cons, sum_by-append}
use Rattle.dns_core.specs.declared.net_error.NetError.{NetError}
use Rattle.dns_core.specs.declared.net_error.NetError.TheVariants as net
use Rattle.resolution.specs.Lookups.{Answered, Rules, End, is_busy, class_of_end, falls_back, the_fallback, has_fallen_back, but_fallback, retries, is_at, is_fallback_at}
use Rattle.resolution.specs.declared.class.Class.{Class}
use Rattle.pool_rules.specs.KeptError.{kept_after, kept_over}
use Rattle.pool_rules.specs.RetryQueue.{among, places, own, was_busy, IsDealt, IsRepeated, Stands}
use Rattle.pool_rules.specs.RetryQueue.IsDealt.{refused, waits, goes_on, asked}
use Rattle.pool_rules.specs.RetryQueue.IsRepeated.{refused as refused_again, waits as waits_again, goes_on as goes_on_again, again}
use Rattle.pool_rules.proofs.FirstThatPasses.{or_false, any_more, all_more, but_more_first, but_more, after_more, find_none, find_more_first, find_more, filter_more, last_more}
use Rattle.pool_rules.proofs.KeptErrorOverEnds.{no_turn}

pub or_left : (a b : Bool) → a ≡ true → (a || b) ≡ true
or_left true b h = refl
or_left false b h = cc

pub or_right : (a b : Bool) → b ≡ true → (a || b) ≡ true
or_right true b h = refl
or_right false b h = h

-- a first one is among the third, in place of the second
pub to_first : (x w u : Bool) → ((x || w) || u) ≡ true → (w || (x || u)) ≡ true
to_first true true u h = refl
to_first true false u h = refl
to_first false w u h = h

or_second : (x w u : Bool) → (w || u) ≡ true → (w || (x || u)) ≡ true
or_second x true u h = refl
or_second true false u h = refl
or_second false false u h = h

pub count_cons : {X : Type 0} (p : X → Bool) (x : X) (xs : List X) → count_by p (x ∷ xs) ≡ cond (p x) 1 0 + count_by p xs
count_cons p x xs = sum_by-cons (λ y. cond (p y) 1 0) x xs

pub count_more : {X : Type 0} (p : X → Bool) (xs : List X) (x : X) → count_by p (xs ++ x ∷ []) ≡ count_by p xs + cond (p x) 1 0
count_more {X} p xs x = sum_by-append (λ y. cond (p y) 1 0) xs (x ∷ []) ∙ ap (λ (n : ℕ). count_by p xs + n) (count_cons p x [] ∙ omega arith)

-- a place goes from those that are asked to those that are to be asked
move_room : (x w u b p wx ux : ℕ) → wx ≡ x + w → ux ≡ x + u → w + ux + b ≤ p → wx + u + b ≤ p
move_room x w u b p wx ux e f h = omega arith

move_share : (x n w u m z nx wx ux y : ℕ) → nx ≡ n + x → wx ≡ x + w → ux ≡ x + u → z ≡ 0 → y ≡ x → n + w + ux ≤ m + z → nx + wx + u ≤ m + y
move_share x n w u m z nx wx ux y a b c d e h = omega arith

move_total : (n w u m z nx y : ℕ) → nx ≡ n + 1 → z ≡ 0 → y ≡ 1 → n + w + suc u ≤ m + z → nx + suc w + u ≤ m + y
move_total n w u m z nx y a b c h = omega arith

-- a place goes to those that were busy, or is given up
keep_room : (x w u b p ux more : ℕ) → ux ≡ x + u → more ≤ b + x → w + ux + b ≤ p → w + u + more ≤ p
keep_room x w u b p ux more e f h = omega arith

keep_share : (x n w u m z nx ux y : ℕ) → nx ≡ n + x → ux ≡ x + u → y ≡ z → n + w + ux ≤ m + z → nx + w + u ≤ m + y
keep_share x n w u m z nx ux y a b c h = omega arith

keep_total : (n w u m z nx y : ℕ) → nx ≡ n + 1 → y ≡ z → n + w + suc u ≤ m + z → nx + w + u ≤ m + y
keep_total n w u m z nx y a b h = omega arith

-- the last of more is one of those before, or the last
among_last : (a b : Bool) → (a || b) ≡ true → (a ≡ true) ⊎ (b ≡ true)
among_last true b h = inl refl
among_last false b h = inr h

longer : {X : Type 0} (xs ys : List X) (k : ℕ) → k ≤ length xs → k ≤ length (xs ++ ys)
longer xs ys k h = rw (length-append xs ys) (omega arith)

module _ {S : Type 0} (rules : Rules S) (class : Answered → Class) where
  abbrev cl : End S → Class
  cl e = class_of_end rules class e

  abbrev busy_of : Option (End S) → Bool
  busy_of o = elim o [ None ↦ false | Some e ↦ is_busy (cl e) ]

  -- what is kept after one more end
  pub kept_more : (ends : List (End S)) (e : End S) (k : NetError) → k ≡ kept_over (map cl ends) → kept_after k (cl e) ≡ kept_over (map cl (ends ++ e ∷ []))
  kept_more ends e k h =
      ap (λ (x : NetError). kept_after x (cl e)) h
      ∙ sym (fold-append kept_after net.NoConnections (map cl ends) (cl e ∷ []))
      ∙ ap kept_over (sym (map-append cl ends (e ∷ [])))

  -- the ends of a server after one more
  own_turn : (s : S) (ends : List (End S)) (e : End S) → has_fallen_back rules class ends ≡ false → falls_back rules class e ≡ true → own rules class s (ends ++ e ∷ []) ≡ own rules class s ends
  own_turn s ends e n t = ap (filter (is_at rules class s)) (but_more_first (falls_back rules class) ends e n t)

  own_more : (s : S) (ends : List (End S)) (e : End S) → falls_back rules class e ≡ false → own rules class s (ends ++ e ∷ []) ≡ own rules class s ends ++ cond (is_at rules class s e) (e ∷ []) []
  own_more s ends e t = ap (filter (is_at rules class s)) (but_more (falls_back rules class) ends e t) ∙ filter_more (is_at rules class s) (but_fallback rules class ends) e

  own_at : (s : S) (ends : List (End S)) (e : End S) → falls_back rules class e ≡ false → is_at rules class s e ≡ true → own rules class s (ends ++ e ∷ []) ≡ own rules class s ends ++ e ∷ []
  own_at s ends e t at = own_more s ends e t ∙ ap (λ (b : Bool). own rules class s ends ++ cond b (e ∷ []) []) at

  own_elsewhere : (s : S) (ends : List (End S)) (e : End S) → falls_back rules class e ≡ false → is_at rules class s e ≡ false → own rules class s (ends ++ e ∷ []) ≡ own rules class s ends
  own_elsewhere s ends e t at = own_more s ends e t ∙ ap (λ (b : Bool). own rules class s ends ++ cond b (e ∷ []) []) at ∙ append-nil (own rules class s ends)

  own_grows : (s : S) (ends : List (End S)) (e : End S) (k : ℕ) → falls_back rules class e ≡ false → k ≤ length (own rules class s ends) → k ≤ length (own rules class s (ends ++ e ∷ []))
  own_grows s ends e k t h = subst (λ (l : List (End S)). k ≤ length l) (sym (own_more s ends e t)) (longer (own rules class s ends) (cond (is_at rules class s e) (e ∷ []) []) k h)

  busy_at : (s : S) (ends : List (End S)) (e : End S) → falls_back rules class e ≡ false → is_at rules class s e ≡ true → was_busy rules class s (ends ++ e ∷ []) ≡ is_busy (cl e)
  busy_at s ends e t at =
      ap (busy_of) (ap (last_or None) (own_at s ends e t at) ∙ last_more None (own rules class s ends) e)

  busy_same : (s : S) (ends more : List (End S)) → own rules class s more ≡ own rules class s ends → was_busy rules class s more ≡ was_busy rules class s ends
  busy_same s ends more h = ap (λ (l : List (End S)). busy_of (last_or None l)) h

  abbrev turn_at : S → Option (End S) → Bool
  turn_at s o = elim o [ None ↦ false | Some e ↦ is_at rules class s e ]

  never_at : (s : S) (ends : List (End S)) → the_fallback rules class ends ≡ None → is_fallback_at rules class ends s ≡ true → ⊥
  never_at s ends n h = let e = ap (turn_at s) n in cc

  turned_once : (ends : List (End S)) (s : S) → is_fallback_at rules class ends s ≡ true → has_fallen_back rules class ends ≡ true
  turned_once ends s h = at_any (has_fallen_back rules class ends) refl
    where
      at_any : (b : Bool) → has_fallen_back rules class ends ≡ b → b ≡ true
      at_any true e = refl
      at_any false e = let n : the_fallback rules class ends ≡ None = find_none (falls_back rules class) ends e in
          absurd (never_at s ends n h)

  module _ (same_self : (s : S) → rules.same s s ≡ true) (same_is : (a b : S) → rules.same a b ≡ true → a ≡ b) (pool : List S) where
    -- ---- the first turn: UDP is off from then on, and the server is to be asked again first

    module _ (ends : List (End S)) (e : End S) (n : has_fallen_back rules class ends ≡ false) (t : falls_back rules class e ≡ true) (under waiting busy : List S) where
      here : S
      here = e.server

      turn_deals : (s : S) → IsDealt rules class ends (e.server ∷ under) waiting busy s → IsDealt rules class (ends ++ e ∷ []) under (e.server ∷ waiting) busy s
      turn_deals s (refused h) = let f : false ≡ true = sym (ap (λ (b : Bool). b && not (rules.beyond_udp s)) n) ∙ h in cc
      turn_deals s (waits h) = waits (or_right (rules.same s e.server) _ h)
      turn_deals s (goes_on h) = at_head (rules.same s e.server) refl h
        where
          at_head : (b : Bool) → rules.same s e.server ≡ b → (b || among rules s under) ≡ true → IsDealt rules class (ends ++ e ∷ []) under (e.server ∷ waiting) busy s
          at_head true g k = waits (or_left (rules.same s e.server) _ g)
          at_head false g k = goes_on k
      turn_deals s (asked a b) =
          asked (ap (list_any (is_at rules class s)) (but_more_first (falls_back rules class) ends e n t) ∙ a)
          (λ w. b (sym (busy_same s ends (ends ++ e ∷ []) (own_turn s ends e n t)) ∙ w))

      turn_at_last : (s : S) → is_fallback_at rules class (ends ++ e ∷ []) s ≡ is_at rules class s e
      turn_at_last s = ap (turn_at s) (find_more_first (falls_back rules class) ends e n t)

      no_turn_yet : (s : S) → is_fallback_at rules class ends s ≡ false
      no_turn_yet s = ap (turn_at s) (find_none (falls_back rules class) ends n)

      has_turned_now : has_fallen_back rules class (ends ++ e ∷ []) ≡ true
      has_turned_now = any_more (falls_back rules class) ends e ∙ or_right (has_fallen_back rules class ends) (falls_back rules class e) t

      pub stands_turned : (kept : NetError) (k : ℕ) → Stands rules class pool ends (e.server ∷ under) waiting busy false kept k
          → Stands rules class pool (ends ++ e ∷ []) under (e.server ∷ waiting) busy true (kept_after kept (cl e)) k
      stands_turned kept k st = record {
        none = ap (list_all (retries rules class)) (but_more_first (falls_back rules class) ends e n t) ∙ st.none;
        udp = sym has_turned_now;
        error = kept_more ends e kept st.error;
        dealt = λ s h. turn_deals s (st.dealt s h);
        repeated = λ s h. waits_again (or_left (rules.same s e.server) _ (sym (turn_at_last s) ∙ h));
        rounds = λ s h. subst (λ (l : List (End S)). k ≤ length l) (sym (own_turn s ends e n t)) (st.rounds s (to_first (rules.same s e.server) (among rules s waiting) (among rules s under) h));
        delayed = λ s h. subst (λ (l : List (End S)). k + 1 ≤ length l) (sym (own_turn s ends e n t)) (st.delayed s h);
        few = st.few;
        room = λ s. move_room (cond (rules.same s e.server) 1 0) (places rules s waiting) (places rules s under) (places rules s busy) (places rules s pool) _ _
            (count_cons (rules.same s) e.server waiting) (count_cons (rules.same s) e.server under) (st.room s);
        share = λ s. move_share (cond (rules.same s e.server) 1 0) (count_by (is_at rules class s) ends) (places rules s waiting) (places rules s under) ((k + 1) * places rules s pool) _ _ _ _ _
            (count_more (is_at rules class s) ends e) (count_cons (rules.same s) e.server waiting) (count_cons (rules.same s) e.server under)
            (ap (λ (b : Bool). if b then 1 else 0) (no_turn_yet s)) (ap (λ (b : Bool). if b then 1 else 0) (turn_at_last s)) (st.share s);
        size = omega (arith, st.size);
        total = move_total (length ends) (length waiting) (length under) ((k + 1) * length pool) _ _ _
            (length-append ends (e ∷ [])) (ap (λ (b : Bool). if b then 1 else 0) n) (ap (λ (b : Bool). if b then 1 else 0) has_turned_now) st.total;
      }

    -- ---- an end that passes the question on: the server is kept for later where it is busy

    module _ (ends : List (End S)) (e : End S) (r : retries rules class e ≡ true) (under waiting busy more : List S)
        (stays : (s : S) → among rules s busy ≡ true → among rules s more ≡ true)
        (added : is_busy (cl e) ≡ true → among rules e.server more ≡ true)
        (no_other : (s : S) → among rules s more ≡ true → (among rules s busy || rules.same s e.server) ≡ true)
        (one_place : (s : S) → places rules s more ≤ places rules s busy + cond (rules.same s e.server) 1 0)
        (one_more : length more ≤ length busy + 1) where
      t : falls_back rules class e ≡ false
      t = no_turn (rules.trusts e.server) (cl e) r

      same_turned : has_fallen_back rules class (ends ++ e ∷ []) ≡ has_fallen_back rules class ends
      same_turned = any_more (falls_back rules class) ends e ∙ ap (λ (b : Bool). has_fallen_back rules class ends || b) t ∙ or_false (has_fallen_back rules class ends)

      same_turn_at : (s : S) → is_fallback_at rules class (ends ++ e ∷ []) s ≡ is_fallback_at rules class ends s
      same_turn_at s = ap (turn_at s) (find_more (falls_back rules class) ends e t)

      -- a server other than that of the end
      tried_before : (s : S) → is_at rules class s e ≡ false → (was_busy rules class s ends ≡ true → among rules s busy ≡ true) → was_busy rules class s (ends ++ e ∷ []) ≡ true → among rules s more ≡ true
      tried_before s at b w = stays s (b (sym (busy_same s ends (ends ++ e ∷ []) (own_elsewhere s ends e t at)) ∙ w))

      -- that of the end
      tried_now : (s : S) → is_at rules class s e ≡ true → was_busy rules class s (ends ++ e ∷ []) ≡ true → among rules s more ≡ true
      tried_now s at w = subst (λ (x : S). among rules x more ≡ true) (sym (same_is s e.server at)) (added (sym (busy_at s ends e t at) ∙ w))

      tried_either : (s : S) (b : Bool) → is_at rules class s e ≡ b → (was_busy rules class s ends ≡ true → among rules s busy ≡ true) → was_busy rules class s (ends ++ e ∷ []) ≡ true → among rules s more ≡ true
      tried_either s true at b w = tried_now s at w
      tried_either s false at b w = tried_before s at b w

      was_asked : (s : S) → (list_any (is_at rules class s) (but_fallback rules class ends) || is_at rules class s e) ≡ true → list_any (is_at rules class s) (but_fallback rules class (ends ++ e ∷ [])) ≡ true
      was_asked s h = ap (list_any (is_at rules class s)) (but_more (falls_back rules class) ends e t) ∙ any_more (is_at rules class s) (but_fallback rules class ends) e ∙ h

      pass_deals : (s : S) → IsDealt rules class ends (e.server ∷ under) waiting busy s → IsDealt rules class (ends ++ e ∷ []) under waiting more s
      pass_deals s (refused h) = refused (ap (λ (b : Bool). b && not (rules.beyond_udp s)) same_turned ∙ h)
      pass_deals s (waits h) = waits h
      pass_deals s (goes_on h) = at_head (rules.same s e.server) refl h
        where
          at_head : (b : Bool) → rules.same s e.server ≡ b → (b || among rules s under) ≡ true → IsDealt rules class (ends ++ e ∷ []) under waiting more s
          at_head true g k = asked (was_asked s (or_right (list_any (is_at rules class s) (but_fallback rules class ends)) _ g)) (tried_now s g)
          at_head false g k = goes_on k
      pass_deals s (asked a b) = asked (was_asked s (or_left (list_any (is_at rules class s) (but_fallback rules class ends)) _ a)) (tried_either s (is_at rules class s e) refl b)

      is_again : (s : S) → has_fallen_back rules class ends ≡ true → (list_any (is_at rules class s) (after_first (falls_back rules class) ends) || is_at rules class s e) ≡ true → IsRepeated rules class (ends ++ e ∷ []) under waiting s
      is_again s d h = again (ap (list_any (is_at rules class s)) (after_more (falls_back rules class) ends e d) ∙ any_more (is_at rules class s) (after_first (falls_back rules class) ends) e ∙ h)

      pass_repeats : (s : S) → has_fallen_back rules class ends ≡ true → IsRepeated rules class ends (e.server ∷ under) waiting s → IsRepeated rules class (ends ++ e ∷ []) under waiting s
      pass_repeats s d (refused_again h) = refused_again (ap (λ (b : Bool). b && not (rules.beyond_udp s)) same_turned ∙ h)
      pass_repeats s d (waits_again h) = waits_again h
      pass_repeats s d (goes_on_again h) = at_head (rules.same s e.server) refl h
        where
          at_head : (b : Bool) → rules.same s e.server ≡ b → (b || among rules s under) ≡ true → IsRepeated rules class (ends ++ e ∷ []) under waiting s
          at_head true g k = is_again s d (or_right (list_any (is_at rules class s) (after_first (falls_back rules class) ends)) _ g)
          at_head false g k = goes_on_again k
      pass_repeats s d (again h) = is_again s d (or_left _ (is_at rules class s e) h)

      -- the server of the end was asked as often as there were sleeps, and now once more
      pass_delays : (k : ℕ) (s : S) → ((x : S) → (among rules x waiting || among rules x (e.server ∷ under)) ≡ true → k ≤ length (own rules class x ends))
          → ((x : S) → among rules x busy ≡ true → k + 1 ≤ length (own rules class x ends)) → among rules s more ≡ true → k + 1 ≤ length (own rules class s (ends ++ e ∷ []))
      pass_delays k s rounds delayed h = either (among_last (among rules s busy) (rules.same s e.server) (no_other s h))
        where
          either : (among rules s busy ≡ true) ⊎ (rules.same s e.server ≡ true) → k + 1 ≤ length (own rules class s (ends ++ e ∷ []))
          either (inl b) = own_grows s ends e (k + 1) t (delayed s b)
          either (inr g) =
              let one : k ≤ length (own rules class s ends) = rounds s (or_right (among rules s waiting) _ (or_left (rules.same s e.server) _ g)) in
              rw (own_at s ends e t g, length-append (own rules class s ends) (e ∷ [])) (omega arith)

      pub stands_passed : (udp_off : Bool) (kept : NetError) (k : ℕ) → Stands rules class pool ends (e.server ∷ under) waiting busy udp_off kept k
          → Stands rules class pool (ends ++ e ∷ []) under waiting more udp_off (kept_after kept (cl e)) k
      stands_passed udp_off kept k st = record {
        none = ap (list_all (retries rules class)) (but_more (falls_back rules class) ends e t) ∙ all_more (retries rules class) (but_fallback rules class ends) e ∙ ap (λ (b : Bool). b && retries rules class e) st.none ∙ r;
        udp = st.udp ∙ sym same_turned;
        error = kept_more ends e kept st.error;
        dealt = λ s h. pass_deals s (st.dealt s h);
        repeated = λ s h. let before = sym (same_turn_at s) ∙ h in pass_repeats s (turned_once ends s before) (st.repeated s before);
        rounds = λ s h. own_grows s ends e k t (st.rounds s (or_second (rules.same s e.server) (among rules s waiting) (among rules s under) h));
        delayed = λ s h. pass_delays k s st.rounds st.delayed h;
        few = st.few;
        room = λ s. keep_room (cond (rules.same s e.server) 1 0) (places rules s waiting) (places rules s under) (places rules s busy) (places rules s pool) _ (places rules s more)
            (count_cons (rules.same s) e.server under) (one_place s) (st.room s);
        share = λ s. keep_share (cond (rules.same s e.server) 1 0) (count_by (is_at rules class s) ends) (places rules s waiting) (places rules s under) ((k + 1) * places rules s pool) _ _ _ _
            (count_more (is_at rules class s) ends e) (count_cons (rules.same s) e.server under) (ap (λ (b : Bool). if b then 1 else 0) (same_turn_at s)) (st.share s);
        size = omega (arith, st.size, one_more);
        total = keep_total (length ends) (length waiting) (length under) ((k + 1) * length pool) _ _ _
            (length-append ends (e ∷ [])) (ap (λ (b : Bool). if b then 1 else 0) same_turned) st.total;
      }
