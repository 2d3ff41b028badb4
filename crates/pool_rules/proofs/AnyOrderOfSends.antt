-- It makes no difference in which order the sends under way are listed.
use Rattle.std.proofs.Common.{◌≡◌, ◌∙◌, ℕ, suc, zero, ◌+◌, ◌≤◌, Bool, true, false, ◌||◌, List, [], ◌∷◌, ◌++◌, map, length, refl, ap, sym, subst, arith, length-append, slice_get, Some}
use Rattle.std.specs.List.{remove}
use Rattle.dns_core.specs.declared.net_error.NetError.{NetError}
use Rattle.resolution.specs.Lookups.{Answered, Rules, End}
use Rattle.resolution.specs.declared.class.Class.{Class}
use Rattle.pool_rules.specs.RetryQueue.{among, places, IsDealt, IsRepeated, Stands}
use Rattle.pool_rules.specs.RetryQueue.IsDealt.{refused, waits, goes_on, asked}
use Rattle.pool_rules.specs.RetryQueue.IsRepeated.{refused as refused_again, waits as waits_again, goes_on as goes_on_again, again}
use Rattle.pool_rules.proofs.FirstThatPasses.{any_more}
use Rattle.pool_rules.proofs.QueueStandsOn.{count_cons, count_more}

-- the two lists have the same servers, as often
pub record IsSameList {S : Type 0} (rules : Rules S) (xs ys : List S) : Type 0 where
  pub among_same : (s : S) → among rules s xs ≡ among rules s ys
  pub places_same : (s : S) → places rules s xs ≡ places rules s ys
  pub length_same : length xs ≡ length ys

other_room : (w u v b p : ℕ) → u ≡ v → w + u + b ≤ p → w + v + b ≤ p
other_room w u v b p e h = omega arith

other_share : (n w u v m : ℕ) → u ≡ v → n + w + u ≤ m → n + w + v ≤ m
other_share n w u v m e h = omega arith

module _ {S : Type 0} (rules : Rules S) (class : Answered → Class) where
  pub stands_moved : (pool : List S) (ends : List (End S)) (under other waiting busy : List S) (udp_off : Bool) (kept : NetError) (k : ℕ) → IsSameList rules under other
      → Stands rules class pool ends under waiting busy udp_off kept k → Stands rules class pool ends other waiting busy udp_off kept k
  stands_moved pool ends under other waiting busy udp_off kept k m st = record {
    none = st.none;
    udp = st.udp;
    error = st.error;
    dealt = λ s h. deals s (st.dealt s h);
    repeated = λ s h. repeats s (st.repeated s h);
    rounds = λ s h. st.rounds s (ap (λ (b : Bool). among rules s waiting || b) (m.among_same s) ∙ h);
    delayed = st.delayed;
    few = st.few;
    room = λ s. other_room (places rules s waiting) (places rules s under) (places rules s other) (places rules s busy) (places rules s pool) (m.places_same s) (st.room s);
    share = λ s. other_share _ (places rules s waiting) (places rules s under) (places rules s other) _ (m.places_same s) (st.share s);
    size = other_room (length waiting) (length under) (length other) (length busy) (length pool) m.length_same st.size;
    total = other_share (length ends) (length waiting) (length under) (length other) _ m.length_same st.total;
  }
    where
      deals : (s : S) → IsDealt rules class ends under waiting busy s → IsDealt rules class ends other waiting busy s
      deals s (refused h) = refused h
      deals s (waits h) = waits h
      deals s (goes_on h) = goes_on (sym (m.among_same s) ∙ h)
      deals s (asked a b) = asked a b

      repeats : (s : S) → IsRepeated rules class ends under waiting s → IsRepeated rules class ends other waiting s
      repeats s (refused_again h) = refused_again h
      repeats s (waits_again h) = waits_again h
      repeats s (goes_on_again h) = goes_on_again (sym (m.among_same s) ∙ h)
      repeats s (again h) = again h

or_order : (a b : Bool) → (a || b) ≡ (b || a)
or_order true true = refl
or_order true false = refl
or_order false true = refl
or_order false false = refl

or_swap : (a b c : Bool) → (a || (b || c)) ≡ (b || (a || c))
or_swap true true c = refl
or_swap true false c = refl
or_swap false b c = refl

module _ {S : Type 0} (rules : Rules S) where
  -- the first one stands last
  pub first_last : (x : S) (xs : List S) → IsSameList rules (x ∷ xs) (xs ++ x ∷ [])
  first_last x xs = record {
    among_same = λ s. or_order (rules.same s x) (among rules s xs) ∙ sym (any_more (rules.same s) xs x);
    places_same = λ s. let a = count_cons (rules.same s) x xs in let b = count_more (rules.same s) xs x in omega arith;
    length_same = let a = length-append xs (x ∷ []) in omega arith;
  }

  -- one of a list, by what is seen of each, stands first
  pub picked_first : {X : Type 0} (f : X → S) (xs : List X) (i : ℕ) (x : X) → slice_get xs i ≡ Some x → IsSameList rules (map f xs) (f x ∷ map f (remove xs i))
  picked_first f [] i x h = cc
  picked_first {X} f (y ∷ xs) zero x h =
      let e : y ≡ x = cc in
      let itself : IsSameList rules (f y ∷ map f xs) (f y ∷ map f xs) = record { among_same = λ s. refl; places_same = λ s. refl; length_same = refl } in
      subst (λ (z : X). IsSameList rules (f y ∷ map f xs) (f z ∷ map f xs)) e itself
  picked_first f (y ∷ xs) (suc i) x h =
      let rest = map f (remove xs i) in
      let r : IsSameList rules (map f xs) (f x ∷ rest) = picked_first f xs i x h in
      record {
        among_same = λ s. ap (λ (b : Bool). rules.same s (f y) || b) (r.among_same s) ∙ or_swap (rules.same s (f y)) (rules.same s (f x)) (among rules s rest);
        places_same = λ s.
            let a = count_cons (rules.same s) (f y) (map f xs) in
            let b = count_cons (rules.same s) (f x) (f y ∷ rest) in
            let c = count_cons (rules.same s) (f y) rest in
            let d = count_cons (rules.same s) (f x) rest in
            let e = r.places_same s in
            omega arith;
        length_same = let e = r.length_same in omega arith;
      }
