-- How a round is dealt its servers, one after the other.
use Rattle.std.proofs.Common.{◌≡◌, ◌∙◌, ℕ, zero, suc, ◌+◌, ◌-◌, ◌≤◌, ◌<◌, Bool, true, false, cond, List, [], ◌∷◌, ◌++◌, take, length, find, filter, append_assoc, append-nil, refl, ap, sym, arith, Some, None}
use Rattle.std.specs.List.{after_first}
use Rattle.pool_rules.specs.RetryQueue.{QueueState, may_ask}
use Rattle.pool_rules.specs.declared.pool_server.PoolServer.{PoolServer}
use Rattle.pool_rules.proofs.FirstThatPasses.{after_yes, after_no}
use Rattle.pool_lookup.specs.Lists.{after_firsts}
use Rattle.pool_lookup.specs.Rounds.{dealt, without_dealt}
use Rattle.pool_lookup.proofs.ListFacts.{first_passes, none_passes, none_after, firsts_none}

-- so many of the round were dealt, and the rest is still to be
pub record IsDealing (most done : ℕ) (old now : QueueState) (ready : List PoolServer) : Type 0 where
  pub dealt : ready ++ take (most - done) (filter (may_ask old.udp_off) now.waiting) ≡ dealt most old
  pub left : after_firsts (most - done) (may_ask old.udp_off) now.waiting ≡ after_firsts most (may_ask old.udp_off) old.waiting
  pub rest : now ≡ record old { waiting = now.waiting }

-- one taken leaves fewer
pub fewer : {X : Type 0} (p : X → Bool) (xs : List X) (c : X) → find p xs ≡ Some c → 1 + length (after_first p xs) ≤ length xs
fewer p [] c h = cc
fewer {X} p (x ∷ xs) c h = at_head (p x) refl h (fewer p xs c)
  where
    at_head : (b : Bool) → p x ≡ b → cond b (Some x) (find p xs) ≡ Some c → (find p xs ≡ Some c → 1 + length (after_first p xs) ≤ length xs) → 1 + length (after_first p (x ∷ xs)) ≤ length (x ∷ xs)
    at_head true e h next = let n : length (after_first p (x ∷ xs)) ≡ length xs = ap length (after_yes p x xs e) in omega (arith, n)
    at_head false e h next = let n : length (after_first p (x ∷ xs)) ≡ length (after_first p xs) = ap length (after_no p x xs e) in let k = next h in omega (arith, n, k)

pub none_yet : (most : ℕ) (old : QueueState) → IsDealing most 0 old old []
none_yet most old = let e : most - 0 ≡ most = omega arith in record {
  dealt = ap (λ (n : ℕ). take n (filter (may_ask old.udp_off) old.waiting)) e;
  left = ap (λ (n : ℕ). after_firsts n (may_ask old.udp_off) old.waiting) e;
  rest = refl;
}

pub one_more : (most done : ℕ) (old now next : QueueState) (ready more : List PoolServer) (c : PoolServer) → IsDealing most done old now ready → done < most → find (may_ask now.udp_off) now.waiting ≡ Some c
    → next ≡ record now { waiting = after_first (may_ask now.udp_off) now.waiting } → more ≡ ready ++ c ∷ [] → IsDealing most (done + 1) old next more
one_more most done old now next ready more c d few found is grown =
    let same : now.udp_off ≡ old.udp_off = ap (λ (p : QueueState). p.udp_off) d.rest in
    let one : most - done ≡ suc (most - (done + 1)) = omega arith in
    let left : next.waiting ≡ after_first (may_ask old.udp_off) now.waiting = ap (λ (p : QueueState). p.waiting) is ∙ ap (λ (b : Bool). after_first (may_ask b) now.waiting) same in
    let found_so : find (may_ask old.udp_off) now.waiting ≡ Some c = sym (ap (λ (b : Bool). find (may_ask b) now.waiting) same) ∙ found in
    record {
      dealt =
          ap (λ (xs : List PoolServer). xs ++ take (most - (done + 1)) (filter (may_ask old.udp_off) next.waiting)) grown
          ∙ ap (λ (xs : List PoolServer). (ready ++ c ∷ []) ++ take (most - (done + 1)) (filter (may_ask old.udp_off) xs)) left
          ∙ append_assoc ready (c ∷ []) (take (most - (done + 1)) (filter (may_ask old.udp_off) (after_first (may_ask old.udp_off) now.waiting)))
          ∙ ap (λ (xs : List PoolServer). ready ++ take (suc (most - (done + 1))) xs) (sym (first_passes (may_ask old.udp_off) now.waiting c found_so))
          ∙ ap (λ (n : ℕ). ready ++ take n (filter (may_ask old.udp_off) now.waiting)) (sym one)
          ∙ d.dealt;
      left =
          ap (after_firsts (most - (done + 1)) (may_ask old.udp_off)) left
          ∙ ap (λ (n : ℕ). after_firsts n (may_ask old.udp_off) now.waiting) (sym one)
          ∙ d.left;
      rest = is ∙ ap (λ (p : QueueState). record p { waiting = after_first (may_ask now.udp_off) now.waiting }) d.rest ∙ ap (λ (xs : List PoolServer). record old { waiting = xs }) (sym (ap (λ (p : QueueState). p.waiting) is));
    }

-- none is left before the round is full
pub none_left : (most done : ℕ) (old now next : QueueState) (ready : List PoolServer) → IsDealing most done old now ready → done < most → find (may_ask now.udp_off) now.waiting ≡ None
    → next ≡ record now { waiting = after_first (may_ask now.udp_off) now.waiting } → (ready ≡ dealt most old) × (next ≡ without_dealt most old)
none_left most done old now next ready d few none is =
    let same : now.udp_off ≡ old.udp_off = ap (λ (p : QueueState). p.udp_off) d.rest in
    let none_so : find (may_ask old.udp_off) now.waiting ≡ None = sym (ap (λ (b : Bool). find (may_ask b) now.waiting) same) ∙ none in
    let one : most - done ≡ suc (most - (done + 1)) = omega arith in
    let gone : after_first (may_ask now.udp_off) now.waiting ≡ [] = none_after (may_ask now.udp_off) now.waiting none in
    let all : after_firsts (most - done) (may_ask old.udp_off) now.waiting ≡ [] =
    ap (λ (n : ℕ). after_firsts n (may_ask old.udp_off) now.waiting) one ∙ ap (after_firsts (most - (done + 1)) (may_ask old.udp_off)) (none_after (may_ask old.udp_off) now.waiting none_so)
    ∙ firsts_none (most - (done + 1)) (may_ask old.udp_off) in (
      sym (ap (λ (xs : List PoolServer). ready ++ xs) (ap (take (most - done)) (none_passes (may_ask old.udp_off) now.waiting none_so) ∙ take_none (most - done)) ∙ append-nil ready) ∙ d.dealt,
      is ∙ ap (λ (xs : List PoolServer). record now { waiting = xs }) gone ∙ ap (λ (p : QueueState). record p { waiting = [] }) d.rest ∙ ap (λ (xs : List PoolServer). record old { waiting = xs }) (sym all ∙ d.left),
    )
  where
    take_none : (n : ℕ) → (let none : List PoolServer = [] in take n none) ≡ []
    take_none zero = refl
    take_none (suc n) = refl

-- the round is full
pub all_dealt : (most done : ℕ) (old now : QueueState) (ready : List PoolServer) → IsDealing most done old now ready → most ≤ done → (ready ≡ dealt most old) × (now ≡ without_dealt most old)
all_dealt most done old now ready d full =
    let none : most - done ≡ 0 = omega arith in (
      sym (ap (λ (n : ℕ). ready ++ take n (filter (may_ask old.udp_off) now.waiting)) none ∙ ap (λ (xs : List PoolServer). ready ++ xs) (take_zero (filter (may_ask old.udp_off) now.waiting)) ∙ append-nil ready) ∙ d.dealt,
      d.rest ∙ ap (λ (xs : List PoolServer). record old { waiting = xs }) (sym (ap (λ (n : ℕ). after_firsts n (may_ask old.udp_off) now.waiting) none) ∙ d.left),
    )
  where
    take_zero : (xs : List PoolServer) → take 0 xs ≡ []
    take_zero [] = refl
    take_zero (x ∷ xs) = refl
