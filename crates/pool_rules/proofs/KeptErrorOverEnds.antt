-- What is kept over all the ends of a lookup is what they leave where none of them decides it.
use Rattle.std.proofs.Common.{◌≡◌, ◌∙◌, Bool, true, false, ◌==◌, ◌&&◌, List, [], ◌∷◌, map, find, refl, ap, sym, Option, Some, None, cond}
use Rattle.std.specs.List.{list_any, list_all, fold, before_first, after_first}
use Rattle.std.proofs.lemmas.List.Folds.{list_all-append}
use Rattle.dns_core.specs.declared.net_error.NetError.{NetError}
use Rattle.dns_core.specs.declared.net_error.NetError.TheVariants as net
use Rattle.resolution.specs.KeptError.{kept, most_specific, error_of}
use Rattle.resolution.specs.Lookups.{Answered, Rules, End, is_tcp_fallback, is_retryable, least_bad, class_of_end, falls_back, but_fallback, retries, none_is_final, what_is_left}
use Rattle.resolution.specs.declared.class.Class.{Class}
use Rattle.resolution.specs.declared.class.Class.TheVariants.{Error, Code, Truncated, Negative, Foreign, Positive}
use Rattle.resolution.proofs.KeptErrors.{from_none, from_truncated}
use Rattle.pool_rules.specs.KeptError.{kept_after, kept_over}
use Rattle.pool_rules.proofs.FirstThatPasses.{but, but_yes, but_no, but_none, after_yes, after_no, find_none, find_some}

both : (a b : Bool) → (a && b) ≡ true → (a ≡ true) × (b ≡ true)
both true b h = (refl, h)
both false b h = cc

never : (b : Bool) → (b && false) ≡ true → ⊥
never true h = cc
never false h = cc

-- what a server that is trusted passes on, one that is not does too
pub untrusted : (t : Bool) (c : Class) → is_retryable t c ≡ true → is_retryable false c ≡ true
untrusted false c h = h
untrusted true (Error e) h = h
untrusted true (Negative n) h = absurd (never (n.response_code.code == 3) h)
untrusted true (Code c) h = h
untrusted true Truncated h = h
untrusted true (Foreign r) h = h
untrusted true (Positive m) h = h

-- what passes the question on is no turn
pub no_turn : (t : Bool) (c : Class) → is_retryable t c ≡ true → is_tcp_fallback c ≡ false
no_turn t (Error net.QueryCaseMismatch) h = cc
no_turn t (Error _) h = refl
no_turn t (Negative n) h = refl
no_turn t (Code c) h = refl
no_turn t Truncated h = cc
no_turn t (Foreign r) h = refl
no_turn t (Positive m) h = refl

-- of what passes the question on the most specific error is kept
pub kept_passing : (k : NetError) (t : Bool) (c : Class) → is_retryable t c ≡ true → kept_after k c ≡ most_specific k (error_of c)
kept_passing k t (Error net.QueryCaseMismatch) h = cc
kept_passing k t (Error net.Busy) h = refl
kept_passing k t (Error (net.Io kind)) h = refl
kept_passing k t (Error net.Timeout) h = refl
kept_passing k t (Error net.NoConnections) h = refl
kept_passing k t (Error _) h = cc
kept_passing k t (Negative n) h = refl
kept_passing k t (Code c) h = refl
kept_passing k t Truncated h = cc
kept_passing k t (Foreign r) h = refl
kept_passing k t (Positive m) h = refl

module _ {S : Type 0} (rules : Rules S) (class : Answered → Class) where
  abbrev cl : End S → Class
  cl e = class_of_end rules class e

  all_untrusted : (ends : List (End S)) → list_all (retries rules class) ends ≡ true → list_all (is_retryable false) (map cl ends) ≡ true
  all_untrusted [] h = refl
  all_untrusted (e ∷ ends) h =
      let b = both (retries rules class e) (list_all (retries rules class) ends) h in
      ap (λ (x : Bool). x && list_all (is_retryable false) (map cl ends)) (untrusted (rules.trusts e.server) (cl e) b.0) ∙ all_untrusted ends b.1

  -- over ends that all pass the question on
  over_passing : (k : NetError) (ends : List (End S)) → list_all (retries rules class) ends ≡ true → fold kept_after k (map cl ends) ≡ kept k (map cl ends)
  over_passing k [] h = refl
  over_passing k (e ∷ ends) h =
      let b = both (retries rules class e) (list_all (retries rules class) ends) h in
      over_passing (kept_after k (cl e)) ends b.1 ∙ ap (λ (x : NetError). kept x (map cl ends)) (kept_passing k (rules.trusts e.server) (cl e) b.0)

  -- over a cut message and those after it
  over_cut : (k : NetError) (ends : List (End S)) (e : End S) → find (falls_back rules class) ends ≡ Some e → cl e ≡ Truncated
      → fold kept_after k (map cl ends) ≡ fold kept_after net.Truncated (map cl (after_first (falls_back rules class) ends))
  over_cut k [] e f t = cc
  over_cut k (x ∷ xs) e f t = at_head (falls_back rules class x) refl f (λ (j : NetError) (g : find (falls_back rules class) xs ≡ Some e). over_cut j xs e g t)
    where
      at_head : (b : Bool) → falls_back rules class x ≡ b → cond b (Some x) (find (falls_back rules class) xs) ≡ Some e
          → ((j : NetError) → find (falls_back rules class) xs ≡ Some e → fold kept_after j (map cl xs) ≡ fold kept_after net.Truncated (map cl (after_first (falls_back rules class) xs)))
          → fold kept_after (kept_after k (cl x)) (map cl xs) ≡ fold kept_after net.Truncated (map cl (after_first (falls_back rules class) (x ∷ xs)))
      at_head true h g next =
          let same : x ≡ e = cc in
          let cut : cl x ≡ Truncated = ap cl same ∙ t in
          ap (λ (c : Class). fold kept_after (kept_after k c) (map cl xs)) cut
          ∙ ap (λ (l : List (End S)). fold kept_after net.Truncated (map cl l)) (sym (after_yes (falls_back rules class) x xs h))
      at_head false h g next =
          next (kept_after k (cl x)) g
          ∙ ap (λ (l : List (End S)). fold kept_after net.Truncated (map cl l)) (sym (after_no (falls_back rules class) x xs h))

  -- over a turn that leaves what was kept
  over_mismatch : (k : NetError) (ends : List (End S)) (e : End S) → find (falls_back rules class) ends ≡ Some e → ((j : NetError) → kept_after j (cl e) ≡ j)
      → fold kept_after k (map cl ends) ≡ fold kept_after k (map cl (but (falls_back rules class) ends))
  over_mismatch k [] e f t = cc
  over_mismatch k (x ∷ xs) e f t = at_head (falls_back rules class x) refl f (λ (j : NetError) (g : find (falls_back rules class) xs ≡ Some e). over_mismatch j xs e g t)
    where
      at_head : (b : Bool) → falls_back rules class x ≡ b → cond b (Some x) (find (falls_back rules class) xs) ≡ Some e
          → ((j : NetError) → find (falls_back rules class) xs ≡ Some e → fold kept_after j (map cl xs) ≡ fold kept_after j (map cl (but (falls_back rules class) xs)))
          → fold kept_after (kept_after k (cl x)) (map cl xs) ≡ fold kept_after k (map cl (but (falls_back rules class) (x ∷ xs)))
      at_head true h g next =
          let same : x ≡ e = cc in
          let stays : kept_after k (cl x) ≡ k = ap (λ (y : End S). kept_after k (cl y)) same ∙ t k in
          ap (λ (j : NetError). fold kept_after j (map cl xs)) stays
          ∙ ap (λ (l : List (End S)). fold kept_after k (map cl l)) (sym (but_yes (falls_back rules class) x xs h))
      at_head false h g next =
          next (kept_after k (cl x)) g
          ∙ ap (λ (l : List (End S)). fold kept_after k (map cl l)) (sym (but_no (falls_back rules class) x xs h))

  -- what is left after a turn of a class
  abbrev class_left : List (End S) → Class → NetError
  class_left ends c = elim c [
    | Truncated ↦ least_bad true (map cl (after_first (falls_back rules class) ends))
    | _ ↦ least_bad false (map cl (but_fallback rules class ends))
  ]

  abbrev left_of : List (End S) → Option (End S) → NetError
  left_of ends o = elim o [ None ↦ least_bad false (map cl ends) | Some e ↦ class_left ends (cl e) ]

  is_left : (ends : List (End S)) → what_is_left rules class ends ≡ left_of ends (find (falls_back rules class) ends)
  is_left ends = refl

  all_after : (ends : List (End S)) → none_is_final rules class ends ≡ true → list_all (retries rules class) (after_first (falls_back rules class) ends) ≡ true
  all_after ends h =
      let parts = sym (list_all-append (retries rules class) (before_first (falls_back rules class) ends) (after_first (falls_back rules class) ends)) ∙ h in
      (both (list_all (retries rules class) (before_first (falls_back rules class) ends)) _ parts).1

  without_turn : (ends : List (End S)) → none_is_final rules class ends ≡ true → list_any (falls_back rules class) ends ≡ false → kept_over (map cl ends) ≡ what_is_left rules class ends
  without_turn ends h t =
      let all : list_all (retries rules class) ends ≡ true = ap (list_all (retries rules class)) (sym (but_none (falls_back rules class) ends t)) ∙ h in
      over_passing net.NoConnections ends all
      ∙ from_none (map cl ends) (all_untrusted ends all)
      ∙ ap (left_of ends) (sym (find_none (falls_back rules class) ends t))

  at_turn : (ends : List (End S)) (e : End S) (c : Class) → none_is_final rules class ends ≡ true → find (falls_back rules class) ends ≡ Some e → cl e ≡ c → is_tcp_fallback c ≡ true → kept_over (map cl ends) ≡ class_left ends c
  at_turn ends e Truncated h f i t =
      let after = after_first (falls_back rules class) ends in
      let all = all_after ends h in
      over_cut net.NoConnections ends e f i ∙ over_passing net.Truncated after all ∙ from_truncated (map cl after) (all_untrusted after all)
  at_turn ends e (Error net.QueryCaseMismatch) h f i t =
      let rest = but_fallback rules class ends in
      over_mismatch net.NoConnections ends e f (λ j. ap (kept_after j) i) ∙ over_passing net.NoConnections rest h ∙ from_none (map cl rest) (all_untrusted rest h)
  at_turn ends e (Error _) h f i t = cc
  at_turn ends e (Code c) h f i t = cc
  at_turn ends e (Negative n) h f i t = cc
  at_turn ends e (Foreign r) h f i t = cc
  at_turn ends e (Positive m) h f i t = cc

  with_turn : (ends : List (End S)) → none_is_final rules class ends ≡ true → list_any (falls_back rules class) ends ≡ true → kept_over (map cl ends) ≡ what_is_left rules class ends
  with_turn ends h t =
      let found = find_some (falls_back rules class) ends t in
      at_turn ends found.0 (cl found.0) h found.1 refl found.2
      ∙ ap (left_of ends) (sym found.1)

  pub kept_is_left : (ends : List (End S)) → none_is_final rules class ends ≡ true → kept_over (map cl ends) ≡ what_is_left rules class ends
  kept_is_left ends h = at_any (list_any (falls_back rules class) ends) refl
    where
      at_any : (b : Bool) → list_any (falls_back rules class) ends ≡ b → kept_over (map cl ends) ≡ what_is_left rules class ends
      at_any true t = with_turn ends h t
      at_any false t = without_turn ends h t
