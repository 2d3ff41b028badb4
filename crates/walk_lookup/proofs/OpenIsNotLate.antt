-- The outcome of an open order is not late.
use Rattle.walk_lookup.proofs.Names.{◌≡◌, ℕ, ◌+◌, Bool, true, false, List, [], ◌∷◌, find, ◌||◌, ◌&&◌, Option, Some, None, refl, sym, ap, ◌∙◌, nat_le, if◌then◌else◌, list_any, is_open, after_put, is_last_poll, After, Outcome, Pending, has_in, has_order, is_open_at, done_by, LookupState, Attempt, State, Asking, BackingOff, Decided}
use Rattle.std.proofs.Common.{◌==◌}
use Rattle.server_core.specs.Sending.{after_outcome}
use Rattle.server_core.specs.declared.orders.order.After.TheVariants.{Late, GiveUp, Kept}
use Rattle.server_core.specs.declared.sends.server_send.Stage.{Stage}
use Rattle.pool_lookup.specs.Backoff.{is_order, after_backoff}

poll-late : (last : Bool) → (if last then GiveUp else Kept) ≡ Late → ⊥
poll-late true e = cc
poll-late false e = cc

outcome-late : (patience : ℕ) (at : Stage) (o : Outcome) → after_outcome patience at o ≡ Late → ⊥
outcome-late patience at (Pending entry of) e = poll-late (is_last_poll patience at) e
outcome-late patience at _ e = cc

backoff-late : (patience polls : ℕ) (o : Outcome) → after_backoff patience polls o ≡ Late → ⊥
backoff-late patience polls (Pending entry of) e = poll-late (nat_le patience (polls + 1)) e
backoff-late patience polls _ e = cc

second-so : (a b : Bool) → (a && b) ≡ true → b ≡ true
second-so true b so = so
second-so false b so = cc

module _ (patience number : ℕ) (o : Outcome) where
  abbrev put-to : Option Attempt → After
  put-to a = elim a [ None ↦ Late | Some a ↦ after_put patience a.send.stage o ]

  find-late : (xs : List Attempt) → list_any (is_open_at number) xs ≡ true → put-to (find (is_open_at number) xs) ≡ Late → ⊥
  find-late [] any e = cc
  find-late (x ∷ xs) any e = by (is_open_at number x) refl any e (find-late xs)
    where
      by : (b : Bool) → is_open_at number x ≡ b → (b || list_any (is_open_at number) xs) ≡ true → put-to (if b then Some x else find (is_open_at number) xs) ≡ Late
          → (list_any (is_open_at number) xs ≡ true → put-to (find (is_open_at number) xs) ≡ Late → ⊥) → ⊥
      by true is any e rest =
          outcome-late patience x.send.stage o
          (sym (ap (λ (b : Bool). if b then after_outcome patience x.send.stage o else Late) (second-so (x.order == number) (is_open x.send.stage) is)) ∙ e)
      by false is any e rest = rest any e

  pub open-late : (l : LookupState) → has_order number l ≡ true → done_by patience number o l ≡ Late → ⊥
  open-late l = by l.state
    where
      by : (s : State) → has_in number l.attempts s ≡ true
          → (elim s as (λ x. After) [
            | Asking ↦ put-to (find (is_open_at number) l.attempts)
            | BackingOff until order polls ↦ if is_order number order then after_backoff patience polls o else Late
            | Decided answer at ↦ Late
          ]) ≡ Late → ⊥
      by Asking has e = find-late l.attempts has e
      by (BackingOff until order polls) has e = backoff-late patience polls o (sym (ap (λ (b : Bool). if b then after_backoff patience polls o else Late) has) ∙ e)
      by (Decided answer at) has e = cc
