-- An order that a lookup has just given is open, and no poll was put of it.
use Rattle.std.proofs.Common.{◌≡◌, ℕ, zero, suc, ◌+◌, Bool, true, false, List, [], ◌∷◌, ◌++◌, find, Some, inl, inr, refl, sym, ap, ◌∙◌, eq-eqb, ◌&&◌, ◌||◌}
use Rattle.std.specs.Prelude.{count_by, slice_get, slice_set}
use Rattle.std.specs.List.{list_any}
use Rattle.server_core.specs.Sending.{is_open, pendings, StepIs}
use Rattle.server_core.specs.Servers.{Server}
use Rattle.server_core.specs.declared.orders.order.Order.{Order}
use Rattle.server_core.specs.declared.sends.server_send.SendStep.TheVariants as made
use Rattle.server_core.specs.declared.sends.server_send.ServerSend.{ServerSend}
use Rattle.server_core.specs.declared.sends.server_send.Stage.{Stage}
use Rattle.server_core.specs.declared.sends.server_send.Stage.TheVariants as stage
use Rattle.pool_lookup.specs.declared.attempt.Attempt.{Attempt}
use Rattle.pool_lookup.specs.declared.giving.Want.{Want}
use Rattle.pool_lookup.specs.declared.giving.Want.TheVariants as want
use Rattle.pool_lookup.specs.declared.lookup.State.TheVariants.{Asking, BackingOff}
use Rattle.pool_lookup.specs.Asked.{opens, opens_in, has_in, has_order}
use Rattle.pool_lookup.specs.Attempts.{is_open_at}
use Rattle.pool_lookup.specs.Giving.{want_of, GivesFor, ordered, beginning}
use Rattle.pool_lookup.specs.Lookup.{LookupState}
use Rattle.pool_lookup.proofs.FirstAndItsPlace.{set_found, push_found}
use Rattle.pool_lookup.proofs.StepsCanBeTaken.{resume_asks, begin_asks}

-- ---- an order that is just given

-- that of a send
send_polls : (s : ServerSend) (at : Stage) (number now : ℕ) (server : Server) (o : Order) (next : Stage) → StepIs s at number now server (made.Order o) next → pendings next ≡ 0
send_polls s stage.Ready number now server o next (inl again) = ap pendings again.over.1
send_polls s stage.Ready number now server o next (inr (none, inl opened)) = ap pendings opened.over.1
send_polls s stage.Ready number now server o next (inr (none, inr closed)) = let wrong = closed.done in cc
send_polls s (stage.Opening protocol order polls) number now server o next h = let wrong = h.0 in cc
send_polls s (stage.Opened protocol conn) number now server o next h = ap pendings h.1
send_polls s (stage.Asking asked polls) number now server o next h = let wrong = h.0 in cc
send_polls s (stage.Ended result) number now server o next h = let wrong = h.0 in cc
send_polls s stage.Over number now server o next h = let wrong = h.0 in cc

-- that of a lookup: its attempt is the one that gave it
pub no_polls : (number now : ℕ) (table : List Server) (l : LookupState) (o : Order) (new : LookupState) → opens number l ≡ 0 → GivesFor (want_of l) number now table l o new → new.state ≡ Asking
    → (a : Attempt) → find (is_open_at number) new.attempts ≡ Some a → pendings a.send.stage ≡ 0
no_polls number now table l o new idle gives asking a found = by (want_of l) refl gives
  where
    none : l.state ≡ Asking → count_by (is_open_at number) l.attempts ≡ 0
    none asks = sym (ap (opens_in number l.attempts) asks) ∙ idle

    by : (w : Want) → want_of l ≡ w → GivesFor w number now table l o new → pendings a.send.stage ≡ 0
    by (want.Resume place) is g =
        let x = ordered number g.next g.attempt in
        let one : a ≡ x = set_found (is_open_at number) l.attempts place x a (none (resume_asks l place is).0) (sym (ap (λ (y : LookupState). find (is_open_at number) y.attempts) g.is) ∙ found) in
        ap (λ (y : Attempt). pendings y.send.stage) one ∙ send_polls g.attempt.send g.attempt.send.stage number now g.orders.server o g.next g.orders.gives
    by (want.Begin c) is g =
        let x = ordered number g.next (beginning l c) in
        let one : a ≡ x = push_found (is_open_at number) l.attempts x a (none (begin_asks l c is).0) (sym (ap (λ (y : LookupState). find (is_open_at number) y.attempts) g.is) ∙ found) in
        ap (λ (y : Attempt). pendings y.send.stage) one ∙ send_polls (beginning l c).send (beginning l c).send.stage number now g.orders.server o g.next g.orders.gives
    by (want.Sleep until) is g = let wrong : Asking ≡ BackingOff until (Some number) g.polls = sym asking ∙ ap (λ (y : LookupState). y.state) g.is in cc
    by want.Wait is g = absurd g
    by want.Tell is g = absurd g

-- ---- it is open

or_so : (a b : Bool) → b ≡ true → (a || b) ≡ true
or_so true b so = refl
or_so false b so = so

module _ {X : Type 0} (p : X → Bool) where
  any_set : (xs : List X) (i : ℕ) (x y : X) → slice_get xs i ≡ Some x → p y ≡ true → list_any p (slice_set xs i y) ≡ true
  any_set [] i x y there passes = cc
  any_set (z ∷ xs) zero x y there passes = ap (λ (b : Bool). b || list_any p xs) passes
  any_set (z ∷ xs) (suc i) x y there passes = or_so (p z) _ (any_set xs i x y there passes)

  any_push : (xs : List X) (y : X) → p y ≡ true → list_any p (xs ++ y ∷ []) ≡ true
  any_push [] y passes = ap (λ (b : Bool). b || false) passes
  any_push (z ∷ xs) y passes = or_so (p z) _ (any_push xs y passes)

-- that of a send
send_opens : (s : ServerSend) (at : Stage) (number now : ℕ) (server : Server) (o : Order) (next : Stage) → StepIs s at number now server (made.Order o) next → is_open next ≡ true
send_opens s stage.Ready number now server o next (inl again) = ap is_open again.over.1
send_opens s stage.Ready number now server o next (inr (none, inl opened)) = ap is_open opened.over.1
send_opens s stage.Ready number now server o next (inr (none, inr closed)) = let wrong = closed.done in cc
send_opens s (stage.Opening protocol order polls) number now server o next h = let wrong = h.0 in cc
send_opens s (stage.Opened protocol conn) number now server o next h = ap is_open h.1
send_opens s (stage.Asking asked polls) number now server o next h = let wrong = h.0 in cc
send_opens s (stage.Ended result) number now server o next h = let wrong = h.0 in cc
send_opens s stage.Over number now server o next h = let wrong = h.0 in cc

-- that of a lookup
pub gives_open : (number now : ℕ) (table : List Server) (l : LookupState) (o : Order) (new : LookupState) → GivesFor (want_of l) number now table l o new → has_order number new ≡ true
gives_open number now table l o new gives = by (want_of l) refl gives
  where
    open_so : (a : Attempt) (server : Server) (next : Stage) → StepIs a.send a.send.stage number now server (made.Order o) next → is_open_at number (ordered number next a) ≡ true
    open_so a server next step =
        ap (λ (b : Bool). b && is_open next) (eq-eqb number number refl) ∙ send_opens a.send a.send.stage number now server o next step

    by : (w : Want) → want_of l ≡ w → GivesFor w number now table l o new → has_order number new ≡ true
    by (want.Resume place) is g =
        let x = ordered number g.next g.attempt in
        ap (has_order number) g.is ∙ ap (has_in number (slice_set l.attempts place x)) (resume_asks l place is).0
        ∙ any_set (is_open_at number) l.attempts place g.attempt x g.at (open_so g.attempt g.orders.server g.next g.orders.gives)
    by (want.Begin c) is g =
        let x = ordered number g.next (beginning l c) in
        ap (has_order number) g.is ∙ ap (has_in number (l.attempts ++ x ∷ [])) (begin_asks l c is).0
        ∙ any_push (is_open_at number) l.attempts x (open_so (beginning l c) g.orders.server g.next g.orders.gives)
    by (want.Sleep until) is g = ap (has_order number) g.is ∙ eq-eqb number number refl
    by want.Wait is g = absurd g
    by want.Tell is g = absurd g
