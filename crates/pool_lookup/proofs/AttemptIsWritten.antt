-- An attempt of a list is written.
use Rattle.std.proofs.Common.{◌≡◌, ◌∙◌, ℕ, ◌<◌, Bool, true, false, List, length, slice_get, get_or, Some, Result, Ok, Err, IfOk, OnOk, OnErr, refl, ap, sym, subst}
use Rattle.std.specs.Prelude.{slice_set, MatchResult}
use Rattle.std.proofs.lemmas.Option.{slice_get-get_or, get_or_from_slice_get}
use Rattle.std.proofs.lemmas.List.{set-get_or}
use Rattle.server_core.specs.Sending.{StepIs, after_put, takes_memory}
use Rattle.server_core.specs.Servers.{Server}
use Rattle.server_core.specs.declared.orders.order.Order.{Order}
use Rattle.server_core.specs.declared.orders.order.Outcome.{Outcome}
use Rattle.server_core.specs.declared.orders.order.Tick.{Tick}
use Rattle.server_core.specs.declared.sends.server_send.SendStep.{SendStep}
use Rattle.server_core.specs.declared.sends.server_send.SendStep.TheVariants as made
use Rattle.server_core.specs.declared.sends.server_send.Stage.{Stage}
use Rattle.pool_lookup.specs.declared.attempt.Attempt.{Attempt}
use Rattle.pool_lookup.specs.declared.attempt.Put.{Put}
use Rattle.pool_lookup.specs.Attempts.{CanGive}
use Rattle.pool_lookup.specs.Giving.{Orders, IsGivenAt, ordered}
use Rattle.pool_lookup.specs.Hearing.{end_by, put_in, Puts}

-- what was read at a place
pub read_at : {X : Type 0} (xs : List X) (i : ℕ) (x : X) → i < length xs → x ≡ get_or xs i x → slice_get xs i ≡ Some x
read_at xs i x within is = slice_get-get_or xs i x within ∙ ap Some (sym is)

pub same_at : {X : Type 0} (xs : List X) (i : ℕ) (x y : X) → x ≡ get_or xs i x → slice_get xs i ≡ Some y → x ≡ y
same_at xs i x y is there = is ∙ get_or_from_slice_get xs i y x there

-- and was not changed
pub put_back : {X T E : Type 0} (r : Result T E) (xs : List X) (i : ℕ) (x y : X) → x ≡ get_or xs i x → OnErr r (y ≡ x) → OnErr r (slice_set xs i y ≡ xs)
put_back (Ok t) xs i x y is same = tt
put_back (Err e) xs i x y is same = ap (slice_set xs i) (same ∙ is) ∙ set-get_or xs i x

pub on_err_always : {T E : Type 0} {P : Type 0} (r : Result T E) → P → OnErr r P
on_err_always (Ok t) p = tt
on_err_always (Err e) p = p

-- what an error leaves that is passed on
pub on_error : {T E : Type 0} (P : T → Type 0) (Q : Type 0) (r : Result T E) (e : E) → r ≡ Err e → Q → MatchResult r P (λ error. Q)
on_error {T} {E} P Q r e is q = subst (λ (x : Result T E). MatchResult x P (λ error. Q)) (sym is) q

-- memory runs out only where some is taken
pub was_taken : (takes : Bool) → (takes ≡ false → false ≡ true) → takes ≡ true
was_taken true ample = refl
was_taken false ample = let wrong : false ≡ true = ample refl in cc

-- ---- an order is given

pub given_orders : (number now : ℕ) (table : List Server) (a : Attempt) (can : CanGive table a) (out : SendStep) (order : Order) (next : Stage) → out ≡ made.Order order → StepIs a.send a.send.stage number now can.server out next
    → Orders number now table a order next
given_orders number now table a can out order next is steps = record { server = can.server; there = can.there; gives = subst (λ (o : SendStep). StepIs a.send a.send.stage number now can.server o next) is steps }

pub given_at : {E : Type 0} (r : Result Order E) (place number now : ℕ) (table : List Server) (xs : List Attempt) (a lent new : Attempt) → lent ≡ a
    → IfOk r (λ order. Orders number now table lent order new.send.stage) → OnOk r (new ≡ ordered number new.send.stage lent) → IfOk r (λ order. IsGivenAt place number now table xs a order (slice_set xs place new))
given_at (Ok order) place number now table xs a lent new same orders is = record {
  next = new.send.stage;
  orders = subst (λ (x : Attempt). Orders number now table x order new.send.stage) same orders;
  is = ap (slice_set xs place) (is ∙ ap (ordered number new.send.stage) same);
}
given_at (Err e) place number now table xs a lent new same orders is = tt

-- ---- an outcome is put

pub put_there : {E : Type 0} (r : Result Put E) (place : ℕ) (tick : Tick) (o : Outcome) (xs : List Attempt) (a lent new : Attempt) → lent ≡ a
    → MatchResult r (λ put. put.after ≡ after_put tick.patience lent.send.stage o) (λ error. takes_memory lent.send.stage o ≡ true) → IfOk r (λ put. put.end ≡ end_by tick.patience o lent) → OnOk r (new ≡ put_in tick.patience o lent)
    → Puts place tick o a xs r (slice_set xs place new)
put_there (Ok put) place tick o xs a lent new same after end is = record {
  after = after ∙ ap (λ (x : Attempt). after_put tick.patience x.send.stage o) same;
  end = end ∙ ap (end_by tick.patience o) same;
  is = ap (slice_set xs place) (is ∙ ap (put_in tick.patience o) same);
}
put_there (Err e) place tick o xs a lent new same after end is = subst (λ (x : Attempt). takes_memory x.send.stage o ≡ true) same after
