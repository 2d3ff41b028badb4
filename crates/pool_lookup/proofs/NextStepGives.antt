-- What the next step of a lookup gives.
use Rattle.std.proofs.Common.{◌≡◌, ◌∙◌, ℕ, List, [], ◌∷◌, ◌++◌, slice_get, Option, Some, None, Result, Ok, Err, OnOk, OnErr, refl, ap, sym, subst, inr}
use Rattle.std.specs.Prelude.{drop}
use Rattle.dns_core.specs.declared.request.DnsRequest.{DnsRequest}
use Rattle.server_core.specs.Hearing.{changed_at}
use Rattle.server_core.specs.Sending.{after_next, after_step, after_want}
use Rattle.server_core.specs.Servers.{Server}
use Rattle.server_core.specs.declared.orders.order.Order.{Order}
use Rattle.server_core.specs.declared.orders.order.Order.TheVariants.{Sleep}
use Rattle.pool_rules.specs.declared.pool_server.PoolServer.{PoolServer}
use Rattle.pool_lookup.specs.declared.attempt.Attempt.{Attempt}
use Rattle.pool_lookup.specs.declared.giving.LookupStep.TheVariants as step
use Rattle.pool_lookup.specs.declared.giving.Want.{Want}
use Rattle.pool_lookup.specs.declared.giving.Want.TheVariants as want
use Rattle.pool_lookup.specs.declared.lookup.State.{State}
use Rattle.pool_lookup.specs.declared.lookup.State.TheVariants.{Asking, BackingOff, Decided}
use Rattle.pool_lookup.specs.Attempts.{first_attempt, is_idle}
use Rattle.pool_lookup.specs.Giving.{Orders, IsGivenAt, ordered, beginning, first_idle, sleep_left, want_of, Gives, GivesFor, Halts, changed_for, stepping_for, stepped_table, halted_table}
use Rattle.pool_lookup.specs.Holds.{Holds, IsSound, AreReached}
use Rattle.pool_lookup.specs.Lookup.{LookupState, BegunWith}
use Rattle.pool_lookup.specs.Rounds.{started}
use Rattle.pool_lookup.proofs.BegunStays.{started_same}
use Rattle.pool_lookup.proofs.LookupHoldsOn.{holds_started}
use Rattle.pool_lookup.proofs.ReachedAsBefore.{are_reached}
use Rattle.pool_lookup.proofs.StepsCanBeTaken.{found_at, resume_asks}

-- ---- an attempt goes on

pub place_there : (l : LookupState) (place : ℕ) → want_of l ≡ want.Resume place → (a : Attempt) × (slice_get l.attempts place ≡ Some a)
place_there l place h = let found = found_at is_idle l.attempts place (resume_asks l place h).1 in (found.0, found.1)

pub resumed : (l new : LookupState) (place number now : ℕ) (table : List Server) (a : Attempt) (order : Order) (xs : List Attempt) → want_of l ≡ want.Resume place → slice_get l.attempts place ≡ Some a
    → IsGivenAt place number now table l.attempts a order xs → new ≡ record l { attempts = xs } → Gives number now table l (step.Order order) new
resumed l new place number now table a order xs h there g is =
    subst (λ (w : Want). GivesFor w number now table l order new) (sym h)
    (record { attempt = a; at = there; next = g.next; orders = g.orders; is = is ∙ ap (λ (ys : List Attempt). record l { attempts = ys }) g.is })

-- what it does to the table
pub stepped_resume : (l : LookupState) (place : ℕ) (a : Attempt) (table : List Server) → want_of l ≡ want.Resume place → slice_get l.attempts place ≡ Some a
    → (stepped_table l table ≡ changed_at (after_step a.send.stage) a.send.server table) × (halted_table l table ≡ changed_at (after_want a.send.stage) a.send.server table)
stepped_resume l place a table h there =
    let at : stepping_for (want_of l) l ≡ Some a = ap (λ (w : Want). stepping_for w l) h ∙ there in
    (ap (λ (o : Option Attempt). changed_for after_step o table) at, ap (λ (o : Option Attempt). changed_for after_want o table) at)

pub stepped_begin : (l : LookupState) (c : PoolServer) (table : List Server) → want_of l ≡ want.Begin c
    → (stepped_table l table ≡ changed_at (after_step (beginning l c).send.stage) c.server table) × (halted_table l table ≡ changed_at (after_want (beginning l c).send.stage) c.server table)
stepped_begin l c table h =
    let at : stepping_for (want_of l) l ≡ Some (beginning l c) = ap (λ (w : Want). stepping_for w l) h in
    (ap (λ (o : Option Attempt). changed_for after_step o table) at, ap (λ (o : Option Attempt). changed_for after_want o table) at)

-- by what the attempt came to
pub table_ok : {E : Type 0} (r : Result Order E) (a : Attempt) (table new all : List Server) → all ≡ changed_at (after_step a.send.stage) a.send.server table
    → new ≡ changed_at (after_next a.send.stage r) a.send.server table → OnOk r (new ≡ all)
table_ok (Ok order) a table new all is h = h ∙ sym is
table_ok (Err e) a table new all is h = tt

pub table_err : {E : Type 0} (r : Result Order E) (a : Attempt) (l : LookupState) (table new : List Server) → halted_table l table ≡ changed_at (after_want a.send.stage) a.send.server table
    → new ≡ changed_at (after_next a.send.stage r) a.send.server table → OnErr r (Halts l table new)
table_err (Ok order) a l table new is h = tt
table_err (Err e) a l table new is h = inr (h ∙ sym is)

-- ---- a server is asked for the first time

pub begun : (l new : LookupState) (c : PoolServer) (number now : ℕ) (table : List Server) (order : Order) (x : Attempt) (rest : List PoolServer) → want_of l ≡ want.Begin c → l.ready ≡ c ∷ rest
    → Orders number now table (beginning l c) order x.send.stage → x ≡ ordered number x.send.stage (beginning l c) → new ≡ record l { ready = rest; attempts = l.attempts ++ x ∷ [] } → Gives number now table l (step.Order order) new
begun l new c number now table order x rest h first orders is made =
    subst (λ (w : Want). GivesFor w number now table l order new) (sym h)
    (record { rest = rest; first = first; next = x.send.stage; orders = orders; is = made ∙ ap (λ (y : Attempt). record l { ready = rest; attempts = l.attempts ++ y ∷ [] }) is })

-- the attempt that was made is the one that it begins with
pub made_first : (l view : LookupState) (c : PoolServer) (request : DnsRequest) (first : Attempt) → view ≡ l → request ≡ l.request → first ≡ first_attempt request view.round_off c → first ≡ beginning l c
made_first l view c request first whole same is = is ∙ ap (λ (x : DnsRequest). first_attempt x view.round_off c) same ∙ ap (λ (s : LookupState). first_attempt l.request s.round_off c) whole

-- and goes over from those that are ready to those in flight
pub moved_on : (l view : LookupState) (c : PoolServer) (rest left : List PoolServer) (x : Attempt) (more : List Attempt) → view ≡ l → l.ready ≡ c ∷ rest → left ≡ drop 1 view.ready → more ≡ view.attempts ++ x ∷ []
    → record view { ready = left; attempts = more } ≡ record l { ready = rest; attempts = l.attempts ++ x ∷ [] }
moved_on l view c rest left x more whole first is grown =
    let one : left ≡ rest = is ∙ ap (λ (s : LookupState). drop 1 s.ready) whole ∙ ap (drop 1) first in
    let all : more ≡ l.attempts ++ x ∷ [] = grown ∙ ap (λ (s : LookupState). s.attempts ++ x ∷ []) whole in
    ap (λ (s : LookupState). record s { ready = left; attempts = more }) whole
    ∙ ap (λ (cs : List PoolServer). record l { ready = cs; attempts = more }) one
    ∙ ap (λ (xs : List Attempt). record l { ready = rest; attempts = xs }) all

-- ---- it backs off

sleeps_by : {T : Type 0} (until at : ℕ) (o : Option ℕ) → sleep_left at o ≡ want.Sleep until → ((at ≡ until) → (o ≡ None) → T) → T
sleeps_by until at None e f = let same : at ≡ until = cc in f same refl
sleeps_by until at (Some n) e f = cc

pub slept : (l new : LookupState) (until at : ℕ) (o : Option ℕ) (polls number now : ℕ) (table : List Server) → want_of l ≡ want.Sleep until → l.state ≡ BackingOff at o polls
    → new ≡ record l { state = BackingOff at (Some number) polls } → Gives number now table l (step.Order (Sleep at)) new
slept l new until at o polls number now table h is made =
    sleeps_by until at o (sym (ap (λ (s : State). elim s as (λ x. Want) [ Asking ↦ first_idle l.attempts l.ready | BackingOff u o p ↦ sleep_left u o | Decided answer m ↦ want.Tell ]) is) ∙ h) (λ same none.
    subst (λ (w : Want). GivesFor w number now table l (Sleep at) new) (sym h)
    (record {
      polls = polls;
      was = is ∙ ap (λ (u : ℕ). BackingOff u o polls) same ∙ ap (λ (x : Option ℕ). BackingOff until x polls) none;
      sleeps = ap Sleep same;
      is = made ∙ ap (λ (u : ℕ). record l { state = BackingOff u (Some number) polls }) same;
    }))

-- ---- a round begins

pub sound_started : (now : ℕ) (l new : LookupState) → new ≡ started now l → IsSound l → IsSound new
sound_started now l new is s = (s.0, subst (Holds s.0) (sym is) (holds_started s.0 now l s.1))

pub reached_started : (now : ℕ) (l new : LookupState) (table : List Server) → new ≡ started now l → AreReached table l → AreReached table new
reached_started now l new table is all =
    are_reached table table l new refl (ap (λ (x : LookupState). x.servers) is ∙ ap (λ (b : BegunWith). b.servers) (started_same now l)) all
