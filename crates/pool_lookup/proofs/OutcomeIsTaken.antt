-- What the outcome of an open order leaves of its lookup.
use Rattle.std.proofs.Common.{◌≡◌, ℕ, ◌+◌, ◌==◌, ◌&&◌, Bool, true, false, cond, List, [], find, Option, Some, None, refl, sym, ap, subst, ◌∙◌, eq-eqb}
use Rattle.std.specs.Prelude.{slice_set, nat_le, if◌then◌else◌}
use Rattle.std.specs.List.{position}
use Rattle.std.specs.declared.net.ip_addr.IpAddr.{IpAddr}
use Rattle.resolution.specs.Lookups.{Answered}
use Rattle.server_core.specs.Sending.{is_open, pendings, end_of, after_put, polled_once, come_to}
use Rattle.server_core.specs.declared.orders.order.After.{After}
use Rattle.server_core.specs.declared.orders.order.After.TheVariants as after
use Rattle.server_core.specs.declared.orders.order.Outcome.{Outcome}
use Rattle.server_core.specs.declared.orders.order.Outcome.TheVariants.{Pending, Connected, Told, Failed, Slept}
use Rattle.server_core.specs.declared.orders.order.Tick.{Tick}
use Rattle.server_core.specs.declared.sends.server_send.ServerSend.{ServerSend}
use Rattle.pool_rules.specs.declared.pool_server.PoolServer.{PoolServer}
use Rattle.pool_lookup.specs.declared.attempt.Attempt.{Attempt}
use Rattle.pool_lookup.specs.declared.lookup.State.{State}
use Rattle.pool_lookup.specs.declared.lookup.State.TheVariants.{Asking, BackingOff, Decided}
use Rattle.pool_lookup.specs.Asked.{has_order, has_in}
use Rattle.pool_lookup.specs.Attempts.{is_open_at}
use Rattle.pool_lookup.specs.Backoff.{is_order, goes_on, after_backoff, after_sleep, woken}
use Rattle.pool_lookup.specs.Hearing.{end_by, closing_entry, after_end, after_coming, after_attempt, after_outcome, done_by}
use Rattle.pool_lookup.specs.Holds.{HeardEnd}
use Rattle.pool_lookup.specs.Lookup.{LookupState}
use Rattle.pool_lookup.specs.Running.{IsFor, IsOpenTo, IsBackingOffUnder, with_end, with_end_of, heard_after}
use Rattle.pool_lookup.proofs.ListFacts.{both, find_passes}
use Rattle.pool_lookup.proofs.OutcomeIsPut.{at_number, done_at}
use Rattle.pool_lookup.proofs.FirstAndItsPlace.{IsPlaced, find_place, found_any, placed}
use Rattle.pool_lookup.proofs.SendEnds.{IsKeptBy, is_open_for, kept_by, once_for, once_is_open, once_open, once_pendings}

module _ (denied : IpAddr → Bool) (tick : Tick) (number : ℕ) (o : Outcome) (heard : List HeardEnd) (l : LookupState) (c : PoolServer) (asks : Bool) (to : IsOpenTo number c asks l) where
  abbrev a : Attempt
  a = to.attempt

  -- the attempt as it comes on
  abbrev next : Attempt
  next = record a { send = come_to tick.patience o a.send }

  opened : is_open a.send.stage ≡ true
  opened = is_open_for asks a.send.stage to.form

  at : IsPlaced (is_open_at number) l.attempts a
  at = placed (is_open_at number) l.attempts a to.at

  -- the lookup comes on with it
  comes_is : after_outcome denied tick number o l ≡ after_coming denied tick at.place o a l
  comes_is =
      at_number denied tick number at.place o l to.asking at.first
      ∙ ap (λ (x : Option Attempt). elim x as (λ y. LookupState) [ None ↦ l | Some b ↦ after_coming denied tick at.place o b l ]) at.at

  -- it did this to its order
  pub open_did : done_by tick.patience number o l ≡ after_put tick.patience a.send.stage o
  open_did = done_at tick.patience number o l (Some a) to.asking to.at

  -- its end is heard, if it has one
  heard_open : heard_after tick.patience number o heard l ≡ with_end_of tick.patience o heard (Some a)
  heard_open =
      ap (λ (s : State). elim s as (λ x. List HeardEnd) [
        | Asking ↦ with_end_of tick.patience o heard (find (is_open_at number) l.attempts)
        | BackingOff until order polls ↦ heard
        | Decided answer moment ↦ heard
      ]) to.asking
      ∙ ap (with_end_of tick.patience o heard) to.at

  -- it goes on
  pub heard_none : end_by tick.patience o a ≡ None → heard_after tick.patience number o heard l ≡ heard
  heard_none none =
      heard_open ∙ ap (λ (x : Option Answered). elim x as (λ y. List HeardEnd) [ None ↦ heard | Some answered ↦ with_end heard a.candidate answered (closing_entry o) ]) none

  -- or it ended
  pub heard_some : (r : Answered) → end_by tick.patience o a ≡ Some r → heard_after tick.patience number o heard l ≡ with_end heard c r (closing_entry o)
  heard_some r some =
      heard_open ∙ ap (λ (x : Option Answered). elim x as (λ y. List HeardEnd) [ None ↦ heard | Some answered ↦ with_end heard a.candidate answered (closing_entry o) ]) some
      ∙ ap (λ (d : PoolServer). with_end heard d r (closing_entry o)) to.to

  -- ---- where its order is kept

  module _ (did : After) (is : did ≡ done_by tick.patience number o l) (kept : did ≡ after.Kept) where
    pub keeps : IsKeptBy tick.patience a.send o
    keeps = kept_by tick.patience a.send o did opened (is ∙ open_did) kept

    -- it stands as it was polled once more
    stage_is : next.send.stage ≡ polled_once a.send.stage
    stage_is = ap (λ (s : ServerSend). s.stage) keeps.comes

    no_end : end_by tick.patience o a ≡ None
    no_end = ap end_of stage_is ∙ once_open a.send.stage opened

    kept_is : after_outcome denied tick number o l ≡ record l { attempts = slice_set l.attempts at.place next }
    kept_is =
        comes_is ∙ ap (λ (x : Option Answered). elim x as (λ y. LookupState) [
          | None ↦ record l { attempts = slice_set l.attempts at.place next }
          | Some end ↦ after_end denied at.place (closing_entry o) a end tick.now l
        ]) no_end

    still_open : is_open_at number next ≡ true
    still_open =
        let was = both (a.order == number) (is_open a.send.stage) (find_passes (is_open_at number) l.attempts a to.at) in
        ap (λ (b : Bool). b && is_open next.send.stage) was.0 ∙ ap is_open stage_is ∙ once_is_open a.send.stage opened

    -- The order is open still, and has one more poll.
    pub kept_open : (still : IsOpenTo number c asks (after_outcome denied tick number o l)) × (pendings still.attempt.send.stage ≡ pendings a.send.stage + 1)
    kept_open = (
      record {
        asking = ap (λ (x : LookupState). x.state) kept_is ∙ to.asking;
        attempt = next;
        at = ap (λ (x : LookupState). find (is_open_at number) x.attempts) kept_is ∙ find_place (is_open_at number) l.attempts at.place next at.first still_open;
        to = to.to;
        form = subst (IsFor asks) (sym stage_is) (once_for asks a.send.stage to.form);
      },
      ap pendings stage_is ∙ once_pendings a.send.stage opened,
    )

    pub kept_has : has_order number (after_outcome denied tick number o l) ≡ true
    kept_has =
        ap (has_in number (after_outcome denied tick number o l).attempts) kept_open.0.asking
        ∙ found_any (is_open_at number) (after_outcome denied tick number o l).attempts kept_open.0.attempt kept_open.0.at

-- ---- the order of a backoff

module _ (denied : IpAddr → Bool) (tick : Tick) (number : ℕ) (o : Outcome) (heard : List HeardEnd) (l : LookupState) (under : IsBackingOffUnder number l) where
  its_order : is_order number (Some number) ≡ true
  its_order = eq-eqb number number refl

  sleep_is : after_outcome denied tick number o l ≡ after_sleep tick under.until (Some number) under.polls o l
  sleep_is =
      ap (λ (s : State). elim s as (λ x. LookupState) [
        | Asking ↦ elim (position (is_open_at number) l.attempts) [ None ↦ l | Some place ↦ after_attempt denied tick place o l ]
        | BackingOff until order polls ↦ cond (is_order number order) (after_sleep tick until order polls o l) l
        | Decided answer moment ↦ l
      ]) under.is
      ∙ ap (λ (b : Bool). cond b (after_sleep tick under.until (Some number) under.polls o l) l) its_order

  sleep_did : done_by tick.patience number o l ≡ after_backoff tick.patience under.polls o
  sleep_did =
      ap (λ (s : State). elim s as (λ x. After) [
        | Asking ↦ elim (find (is_open_at number) l.attempts) [ None ↦ after.Late | Some b ↦ after_put tick.patience b.send.stage o ]
        | BackingOff until order polls ↦ cond (is_order number order) (after_backoff tick.patience polls o) after.Late
        | Decided answer moment ↦ after.Late
      ]) under.is
      ∙ ap (λ (b : Bool). cond b (after_backoff tick.patience under.polls o) after.Late) its_order

  -- no end is heard
  pub heard_sleep : heard_after tick.patience number o heard l ≡ heard
  heard_sleep =
      ap (λ (s : State). elim s as (λ x. List HeardEnd) [
        | Asking ↦ with_end_of tick.patience o heard (find (is_open_at number) l.attempts)
        | BackingOff until order polls ↦ heard
        | Decided answer moment ↦ heard
      ]) under.is

  -- a poll that is kept was not the last one
  rests_on : (p : Outcome) → after_backoff tick.patience under.polls p ≡ after.Kept → goes_on tick.patience under.polls p ≡ true
  rests_on (Pending entry of) kept = by (nat_le tick.patience (under.polls + 1)) refl kept
    where
      by : (b : Bool) → nat_le tick.patience (under.polls + 1) ≡ b → (if b then after.GiveUp else after.Kept) ≡ after.Kept → (if nat_le tick.patience (under.polls + 1) then false else true) ≡ true
      by true e h = cc
      by false e h = ap (λ (b : Bool). if b then false else true) e
  rests_on (Connected entry sent) kept = cc
  rests_on (Told entry sent message) kept = cc
  rests_on (Failed entry sent refused error) kept = cc
  rests_on Slept kept = cc

  module _ (did : After) (is : did ≡ done_by tick.patience number o l) (kept : did ≡ after.Kept) where
    rests_is : after_outcome denied tick number o l ≡ record l { state = BackingOff under.until (Some number) (under.polls + 1) }
    rests_is =
        sleep_is
        ∙ ap (λ (b : Bool). cond b (record l { state = BackingOff under.until (Some number) (under.polls + 1) }) (woken tick.now l)) (rests_on o (sym (is ∙ sleep_did) ∙ kept))

    -- It backs off still.
    pub rests_under : IsBackingOffUnder number (after_outcome denied tick number o l)
    rests_under = record { until = under.until; polls = under.polls + 1; is = ap (λ (x : LookupState). x.state) rests_is }

    pub rests_has : has_order number (after_outcome denied tick number o l) ≡ true
    rests_has = ap (has_in number (after_outcome denied tick number o l).attempts) rests_under.is ∙ its_order

-- ---- whether an order is open

-- an order of a send is open at its lookup
pub open_has : (number : ℕ) (c : PoolServer) (asks : Bool) (l : LookupState) → IsOpenTo number c asks l → has_order number l ≡ true
open_has number c asks l to = ap (has_in number l.attempts) to.asking ∙ found_any (is_open_at number) l.attempts to.attempt to.at

-- and so is that of a backoff
pub sleep_has : (number : ℕ) (l : LookupState) → IsBackingOffUnder number l → has_order number l ≡ true
sleep_has number l under = ap (has_in number l.attempts) under.is ∙ eq-eqb number number refl

-- ---- it is open as before

-- An order that its outcome keeps is open as before.
pub order_kept : (denied : IpAddr → Bool) (tick : Tick) (number : ℕ) (c : PoolServer) (asks : Bool) (o : Outcome) (l : LookupState) → IsOpenTo number c asks l → done_by tick.patience number o l ≡ after.Kept
    → IsOpenTo number c asks (after_outcome denied tick number o l)
order_kept denied tick number c asks o l at kept = (kept_open denied tick number o [] l c asks at after.Kept (sym kept) refl).0
