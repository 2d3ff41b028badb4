-- What a lookup was begun with stays.
use Rattle.std.proofs.Common.{◌≡◌, ◌∙◌, ℕ, ◌+◌, Bool, true, false, cond, List, slice_get, Option, Some, None, Err, refl, ap}
use Rattle.std.specs.Prelude.{nat_le, slice_set}
use Rattle.std.specs.List.{position}
use Rattle.std.specs.declared.net.ip_addr.IpAddr.{IpAddr}
use Rattle.dns_core.specs.declared.net_error.NetError.TheVariants.{Timeout}
use Rattle.resolution.specs.Lookups.{Answered}
use Rattle.server_core.specs.Sending.{come_to}
use Rattle.server_core.specs.Servers.{Server}
use Rattle.server_core.specs.declared.orders.order.Order.{Order}
use Rattle.server_core.specs.declared.orders.order.Outcome.{Outcome}
use Rattle.server_core.specs.declared.orders.order.Tick.{Tick}
use Rattle.pool_rules.specs.RetryQueue.{may_sleep, class_of_sent, hearing_of, after_end as plan_after}
use Rattle.pool_rules.specs.declared.pool_server.Heard.{Heard}
use Rattle.pool_rules.specs.declared.pool_server.Heard.TheVariants.{Continue, Concluded}
use Rattle.pool_lookup.specs.declared.attempt.Attempt.{Attempt}
use Rattle.pool_lookup.specs.declared.giving.LookupStep.{LookupStep}
use Rattle.pool_lookup.specs.declared.giving.LookupStep.TheVariants as step
use Rattle.pool_lookup.specs.declared.giving.Want.{Want}
use Rattle.pool_lookup.specs.declared.giving.Want.TheVariants as want
use Rattle.pool_lookup.specs.declared.lookup.State.{State}
use Rattle.pool_lookup.specs.declared.lookup.State.TheVariants.{Asking, BackingOff, Decided}
use Rattle.pool_lookup.specs.Attempts.{is_open_at}
use Rattle.pool_lookup.specs.Backoff.{is_order, goes_on, asked_again, woken, after_sleep}
use Rattle.pool_lookup.specs.Giving.{want_of, GivesFor, Gives}
use Rattle.pool_lookup.specs.Hearing.{closed, concluded, heard, closing_entry, end_by, after_end, after_coming, after_attempt, after_outcome, run_out, run_out_at, after_out_of_memory}
use Rattle.pool_lookup.specs.Lists.{is_empty}
use Rattle.pool_lookup.specs.Lookup.{LookupState, begun_with, deadline, decided}
use Rattle.pool_lookup.specs.Rounds.{with_round, backs_off_until, paused, given_up, dealt_out, round_begun, is_over, is_spent, started, settled}

-- ---- a round begins

paused_same : (now : ℕ) (l : LookupState) → begun_with (paused now l) ≡ begun_with l
paused_same now l = at_sleep (may_sleep l.queue)
  where
    at_sleep : (b : Bool) → begun_with (cond b (record l { state = BackingOff (backs_off_until now l) None 0 }) (given_up now l)) ≡ begun_with l
    at_sleep true = refl
    at_sleep false = refl

pub round_same : (now : ℕ) (l : LookupState) → begun_with (round_begun now l) ≡ begun_with l
round_same now l = at_time (nat_le (deadline l) now)
  where
    at_ready : (b : Bool) → begun_with (cond b (paused now (with_round now l)) (with_round now l)) ≡ begun_with l
    at_ready true = paused_same now (with_round now l)
    at_ready false = refl

    at_time : (b : Bool) → begun_with (cond b (decided (Err Timeout) now l) (dealt_out now (with_round now l))) ≡ begun_with l
    at_time true = refl
    at_time false = at_ready (is_empty (with_round now l).ready)

pub started_same : (now : ℕ) (l : LookupState) → begun_with (started now l) ≡ begun_with l
started_same now l = at_over (is_over l)
  where
    at_over : (b : Bool) → begun_with (cond b (round_begun now l) l) ≡ begun_with l
    at_over true = round_same now l
    at_over false = refl

settled_same : (now : ℕ) (l : LookupState) → begun_with (settled now l) ≡ begun_with l
settled_same now l = at_spent (is_spent l)
  where
    at_spent : (b : Bool) → begun_with (cond b (round_begun now l) l) ≡ begun_with l
    at_spent true = round_same now l
    at_spent false = refl

-- ---- an order is given

module _ (number now : ℕ) (table : List Server) (l : LookupState) where
  order_same : (w : Want) (order : Order) (new : LookupState) → GivesFor w number now table l order new → begun_with new ≡ begun_with l
  order_same (want.Resume place) order new g = ap begun_with g.is
  order_same (want.Begin c) order new g = ap begun_with g.is
  order_same (want.Sleep until) order new g = ap begun_with g.is
  order_same want.Wait order new g = absurd g
  order_same want.Tell order new g = absurd g

  given_same : (made : LookupStep) (new : LookupState) → Gives number now table l made new → begun_with new ≡ begun_with l
  given_same (step.Order order) new g = order_same (want_of l) order new g
  given_same step.Waiting new g = ap begun_with g.1
  given_same (step.Done answer) new g = ap begun_with g.1

pub next_same : (number now : ℕ) (table : List Server) (l new : LookupState) (made : LookupStep) → Gives number now table (started now l) made new → begun_with new ≡ begun_with l
next_same number now table l new made g = given_same number now table (started now l) made new g ∙ started_same now l

-- ---- an outcome is put

module _ (denied : IpAddr → Bool) where
  concluded_same : (h : Heard) (now : ℕ) (l : LookupState) → begun_with (concluded denied h now l) ≡ begun_with l
  concluded_same Continue now l = refl
  concluded_same (Concluded answer) now l = refl

  coming_same : (tick : Tick) (place : ℕ) (o : Outcome) (a : Attempt) (l : LookupState) → begun_with (after_coming denied tick place o a l) ≡ begun_with l
  coming_same tick place o a l = at_end (end_by tick.patience o a)
    where
      at_end : (e : Option Answered) → begun_with (elim e as (λ _. LookupState) [
        | None ↦ record l { attempts = slice_set l.attempts place (record a { send = come_to tick.patience o a.send }) }
        | Some end ↦ after_end denied place (closing_entry o) a end tick.now l
      ]) ≡ begun_with l
      at_end None = refl
      at_end (Some end) =
          let after = closed place a.candidate.server (closing_entry o) l in
          let class = class_of_sent l.request.query end in
          settled_same tick.now (heard denied a.candidate end tick.now after)
          ∙ concluded_same (hearing_of a.candidate class l.queue) tick.now (record after { queue = plan_after a.candidate class l.queue })

  attempt_same : (tick : Tick) (place : ℕ) (o : Outcome) (l : LookupState) → begun_with (after_attempt denied tick place o l) ≡ begun_with l
  attempt_same tick place o l = at_place (slice_get l.attempts place)
    where
      at_place : (x : Option Attempt) → begun_with (elim x as (λ _. LookupState) [ None ↦ l | Some a ↦ after_coming denied tick place o a l ]) ≡ begun_with l
      at_place None = refl
      at_place (Some a) = coming_same tick place o a l

  sleep_same : (tick : Tick) (until : ℕ) (order : Option ℕ) (polls : ℕ) (o : Outcome) (l : LookupState) → begun_with (after_sleep tick until order polls o l) ≡ begun_with l
  sleep_same tick until order polls o l = at_poll (goes_on tick.patience polls o)
    where
      at_poll : (b : Bool) → begun_with (cond b (record l { state = BackingOff until order (polls + 1) }) (woken tick.now l)) ≡ begun_with l
      at_poll true = refl
      at_poll false = settled_same tick.now (record l { queue = asked_again l.queue; state = Asking })

  pub outcome_same : (tick : Tick) (number : ℕ) (o : Outcome) (l : LookupState) → begun_with (after_outcome denied tick number o l) ≡ begun_with l
  outcome_same tick number o l = at_state l.state
    where
      at_place : (x : Option ℕ) → begun_with (elim x as (λ _. LookupState) [ None ↦ l | Some place ↦ after_attempt denied tick place o l ]) ≡ begun_with l
      at_place None = refl
      at_place (Some place) = attempt_same tick place o l

      at_order : (b : Bool) (until : ℕ) (order : Option ℕ) (polls : ℕ) → begun_with (cond b (after_sleep tick until order polls o l) l) ≡ begun_with l
      at_order true until order polls = sleep_same tick until order polls o l
      at_order false until order polls = refl

      at_state : (s : State) → begun_with (elim s as (λ _. LookupState) [
        | Asking ↦ elim (position (is_open_at number) l.attempts) as (λ _. LookupState) [ None ↦ l | Some place ↦ after_attempt denied tick place o l ]
        | BackingOff until order polls ↦ cond (is_order number order) (after_sleep tick until order polls o l) l
        | Decided answer at ↦ l
      ]) ≡ begun_with l
      at_state Asking = at_place (position (is_open_at number) l.attempts)
      at_state (BackingOff until order polls) = at_order (is_order number order) until order polls
      at_state (Decided answer at) = refl

pub out_of_memory_same : (number now : ℕ) (o : Outcome) (l : LookupState) → begun_with (after_out_of_memory number now o l) ≡ begun_with l
out_of_memory_same number now o l = at_place (position (is_open_at number) l.attempts)
  where
    at_attempt : (place : ℕ) (x : Option Attempt) → begun_with (elim x as (λ _. LookupState) [ None ↦ l | Some a ↦ run_out place a.candidate.server (closing_entry o) now l ]) ≡ begun_with l
    at_attempt place None = refl
    at_attempt place (Some a) = refl

    at_place : (x : Option ℕ) → begun_with (elim x as (λ _. LookupState) [ None ↦ l | Some place ↦ run_out_at place now o l ]) ≡ begun_with l
    at_place None = refl
    at_place (Some place) = at_attempt place (slice_get l.attempts place)
