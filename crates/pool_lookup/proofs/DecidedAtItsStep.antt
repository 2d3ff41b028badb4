-- A lookup is decided at the moment of the step that decides it.
use Rattle.std.proofs.Common.{◌≡◌, ◌∙◌, ℕ, ◌+◌, Bool, true, false, cond, List, slice_get, Option, Some, None, Err, inl, inr, refl, ap, sym}
use Rattle.std.specs.Prelude.{◌⊎◌, nat_le, slice_set}
use Rattle.std.specs.List.{position}
use Rattle.std.specs.declared.net.ip_addr.IpAddr.{IpAddr}
use Rattle.dns_core.specs.declared.net_error.NetError.TheVariants.{Timeout, NoMemory}
use Rattle.resolution.specs.Lookups.{Answered}
use Rattle.server_core.specs.Sending.{come_to}
use Rattle.server_core.specs.Servers.{Server}
use Rattle.server_core.specs.declared.orders.order.Order.{Order}
use Rattle.server_core.specs.declared.orders.order.Outcome.{Outcome}
use Rattle.server_core.specs.declared.orders.order.Tick.{Tick}
use Rattle.pool_rules.specs.RetryQueue.{may_sleep, class_of_sent, hearing_of, after_end as plan_end}
use Rattle.pool_rules.specs.declared.pool_server.Heard.{Heard}
use Rattle.pool_rules.specs.declared.pool_server.Heard.TheVariants.{Continue, Concluded}
use Rattle.pool_lookup.specs.declared.attempt.Attempt.{Attempt}
use Rattle.pool_lookup.specs.declared.giving.LookupStep.{LookupStep}
use Rattle.pool_lookup.specs.declared.giving.LookupStep.TheVariants as step
use Rattle.pool_lookup.specs.declared.giving.Want.{Want}
use Rattle.pool_lookup.specs.declared.giving.Want.TheVariants as want
use Rattle.pool_lookup.specs.declared.lookup.State.{State}
use Rattle.pool_lookup.specs.declared.lookup.State.TheVariants.{Asking, BackingOff, Decided}
use Rattle.pool_lookup.specs.Attempts.{is_open_at}
use Rattle.pool_lookup.specs.Backoff.{is_order, goes_on, asked_again, after_sleep, woken}
use Rattle.pool_lookup.specs.Giving.{want_of, GivesFor, Gives}
use Rattle.pool_lookup.specs.Hearing.{closed, concluded, heard, closing_entry, end_by, after_end, after_coming, after_attempt, after_outcome, run_out, run_out_at, after_out_of_memory}
use Rattle.pool_lookup.specs.Lists.{is_empty}
use Rattle.pool_lookup.specs.Lookup.{LookupState, question_of, deadline, decided}
use Rattle.pool_lookup.specs.Rounds.{with_round, backs_off_until, given_up, paused, dealt_out, round_begun, is_over, is_spent, started, settled}
use Rattle.pool_lookup.specs.Running.{DecidesAt}

same_moment : (now : ℕ) (old new : LookupState) → new.state ≡ old.state → DecidesAt now old new
same_moment now old new same answer at is = inr (sym same ∙ is)

then_moment : (now : ℕ) (a b c : LookupState) → DecidesAt now a b → DecidesAt now b c → DecidesAt now a c
then_moment now a b c f g answer at is = by (g answer at is)
  where
    by : ((at ≡ now) ⊎ (b.state ≡ Decided answer at)) → (at ≡ now) ⊎ (a.state ≡ Decided answer at)
    by (inl e) = inl e
    by (inr e) = f answer at e

-- it was decided so
made_now : (now : ℕ) (old : LookupState) (answer : Answered) → DecidesAt now old (decided answer now old)
made_now now old answer other at is = inl (moment is)
  where
    moment : Decided answer now ≡ Decided other at → at ≡ now
    moment e = cc

-- ---- a round begins

paused_moment : (now : ℕ) (l : LookupState) → DecidesAt now l (paused now l)
paused_moment now l = at_sleep (may_sleep l.queue)
  where
    asleep : (until : ℕ) → DecidesAt now l (record l { state = BackingOff until None 0 })
    asleep until answer at is = cc

    given : DecidesAt now l (given_up now l)
    given answer at is = inl (moment is)
      where
        moment : Decided (Err l.queue.kept) now ≡ Decided answer at → at ≡ now
        moment e = cc

    at_sleep : (b : Bool) → DecidesAt now l (cond b (record l { state = BackingOff (backs_off_until now l) None 0 }) (given_up now l))
    at_sleep true = asleep (backs_off_until now l)
    at_sleep false = given

round_moment : (now : ℕ) (l : LookupState) → DecidesAt now l (round_begun now l)
round_moment now l = at_time (nat_le (deadline l) now)
  where
    at_ready : (b : Bool) → DecidesAt now l (cond b (paused now (with_round now l)) (with_round now l))
    at_ready true = then_moment now l (with_round now l) (paused now (with_round now l)) (same_moment now l (with_round now l) refl) (paused_moment now (with_round now l))
    at_ready false = same_moment now l (with_round now l) refl

    at_time : (b : Bool) → DecidesAt now l (cond b (decided (Err Timeout) now l) (dealt_out now (with_round now l)))
    at_time true = made_now now l (Err Timeout)
    at_time false = at_ready (is_empty (with_round now l).ready)

pub started_moment : (now : ℕ) (l : LookupState) → DecidesAt now l (started now l)
started_moment now l = at_over (is_over l)
  where
    at_over : (b : Bool) → DecidesAt now l (cond b (round_begun now l) l)
    at_over true = round_moment now l
    at_over false = same_moment now l l refl

settled_moment : (now : ℕ) (l : LookupState) → DecidesAt now l (settled now l)
settled_moment now l = at_spent (is_spent l)
  where
    at_spent : (b : Bool) → DecidesAt now l (cond b (round_begun now l) l)
    at_spent true = round_moment now l
    at_spent false = same_moment now l l refl

-- ---- an outcome

concluded_moment : (denied : IpAddr → Bool) (h : Heard) (now : ℕ) (l : LookupState) → DecidesAt now l (concluded denied h now l)
concluded_moment denied Continue now l = same_moment now l l refl
concluded_moment denied (Concluded answer) now l = λ other at is. inl (moment _ other at is)
  where
    moment : (left other : Answered) (at : ℕ) → Decided left now ≡ Decided other at → at ≡ now
    moment left other at e = cc

module _ (denied : IpAddr → Bool) (tick : Tick) (o : Outcome) (l : LookupState) where
  end_moment : (place entry : ℕ) (a : Attempt) (end : Answered) → DecidesAt tick.now l (after_end denied place entry a end tick.now l)
  end_moment place entry a end =
      let after = closed place a.candidate.server entry l in
      let class = class_of_sent (question_of l) end in
      let planned : LookupState = record after { queue = plan_end a.candidate class l.queue } in
      let next = heard denied a.candidate end tick.now after in
      then_moment tick.now l planned (settled tick.now next) (same_moment tick.now l planned refl)
      (then_moment tick.now planned next (settled tick.now next) (concluded_moment denied (hearing_of a.candidate class l.queue) tick.now planned) (settled_moment tick.now next))

  coming_moment : (place : ℕ) (a : Attempt) → DecidesAt tick.now l (after_coming denied tick place o a l)
  coming_moment place a = at_end (end_by tick.patience o a)
    where
      at_end : (e : Option Answered) → DecidesAt tick.now l (elim e as (λ x. LookupState) [
        | None ↦ record l { attempts = slice_set l.attempts place (record a { send = come_to tick.patience o a.send }) }
        | Some end ↦ after_end denied place (closing_entry o) a end tick.now l
      ])
      at_end None = same_moment tick.now l (record l { attempts = slice_set l.attempts place (record a { send = come_to tick.patience o a.send }) }) refl
      at_end (Some end) = end_moment place (closing_entry o) a end

  attempt_moment : (place : ℕ) → DecidesAt tick.now l (after_attempt denied tick place o l)
  attempt_moment place = at_place (slice_get l.attempts place)
    where
      at_place : (x : Option Attempt) → DecidesAt tick.now l (elim x as (λ y. LookupState) [ None ↦ l | Some a ↦ after_coming denied tick place o a l ])
      at_place None = same_moment tick.now l l refl
      at_place (Some a) = coming_moment place a

  sleep_moment : (until : ℕ) (order : Option ℕ) (polls : ℕ) → DecidesAt tick.now l (after_sleep tick until order polls o l)
  sleep_moment until order polls = at_poll (goes_on tick.patience polls o)
    where
      awake : LookupState
      awake = record l { queue = asked_again l.queue; state = Asking }

      waking : DecidesAt tick.now l awake
      waking answer at is = cc

      resting : DecidesAt tick.now l (record l { state = BackingOff until order (polls + 1) })
      resting answer at is = cc

      at_poll : (b : Bool) → DecidesAt tick.now l (cond b (record l { state = BackingOff until order (polls + 1) }) (woken tick.now l))
      at_poll true = resting
      at_poll false = then_moment tick.now l awake (woken tick.now l) waking (settled_moment tick.now awake)

  pub outcome_moment : (number : ℕ) → DecidesAt tick.now l (after_outcome denied tick number o l)
  outcome_moment number = at_state l.state
    where
      at_place : (x : Option ℕ) → DecidesAt tick.now l (elim x as (λ y. LookupState) [ None ↦ l | Some place ↦ after_attempt denied tick place o l ])
      at_place None = same_moment tick.now l l refl
      at_place (Some place) = attempt_moment place

      at_order : (b : Bool) (until : ℕ) (order : Option ℕ) (polls : ℕ) → DecidesAt tick.now l (cond b (after_sleep tick until order polls o l) l)
      at_order true until order polls = sleep_moment until order polls
      at_order false until order polls = same_moment tick.now l l refl

      at_state : (s : State) → DecidesAt tick.now l (elim s as (λ x. LookupState) [
        | Asking ↦ elim (position (is_open_at number) l.attempts) [ None ↦ l | Some place ↦ after_attempt denied tick place o l ]
        | BackingOff until order polls ↦ cond (is_order number order) (after_sleep tick until order polls o l) l
        | Decided answer at ↦ l
      ])
      at_state Asking = at_place (position (is_open_at number) l.attempts)
      at_state (BackingOff until order polls) = at_order (is_order number order) until order polls
      at_state (Decided answer at) = same_moment tick.now l l refl

pub out_of_memory_moment : (number now : ℕ) (o : Outcome) (l : LookupState) → DecidesAt now l (after_out_of_memory number now o l)
out_of_memory_moment number now o l = at_place (position (is_open_at number) l.attempts)
  where
    run : (place : ℕ) (a : Attempt) → DecidesAt now l (run_out place a.candidate.server (closing_entry o) now l)
    run place a answer at is = inl (moment is)
      where
        moment : Decided (Err NoMemory) now ≡ Decided answer at → at ≡ now
        moment e = cc

    at_attempt : (place : ℕ) (x : Option Attempt) → DecidesAt now l (elim x as (λ y. LookupState) [ None ↦ l | Some a ↦ run_out place a.candidate.server (closing_entry o) now l ])
    at_attempt place None = same_moment now l l refl
    at_attempt place (Some a) = run place a

    at_place : (x : Option ℕ) → DecidesAt now l (elim x as (λ y. LookupState) [ None ↦ l | Some place ↦ run_out_at place now o l ])
    at_place None = same_moment now l l refl
    at_place (Some place) = at_attempt place (slice_get l.attempts place)

-- ---- its next step

order_moment : (w : Want) (number now : ℕ) (table : List Server) (l : LookupState) (order : Order) (new : LookupState) → GivesFor w number now table l order new → DecidesAt now l new
order_moment (want.Resume place) number now table l order new g = same_moment now l new (ap (λ (x : LookupState). x.state) g.is)
order_moment (want.Begin c) number now table l order new g = same_moment now l new (ap (λ (x : LookupState). x.state) g.is)
order_moment (want.Sleep until) number now table l order new g = λ answer at is. (let e : BackingOff until (Some number) g.polls ≡ Decided answer at = sym (ap (λ (x : LookupState). x.state) g.is) ∙ is in cc)
order_moment want.Wait number now table l order new g = absurd g
order_moment want.Tell number now table l order new g = absurd g

given_moment : (number now : ℕ) (table : List Server) (l : LookupState) (made : LookupStep) (new : LookupState) → Gives number now table l made new → DecidesAt now l new
given_moment number now table l (step.Order order) new g = order_moment (want_of l) number now table l order new g
given_moment number now table l step.Waiting new g = same_moment now l new (ap (λ (x : LookupState). x.state) g.1)
given_moment number now table l (step.Done answer) new g = same_moment now l new (ap (λ (x : LookupState). x.state) g.1)

pub next_moment : (number now : ℕ) (table : List Server) (l : LookupState) (made : LookupStep) (new : LookupState) → Gives number now table (started now l) made new → DecidesAt now l new
next_moment number now table l made new g = then_moment now l (started now l) new (started_moment now l) (given_moment number now table (started now l) made new g)
