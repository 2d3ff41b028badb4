-- A lookup has an order open only where it gave it, and only once.
use Rattle.std.proofs.Common.{◌≡◌, ◌∙◌, ℕ, zero, suc, ◌+◌, ◌≤◌, Bool, true, false, cond, ◌==◌, ◌&&◌, List, [], ◌∷◌, ◌++◌, slice_get, Option, Some, None, Err, refl, ap, sym, subst, arith}
use Rattle.std.specs.Prelude.{slice_set, count_by, nat_le}
use Rattle.std.specs.List.{position, remove}
use Rattle.std.specs.declared.net.ip_addr.IpAddr.{IpAddr}
use Rattle.dns_core.specs.declared.net_error.NetError.TheVariants.{Timeout}
use Rattle.dns_core.specs.declared.request.DnsRequest.{DnsRequest}
use Rattle.resolution.specs.Lookups.{Answered}
use Rattle.server_core.specs.Sending.{is_open, come_to}
use Rattle.server_core.specs.Servers.{Server}
use Rattle.server_core.specs.declared.orders.order.Order.{Order}
use Rattle.server_core.specs.declared.orders.order.Outcome.{Outcome}
use Rattle.server_core.specs.declared.orders.order.Tick.{Tick}
use Rattle.pool_rules.specs.RetryQueue.{may_sleep, class_of_sent, hearing_of, after_end as plan_end}
use Rattle.pool_rules.specs.declared.pool_server.PoolServer.{PoolServer}
use Rattle.pool_rules.specs.declared.pool_server.Heard.{Heard}
use Rattle.pool_rules.specs.declared.pool_server.Heard.TheVariants.{Continue, Concluded}
use Rattle.pool_rules.proofs.QueueStandsOn.{count_cons, count_more}
use Rattle.pool_lookup.specs.declared.attempt.Attempt.{Attempt}
use Rattle.pool_lookup.specs.declared.giving.Want.{Want}
use Rattle.pool_lookup.specs.declared.giving.Want.TheVariants as want
use Rattle.pool_lookup.specs.declared.lookup.State.{State}
use Rattle.pool_lookup.specs.declared.lookup.State.TheVariants.{Asking, BackingOff, Decided}
use Rattle.pool_lookup.specs.Asked.{opens_in, opens, has_in, has_order}
use Rattle.pool_lookup.specs.Attempts.{is_open_at}
use Rattle.pool_lookup.specs.Backoff.{is_order, goes_on, asked_again, after_sleep, woken}
use Rattle.pool_lookup.specs.Giving.{want_of, ordered, beginning, Resumes, Begins, Sleeps, GivesFor}
use Rattle.pool_lookup.specs.Hearing.{closed, concluded, heard, closing_entry, end_by, after_end, after_coming, after_attempt, after_outcome, run_out, run_out_at, after_out_of_memory}
use Rattle.pool_lookup.specs.Holds.{HeardEnd, IsAt, IsResting, HoldsBy}
use Rattle.pool_lookup.specs.Lists.{is_empty}
use Rattle.pool_lookup.specs.Lookup.{LookupState, fresh, question_of, deadline, is_asking, decided}
use Rattle.pool_lookup.specs.Rounds.{begun, with_round, backs_off_until, given_up, paused, dealt_out, round_begun, is_over, is_spent, started, settled}
use Rattle.pool_lookup.proofs.ListFacts.{both, empty_is, any_count, count_any}
use Rattle.pool_lookup.proofs.LookupHoldsOn.{over_asks}
use Rattle.pool_lookup.proofs.StepsCanBeTaken.{found_at, resume_asks, begin_asks, spent_over}

-- ---- counts

abbrev pub bit : Bool → ℕ
bit b = cond b 1 0

module _ {X : Type 0} (p : X → Bool) where
  pub count_set : (xs : List X) (i : ℕ) (x y : X) → slice_get xs i ≡ Some x → count_by p (slice_set xs i y) + bit (p x) ≡ count_by p xs + bit (p y)
  count_set [] i x y h = cc
  count_set (z ∷ xs) zero x y h =
      let same : z ≡ x = cc in
      let is : bit (p z) ≡ bit (p x) = ap (λ (w : X). bit (p w)) same in
      omega (arith, count_cons p z xs, count_cons p y xs, is)
  count_set (z ∷ xs) (suc i) x y h = let rest = count_set xs i x y h in omega (arith, count_cons p z xs, count_cons p z (slice_set xs i y), rest)

  pub count_remove : (xs : List X) (i : ℕ) → count_by p (remove xs i) ≤ count_by p xs
  count_remove [] zero = omega arith
  count_remove [] (suc i) = omega arith
  count_remove (z ∷ xs) zero = omega (arith, count_cons p z xs)
  count_remove (z ∷ xs) (suc i) = let rest = count_remove xs i in omega (arith, count_cons p z xs, count_cons p z (remove xs i), rest)

-- the second part of a test may only fail
narrower : (a b c : Bool) → b ≡ true → bit (a && c) ≤ bit (a && b)
narrower true true true h = omega arith
narrower true true false h = omega arith
narrower true false c h = cc
narrower false b c h = omega arith

within_bit : (a b : Bool) → bit (a && b) ≤ bit a
within_bit true true = omega arith
within_bit true false = omega arith
within_bit false b = omega arith

second_of : (a b : Bool) → (a && b) ≡ true → b ≡ true
second_of true b h = h
second_of false b h = cc

-- ---- a round begins

opens_paused : (k now : ℕ) (l : LookupState) → opens k (paused now l) ≡ 0
opens_paused k now l = at_sleep (may_sleep l.queue)
  where
    at_sleep : (b : Bool) → opens k (cond b (record l { state = BackingOff (backs_off_until now l) None 0 }) (given_up now l)) ≡ 0
    at_sleep true = refl
    at_sleep false = refl

opens_round : (k now : ℕ) (l : LookupState) → l.state ≡ Asking → l.attempts ≡ [] → opens k (round_begun now l) ≡ 0
opens_round k now l asks none = at_time (nat_le (deadline l) now)
  where
    dealt : opens k (with_round now l) ≡ 0
    dealt = ap (opens_in k l.attempts) asks ∙ ap (λ (xs : List Attempt). count_by (is_open_at k) xs) none

    at_ready : (b : Bool) → opens k (cond b (paused now (with_round now l)) (with_round now l)) ≡ 0
    at_ready true = opens_paused k now (with_round now l)
    at_ready false = dealt

    at_time : (b : Bool) → opens k (cond b (decided (Err Timeout) now l) (dealt_out now (with_round now l))) ≡ 0
    at_time true = refl
    at_time false = at_ready (is_empty (with_round now l).ready)

over_none : (l : LookupState) → is_over l ≡ true → l.attempts ≡ []
over_none l over = empty_is l.attempts (both (is_asking l.state && is_empty l.ready) (is_empty l.attempts) over).1

pub opens_started : (k now : ℕ) (l : LookupState) → opens k (started now l) ≤ opens k l
opens_started k now l = at_over (is_over l) refl
  where
    at_over : (b : Bool) → is_over l ≡ b → opens k (cond b (round_begun now l) l) ≤ opens k l
    at_over true over = omega (arith, opens_round k now l (over_asks l over) (over_none l over))
    at_over false over = omega arith

opens_settled : (k now : ℕ) (l : LookupState) → opens k (settled now l) ≤ opens k l
opens_settled k now l = at_spent (is_spent l) refl
  where
    at_spent : (b : Bool) → is_spent l ≡ b → opens k (cond b (round_begun now l) l) ≤ opens k l
    at_spent true spent = let over = spent_over l spent in omega (arith, opens_round k now l (over_asks l over) (over_none l over))
    at_spent false spent = omega arith

pub opens_begun : (k : ℕ) (request : DnsRequest) (servers : List PoolServer) (concurrency timeout now : ℕ) → opens k (begun request servers concurrency timeout now) ≡ 0
opens_begun k request servers concurrency timeout now = opens_round k now (fresh request servers concurrency timeout now) refl refl

-- ---- an outcome

-- what it comes to
opens_concluded : (k : ℕ) (denied : IpAddr → Bool) (h : Heard) (now : ℕ) (l : LookupState) → opens k (concluded denied h now l) ≤ opens k l
opens_concluded k denied Continue now l = omega arith
opens_concluded k denied (Concluded answer) now l = omega arith

module _ (k : ℕ) (denied : IpAddr → Bool) (tick : Tick) (o : Outcome) (l : LookupState) where
  -- while it asks these are its open orders
  asking_opens : (xs : List Attempt) → l.state ≡ Asking → opens k (record l { attempts = xs }) ≡ count_by (is_open_at k) xs
  asking_opens xs asks = ap (opens_in k xs) asks

  opens_end : (place entry : ℕ) (a : Attempt) (end : Answered) → l.state ≡ Asking → opens k (after_end denied place entry a end tick.now l) ≤ opens k l
  opens_end place entry a end asks =
      let after = closed place a.candidate.server entry l in
      let class = class_of_sent (question_of l) end in
      let next = heard denied a.candidate end tick.now after in
      let fewer = count_remove (is_open_at k) l.attempts place in
      let less = opens_concluded k denied (hearing_of a.candidate class l.queue) tick.now (record after { queue = plan_end a.candidate class l.queue }) in
      omega (arith, opens_settled k tick.now next, less, asking_opens (remove l.attempts place) asks, asking_opens l.attempts asks, fewer)

  opens_coming : (place : ℕ) (a : Attempt) → slice_get l.attempts place ≡ Some a → is_open a.send.stage ≡ true → l.state ≡ Asking → opens k (after_coming denied tick place o a l) ≤ opens k l
  opens_coming place a there on asks = at_end (end_by tick.patience o a)
    where
      at_end : (e : Option Answered) → opens k (elim e as (λ x. LookupState) [
        | None ↦ record l { attempts = slice_set l.attempts place (record a { send = come_to tick.patience o a.send }) }
        | Some end ↦ after_end denied place (closing_entry o) a end tick.now l
      ]) ≤ opens k l
      at_end None =
          let next : Attempt = record a { send = come_to tick.patience o a.send } in
          let set = count_set (is_open_at k) l.attempts place a next there in
          let less = narrower (a.order == k) (is_open a.send.stage) (is_open next.send.stage) on in
          omega (arith, set, less, asking_opens (slice_set l.attempts place next) asks, asking_opens l.attempts asks)
      at_end (Some end) = opens_end place (closing_entry o) a end asks

  opens_attempt : (number place : ℕ) → position (is_open_at number) l.attempts ≡ Some place → l.state ≡ Asking → opens k (after_attempt denied tick place o l) ≤ opens k l
  opens_attempt number place at asks =
      let f = found_at (is_open_at number) l.attempts place at in
      let on = second_of (f.0.order == number) (is_open f.0.send.stage) f.2 in
      let is : after_attempt denied tick place o l ≡ after_coming denied tick place o f.0 l = ap (λ (x : Option Attempt). elim x as (λ y. LookupState) [ None ↦ l | Some a ↦ after_coming denied tick place o a l ]) f.1 in
      subst (λ (x : LookupState). opens k x ≤ opens k l) (sym is) (opens_coming place f.0 f.1 on asks)

  opens_woken : l.attempts ≡ [] → opens k (woken tick.now l) ≤ opens k l
  opens_woken none =
      let awake : LookupState = record l { queue = asked_again l.queue; state = Asking } in
      let shut : opens k awake ≡ 0 = ap (λ (xs : List Attempt). count_by (is_open_at k) xs) none in
      omega (arith, opens_settled k tick.now awake, shut)

  opens_sleep : (until : ℕ) (order : Option ℕ) (polls : ℕ) → l.state ≡ BackingOff until order polls → l.attempts ≡ [] → opens k (after_sleep tick until order polls o l) ≤ opens k l
  opens_sleep until order polls is none = at_poll (goes_on tick.patience polls o)
    where
      same : opens k l ≡ bit (is_order k order)
      same = ap (opens_in k l.attempts) is

      at_poll : (b : Bool) → opens k (cond b (record l { state = BackingOff until order (polls + 1) }) (woken tick.now l)) ≤ opens k l
      at_poll true = omega (arith, same)
      at_poll false = opens_woken none

-- a lookup that backs off has no attempt in flight
resting_none : (denied : IpAddr → Bool) (heard : List HeardEnd) (l : LookupState) (until : ℕ) (order : Option ℕ) (polls : ℕ) → l.state ≡ BackingOff until order polls → HoldsBy denied heard l → l.attempts ≡ []
resting_none denied heard l until order polls is h = let r : IsResting heard until l = subst (λ (s : State). IsAt denied heard s l) is h.at in r.attempts

pub opens_outcome : (k : ℕ) (denied : IpAddr → Bool) (tick : Tick) (number : ℕ) (o : Outcome) (heard : List HeardEnd) (l : LookupState) → HoldsBy denied heard l → opens k (after_outcome denied tick number o l) ≤ opens k l
opens_outcome k denied tick number o heard l h = at_state l.state refl
  where
    at_place : (x : Option ℕ) → position (is_open_at number) l.attempts ≡ x → l.state ≡ Asking → opens k (elim x as (λ y. LookupState) [ None ↦ l | Some place ↦ after_attempt denied tick place o l ]) ≤ opens k l
    at_place None none asks = omega arith
    at_place (Some place) there asks = opens_attempt k denied tick o l number place there asks

    at_order : (b : Bool) (until : ℕ) (order : Option ℕ) (polls : ℕ) → l.state ≡ BackingOff until order polls → opens k (cond b (after_sleep tick until order polls o l) l) ≤ opens k l
    at_order true until order polls is = opens_sleep k denied tick o l until order polls is (resting_none denied heard l until order polls is h)
    at_order false until order polls is = omega arith

    at_state : (s : State) → l.state ≡ s → opens k (elim s as (λ x. LookupState) [
      | Asking ↦ elim (position (is_open_at number) l.attempts) [ None ↦ l | Some place ↦ after_attempt denied tick place o l ]
      | BackingOff until order polls ↦ cond (is_order number order) (after_sleep tick until order polls o l) l
      | Decided answer at ↦ l
    ]) ≤ opens k l
    at_state Asking is = at_place (position (is_open_at number) l.attempts) refl is
    at_state (BackingOff until order polls) is = at_order (is_order number order) until order polls is
    at_state (Decided answer at) is = omega arith

pub opens_out_of_memory : (k number now : ℕ) (o : Outcome) (l : LookupState) → opens k (after_out_of_memory number now o l) ≤ opens k l
opens_out_of_memory k number now o l = at_place (position (is_open_at number) l.attempts)
  where
    at_attempt : (place : ℕ) (x : Option Attempt) → opens k (elim x as (λ y. LookupState) [ None ↦ l | Some a ↦ run_out place a.candidate.server (closing_entry o) now l ]) ≤ opens k l
    at_attempt place None = omega arith
    at_attempt place (Some a) = omega arith

    at_place : (x : Option ℕ) → opens k (elim x as (λ y. LookupState) [ None ↦ l | Some place ↦ run_out_at place now o l ]) ≤ opens k l
    at_place None = omega arith
    at_place (Some place) = at_attempt place (slice_get l.attempts place)

-- ---- an order is given

module _ (k number now : ℕ) (table : List Server) (l : LookupState) (order : Order) (new : LookupState) where
  opens_resumed : (place : ℕ) → Resumes place number now table l order new → l.state ≡ Asking → opens k new ≤ opens k l + bit (number == k)
  opens_resumed place r asks =
      let set = count_set (is_open_at k) l.attempts place r.attempt (ordered number r.next r.attempt) r.at in
      let is : opens k new ≡ count_by (is_open_at k) (slice_set l.attempts place (ordered number r.next r.attempt)) =
      ap (opens k) r.is ∙ ap (opens_in k (slice_set l.attempts place (ordered number r.next r.attempt))) asks in
      omega (arith, set, within_bit (number == k) (is_open r.next), is, ap (opens_in k l.attempts) asks)

  opens_begins : (c : PoolServer) → Begins c number now table l order new → l.state ≡ Asking → opens k new ≤ opens k l + bit (number == k)
  opens_begins c b asks =
      let x = ordered number b.next (beginning l c) in
      let more = count_more (is_open_at k) l.attempts x in
      let is : opens k new ≡ count_by (is_open_at k) (l.attempts ++ x ∷ []) = ap (opens k) b.is ∙ ap (opens_in k (l.attempts ++ x ∷ [])) asks in
      omega (arith, more, within_bit (number == k) (is_open b.next), is, ap (opens_in k l.attempts) asks)

  opens_slept : (until : ℕ) → Sleeps until number l order new → opens k new ≤ opens k l + bit (number == k)
  opens_slept until s = let is : opens k new ≡ bit (number == k) = ap (opens k) s.is in omega (arith, is)

  pub opens_order : GivesFor (want_of l) number now table l order new → opens k new ≤ opens k l + bit (number == k)
  opens_order g = at_want (want_of l) refl g
    where
      at_want : (w : Want) → want_of l ≡ w → GivesFor w number now table l order new → opens k new ≤ opens k l + bit (number == k)
      at_want (want.Resume place) is g = opens_resumed place g (resume_asks l place is).0
      at_want (want.Begin c) is g = opens_begins c g (begin_asks l c is).0
      at_want (want.Sleep until) is g = opens_slept until g
      at_want want.Wait is g = absurd g
      at_want want.Tell is g = absurd g

-- ---- whether one is open

pub has_opens : (k : ℕ) (l : LookupState) → has_order k l ≡ true → 1 ≤ opens k l
has_opens k l h = at_state l.state h
  where
    at_order : (b : Bool) → b ≡ true → 1 ≤ bit b
    at_order true e = omega arith
    at_order false e = cc

    at_state : (s : State) → has_in k l.attempts s ≡ true → 1 ≤ opens_in k l.attempts s
    at_state Asking h = any_count (is_open_at k) l.attempts h
    at_state (BackingOff until order polls) h = at_order (is_order k order) h
    at_state (Decided answer at) h = cc

pub opens_has : (k : ℕ) (l : LookupState) → 1 ≤ opens k l → has_order k l ≡ true
opens_has k l h = at_state l.state h
  where
    at_order : (b : Bool) → 1 ≤ bit b → b ≡ true
    at_order true e = refl
    at_order false e = absurd (omega (arith, e))

    at_state : (s : State) → 1 ≤ opens_in k l.attempts s → has_in k l.attempts s ≡ true
    at_state Asking h = count_any (is_open_at k) l.attempts h
    at_state (BackingOff until order polls) h = at_order (is_order k order) h
    at_state (Decided answer at) h = absurd (omega (arith, h))

-- one that is not open is open at no attempt
pub opens_none : (k : ℕ) (l : LookupState) → has_order k l ≡ false → opens k l ≡ 0
opens_none k l shut = at_count (opens k l) refl
  where
    at_count : (n : ℕ) → opens k l ≡ n → opens k l ≡ 0
    at_count zero is = is
    at_count (suc n) is = let one : 1 ≤ opens k l = omega (arith, is) in let yes = opens_has k l one in let wrong : true ≡ false = sym yes ∙ shut in cc
