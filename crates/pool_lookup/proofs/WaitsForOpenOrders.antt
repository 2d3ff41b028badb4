-- A lookup waits only for an order that is open.
use Rattle.std.proofs.Common.{◌≡◌, ℕ, Bool, true, false, not, cond, ◌&&◌, List, [], ◌∷◌, find, refl, Option, Some, None, Err}
use Rattle.std.specs.Prelude.{nat_le}
use Rattle.std.specs.List.{position}
use Rattle.dns_core.specs.declared.net_error.NetError.TheVariants.{Timeout}
use Rattle.server_core.specs.Sending.{is_open}
use Rattle.pool_rules.specs.RetryQueue.{may_sleep}
use Rattle.pool_rules.specs.declared.pool_server.PoolServer.{PoolServer}
use Rattle.pool_lookup.specs.declared.attempt.Attempt.{Attempt}
use Rattle.pool_lookup.specs.declared.giving.Want.{Want}
use Rattle.pool_lookup.specs.declared.giving.Want.TheVariants as want
use Rattle.pool_lookup.specs.declared.lookup.State.{State}
use Rattle.pool_lookup.specs.declared.lookup.State.TheVariants.{Asking, BackingOff, Decided}
use Rattle.pool_lookup.specs.Attempts.{is_idle}
use Rattle.pool_lookup.specs.Giving.{first_ready, first_idle, sleep_left, want_of}
use Rattle.pool_lookup.specs.Lists.{is_empty}
use Rattle.pool_lookup.specs.Lookup.{LookupState, deadline, is_asking, decided}
use Rattle.pool_lookup.specs.Promises.{HasOpen}
use Rattle.pool_lookup.specs.Rounds.{with_round, backs_off_until, paused, given_up, dealt_out, round_begun, is_over, started}
use Rattle.pool_lookup.proofs.OutcomeIsPut.{found_none}

none_of : (a b : Bool) → a ≡ false → (a && b) ≡ false
none_of true b h = cc
none_of false b h = refl

second_of : (a b : Bool) → b ≡ false → (a && b) ≡ false
second_of true b h = h
second_of false b h = refl

-- a round that was begun is not over
paused_on : (now : ℕ) (l : LookupState) → is_over (paused now l) ≡ false
paused_on now l = at_sleep (may_sleep l.queue)
  where
    at_sleep : (b : Bool) → is_over (cond b (record l { state = BackingOff (backs_off_until now l) None 0 }) (given_up now l)) ≡ false
    at_sleep true = refl
    at_sleep false = refl

round_on : (now : ℕ) (l : LookupState) → is_over (round_begun now l) ≡ false
round_on now l = at_time (nat_le (deadline l) now)
  where
    at_ready : (b : Bool) → is_empty (with_round now l).ready ≡ b → is_over (cond b (paused now (with_round now l)) (with_round now l)) ≡ false
    at_ready true e = paused_on now (with_round now l)
    at_ready false e = none_of (is_asking l.state && is_empty (with_round now l).ready) (is_empty l.attempts) (second_of (is_asking l.state) (is_empty (with_round now l).ready) e)

    at_time : (b : Bool) → is_over (cond b (decided (Err Timeout) now l) (dealt_out now (with_round now l))) ≡ false
    at_time true = refl
    at_time false = at_ready (is_empty (with_round now l).ready) refl

started_on : (now : ℕ) (l : LookupState) → is_over (started now l) ≡ false
started_on now l = at_over (is_over l) refl
  where
    at_over : (b : Bool) → is_over l ≡ b → is_over (cond b (round_begun now l) l) ≡ false
    at_over true e = round_on now l
    at_over false e = e

-- it waits where an order of each attempt is open, and no server is ready
waits_open : (attempts : List Attempt) (ready : List PoolServer) → (true && is_empty ready && is_empty attempts) ≡ false → first_idle attempts ready ≡ want.Wait → HasOpen Asking attempts
waits_open attempts ready some h = at_idle (position is_idle attempts) refl h
  where
    open_now : (b : Bool) → not b ≡ false → b ≡ true
    open_now true e = refl
    open_now false e = cc

    first_open : (xs : List Attempt) → is_empty xs ≡ false → find is_idle xs ≡ None → HasOpen Asking xs
    first_open [] e g = cc
    first_open (a ∷ rest) e g = (0, (a, refl, open_now (is_open a.send.stage) (not_found (is_idle a) g)))
      where
        not_found : (b : Bool) → cond b (Some a) (find is_idle rest) ≡ None → b ≡ false
        not_found true k = cc
        not_found false k = refl

    some_left : (a b : Bool) → a ≡ true → (true && a && b) ≡ false → b ≡ false
    some_left true b e g = g
    some_left false b e g = cc

    at_ready : (cs : List PoolServer) → first_ready cs ≡ want.Wait → is_empty cs ≡ true
    at_ready [] e = refl
    at_ready (c ∷ cs) e = cc

    at_idle : (o : Option ℕ) → position is_idle attempts ≡ o → elim o as (λ x. Want) [ None ↦ first_ready ready | Some place ↦ want.Resume place ] ≡ want.Wait → HasOpen Asking attempts
    at_idle None none e = first_open attempts (some_left (is_empty ready) (is_empty attempts) (at_ready ready e) some) (found_none is_idle attempts none)
    at_idle (Some place) there e = cc

pub waits_for : (now : ℕ) (l : LookupState) → want_of (started now l) ≡ want.Wait → HasOpen (started now l).state (started now l).attempts
waits_for now l h = at_state (started now l).state refl h (started_on now l)
  where
    at_order : (until polls : ℕ) (o : Option ℕ) → sleep_left until o ≡ want.Wait → HasOpen (BackingOff until o polls) (started now l).attempts
    at_order until polls None e = cc
    at_order until polls (Some n) e = (n, refl)

    at_state : (s : State) → (started now l).state ≡ s
        → elim s as (λ x. Want) [ Asking ↦ first_idle (started now l).attempts (started now l).ready | BackingOff until order polls ↦ sleep_left until order | Decided answer at ↦ want.Tell ] ≡ want.Wait
        → (is_asking s && is_empty (started now l).ready && is_empty (started now l).attempts) ≡ false → HasOpen s (started now l).attempts
    at_state Asking is e on = waits_open (started now l).attempts (started now l).ready on e
    at_state (BackingOff until order polls) is e on = at_order until polls order e
    at_state (Decided answer at) is e on = cc
