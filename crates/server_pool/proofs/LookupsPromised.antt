-- What is promised of each lookup.
use Rattle.std.proofs.Common.{◌≡◌, ◌∙◌, ℕ, zero, suc, ◌≤◌, ◌==◌, ◌&&◌, Bool, true, false, ◌⊎◌, List, [], ◌∷◌, slice_get, Option, Some, None, inl, inr, refl, ap, sym, subst, arith, eqb-true, eq-eqb}
use Rattle.std.specs.Prelude.{IsTrue, count_by}
use Rattle.std.specs.declared.net.ip_addr.IpAddr.{IpAddr}
use Rattle.resolution.specs.Lookups.{Answered}
use Rattle.server_core.specs.Sending.{is_open}
use Rattle.server_core.specs.Servers.{Server}
use Rattle.pool_rules.proofs.QueueStandsOn.{count_cons}
use Rattle.pool_lookup.specs.declared.attempt.Attempt.{Attempt}
use Rattle.pool_lookup.specs.declared.giving.LookupStep.{LookupStep}
use Rattle.pool_lookup.specs.declared.giving.LookupStep.TheVariants as step
use Rattle.pool_lookup.specs.declared.lookup.State.{State}
use Rattle.pool_lookup.specs.declared.lookup.State.TheVariants.{Asking, BackingOff, Decided}
use Rattle.pool_lookup.specs.Asked.{opens_in, opens}
use Rattle.pool_lookup.specs.Attempts.{is_open_at}
use Rattle.pool_lookup.specs.Giving.{Gives}
use Rattle.pool_lookup.specs.Holds.{IsAt, Holds, out_of_memory}
use Rattle.pool_lookup.specs.Lookup.{LookupState}
use Rattle.pool_lookup.specs.Promises.{HasOpen}
use Rattle.pool_lookup.specs.Rounds.{started}
use Rattle.pool_lookup.proofs.FewSends.{is_fair}
use Rattle.pool_lookup.proofs.OneOpenOrder.{bit, opens_has}
use Rattle.pool_lookup.proofs.WaitsForOpenOrders.{waits_for}
use Rattle.server_pool.specs.OpenLookups.{moved_to, under}
use Rattle.server_pool.specs.LookupSteps.{IsStepAt}
use Rattle.server_pool.specs.declared.open_lookups.open_lookup.OpenLookup.{OpenLookup}
use Rattle.server_pool.proofs.UnderNumbers.{found_with}
use Rattle.server_pool.specs.Holds.{SharedHolds, times_of}
use Rattle.server_pool.specs.Promises.{IsFairly, IsByEnds, IsAnswered, IfDone, IfWaiting}
use Rattle.server_pool.specs.Shared.{Shared}
use Rattle.server_pool.specs.Stepping.{told_as}

-- ---- fair

pub fairly : (denied : IpAddr → Bool) (l : LookupState) → Holds denied l → IsFairly l
fairly denied l h = record { heard = h.0; entries = h.1.keeps.entries; fair = is_fair denied h.0 l h.1 }

-- ---- answered

answered : (denied : IpAddr → Bool) (answer : Answered) (at : ℕ) (l : LookupState) → l.state ≡ Decided answer at → Holds denied l → IsAnswered denied answer l
answered denied answer at l is h = record { at = at; state = is; by = by (subst (λ (s : State). IsAt denied h.0 s l) is h.1.at) }
  where
    by : IsAt denied h.0 (Decided answer at) l → IsByEnds denied answer at l ⊎ IsTrue (out_of_memory answer)
    by (inl run) = inl (record { heard = h.0; entries = h.1.keeps.entries; run = run })
    by (inr out) = inr out

pub if_done : (denied : IpAddr → Bool) (number now : ℕ) (table : List Server) (l next : LookupState) (made : LookupStep) → Gives number now table l made next → Holds denied next → IfDone denied next (told_as number made)
if_done denied number now table l next (step.Order order) g h = tt
if_done denied number now table l next step.Waiting g h = tt
if_done denied number now table l next (step.Done answer) g h = answered denied answer g.0.0 next (ap (λ (x : LookupState). x.state) g.1 ∙ g.0.1) h

-- ---- waiting

-- what stands in a list is counted
counted : {X : Type 0} (p : X → Bool) (xs : List X) (i : ℕ) (x : X) → slice_get xs i ≡ Some x → p x ≡ true → 1 ≤ count_by p xs
counted p [] i x h passes = cc
counted {X} p (y ∷ ys) zero x h passes =
    let same : y ≡ x = cc in
    let one : bit (p y) ≡ 1 = ap (λ (z : X). bit (p z)) same ∙ ap bit passes in
    omega (arith, count_cons p y ys, one)
counted p (y ∷ ys) (suc i) x h passes = let rest = counted p ys i x h passes in omega (arith, count_cons p y ys, rest)

open_number : (s : State) (attempts : List Attempt) → HasOpen s attempts → (k : ℕ) × (1 ≤ opens_in k attempts s)
open_number Asking attempts h =
    let a = h.1.0 in
    let passes : is_open_at a.order a ≡ true = ap (λ (b : Bool). b && is_open a.send.stage) (eq-eqb a.order a.order refl) ∙ h.1.2 in
    (a.order, counted (is_open_at a.order) attempts h.0 a h.1.1 passes)
open_number (BackingOff until order polls) attempts h =
    let one : opens_in h.0 attempts (BackingOff until order polls) ≡ 1 =
    ap (λ (o : Option ℕ). opens_in h.0 attempts (BackingOff until o polls)) h.1 ∙ ap bit (eq-eqb h.0 h.0 refl) in
    (h.0, omega (arith, one))
open_number (Decided answer at) attempts h = absurd h

stands_for : (n : ℕ) (o : Option ℕ) → 1 ≤ times_of n o → o ≡ Some n
stands_for n None h = absurd (omega (arith, h))
stands_for n (Some m) h = by (m == n) refl h
  where
    by : (b : Bool) → (m == n) ≡ b → 1 ≤ bit b → Some m ≡ Some n
    by true e one = ap (λ (k : ℕ). Some k) (eqb-true m n e)
    by false e one = absurd (omega (arith, one))

pub if_waiting : (denied : IpAddr → Bool) (n now : ℕ) (table : List Server) (l : OpenLookup) (ls : List (ℕ × OpenLookup)) (made : LookupStep) (number : ℕ) (new : Shared)
    → under n ls ≡ Some l → IsStepAt n number now l ls table made new.lookups new.table → SharedHolds denied new.table new.lookups new.orders new.sent new.given → IfWaiting n new (told_as number made)
if_waiting denied n now table l ls (step.Order order) number new there s h = tt
if_waiting denied n now table l ls step.Waiting number new there s h =
    let next : OpenLookup = moved_to s.next l in
    let at : under n new.lookups ≡ Some next = ap (under n) s.lookups ∙ found_with n (moved_to s.next) l ls there in
    let its = open_number (started now l.lookup).state (started now l.lookup).attempts (waits_for now l.lookup s.gives.0) in
    let one : 1 ≤ opens its.0 s.next = subst (λ (x : LookupState). 1 ≤ opens its.0 x) (sym s.gives.1) its.1 in
    let listed = h.listed n its.0 next at in
    (its.0, next, record { order = stands_for n (under its.0 new.orders) (omega (arith, one, listed)); there = at; waits = opens_has its.0 s.next one })
if_waiting denied n now table l ls (step.Done answer) number new there s h = tt
