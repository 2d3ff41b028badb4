-- What is true of a lookup stays true where it gives an order.
use Rattle.std.proofs.Common.{◌≡◌, ◌∙◌, ℕ, ◌<◌, Bool, List, [], ◌∷◌, ◌++◌, map, length, Option, Some, None, refl, ap, sym, subst, arith, append_assoc, length-append}
use Rattle.std.specs.Prelude.{IsTrue}
use Rattle.std.specs.List.{AllByRecursion}
use Rattle.std.specs.declared.net.ip_addr.IpAddr.{IpAddr}
use Rattle.std.proofs.lemmas.List.{map-append}
use Rattle.server_core.specs.Servers.{Server}
use Rattle.server_core.specs.declared.orders.order.Order.{Order}
use Rattle.pool_rules.specs.RetryQueue.{QueueStands, may_ask}
use Rattle.pool_rules.specs.declared.pool_server.PoolServer.{PoolServer}
use Rattle.pool_lookup.specs.declared.attempt.Attempt.{Attempt}
use Rattle.pool_lookup.specs.declared.giving.LookupStep.{LookupStep}
use Rattle.pool_lookup.specs.declared.giving.LookupStep.TheVariants as step
use Rattle.pool_lookup.specs.declared.giving.Want.{Want}
use Rattle.pool_lookup.specs.declared.giving.Want.TheVariants as want
use Rattle.pool_lookup.specs.declared.lookup.State.{State}
use Rattle.pool_lookup.specs.declared.lookup.State.TheVariants.{Asking, BackingOff, Decided}
use Rattle.pool_lookup.specs.Attempts.{GoesTo}
use Rattle.pool_lookup.specs.Giving.{first_idle, sleep_left, want_of, ordered, beginning, Resumes, Begins, Sleeps, GivesFor, Gives}
use Rattle.pool_lookup.specs.Holds.{HeardEnd, ends_of, IsAt, IsResting, Keeps, HoldsBy, Holds}
use Rattle.pool_lookup.specs.Lookup.{LookupState, question_of, under_way}
use Rattle.pool_lookup.specs.Rounds.{started}
use Rattle.pool_lookup.proofs.ListFacts.{all_get, all_push}
use Rattle.pool_lookup.proofs.LookupHoldsOn.{goes, asks_so, rests, written_by, started_by}
use Rattle.pool_lookup.proofs.AttemptByOutcome.{stays_on, ordered_goes}

-- the first server of the round goes over to those in flight
pub begun_under : (l : LookupState) (c : PoolServer) (rest : List PoolServer) (x : Attempt) → x.candidate ≡ c → l.ready ≡ c ∷ rest
    → under_way (record l { ready = rest; attempts = l.attempts ++ x ∷ [] }) ≡ under_way l
begun_under l c rest x is first =
    ap (λ (cs : List PoolServer). cs ++ rest) (map-append (λ (a : Attempt). a.candidate) l.attempts (x ∷ []))
    ∙ append_assoc (map (λ (a : Attempt). a.candidate) l.attempts) (x.candidate ∷ []) rest
    ∙ ap (λ (d : PoolServer). map (λ (a : Attempt). a.candidate) l.attempts ++ d ∷ rest) is
    ∙ ap (λ (cs : List PoolServer). map (λ (a : Attempt). a.candidate) l.attempts ++ cs) (sym first)

keeps_begun : (ends : List HeardEnd) (l : LookupState) (c : PoolServer) (rest : List PoolServer) (x : Attempt) → l.ready ≡ c ∷ rest → GoesTo l.request x → Keeps ends l
    → Keeps ends (record l { ready = rest; attempts = l.attempts ++ x ∷ [] })
keeps_begun ends l c rest x first g k =
    let more = length-append l.attempts (x ∷ []) in
    let count : length l.ready ≡ length (c ∷ rest) = ap length first in
    let round = k.round in
    let sends = k.sends in
    let all : AllByRecursion (λ (d : PoolServer). IsTrue (may_ask l.round_off d)) (c ∷ rest) = subst (λ (cs : List PoolServer). AllByRecursion (λ (d : PoolServer). IsTrue (may_ask l.round_off d)) cs) first k.allowed in
    record {
      entries = k.entries;
      from_pool = k.from_pool;
      each = k.each;
      going = all_push (GoesTo l.request) l.attempts x k.going g;
      allowed = all.1;
      some = k.some;
      places = k.places;
      round = omega (arith, more, count, round);
      sends = omega (arith, more, count, sends);
    }

-- the attempt that is begun goes to a server that may be asked
pub beginning_goes : (ends : List HeardEnd) (l : LookupState) (c : PoolServer) (rest : List PoolServer) → l.ready ≡ c ∷ rest → Keeps ends l → GoesTo l.request (beginning l c)
beginning_goes ends l c rest first k =
    let all : AllByRecursion (λ (d : PoolServer). IsTrue (may_ask l.round_off d)) (c ∷ rest) = subst (λ (cs : List PoolServer). AllByRecursion (λ (d : PoolServer). IsTrue (may_ask l.round_off d)) cs) first k.allowed in
    record { on = tt; server = refl; asks = refl; allowed = all.0 }

module _ (denied : IpAddr → Bool) (ends : List HeardEnd) (number now : ℕ) (table : List Server) (l : LookupState) (order : Order) (new : LookupState) where
  resumed_by : (place : ℕ) → Resumes place number now table l order new → l.state ≡ Asking → HoldsBy denied ends l → HoldsBy denied ends new
  resumed_by place r asks h =
      let g = all_get (GoesTo l.request) l.attempts place r.attempt h.keeps.going r.at in
      let on = stays_on r.attempt.send r.attempt.send.stage number now r.orders.server order r.next g.on r.orders.gives in
      subst (HoldsBy denied ends) (sym r.is)
      (written_by denied ends l place r.attempt (ordered number r.next r.attempt) r.at refl (ordered_goes l.request r.attempt number r.next g on) asks h)

  begins_by : (c : PoolServer) → Begins c number now table l order new → l.state ≡ Asking → HoldsBy denied ends l → HoldsBy denied ends new
  begins_by c b asks h =
      let g = beginning_goes ends l c b.rest b.first h.keeps in
      let on = stays_on (beginning l c).send (beginning l c).send.stage number now b.orders.server order b.next g.on b.orders.gives in
      let ups = begun_under l c b.rest (ordered number b.next (beginning l c)) refl b.first in
      let at = asks_so denied ends l asks h in
      subst (HoldsBy denied ends) (sym b.is)
      (goes denied ends (record l { ready = b.rest; attempts = l.attempts ++ ordered number b.next (beginning l c) ∷ [] }) asks
      (subst (λ (us : List PoolServer). QueueStands (question_of l) l.timeout l.servers (ends_of ends) us l.queue) (sym ups) at.0)
      (λ none. subst (λ (us : List PoolServer). 0 < length us) (sym ups) (at.1 none))
      (keeps_begun ends l c b.rest (ordered number b.next (beginning l c)) b.first (ordered_goes l.request (beginning l c) number b.next g on) h.keeps))

  slept_by : (until : ℕ) → Sleeps until number l order new → HoldsBy denied ends l → HoldsBy denied ends new
  slept_by until s h =
      let r : IsResting ends until l = subst (λ (x : State). IsAt denied ends x l) s.was h.at in
      subst (HoldsBy denied ends) (sym s.is) (record { at = rests denied ends until l (BackingOff until (Some number) s.polls) r; keeps = h.keeps })

  given_asking : (w : Want) → GivesFor w number now table l order new → l.state ≡ Asking → HoldsBy denied ends l → HoldsBy denied ends new
  given_asking (want.Resume place) g asks h = resumed_by place g asks h
  given_asking (want.Begin c) g asks h = begins_by c g asks h
  given_asking (want.Sleep until) g asks h = slept_by until g h
  given_asking want.Wait g asks h = absurd g
  given_asking want.Tell g asks h = absurd g

  given_resting : (until : ℕ) (o : Option ℕ) → GivesFor (sleep_left until o) number now table l order new → HoldsBy denied ends l → HoldsBy denied ends new
  given_resting until None g h = slept_by until g h
  given_resting until (Some n) g h = absurd g

  order_by : GivesFor (want_of l) number now table l order new → HoldsBy denied ends l → HoldsBy denied ends new
  order_by g h = at_state l.state refl g
    where
      at_state : (s : State) → l.state ≡ s → GivesFor (elim s [ Asking ↦ first_idle l.attempts l.ready | BackingOff until order polls ↦ sleep_left until order | Decided answer at ↦ want.Tell ]) number now table l order new → HoldsBy denied ends new
      at_state Asking is g = given_asking (first_idle l.attempts l.ready) g is h
      at_state (BackingOff until o polls) is g = given_resting until o g h
      at_state (Decided answer at) is g = absurd g

-- What is true of a lookup by its ends is true after its next step, which hears none.
pub given_by : (denied : IpAddr → Bool) (ends : List HeardEnd) (number now : ℕ) (table : List Server) (l : LookupState) (made : LookupStep) (new : LookupState) → Gives number now table l made new
    → HoldsBy denied ends l → HoldsBy denied ends new
given_by denied ends number now table l (step.Order order) new g h = order_by denied ends number now table l order new g h
given_by denied ends number now table l step.Waiting new g h = subst (HoldsBy denied ends) (sym g.1) h
given_by denied ends number now table l (step.Done answer) new g h = subst (HoldsBy denied ends) (sym g.1) h

pub next_by : (denied : IpAddr → Bool) (ends : List HeardEnd) (number now : ℕ) (table : List Server) (l : LookupState) (made : LookupStep) (new : LookupState) → Gives number now table (started now l) made new
    → HoldsBy denied ends l → HoldsBy denied ends new
next_by denied ends number now table l made new g h = given_by denied ends number now table (started now l) made new g (started_by denied now ends l h)

pub holds_next : (denied : IpAddr → Bool) (number now : ℕ) (table : List Server) (l new : LookupState) (made : LookupStep) → Gives number now table (started now l) made new → Holds denied l → Holds denied new
holds_next denied number now table l new made g h = (h.0, next_by denied h.0 number now table l made new g h.1)
