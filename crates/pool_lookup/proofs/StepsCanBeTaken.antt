-- What each step needs holds where the lookup does.
use Rattle.std.proofs.Common.{◌≡◌, ◌∙◌, ℕ, ◌≤◌, ◌<◌, Bool, true, false, not, ◌==◌, ◌&&◌, List, [], ◌∷◌, ◌++◌, map, length, slice_get, Option, Some, None, refl, ap, sym, subst, arith, nat_lt, get_or, inl}
use Rattle.std.specs.Prelude.{slice_set}
use Rattle.std.specs.List.{list_any, position}
use Rattle.pool_rules.specs.RetryQueue.{may_ask, may_sleep}
use Rattle.std.specs.declared.net.ip_addr.IpAddr.{IpAddr}
use Rattle.std.proofs.lemmas.Bool.{ltb-true}
use Rattle.std.proofs.lemmas.List.{length-set}
use Rattle.std.proofs.lemmas.List.Quantifiers.{position-Some}
use Rattle.std.proofs.lemmas.Option.{slice_get_within, slice_get-get_or}
use Rattle.resolution.proofs.ElementsFiltered.{Has, Has-from_Contains, Has-append_right}
use Rattle.dns_core.specs.declared.request.DnsRequest.{DnsRequest}
use Rattle.server_core.specs.Servers.{Server, place_of, server_of}
use Rattle.server_core.specs.Sending.{is_open, StepIs}
use Rattle.server_core.specs.declared.orders.order.Order.{Order}
use Rattle.server_core.specs.declared.sends.server_send.SendStep.{SendStep}
use Rattle.server_core.specs.declared.sends.server_send.SendStep.TheVariants as made
use Rattle.server_core.specs.declared.sends.server_send.Stage.{Stage}
use Rattle.pool_rules.specs.declared.pool_server.PoolServer.{PoolServer}
use Rattle.pool_rules.proofs.QueueAfterEnd.{room_to_hear}
use Rattle.pool_lookup.specs.declared.attempt.Attempt.{Attempt}
use Rattle.pool_lookup.specs.declared.giving.Want.{Want}
use Rattle.pool_lookup.specs.declared.giving.Want.TheVariants as want
use Rattle.pool_lookup.specs.declared.lookup.State.{State}
use Rattle.pool_lookup.specs.declared.lookup.State.TheVariants.{Asking, BackingOff, Decided}
use Rattle.pool_lookup.specs.Attempts.{GoesTo, CanGive, is_idle}
use Rattle.pool_lookup.specs.Backoff.{CanWake, asked_again}
use Rattle.pool_lookup.specs.Giving.{first_idle, first_ready, sleep_left, want_of, beginning}
use Rattle.pool_lookup.specs.Hearing.{CanEnd, closed}
use Rattle.pool_lookup.specs.Holds.{HeardEnd, ends_of, IsAt, IsResting, HoldsBy, IsSound, IsReached, AreReached}
use Rattle.pool_lookup.specs.Lists.{is_empty}
use Rattle.pool_lookup.specs.Lookup.{LookupState, fresh, is_asking, question_of, under_way}
use Rattle.pool_lookup.specs.Rounds.{CanBegin, is_over, is_spent}
use Rattle.pool_lookup.proofs.ListFacts.{empty_is, both, all_get, all_has, get_set, length_remove, remove_set}
use Rattle.pool_lookup.proofs.QueueStandsByLists.{under_from_pool, picked_has}
use Rattle.pool_lookup.proofs.LookupHoldsOn.{asks_so, first_under, over_asks}
use Rattle.pool_lookup.proofs.HoldsWhereItGives.{beginning_goes}
use Rattle.pool_lookup.proofs.AttemptByOutcome.{gives_order}

-- ---- where it asks

-- what a place of a list holds
pub found_at : {X : Type 0} (p : X → Bool) (xs : List X) (i : ℕ) → position p xs ≡ Some i → (x : X) × (slice_get xs i ≡ Some x) × (p x ≡ true)
found_at p [] i h = cc
found_at p (y ∷ ys) i h = let f = position-Some p (y ∷ ys) i y h in (get_or (y ∷ ys) i y, slice_get-get_or (y ∷ ys) i y f.0, f.1)

pub some_same : {X : Type 0} {x y : X} → Some x ≡ Some y → x ≡ y
some_same h = cc

-- an attempt goes on only where the lookup asks
pub resume_asks : (l : LookupState) (place : ℕ) → want_of l ≡ want.Resume place → (l.state ≡ Asking) × (position is_idle l.attempts ≡ Some place)
resume_asks l place h = at_state l.state refl h
  where
    no_ready : {T : Type 0} (cs : List PoolServer) → first_ready cs ≡ want.Resume place → T
    no_ready [] e = cc
    no_ready (c ∷ cs) e = cc

    at_idle : (o : Option ℕ) → elim o as (λ x. Want) [ None ↦ first_ready l.ready | Some p ↦ want.Resume p ] ≡ want.Resume place → o ≡ Some place
    at_idle None e = no_ready l.ready e
    at_idle (Some p) e = let same : p ≡ place = cc in ap Some same

    at_order : {T : Type 0} (until : ℕ) (o : Option ℕ) → sleep_left until o ≡ want.Resume place → T
    at_order until None e = cc
    at_order until (Some n) e = cc

    at_state : (s : State) → l.state ≡ s → elim s as (λ x. Want) [ Asking ↦ first_idle l.attempts l.ready | BackingOff until order polls ↦ sleep_left until order | Decided answer at ↦ want.Tell ] ≡ want.Resume place
        → (l.state ≡ Asking) × (position is_idle l.attempts ≡ Some place)
    at_state Asking is e = (is, at_idle (position is_idle l.attempts) e)
    at_state (BackingOff until order polls) is e = at_order until order e
    at_state (Decided answer at) is e = cc

-- and the first server of its round is asked only there
pub begin_asks : (l : LookupState) (c : PoolServer) → want_of l ≡ want.Begin c → (l.state ≡ Asking) × ((rest : List PoolServer) × (l.ready ≡ c ∷ rest))
begin_asks l c h = at_state l.state refl h
  where
    at_ready : (cs : List PoolServer) → first_ready cs ≡ want.Begin c → (rest : List PoolServer) × (cs ≡ c ∷ rest)
    at_ready [] e = cc
    at_ready (d ∷ ds) e = let same : d ≡ c = cc in (ds, ap (λ (x : PoolServer). x ∷ ds) same)

    at_idle : (o : Option ℕ) → elim o as (λ x. Want) [ None ↦ first_ready l.ready | Some p ↦ want.Resume p ] ≡ want.Begin c → (rest : List PoolServer) × (l.ready ≡ c ∷ rest)
    at_idle None e = at_ready l.ready e
    at_idle (Some p) e = cc

    at_order : {T : Type 0} (until : ℕ) (o : Option ℕ) → sleep_left until o ≡ want.Begin c → T
    at_order until None e = cc
    at_order until (Some n) e = cc

    at_state : (s : State) → l.state ≡ s → elim s as (λ x. Want) [ Asking ↦ first_idle l.attempts l.ready | BackingOff until order polls ↦ sleep_left until order | Decided answer at ↦ want.Tell ] ≡ want.Begin c
        → (l.state ≡ Asking) × ((rest : List PoolServer) × (l.ready ≡ c ∷ rest))
    at_state Asking is e = (is, at_idle (position is_idle l.attempts) e)
    at_state (BackingOff until order polls) is e = at_order until order e
    at_state (Decided answer at) is e = cc

-- it tells its answer only where it has one
pub tell_decided : {T : Type 0} (l : LookupState) → want_of l ≡ want.Tell → (l.state ≡ Asking → T) × ((until : ℕ) (order : Option ℕ) (polls : ℕ) → l.state ≡ BackingOff until order polls → T)
tell_decided {T} l h = (asking, resting)
  where
    at_ready : (cs : List PoolServer) → first_ready cs ≡ want.Tell → T
    at_ready [] e = cc
    at_ready (d ∷ ds) e = cc

    at_idle : (o : Option ℕ) → elim o as (λ x. Want) [ None ↦ first_ready l.ready | Some p ↦ want.Resume p ] ≡ want.Tell → T
    at_idle None e = at_ready l.ready e
    at_idle (Some p) e = cc

    at_order : (until : ℕ) (o : Option ℕ) → sleep_left until o ≡ want.Tell → T
    at_order until None e = cc
    at_order until (Some n) e = cc

    asking : l.state ≡ Asking → T
    asking is = at_idle (position is_idle l.attempts) (sym (ap (λ (s : State). elim s as (λ x. Want) [ Asking ↦ first_idle l.attempts l.ready | BackingOff until order polls ↦ sleep_left until order | Decided answer at ↦ want.Tell ]) is) ∙ h)

    resting : (until : ℕ) (order : Option ℕ) (polls : ℕ) → l.state ≡ BackingOff until order polls → T
    resting until order polls is = at_order until order (sym (ap (λ (s : State). elim s as (λ x. Want) [ Asking ↦ first_idle l.attempts l.ready | BackingOff until order polls ↦ sleep_left until order | Decided answer at ↦ want.Tell ]) is) ∙ h)

-- ---- an order can be given

reached_under : (denied : IpAddr → Bool) (heard : List HeardEnd) (l : LookupState) (table : List Server) (c : PoolServer) → HoldsBy denied heard l → l.state ≡ Asking → AreReached table l → Has (under_way l) c → IsReached table c
reached_under denied heard l table c h asks all has =
    let of_pool = under_from_pool (question_of l) l.timeout l.servers (ends_of heard) (under_way l) l.queue c (asks_so denied heard l asks h).0 has in
    all_has (IsReached table) l.servers c all (Has-from_Contains l.servers c of_pool)

can_give : (request : DnsRequest) (table : List Server) (a : Attempt) → GoesTo request a → is_idle a ≡ true → IsReached table a.candidate → CanGive table a
can_give request table a g idle r = record {
  on = g.on;
  idle = idle;
  server = r.server;
  there = ap (server_of table) g.server ∙ r.there;
  over = r.over a.send.policy.disable_udp g.allowed;
}

pub can_resume : (l : LookupState) (table : List Server) (place : ℕ) (a : Attempt) → IsSound l → AreReached table l → want_of l ≡ want.Resume place → slice_get l.attempts place ≡ Some a → CanGive table a
can_resume l table place a sound all h there =
    let asks = resume_asks l place h in
    let found = found_at is_idle l.attempts place asks.1 in
    let same : found.0 ≡ a = some_same (sym found.1 ∙ there) in
    let idle : is_idle a ≡ true = subst (λ (x : Attempt). is_idle x ≡ true) same found.2 in
    can_give l.request table a (all_get (GoesTo l.request) l.attempts place a sound.1.1.keeps.going there) idle
    (reached_under sound.0 sound.1.0 l table a.candidate sound.1.1 asks.0 all (picked_has (λ (x : Attempt). x.candidate) l.attempts place a l.ready there))

first_has : (l : LookupState) (c : PoolServer) (rest : List PoolServer) → l.ready ≡ c ∷ rest → Has (under_way l) c
first_has l c rest first = subst (λ (cs : List PoolServer). Has (map (λ (a : Attempt). a.candidate) l.attempts ++ cs) c) (sym first) (Has-append_right (map (λ (a : Attempt). a.candidate) l.attempts) (c ∷ rest) c (inl refl))

pub can_ask_first : (l : LookupState) (table : List Server) (c : PoolServer) → IsSound l → AreReached table l → want_of l ≡ want.Begin c → CanGive table (beginning l c)
can_ask_first l table c sound all h =
    let asks = begin_asks l c h in
    can_give l.request table (beginning l c) (beginning_goes sound.1.0 l c asks.1.0 asks.1.1 sound.1.1.keeps) refl
    (reached_under sound.0 sound.1.0 l table c sound.1.1 asks.0 all (first_has l c asks.1.0 asks.1.1))

pub can_within : (table : List Server) (a : Attempt) → CanGive table a → place_of a.send.server < length table
can_within table a can = slice_get_within table (place_of a.send.server) can.server can.there

-- the step of its send gives an order
pub given_order : (number now : ℕ) (table : List Server) (a : Attempt) (can : CanGive table a) (out : SendStep) (next : Stage) → StepIs a.send a.send.stage number now can.server out next → (order : Order) × (out ≡ made.Order order)
given_order number now table a can out next is = gives_order a.send a.send.stage number now can.server out next can.on (idle_closed (is_open a.send.stage) can.idle) can.over is
  where
    idle_closed : (b : Bool) → not b ≡ true → b ≡ false
    idle_closed true h = cc
    idle_closed false h = refl

-- ---- an attempt can end

pub can_end : (l : LookupState) (place : ℕ) (a : Attempt) → IsSound l → l.state ≡ Asking → slice_get l.attempts place ≡ Some a → CanEnd place l
can_end l place a sound asks there =
    let h = sound.1.1 in
    let k = h.keeps in
    let st = (asks_so sound.0 sound.1.0 l asks h).0 in
    let one = length_remove l.attempts place a there in
    let round = k.round in
    let sends = k.sends in
    record {
      there = slice_get_within l.attempts place a there;
      asks = λ b at. (all_get (GoesTo l.request) l.attempts place b k.going at).asks;
      round = omega (arith, one, round);
      sends = omega (arith, one, sends);
      room =
          room_to_hear (question_of l) l.timeout l.servers (ends_of sound.1.0) a.candidate (under_way (closed place a.candidate.server 0 l)) l.queue
          (first_under sound.0 l sound.1.0 h asks place a there 0) k.places;
      places = k.places;
      few = st.few;
      some = k.some;
    }

-- and can where it was written
pub can_end_written : (l : LookupState) (place : ℕ) (a b : Attempt) → slice_get l.attempts place ≡ Some a → b.send.request ≡ l.request → CanEnd place l → CanEnd place (record l { attempts = slice_set l.attempts place b })
can_end_written l place a b there asks c =
    let count = length-set l.attempts place b in
    let within = c.there in
    record {
      there = omega (arith, count, within);
      asks = λ x at. let same : b ≡ x = some_same (sym (get_set l.attempts place a b there) ∙ at) in ap (λ (y : Attempt). y.send.request) (sym same) ∙ asks;
      round = c.round;
      sends = c.sends;
      room = c.room;
      places = c.places;
      few = c.few;
      some = c.some;
    }

-- what is closed does not tell what was written there
pub closed_written : (place server entry : ℕ) (l : LookupState) (b : Attempt) → closed place server entry (record l { attempts = slice_set l.attempts place b }) ≡ closed place server entry l
closed_written place server entry l b =
    ap (λ (xs : List Attempt). record l { attempts = xs; ended = l.ended ++ server ∷ []; closed_by = l.closed_by ++ entry ∷ [] }) (remove_set l.attempts place b)

-- ---- a round can begin

pub can_begin : (l : LookupState) → IsSound l → is_over l ≡ true → CanBegin l
can_begin l sound over =
    let h = sound.1.1 in
    let st = (asks_so sound.0 sound.1.0 l (over_asks l over) h).0 in
    let size = st.size in
    record { few = st.few; some = h.keeps.some; waiting = omega (arith, size) }

pub can_wake : (l : LookupState) (until : ℕ) (order : Option ℕ) (polls : ℕ) → IsSound l → l.state ≡ BackingOff until order polls → CanWake l
can_wake l until order polls sound is =
    let h = sound.1.1 in
    let r : IsResting sound.1.0 until l = subst (λ (s : State). IsAt sound.0 sound.1.0 s l) is h.at in
    let size = r.going.size in
    record {
      few = ltb-true l.queue.sleeps 4 (both (not (length l.queue.busy == 0)) (nat_lt l.queue.sleeps 4) r.again).1;
      none = r.waiting;
      some = h.keeps.some;
      busy = omega (arith, size);
    }

-- a round that is over has no server left
pub over_ready : (l : LookupState) → is_over l ≡ true → l.ready ≡ []
over_ready l over = empty_is l.ready (both (is_asking l.state) (is_empty l.ready) (both (is_asking l.state && is_empty l.ready) (is_empty l.attempts) over).0).1

pub spent_over : (l : LookupState) → is_spent l ≡ true → is_over l ≡ true
spent_over l spent =
    let none = not (list_any (may_ask l.queue.udp_off) l.queue.waiting) in
    (both (is_over l) none (both (is_over l && none) (not (may_sleep l.queue)) spent).0).0

-- once it has woken
pub woken_begins : (l : LookupState) → CanWake l → CanBegin (record l { queue = asked_again l.queue; state = Asking })
woken_begins l w = let few = w.few in record { few = omega (arith, few); some = w.some; waiting = w.busy }

-- the first round can
pub fresh_begins : (request : DnsRequest) (servers : List PoolServer) (concurrency timeout now : ℕ) → 1 ≤ concurrency → CanBegin (fresh request servers concurrency timeout now)
fresh_begins request servers concurrency timeout now some = record { few = omega arith; some = some; waiting = omega arith }

-- the server of an attempt in flight is there
pub can_put : (l : LookupState) (table : List Server) (place : ℕ) (a : Attempt) → IsSound l → l.state ≡ Asking → AreReached table l → slice_get l.attempts place ≡ Some a → place_of a.send.server < length table
can_put l table place a sound asks all there =
    let g = all_get (GoesTo l.request) l.attempts place a sound.1.1.keeps.going there in
    let r = reached_under sound.0 sound.1.0 l table a.candidate sound.1.1 asks all (picked_has (λ (x : Attempt). x.candidate) l.attempts place a l.ready there) in
    slice_get_within table (place_of a.send.server) r.server (ap (server_of table) g.server ∙ r.there)
