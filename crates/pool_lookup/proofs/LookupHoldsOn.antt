-- What is true of a lookup stays true at each step.
use Rattle.std.proofs.Common.{◌≡◌, ◌∙◌, ℕ, ◌+◌, ◌-◌, ◌≤◌, ◌<◌, ◌^◌, min, Bool, true, false, not, cond, ◌==◌, ◌&&◌, ◌||◌, List, [], ◌∷◌, ◌++◌, map, find, length, slice_get, Option, Some, None, Err, inl, inr, refl, ap, sym, subst, arith, length-append, nat_lt, if◌then◌else◌}
use Rattle.std.specs.Prelude.{nat_le, IsTrue, Contains, slice_set}
use Rattle.std.specs.List.{list_any, position, remove}
use Rattle.std.proofs.lemmas.Bool.{leb-true, ltb-true, eqb-true, eq-eqb}
use Rattle.std.proofs.lemmas.List.{length-map, map-append, length-set}
use Rattle.std.specs.declared.net.ip_addr.IpAddr.{IpAddr}
use Rattle.dns_core.specs.declared.request.DnsRequest.{DnsRequest}
use Rattle.dns_core.specs.declared.net_error.NetError.TheVariants.{Timeout, NoMemory}
use Rattle.resolution.specs.Lookups.{Answered, End, PoolRun, IsBounded, is_busy}
use Rattle.resolution.specs.declared.class.Class.{Class}
use Rattle.server_core.specs.Sending.{come_to}
use Rattle.server_core.specs.declared.orders.order.Outcome.{Outcome}
use Rattle.server_core.specs.declared.orders.order.Tick.{Tick}
use Rattle.pool_rules.specs.RetryQueue.{QueueState, QueueStands, StandsAfter, may_ask, may_sleep, sleep_time, rules_of, class_of_sent, hearing_of, after_end as plan_end, ending_of, end_at}
use Rattle.pool_rules.specs.KeptError.{kept_after}
use Rattle.pool_rules.specs.declared.pool_server.PoolServer.{PoolServer}
use Rattle.pool_rules.specs.declared.pool_server.OnError.{OnError}
use Rattle.pool_rules.specs.declared.pool_server.OnError.TheVariants.{FallBackToTcp, NextServer, Final}
use Rattle.pool_rules.specs.declared.pool_server.Heard.{Heard}
use Rattle.pool_rules.specs.declared.pool_server.Heard.TheVariants.{Continue, Concluded}
use Rattle.pool_rules.proofs.QueueAfterEnd.{same_self, stands_heard, woken, all_spent}
use Rattle.pool_rules.proofs.AnyOrderOfSends.{stands_moved, picked_first}
use Rattle.pool_rules.proofs.LookupEnds.{stands_begun, pool_late}
use Rattle.pool_lookup.specs.declared.attempt.Attempt.{Attempt}
use Rattle.pool_lookup.specs.declared.lookup.State.{State}
use Rattle.pool_lookup.specs.declared.lookup.State.TheVariants.{Asking, BackingOff, Decided}
use Rattle.pool_lookup.specs.Attempts.{GoesTo, is_open_at}
use Rattle.pool_lookup.specs.Backoff.{is_order, goes_on, asked_again, after_sleep, woken as awake}
use Rattle.pool_lookup.specs.Hearing.{left_of, closed, concluded, heard, closing_entry, end_by, after_end, after_coming, after_attempt, after_outcome, run_out, run_out_at, after_out_of_memory}
use Rattle.pool_lookup.specs.Holds.{HeardEnd, ends_of, IsGoing, IsResting, IsRun, IsAt, Keeps, HoldsBy, Holds}
use Rattle.pool_lookup.specs.Lists.{is_empty}
use Rattle.pool_lookup.specs.Lookup.{LookupState, fresh, question_of, deadline, under_way, is_asking, decided}
use Rattle.pool_lookup.specs.Running.{with_end, with_end_of, heard_after, heard_out}
use Rattle.pool_lookup.specs.Rounds.{begun, with_round, backs_off_until, given_up, paused, dealt_out, round_begun, is_over, is_spent, started, settled}
use Rattle.pool_lookup.proofs.QueueStandsByLists.{dealt_stands, under_from_pool, busy_some, few_made, none_dealt_left, same_append, picked_has, bounded_more}
use Rattle.pool_lookup.proofs.ListFacts.{empty_is, some_is, both, never_empty, all_push, all_get, all_set, all_remove, set_same, length_remove, taken_pass}
use Rattle.pool_lookup.proofs.FirstAndItsPlace.{found_none, found_there}
use Rattle.pool_lookup.proofs.AttemptByOutcome.{come_goes}

-- every attempt of its round has ended, or it has not begun
pub record IsDue (now : ℕ) (ends : List HeardEnd) (l : LookupState) : Type 0 where
  pub asks : l.state ≡ Asking
  pub going : IsGoing ends l
  pub keeps : Keeps ends l
  pub attempts : l.attempts ≡ []
  pub ready : l.ready ≡ []
  -- the first round begins with the lookup
  pub first : ends ≡ [] → now ≡ l.start

-- what an end leaves, by what comes of it
abbrev after_end_by : OnError → PoolServer → Class → QueueState → QueueState
after_end_by d s c p = elim d [
  | FallBackToTcp ↦ record p { waiting = s ∷ p.waiting; udp_off = true; kept = kept_after p.kept c }
  | NextServer ↦ record p { busy = if is_busy c then p.busy ++ s ∷ [] else p.busy; kept = kept_after p.kept c }
  | Final ↦ p
]

-- an end leaves as many places as there were
most_by : (d : OnError) (s : PoolServer) (c : Class) (p : QueueState) → (after_end_by d s c p).most ≡ p.most
most_by FallBackToTcp s c p = refl
most_by NextServer s c p = refl
most_by Final s c p = refl

-- it asks its busy servers again
abbrev awoken : LookupState → LookupState
awoken l = record l { queue = asked_again l.queue; state = Asking }

within : (a d m : ℕ) → min (min a d) m ≤ d
within a d m = omega arith

asking_is : (s : State) → is_asking s ≡ true → s ≡ Asking
asking_is Asking h = refl
asking_is (BackingOff until order polls) h = cc
asking_is (Decided answer at) h = cc

-- a round that is due is one of a lookup that asks
pub over_asks : (l : LookupState) → is_over l ≡ true → l.state ≡ Asking
over_asks l over = asking_is l.state (both (is_asking l.state) (is_empty l.ready) (both (is_asking l.state && is_empty l.ready) (is_empty l.attempts) over).0).0

-- ---- it goes on, or a step answered it

module _ (denied : IpAddr → Bool) where
  pub goes : (ends : List HeardEnd) (l : LookupState) → l.state ≡ Asking → IsGoing ends l → (ends ≡ [] → 0 < length (under_way l)) → Keeps ends l → HoldsBy denied ends l
  goes ends l is g s k = record { at = subst (λ (x : State). IsAt denied ends x l) (sym is) (g, s); keeps = k }

  answered : (ends : List HeardEnd) (answer : Answered) (now : ℕ) (l : LookupState) → IsRun denied ends answer now l → Keeps ends l → HoldsBy denied ends (decided answer now l)
  answered ends answer now l r k = record { at = inl (record { whole = r.whole; run = r.run; left = r.left }); keeps = k }

  -- what is true of it while it asks
  pub asks_so : (ends : List HeardEnd) (l : LookupState) → l.state ≡ Asking → HoldsBy denied ends l → IsGoing ends l × (ends ≡ [] → 0 < length (under_way l))
  asks_so ends l is h = subst (λ (x : State). IsAt denied ends x l) is h.at

  -- ---- a round begins

  -- it is late only after an end, or without time
  some_or_none : (timeout start now : ℕ) (xs : List HeardEnd) → (xs ≡ [] → now ≡ start) → start + timeout ≤ now → IsTrue (not (length (ends_of xs) == 0) || timeout == 0)
  some_or_none timeout start now [] f late = let at : now ≡ start = f refl in let none : timeout ≡ 0 = omega arith in eq-eqb timeout 0 none
  some_or_none timeout start now (x ∷ xs) f late = at_test (length (ends_of (x ∷ xs)) == 0) refl
    where
      at_test : (b : Bool) → (length (ends_of (x ∷ xs)) == 0) ≡ b → IsTrue (not b || timeout == 0)
      at_test true e = let z : length (ends_of (x ∷ xs)) ≡ 0 = eqb-true (length (ends_of (x ∷ xs))) 0 e in absurd (omega (arith, z))
      at_test false e = refl

  -- with the round that it deals
  module _ (now : ℕ) (ends : List HeardEnd) (l : LookupState) (due : IsDue now ends l) where
    none_under : under_way l ≡ []
    none_under = ap (λ (xs : List Attempt). map (λ (a : Attempt). a.candidate) xs ++ l.ready) due.attempts ∙ due.ready

    alone : QueueStands (question_of l) l.timeout l.servers (ends_of ends) [] l.queue
    alone = subst (λ (us : List PoolServer). QueueStands (question_of l) l.timeout l.servers (ends_of ends) us l.queue) none_under due.going

    round_going : IsGoing ends (with_round now l)
    round_going =
        subst (λ (xs : List Attempt). IsGoing ends (record (with_round now l) { attempts = xs })) (sym due.attempts)
        (dealt_stands (question_of l) l.timeout l.servers (ends_of ends) l.concurrency [] l.queue alone)

    round_keeps : Keeps ends (with_round now l)
    round_keeps =
        let k = due.keeps in
        let g = round_going in
        let few = few_made (question_of l) l.timeout l.servers (ends_of ends) (under_way (with_round now l)) (with_round now l).queue g in
        let size = g.size in
        let ups : length (under_way (with_round now l)) ≡ length l.attempts + length (with_round now l).ready =
        length-append (map (λ (a : Attempt). a.candidate) l.attempts) (with_round now l).ready ∙ ap (λ (n : ℕ). n + length (with_round now l).ready) (length-map l.attempts (λ (a : Attempt). a.candidate)) in
        let listed : length l.closed_by ≡ length ends = ap length k.entries ∙ length-map ends (λ (h : HeardEnd). h.by) in
        let ended : length (ends_of ends) ≡ length ends = length-map ends (λ (h : HeardEnd). h.end) in
        record {
          entries = k.entries;
          from_pool = k.from_pool;
          each = k.each;
          going = k.going;
          allowed = taken_pass (may_ask l.queue.udp_off) l.concurrency l.queue.waiting;
          some = k.some;
          places = k.places;
          round = omega (arith, size, ups);
          sends = omega (arith, few, ups, listed, ended);
        }

    -- where it has no server, it backs off, or gives up
    round_paused : (with_round now l).ready ≡ [] → HoldsBy denied ends (paused now (with_round now l))
    round_paused none = at_sleep (may_sleep (with_round now l).queue) refl
      where
        left : (with_round now l).queue.waiting ≡ []
        left = none_dealt_left l.concurrency (may_ask l.queue.udp_off) l.queue.waiting due.keeps.some none

        at_sleep : (b : Bool) → may_sleep (with_round now l).queue ≡ b
            → HoldsBy denied ends (cond b (record (with_round now l) { state = BackingOff (backs_off_until now (with_round now l)) None 0 }) (given_up now (with_round now l)))
        at_sleep true may = record {
          at = record {
            going = round_going;
            attempts = due.attempts;
            ready = none;
            waiting = left;
            again = may;
            some = λ e. busy_some (question_of l) l.timeout l.servers (ends_of ends) (under_way (with_round now l)) (with_round now l).queue round_going may (ap ends_of e);
            in_time = within (now + sleep_time (with_round now l).queue.sleeps) (deadline l) (2 ^ 64 - 1);
          };
          keeps = round_keeps;
        }
        at_sleep false may = record {
          at = inl (record {
            whole = Err (with_round now l).queue.kept;
            run =
                all_spent (question_of l) l.timeout l.start now l.servers (ends_of ends) (with_round now l).queue (with_round now l).queue.kept left may refl
                (subst (λ (us : List PoolServer). QueueStands (question_of l) l.timeout l.servers (ends_of ends) us (with_round now l).queue) (ap (λ (xs : List Attempt). map (λ (a : Attempt). a.candidate) xs ++ (with_round now l).ready) due.attempts ∙ none) round_going);
            left = refl;
          });
          keeps = round_keeps;
        }

    round_dealt : (b : Bool) → is_empty (with_round now l).ready ≡ b → HoldsBy denied ends (cond b (paused now (with_round now l)) (with_round now l))
    round_dealt true none = round_paused (empty_is (with_round now l).ready none)
    round_dealt false some =
        goes ends (with_round now l) due.asks round_going
        (λ e.
        let one = some_is (with_round now l).ready some in
        let ups = length-append (map (λ (a : Attempt). a.candidate) l.attempts) (with_round now l).ready in
        omega (arith, one, ups))
        round_keeps

    pub holds_round : HoldsBy denied ends (round_begun now l)
    holds_round = in_time (nat_le (deadline l) now) refl
      where
        in_time : (b : Bool) → nat_le (deadline l) now ≡ b → HoldsBy denied ends (cond b (decided (Err Timeout) now l) (dealt_out now (with_round now l)))
        in_time true h =
            let late : l.start + l.timeout ≤ now = leb-true (deadline l) now h in
            let p = l.queue in
            answered ends (Err Timeout) now l
            (record {
              whole = Err Timeout;
              run =
                  pool_late (rules_of l.timeout) (class_of_sent (question_of l)) same_self l.servers (ends_of ends) (under_way l) p.waiting p.busy p.udp_off p.kept p.sleeps l.start now late
                  (some_or_none l.timeout l.start now ends due.first late) due.going;
              left = refl;
            })
            due.keeps
        in_time false h = round_dealt (is_empty (with_round now l).ready) refl

  -- ---- a round that is due

  over_round : (now : ℕ) (ends : List HeardEnd) (l : LookupState) → is_over l ≡ true → HoldsBy denied ends l → HoldsBy denied ends (round_begun now l)
  over_round now ends l over h =
      let two = both (is_asking l.state && is_empty l.ready) (is_empty l.attempts) over in
      let one = both (is_asking l.state) (is_empty l.ready) two.0 in
      let asks : l.state ≡ Asking = over_asks l over in
      let ready : l.ready ≡ [] = empty_is l.ready one.1 in
      let attempts : l.attempts ≡ [] = empty_is l.attempts two.1 in
      let at = asks_so ends l asks h in
      let none : length (under_way l) ≡ 0 = ap length (ap (λ (xs : List Attempt). map (λ (a : Attempt). a.candidate) xs ++ l.ready) attempts ∙ ready) in
      holds_round now ends l
      (record {
        asks = asks;
        going = at.0;
        keeps = h.keeps;
        attempts = attempts;
        ready = ready;
        first = λ e. let some = at.1 e in absurd (omega (arith, some, none));
      })

  pub started_by : (now : ℕ) (ends : List HeardEnd) (l : LookupState) → HoldsBy denied ends l → HoldsBy denied ends (started now l)
  started_by now ends l h = at_over (is_over l) refl
    where
      at_over : (b : Bool) → is_over l ≡ b → HoldsBy denied ends (cond b (round_begun now l) l)
      at_over true over = over_round now ends l over h
      at_over false over = h

  pub settled_by : (now : ℕ) (ends : List HeardEnd) (l : LookupState) → HoldsBy denied ends l → HoldsBy denied ends (settled now l)
  settled_by now ends l h = at_spent (is_spent l) refl
    where
      at_spent : (b : Bool) → is_spent l ≡ b → HoldsBy denied ends (cond b (round_begun now l) l)
      at_spent true spent =
          let none = not (list_any (may_ask l.queue.udp_off) l.queue.waiting) in
          over_round now ends l (both (is_over l) none (both (is_over l && none) (not (may_sleep l.queue)) spent).0).0 h
      at_spent false spent = h

  pub holds_started : (now : ℕ) (l : LookupState) → Holds denied l → Holds denied (started now l)
  holds_started now l h = (h.0, started_by now h.0 l h.1)

  -- ---- a lookup begins

  pub begun_by : (request : DnsRequest) (servers : List PoolServer) (concurrency timeout now : ℕ) → 1 ≤ concurrency → HoldsBy denied [] (begun request servers concurrency timeout now)
  begun_by request servers concurrency timeout now some =
      holds_round now [] (fresh request servers concurrency timeout now)
      (record {
        asks = refl;
        going = stands_begun (rules_of timeout) (class_of_sent request.query) same_self servers;
        keeps = record {
          entries = refl;
          from_pool = tt;
          each = λ s. omega arith;
          going = tt;
          allowed = tt;
          some = some;
          places = refl;
          round = omega arith;
          sends = omega arith;
        };
        attempts = refl;
        ready = refl;
        first = λ e. refl;
      })

  pub holds_begun : (request : DnsRequest) (servers : List PoolServer) (concurrency timeout now : ℕ) → 1 ≤ concurrency → Holds denied (begun request servers concurrency timeout now)
  holds_begun request servers concurrency timeout now some = ([], begun_by request servers concurrency timeout now some)

  -- ---- an attempt has ended

  module _ (l : LookupState) (ends : List HeardEnd) (h : HoldsBy denied ends l) (asks : l.state ≡ Asking) (place : ℕ) (a : Attempt) (there : slice_get l.attempts place ≡ Some a) (entry : ℕ) where
    abbrev now_with : Answered → List HeardEnd
    now_with o = ends ++ record { end = end_at a.candidate o; by = entry } ∷ []

    abbrev after : LookupState
    after = closed place a.candidate.server entry l

    abbrev plan_after : Answered → QueueState
    plan_after o = plan_end a.candidate (class_of_sent (question_of l) o) l.queue

    -- the end stands first among those under way
    pub first_under : QueueStands (question_of l) l.timeout l.servers (ends_of ends) (a.candidate ∷ under_way after) l.queue
    first_under =
        let rules = rules_of l.timeout in
        let p = l.queue in
        let f : Attempt → PoolServer = λ x. x.candidate in
        stands_moved rules (class_of_sent (question_of l)) l.servers (ends_of ends) (under_way l) (a.candidate ∷ under_way after) p.waiting p.busy p.udp_off p.kept p.sleeps
        (same_append rules (map f l.attempts) (f a ∷ map f (remove l.attempts place)) l.ready (picked_first rules f l.attempts place a there)) (asks_so ends l asks h).0

    more_ends : (o : Answered) → ends_of (now_with o) ≡ ends_of ends ++ end_at a.candidate o ∷ []
    more_ends o = map-append (λ (e : HeardEnd). e.end) ends (record { end = end_at a.candidate o; by = entry } ∷ [])

    -- whatever the end, with the plan that it leaves
    keeps_closed : (o : Answered) (p : QueueState) → p.most ≡ l.queue.most → Keeps (now_with o) (record after { queue = p })
    keeps_closed o p most =
        let k = h.keeps in
        let one = length_remove l.attempts place a there in
        let ended = length-append l.ended (a.candidate.server ∷ []) in
        let listed = length-append l.closed_by (entry ∷ []) in
        let round = k.round in
        let sends = k.sends in
        record {
          entries = ap (λ (es : List ℕ). es ++ entry ∷ []) k.entries ∙ sym (map-append (λ (e : HeardEnd). e.by) ends (record { end = end_at a.candidate o; by = entry } ∷ []));
          from_pool =
              all_push (λ (e : HeardEnd). Contains l.servers e.end.server) ends (record { end = end_at a.candidate o; by = entry }) k.from_pool
              (under_from_pool (question_of l) l.timeout l.servers (ends_of ends) (under_way l) l.queue a.candidate (asks_so ends l asks h).0 (picked_has (λ (x : Attempt). x.candidate) l.attempts place a l.ready there));
          each =
              subst (λ (es : List (End PoolServer)). IsBounded (rules_of l.timeout) (class_of_sent (question_of l)) l.servers es) (sym (more_ends o))
              (bounded_more (question_of l) l.timeout l.servers (ends_of ends) a.candidate (under_way after) l.queue o first_under);
          going = all_remove (GoesTo l.request) l.attempts place k.going;
          allowed = k.allowed;
          some = k.some;
          places = most ∙ k.places;
          round = omega (arith, one, ended, round);
          sends = omega (arith, one, listed, sends);
        }

    -- its end is heard
    heard_by : (o : Answered) (now : ℕ) → HoldsBy denied (now_with o) (heard denied a.candidate o now after)
    heard_by o now =
        at_hearing (hearing_of a.candidate (class_of_sent (question_of l) o) l.queue)
        (stands_heard (question_of l) l.timeout l.servers (ends_of ends) (under_way after) a.candidate o l.queue first_under l.start now (plan_after o) (hearing_of a.candidate (class_of_sent (question_of l) o) l.queue) refl refl)
      where
        most : (plan_after o).most ≡ l.queue.most
        most = most_by (ending_of l.queue.udp_off a.candidate.trusted (class_of_sent (question_of l) o)) a.candidate (class_of_sent (question_of l) o) l.queue

        at_hearing : (x : Heard) → StandsAfter (question_of l) l.timeout l.start now l.servers (ends_of ends) (under_way after) a.candidate o (plan_after o) x
            → HoldsBy denied (now_with o) (concluded denied x now (record after { queue = plan_after o }))
        at_hearing Continue st =
            goes (now_with o) (record after { queue = plan_after o }) asks
            (subst (λ (es : List (End PoolServer)). QueueStands (question_of l) l.timeout l.servers es (under_way after) (plan_after o)) (sym (more_ends o)) st)
            (λ none. absurd (never_empty ends (record { end = end_at a.candidate o; by = entry }) none))
            (keeps_closed o (plan_after o) most)
        at_hearing (Concluded answer) st =
            answered (now_with o) (left_of (question_of l) denied answer) now (record after { queue = plan_after o })
            (record {
              whole = answer;
              run = subst (λ (es : List (End PoolServer)). PoolRun (rules_of l.timeout) (class_of_sent (question_of l)) l.servers es answer l.start now) (sym (more_ends o)) st;
              left = refl;
            })
            (keeps_closed o (plan_after o) most)

    -- out of memory
    pub run_out_by : (now : ℕ) → HoldsBy denied (now_with (Err NoMemory)) (run_out place a.candidate.server entry now l)
    run_out_by now = record { at = inr refl; keeps = keeps_closed (Err NoMemory) l.queue refl }

  -- ---- an attempt is written

  pub keeps_written : (ends : List HeardEnd) (l : LookupState) (place : ℕ) (a next : Attempt) → slice_get l.attempts place ≡ Some a → GoesTo l.request next → Keeps ends l → Keeps ends (record l { attempts = slice_set l.attempts place next })
  keeps_written ends l place a next there g k =
      let same = length-set l.attempts place next in
      let round = k.round in
      let sends = k.sends in
      record {
        entries = k.entries;
        from_pool = k.from_pool;
        each = k.each;
        going = all_set (GoesTo l.request) l.attempts place next k.going g;
        allowed = k.allowed;
        some = k.some;
        places = k.places;
        round = omega (arith, same, round);
        sends = omega (arith, same, sends);
      }

  pub written_by : (ends : List HeardEnd) (l : LookupState) (place : ℕ) (a next : Attempt) → slice_get l.attempts place ≡ Some a → next.candidate ≡ a.candidate → GoesTo l.request next → l.state ≡ Asking → HoldsBy denied ends l
      → HoldsBy denied ends (record l { attempts = slice_set l.attempts place next })
  written_by ends l place a next there same g asks h =
      let ups : under_way (record l { attempts = slice_set l.attempts place next }) ≡ under_way l =
      ap (λ (cs : List PoolServer). cs ++ l.ready) (set_same (λ (x : Attempt). x.candidate) l.attempts place a next there same) in
      let at = asks_so ends l asks h in
      goes ends (record l { attempts = slice_set l.attempts place next }) asks
      (subst (λ (us : List PoolServer). QueueStands (question_of l) l.timeout l.servers (ends_of ends) us l.queue) (sym ups) at.0)
      (λ none. subst (λ (us : List PoolServer). 0 < length us) (sym ups) (at.1 none))
      (keeps_written ends l place a next there g h.keeps)

  -- ---- an outcome is put

  coming_by : (tick : Tick) (place : ℕ) (o : Outcome) (ends : List HeardEnd) (a : Attempt) (l : LookupState) → slice_get l.attempts place ≡ Some a → l.state ≡ Asking → HoldsBy denied ends l
      → HoldsBy denied (with_end_of tick.patience o ends (Some a)) (after_coming denied tick place o a l)
  coming_by tick place o ends a l there asks h = at_end (end_by tick.patience o a) refl
    where
      at_end : (e : Option Answered) → end_by tick.patience o a ≡ e → HoldsBy denied (elim e [ None ↦ ends | Some answered ↦ with_end ends a.candidate answered (closing_entry o) ]) (elim e [
        | None ↦ record l { attempts = slice_set l.attempts place (record a { send = come_to tick.patience o a.send }) }
        | Some end ↦ after_end denied place (closing_entry o) a end tick.now l
      ])
      at_end None none =
          written_by ends l place a (record a { send = come_to tick.patience o a.send }) there refl
          (come_goes l.request tick.patience o a (all_get (GoesTo l.request) l.attempts place a h.keeps.going there) none) asks h
      at_end (Some end) some =
          settled_by tick.now (with_end ends a.candidate end (closing_entry o)) (heard denied a.candidate end tick.now (closed place a.candidate.server (closing_entry o) l))
          (heard_by l ends h asks place a there (closing_entry o) end tick.now)

  pub attempt_by : (tick : Tick) (place : ℕ) (o : Outcome) (ends : List HeardEnd) (l : LookupState) → l.state ≡ Asking → HoldsBy denied ends l
      → HoldsBy denied (with_end_of tick.patience o ends (slice_get l.attempts place)) (after_attempt denied tick place o l)
  attempt_by tick place o ends l asks h = at_place (slice_get l.attempts place) refl
    where
      at_place : (x : Option Attempt) → slice_get l.attempts place ≡ x → HoldsBy denied (with_end_of tick.patience o ends x) (elim x [ None ↦ l | Some a ↦ after_coming denied tick place o a l ])
      at_place None none = h
      at_place (Some a) there = coming_by tick place o ends a l there asks h

  -- only its state differs
  pub rests : (ends : List HeardEnd) (until : ℕ) (l : LookupState) (s : State) → IsResting ends until l → IsResting ends until (record l { state = s })
  rests ends until l s r = record { going = r.going; attempts = r.attempts; ready = r.ready; waiting = r.waiting; again = r.again; some = r.some; in_time = r.in_time }

  awake_by : (now until : ℕ) (ends : List HeardEnd) (l : LookupState) → IsResting ends until l → Keeps ends l → HoldsBy denied ends (awake now l)
  awake_by now until ends l r k = settled_by now ends (awoken l) (goes ends (awoken l) refl going (λ none. absurd (r.some none)) k)
    where
      few : l.queue.sleeps < 4
      few = ltb-true l.queue.sleeps 4 (both (not (length l.queue.busy == 0)) (nat_lt l.queue.sleeps 4) r.again).1

      none : under_way l ≡ []
      none = ap (λ (xs : List Attempt). map (λ (a : Attempt). a.candidate) xs ++ l.ready) r.attempts ∙ r.ready

      going : QueueStands (question_of l) l.timeout l.servers (ends_of ends) (under_way l) (asked_again l.queue)
      going =
          subst (λ (us : List PoolServer). QueueStands (question_of l) l.timeout l.servers (ends_of ends) us (asked_again l.queue)) (sym none)
          (woken (question_of l) l.timeout l.servers (ends_of ends) l.queue (asked_again l.queue) few r.waiting refl
          (subst (λ (us : List PoolServer). QueueStands (question_of l) l.timeout l.servers (ends_of ends) us l.queue) none r.going))

  sleep_by : (tick : Tick) (until : ℕ) (order : Option ℕ) (polls : ℕ) (o : Outcome) (ends : List HeardEnd) (l : LookupState) → l.state ≡ BackingOff until order polls → HoldsBy denied ends l
      → HoldsBy denied ends (after_sleep tick until order polls o l)
  sleep_by tick until order polls o ends l is h = at_poll (goes_on tick.patience polls o)
    where
      r : IsResting ends until l
      r = subst (λ (s : State). IsAt denied ends s l) is h.at

      at_poll : (b : Bool) → HoldsBy denied ends (cond b (record l { state = BackingOff until order (polls + 1) }) (awake tick.now l))
      at_poll true = record { at = rests ends until l (BackingOff until order (polls + 1)) r; keeps = h.keeps }
      at_poll false = awake_by tick.now until ends l r h.keeps

  -- What is true of a lookup by its ends is true after each outcome, by the ends that are heard then.
  pub outcome_by : (tick : Tick) (number : ℕ) (o : Outcome) (ends : List HeardEnd) (l : LookupState) → HoldsBy denied ends l
      → HoldsBy denied (heard_after tick.patience number o ends l) (after_outcome denied tick number o l)
  outcome_by tick number o ends l h = at_state l.state refl
    where
      at_state : (s : State) → l.state ≡ s → HoldsBy denied (elim s [
        | Asking ↦ with_end_of tick.patience o ends (find (is_open_at number) l.attempts)
        | BackingOff until order polls ↦ ends
        | Decided answer at ↦ ends
      ]) (elim s [
        | Asking ↦ elim (position (is_open_at number) l.attempts) [ None ↦ l | Some place ↦ after_attempt denied tick place o l ]
        | BackingOff until order polls ↦ cond (is_order number order) (after_sleep tick until order polls o l) l
        | Decided answer at ↦ l
      ])
      at_state Asking is = at_place (position (is_open_at number) l.attempts) refl
        where
          at_place : (x : Option ℕ) → position (is_open_at number) l.attempts ≡ x
              → HoldsBy denied (with_end_of tick.patience o ends (find (is_open_at number) l.attempts)) (elim x [ None ↦ l | Some place ↦ after_attempt denied tick place o l ])
          at_place None none = subst (λ (y : Option Attempt). HoldsBy denied (with_end_of tick.patience o ends y) l) (sym (found_none (is_open_at number) l.attempts none)) h
          at_place (Some place) there =
              subst (λ (y : Option Attempt). HoldsBy denied (with_end_of tick.patience o ends y) (after_attempt denied tick place o l)) (sym (found_there (is_open_at number) l.attempts place there))
              (attempt_by tick place o ends l is h)
      at_state (BackingOff until order polls) is = at_order (is_order number order)
        where
          at_order : (b : Bool) → HoldsBy denied ends (cond b (after_sleep tick until order polls o l) l)
          at_order true = sleep_by tick until order polls o ends l is h
          at_order false = h
      at_state (Decided answer at) is = h

  pub holds_outcome : (tick : Tick) (number : ℕ) (o : Outcome) (l : LookupState) → Holds denied l → Holds denied (after_outcome denied tick number o l)
  holds_outcome tick number o l h = (heard_after tick.patience number o h.0 l, outcome_by tick number o h.0 l h.1)

  -- And where memory ran out for its message.
  pub out_of_memory_by : (number now : ℕ) (o : Outcome) (ends : List HeardEnd) (l : LookupState) → l.state ≡ Asking → HoldsBy denied ends l
      → HoldsBy denied (heard_out number o ends l) (after_out_of_memory number now o l)
  out_of_memory_by number now o ends l asks h = at_place (position (is_open_at number) l.attempts) refl
    where
      at_attempt : (place : ℕ) (x : Option Attempt) → slice_get l.attempts place ≡ x
          → HoldsBy denied (elim x [ None ↦ ends | Some a ↦ with_end ends a.candidate (Err NoMemory) (closing_entry o) ]) (elim x [ None ↦ l | Some a ↦ run_out place a.candidate.server (closing_entry o) now l ])
      at_attempt place None none = h
      at_attempt place (Some a) there = run_out_by l ends h asks place a there (closing_entry o) now

      at_place : (x : Option ℕ) → position (is_open_at number) l.attempts ≡ x
          → HoldsBy denied (elim (find (is_open_at number) l.attempts) [ None ↦ ends | Some a ↦ with_end ends a.candidate (Err NoMemory) (closing_entry o) ]) (elim x [ None ↦ l | Some place ↦ run_out_at place now o l ])
      at_place None none =
          subst (λ (y : Option Attempt). HoldsBy denied (elim y as (λ _. List HeardEnd) [ None ↦ ends | Some a ↦ with_end ends a.candidate (Err NoMemory) (closing_entry o) ]) l) (sym (found_none (is_open_at number) l.attempts none)) h
      at_place (Some place) there =
          subst (λ (y : Option Attempt). HoldsBy denied (elim y as (λ _. List HeardEnd) [ None ↦ ends | Some a ↦ with_end ends a.candidate (Err NoMemory) (closing_entry o) ]) (run_out_at place now o l)) (sym (found_there (is_open_at number) l.attempts place there))
          (at_attempt place (slice_get l.attempts place) refl)

  pub holds_out_of_memory : (number now : ℕ) (o : Outcome) (l : LookupState) → l.state ≡ Asking → Holds denied l → Holds denied (after_out_of_memory number now o l)
  holds_out_of_memory number now o l asks h = (heard_out number o h.0 l, out_of_memory_by number now o h.0 l asks h.1)
