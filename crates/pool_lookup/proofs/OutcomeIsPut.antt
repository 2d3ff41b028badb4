-- What an outcome that was put leaves.
use Rattle.std.proofs.Common.{◌≡◌, ◌∙◌, ℕ, ◌+◌, ◌≤◌, Bool, true, Result, Ok, Err, List, [], ◌∷◌, ◌++◌, length, slice_get, find, Option, Some, None, refl, ap, sym, subst, arith, if◌then◌else◌}
use Rattle.std.specs.Prelude.{slice_set, MatchResult}
use Rattle.std.specs.List.{position}
use Rattle.std.specs.declared.net.ip_addr.IpAddr.{IpAddr}
use Rattle.resolution.specs.Lookups.{Answered, is_busy}
use Rattle.resolution.specs.declared.class.Class.{Class}
use Rattle.server_core.specs.Sending.{end_of, after_end as end_told, after_put, come_to}
use Rattle.server_core.specs.Servers.{Server}
use Rattle.server_core.specs.declared.orders.order.After.{After}
use Rattle.server_core.specs.declared.orders.order.After.TheVariants.{Late}
use Rattle.server_core.specs.declared.orders.order.Outcome.{Outcome}
use Rattle.server_core.specs.declared.orders.order.Tick.{Tick}
use Rattle.server_core.specs.declared.sends.server_send.Stage.{Stage}
use Rattle.server_core.specs.declared.sends.server_send.Stage.TheVariants as stage
use Rattle.pool_rules.specs.RetryQueue.{QueueState, class_of_sent, hearing_of, ending_of, after_end as plan_after}
use Rattle.pool_rules.specs.KeptError.{kept_after}
use Rattle.pool_rules.specs.declared.pool_server.PoolServer.{PoolServer}
use Rattle.pool_rules.specs.declared.pool_server.OnError.{OnError}
use Rattle.pool_rules.specs.declared.pool_server.OnError.TheVariants.{FallBackToTcp, NextServer, Final}
use Rattle.pool_rules.specs.declared.pool_server.Heard.{Heard}
use Rattle.pool_rules.specs.declared.pool_server.Heard.TheVariants.{Continue, Concluded}
use Rattle.pool_lookup.specs.declared.attempt.Attempt.{Attempt}
use Rattle.pool_lookup.specs.declared.attempt.Put.{Put}
use Rattle.pool_lookup.specs.declared.lookup.State.{State}
use Rattle.pool_lookup.specs.declared.lookup.State.TheVariants.{Asking, BackingOff, Decided}
use Rattle.pool_lookup.specs.Attempts.{is_open_at}
use Rattle.pool_lookup.specs.Backoff.{is_order, after_backoff, after_sleep}
use Rattle.pool_lookup.specs.Cancelling.{ends_by_message, cancelled_table, ended_table, ended_at, heard_table, table_after, table_put, table_heard}
use Rattle.pool_lookup.specs.Hearing.{CanEnd, closed, concluded, heard, closing_entry, end_by, after_end, after_close, put_in, IsPutAt, after_coming, after_attempt, after_outcome, done_by, run_out, run_out_at, after_out_of_memory, DoesTo, IsAfter, RunsOut}
use Rattle.pool_lookup.specs.Lookup.{LookupState, question_of}
use Rattle.pool_lookup.specs.Rounds.{CanBegin, settled}
use Rattle.pool_lookup.proofs.ListFacts.{get_set}
use Rattle.pool_lookup.proofs.FirstAndItsPlace.{found_there}
pub use Rattle.pool_lookup.proofs.FirstAndItsPlace.{found_none}
use Rattle.pool_lookup.proofs.AttemptByOutcome.{come_stays}
use Rattle.pool_lookup.proofs.StepsCanBeTaken.{closed_written, can_end_written}

-- ---- an end is heard

-- an end leaves at most one more that waits
abbrev plan_by : OnError → PoolServer → Class → QueueState → QueueState
plan_by d s c p = elim d [
  | FallBackToTcp ↦ record p { waiting = s ∷ p.waiting; udp_off = true; kept = kept_after p.kept c }
  | NextServer ↦ record p { busy = if is_busy c then p.busy ++ s ∷ [] else p.busy; kept = kept_after p.kept c }
  | Final ↦ p
]

more_by : (d : OnError) (s : PoolServer) (c : Class) (p : QueueState) → (length (plan_by d s c p).waiting ≤ 1 + length p.waiting) × ((plan_by d s c p).sleeps ≡ p.sleeps)
more_by FallBackToTcp s c p = (omega arith, refl)
more_by NextServer s c p = (omega arith, refl)
more_by Final s c p = (omega arith, refl)

-- what it comes to leaves the rest
concluded_rest : (denied : IpAddr → Bool) (h : Heard) (now : ℕ) (l : LookupState) → ((concluded denied h now l).queue ≡ l.queue) × ((concluded denied h now l).servers ≡ l.servers) × ((concluded denied h now l).concurrency ≡ l.concurrency)
concluded_rest denied Continue now l = (refl, refl, refl)
concluded_rest denied (Concluded a) now l = (refl, refl, refl)

-- a round can begin once it is heard
pub heard_begins : (denied : IpAddr → Bool) (place entry now : ℕ) (c : PoolServer) (o : Answered) (l : LookupState) → CanEnd place l → CanBegin (heard denied c o now (closed place c.server entry l))
heard_begins denied place entry now c o l can =
    let class = class_of_sent (question_of l) o in
    let rest = concluded_rest denied (hearing_of c class l.queue) now (record (closed place c.server entry l) { queue = plan_after c class l.queue }) in
    let more = more_by (ending_of l.queue.udp_off c.trusted class) c class l.queue in
    let room = can.room in
    let places = can.places in
    let few = can.few in
    let some = can.some in
    let waits = ap (λ (p : QueueState). length p.waiting) rest.0 in
    let sleeps = ap (λ (p : QueueState). p.sleeps) rest.0 in
    let servers = ap (λ (cs : List PoolServer). length cs) rest.1 in
    let fewer = more.0 in
    let same = more.1 in
    let beside = rest.2 in
    record { few = omega (arith, sleeps, same, few); some = omega (arith, beside, some); waiting = omega (arith, waits, servers, fewer, room, places) }

-- ---- the attempt was written before it was closed

-- one that has not ended is as it came to be
same_told : (at : Stage) → end_of at ≡ None → end_told at ≡ at
same_told stage.Ready h = refl
same_told (stage.Opening protocol order polls) h = refl
same_told (stage.Opened protocol conn) h = refl
same_told (stage.Asking asked polls) h = refl
same_told (stage.Ended result) h = cc
same_told stage.Over h = refl

put_same : (patience : ℕ) (o : Outcome) (a : Attempt) → end_by patience o a ≡ None → put_in patience o a ≡ record a { send = come_to patience o a.send }
put_same patience o a none = ap (λ (at : Stage). record a { send = record (come_to patience o a.send) { stage = at } }) (same_told (come_to patience o a.send).stage none)

-- by what it came to
pub after_written : (denied : IpAddr → Bool) (tick : Tick) (place : ℕ) (o : Outcome) (a : Attempt) (l : LookupState) → slice_get l.attempts place ≡ Some a
    → after_close denied place (closing_entry o) (put_in tick.patience o a) tick.now (record l { attempts = slice_set l.attempts place (put_in tick.patience o a) }) (end_by tick.patience o a) ≡ after_attempt denied tick place o l
after_written denied tick place o a l there = at_end (end_by tick.patience o a) refl ∙ sym (ap (λ (x : Option Attempt). elim x as (λ _. LookupState) [ None ↦ l | Some b ↦ after_coming denied tick place o b l ]) there)
  where
    at_end : (e : Option Answered) → end_by tick.patience o a ≡ e
        → after_close denied place (closing_entry o) (put_in tick.patience o a) tick.now (record l { attempts = slice_set l.attempts place (put_in tick.patience o a) }) e
        ≡ elim e as (λ _. LookupState) [ None ↦ record l { attempts = slice_set l.attempts place (record a { send = come_to tick.patience o a.send }) } | Some end ↦ after_end denied place (closing_entry o) a end tick.now l ]
    at_end None none = ap (λ (b : Attempt). record l { attempts = slice_set l.attempts place b }) (put_same tick.patience o a none)
    at_end (Some end) some = ap (λ (x : LookupState). settled tick.now (heard denied a.candidate end tick.now x)) (closed_written place a.candidate.server (closing_entry o) l (put_in tick.patience o a))

pub table_written : (tick : Tick) (place : ℕ) (o : Outcome) (a : Attempt) (l : LookupState) (table : List Server) → slice_get l.attempts place ≡ Some a
    → ended_at place (closing_entry o) (put_in tick.patience o a) tick.now (record l { attempts = slice_set l.attempts place (put_in tick.patience o a) }) (end_by tick.patience o a) (heard_table tick o a table) ≡ table_after tick place o l table
table_written tick place o a l table there = at_end (end_by tick.patience o a) ∙ sym (ap (λ (x : Option Attempt). elim x as (λ _. List Server) [ None ↦ table | Some b ↦ ended_at place (closing_entry o) b tick.now l (end_by tick.patience o b) (heard_table tick o b table) ]) there)
  where
    at_end : (e : Option Answered)
        → ended_at place (closing_entry o) (put_in tick.patience o a) tick.now (record l { attempts = slice_set l.attempts place (put_in tick.patience o a) }) e (heard_table tick o a table)
        ≡ ended_at place (closing_entry o) a tick.now l e (heard_table tick o a table)
    at_end None = refl
    at_end (Some end) = ap (λ (x : LookupState). ended_table end tick.now l.queue.udp_off x (heard_table tick o a table)) (closed_written place a.candidate.server (closing_entry o) l (put_in tick.patience o a))

pub run_out_there : (place now : ℕ) (o : Outcome) (a : Attempt) (l : LookupState) → slice_get l.attempts place ≡ Some a → run_out place a.candidate.server (closing_entry o) now l ≡ run_out_at place now o l
run_out_there place now o a l there = sym (ap (λ (x : Option Attempt). elim x as (λ _. LookupState) [ None ↦ l | Some b ↦ run_out place b.candidate.server (closing_entry o) now l ]) there)

-- what the others record
pub won_table : (end : Answered) (now : ℕ) (udp_off out won : Bool) (closed new : LookupState) (table after : List Server) → out ≡ udp_off → won ≡ ends_by_message out end → new ≡ closed
    → after ≡ (if won then cancelled_table now new table else table) → after ≡ ended_table end now udp_off closed table
won_table end now udp_off out won closed new table after same is made h =
    h ∙ ap (λ (b : Bool). if b then cancelled_table now new table else table) (is ∙ ap (λ (x : Bool). ends_by_message x end) same) ∙ ap (λ (l : LookupState). ended_table end now udp_off l table) made

-- ---- the outcome of an attempt in flight

-- the lookup with the attempts that were written
abbrev pub with_attempts : LookupState → List Attempt → LookupState
with_attempts l xs = record l { attempts = xs }

pub put_asks : (patience : ℕ) (o : Outcome) (a : Attempt) → (put_in patience o a).send.request ≡ a.send.request
put_asks patience o a = (come_stays patience o a.send).request

pub put_can : (tick : Tick) (place : ℕ) (o : Outcome) (a : Attempt) (l : LookupState) (put : Put) (xs : List Attempt) (mid : LookupState) → slice_get l.attempts place ≡ Some a → IsPutAt place tick o a l.attempts xs put
    → mid ≡ with_attempts l xs → CanEnd place l → CanEnd place mid
put_can tick place o a l put xs mid there p made can =
    subst (CanEnd place) (sym (made ∙ ap (with_attempts l) p.is))
    (can_end_written l place a (put_in tick.patience o a) there (put_asks tick.patience o a ∙ can.asks a there) can)

pub put_lookup : (denied : IpAddr → Bool) (tick : Tick) (place entry : ℕ) (o : Outcome) (a : Attempt) (l : LookupState) (put : Put) (xs : List Attempt) (mid new : LookupState) → slice_get l.attempts place ≡ Some a
    → IsPutAt place tick o a l.attempts xs put → mid ≡ with_attempts l xs → entry ≡ closing_entry o
    → ((b : Attempt) → slice_get mid.attempts place ≡ Some b → new ≡ after_close denied place entry b tick.now mid put.end) → new ≡ after_attempt denied tick place o l
put_lookup denied tick place entry o a l put xs mid new there p made is f =
    let all = made ∙ ap (with_attempts l) p.is in
    let at : slice_get mid.attempts place ≡ Some (put_in tick.patience o a) = ap (λ (x : LookupState). slice_get x.attempts place) all ∙ get_set l.attempts place a (put_in tick.patience o a) there in
    f (put_in tick.patience o a) at
    ∙ ap (λ (x : LookupState). after_close denied place entry (put_in tick.patience o a) tick.now x put.end) all
    ∙ ap (λ (n : ℕ). after_close denied place n (put_in tick.patience o a) tick.now (with_attempts l (slice_set l.attempts place (put_in tick.patience o a))) put.end) is
    ∙ ap (after_close denied place (closing_entry o) (put_in tick.patience o a) tick.now (with_attempts l (slice_set l.attempts place (put_in tick.patience o a)))) p.end
    ∙ after_written denied tick place o a l there

pub put_table : (tick : Tick) (place entry : ℕ) (o : Outcome) (a : Attempt) (l : LookupState) (put : Put) (xs : List Attempt) (mid : LookupState) (table heard_by new : List Server) → slice_get l.attempts place ≡ Some a
    → IsPutAt place tick o a l.attempts xs put → mid ≡ with_attempts l xs → entry ≡ closing_entry o → heard_by ≡ heard_table tick o a table
    → ((b : Attempt) → slice_get mid.attempts place ≡ Some b → new ≡ ended_at place entry b tick.now mid put.end heard_by) → new ≡ table_after tick place o l table
put_table tick place entry o a l put xs mid table heard_by new there p made is told f =
    let all = made ∙ ap (with_attempts l) p.is in
    let at : slice_get mid.attempts place ≡ Some (put_in tick.patience o a) = ap (λ (x : LookupState). slice_get x.attempts place) all ∙ get_set l.attempts place a (put_in tick.patience o a) there in
    f (put_in tick.patience o a) at
    ∙ ap (λ (x : LookupState). ended_at place entry (put_in tick.patience o a) tick.now x put.end heard_by) all
    ∙ ap (λ (n : ℕ). ended_at place n (put_in tick.patience o a) tick.now (with_attempts l (slice_set l.attempts place (put_in tick.patience o a))) put.end heard_by) is
    ∙ ap (λ (e : Option Answered). ended_at place (closing_entry o) (put_in tick.patience o a) tick.now (with_attempts l (slice_set l.attempts place (put_in tick.patience o a))) e heard_by) p.end
    ∙ ap (ended_at place (closing_entry o) (put_in tick.patience o a) tick.now (with_attempts l (slice_set l.attempts place (put_in tick.patience o a))) (end_by tick.patience o a)) told
    ∙ table_written tick place o a l table there

-- out of memory
pub out_lookup : (tick : Tick) (place entry : ℕ) (o : Outcome) (a : Attempt) (l new : LookupState) → slice_get l.attempts place ≡ Some a → entry ≡ closing_entry o
    → ((b : Attempt) → slice_get l.attempts place ≡ Some b → new ≡ run_out place b.candidate.server entry tick.now l) → new ≡ run_out_at place tick.now o l
out_lookup tick place entry o a l new there is f = f a there ∙ ap (λ (n : ℕ). run_out place a.candidate.server n tick.now l) is ∙ run_out_there place tick.now o a l there

-- ---- by what the lookup is at

abbrev outcome_at : (IpAddr → Bool) → Tick → ℕ → Outcome → LookupState → State → LookupState
outcome_at denied tick number o l s = elim s [
  | Asking ↦ elim (position (is_open_at number) l.attempts) [ None ↦ l | Some place ↦ after_attempt denied tick place o l ]
  | BackingOff until order polls ↦ if is_order number order then after_sleep tick until order polls o l else l
  | Decided answer at ↦ l
]

abbrev table_by : Tick → ℕ → Outcome → LookupState → List Server → State → List Server
table_by tick number o l table s = elim s [
  | Asking ↦ table_put tick (position (is_open_at number) l.attempts) o l table
  | BackingOff until order polls ↦ table
  | Decided answer at ↦ table
]

abbrev done_for : ℕ → ℕ → Outcome → LookupState → State → After
done_for patience number o l s = elim s [
  | Asking ↦ elim (find (is_open_at number) l.attempts) [ None ↦ Late | Some a ↦ after_put patience a.send.stage o ]
  | BackingOff until order polls ↦ if is_order number order then after_backoff patience polls o else Late
  | Decided answer at ↦ Late
]

pub outcome_in : (denied : IpAddr → Bool) (tick : Tick) (number : ℕ) (o : Outcome) (l : LookupState) (s : State) → l.state ≡ s → after_outcome denied tick number o l ≡ outcome_at denied tick number o l s
outcome_in denied tick number o l s is = ap (outcome_at denied tick number o l) is

pub table_in : (tick : Tick) (number : ℕ) (o : Outcome) (l : LookupState) (table : List Server) (s : State) → l.state ≡ s → table_heard tick number o l table ≡ table_by tick number o l table s
table_in tick number o l table s is = ap (table_by tick number o l table) is

pub done_in : (patience number : ℕ) (o : Outcome) (l : LookupState) (s : State) → l.state ≡ s → done_by patience number o l ≡ done_for patience number o l s
done_in patience number o l s is = ap (done_for patience number o l) is

-- the order of its backoff is the one of the number, or another
pub backoff_in : (denied : IpAddr → Bool) (tick : Tick) (number until : ℕ) (order : Option ℕ) (polls : ℕ) (o : Outcome) (l : LookupState) (b : Bool) → l.state ≡ BackingOff until order polls → is_order number order ≡ b
    → (after_outcome denied tick number o l ≡ (if b then after_sleep tick until order polls o l else l)) × (done_by tick.patience number o l ≡ (if b then after_backoff tick.patience polls o else Late))
backoff_in denied tick number until order polls o l b is e = (
  outcome_in denied tick number o l (BackingOff until order polls) is ∙ ap (λ (c : Bool). if c then after_sleep tick until order polls o l else l) e,
  done_in tick.patience number o l (BackingOff until order polls) is ∙ ap (λ (c : Bool). if c then after_backoff tick.patience polls o else Late) e,
)

-- ---- the open order of a number

pub at_number : (denied : IpAddr → Bool) (tick : Tick) (number place : ℕ) (o : Outcome) (l : LookupState) → l.state ≡ Asking → position (is_open_at number) l.attempts ≡ Some place
    → after_outcome denied tick number o l ≡ after_attempt denied tick place o l
at_number denied tick number place o l asks at =
    outcome_in denied tick number o l Asking asks ∙ ap (λ (x : Option ℕ). elim x as (λ _. LookupState) [ None ↦ l | Some place ↦ after_attempt denied tick place o l ]) at

pub at_no_number : (denied : IpAddr → Bool) (tick : Tick) (number : ℕ) (o : Outcome) (l : LookupState) → l.state ≡ Asking → position (is_open_at number) l.attempts ≡ None → after_outcome denied tick number o l ≡ l
at_no_number denied tick number o l asks at =
    outcome_in denied tick number o l Asking asks ∙ ap (λ (x : Option ℕ). elim x as (λ _. LookupState) [ None ↦ l | Some place ↦ after_attempt denied tick place o l ]) at

pub out_at_number : (number place now : ℕ) (o : Outcome) (l : LookupState) → position (is_open_at number) l.attempts ≡ Some place → after_out_of_memory number now o l ≡ run_out_at place now o l
out_at_number number place now o l at = ap (λ (x : Option ℕ). elim x as (λ _. LookupState) [ None ↦ l | Some place ↦ run_out_at place now o l ]) at

pub table_at : (tick : Tick) (number : ℕ) (o : Outcome) (l : LookupState) (table : List Server) (x : Option ℕ) → l.state ≡ Asking → position (is_open_at number) l.attempts ≡ x → table_heard tick number o l table ≡ table_put tick x o l table
table_at tick number o l table x asks at = table_in tick number o l table Asking asks ∙ ap (λ (y : Option ℕ). table_put tick y o l table) at

pub done_at : (patience number : ℕ) (o : Outcome) (l : LookupState) (x : Option Attempt) → l.state ≡ Asking → find (is_open_at number) l.attempts ≡ x
    → done_by patience number o l ≡ elim x as (λ _. After) [ None ↦ Late | Some a ↦ after_put patience a.send.stage o ]
done_at patience number o l x asks at =
    done_in patience number o l Asking asks ∙ ap (λ (y : Option Attempt). elim y as (λ _. After) [ None ↦ Late | Some a ↦ after_put patience a.send.stage o ]) at

-- the one that is found is the one at its place
found_open : {X : Type 0} (p : X → Bool) (xs : List X) (i : ℕ) (x : X) → position p xs ≡ Some i → slice_get xs i ≡ Some x → find p xs ≡ Some x
found_open p xs i x at there = found_there p xs i at ∙ there

pub put_all : {E : Type 0} (r : Result After E) (patience number place : ℕ) (o : Outcome) (a : Attempt) (l : LookupState) → l.state ≡ Asking → position (is_open_at number) l.attempts ≡ Some place → slice_get l.attempts place ≡ Some a
    → DoesTo patience a.send.stage o r → MatchResult r (λ after. after ≡ done_by patience number o l) (λ error. RunsOut number o l)
put_all (Ok after) patience number place o a l asks at there is = is ∙ sym (done_at patience number o l (Some a) asks (found_open (is_open_at number) l.attempts place a at there))
put_all (Err e) patience number place o a l asks at there is = record { asks = asks; place = place; attempt = a; first = at; at = there; reads = is }

pub of_results : {T E X : Type 0} (r : Result T E) (x a b c d : X) → a ≡ b → c ≡ d → IsAfter r b d x → IsAfter r a c x
of_results (Ok t) x a b c d f g h = h ∙ sym f
of_results (Err e) x a b c d f g h = h ∙ sym g
