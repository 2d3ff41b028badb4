-- How the ends of attempts, and the outcomes of their orders, are heard.
use Rattle.std.specs.Prelude.{◌≡◌, ℕ, ◌+◌, ◌-◌, ◌*◌, ◌^◌, ◌≤◌, ◌<◌, min, length, Bool, true, List, [], ◌∷◌, ◌++◌, slice_get, slice_set, find, if◌then◌else◌, Option, Some, None, Result, MatchResult, Ok, Err}
use Rattle.std.specs.List.{position, remove}
use Rattle.std.specs.declared.net.ip_addr.IpAddr.{IpAddr}
use Rattle.dns_core.specs.declared.message.Query.{Query}
use Rattle.dns_core.specs.declared.net_error.NetError.TheVariants.{NoMemory}
use Rattle.resolution.specs.Lookups.{Answered}
use Rattle.server_core.specs.Sending.{come_to, end_of, after_end as end_told, after_put, takes_memory}
use Rattle.server_core.specs.declared.orders.order.After.{After}
use Rattle.server_core.specs.declared.orders.order.After.TheVariants.{Late}
use Rattle.server_core.specs.declared.orders.order.Outcome.{Outcome}
use Rattle.server_core.specs.declared.orders.order.Outcome.TheVariants.{Pending, Connected, Told, Failed, Slept}
use Rattle.server_core.specs.declared.orders.order.Tick.{Tick}
use Rattle.server_core.specs.declared.sends.server_send.Stage.{Stage}
use Rattle.pool_rules.specs.RetryQueue.{HasRoom, class_of_sent, hearing_of, after_end as plan_after}
use Rattle.pool_rules.specs.AnswerFilter.{filtered}
use Rattle.pool_rules.specs.declared.pool_server.PoolServer.{PoolServer}
use Rattle.pool_rules.specs.declared.pool_server.Heard.{Heard}
use Rattle.pool_rules.specs.declared.pool_server.Heard.TheVariants.{Continue, Concluded}
use Rattle.pool_lookup.specs.declared.attempt.Attempt.{Attempt}
use Rattle.pool_lookup.specs.declared.attempt.Put.{Put}
use Rattle.pool_lookup.specs.declared.lookup.State.TheVariants.{Asking, BackingOff, Decided}
use Rattle.pool_lookup.specs.Attempts.{is_open_at}
use Rattle.pool_lookup.specs.Backoff.{is_order, after_backoff, after_sleep}
use Rattle.pool_lookup.specs.Lookup.{LookupState, question_of, decided}
use Rattle.pool_lookup.specs.Rounds.{settled}

-- what is left of an answer: nothing of another class, and no address that is denied
abbrev pub left_of : Query → (IpAddr → Bool) → Answered → Answered
left_of query denied (Ok m) = filtered query denied m
left_of query denied (Err e) = Err e

-- the attempt at a place is over: its server has ended in the round, by this log entry
abbrev pub closed : ℕ → ℕ → ℕ → LookupState → LookupState
closed place server entry l = record l { attempts = remove l.attempts place; ended = l.ended ++ server ∷ []; closed_by = l.closed_by ++ entry ∷ [] }

-- what an end came to decides the lookup, or it goes on
abbrev pub concluded : (IpAddr → Bool) → Heard → ℕ → LookupState → LookupState
concluded denied Continue now l = l
concluded denied (Concluded answer) now l = decided (left_of (question_of l) denied answer) now l

-- an end of an attempt at the server is heard
abbrev pub heard : (IpAddr → Bool) → PoolServer → Answered → ℕ → LookupState → LookupState
heard denied c o now l =
    let class = class_of_sent (question_of l) o in
    concluded denied (hearing_of c class l.queue) now (record l { queue = plan_after c class l.queue })

-- the log entry that closes an attempt: that of its outcome, and where its last poll gives it up that of the give-up, which is the next one
abbrev pub closing_entry : Outcome → ℕ
closing_entry (Pending entry of) = min (entry + 1) (2 ^ 64 - 1)
closing_entry (Connected entry sent) = entry
closing_entry (Told entry sent message) = entry
closing_entry (Failed entry sent refused error) = entry
closing_entry Slept = 0

-- what the outcome ends the attempt with, if it does
abbrev pub end_by : ℕ → Outcome → Attempt → Option Answered
end_by patience outcome a = end_of (come_to patience outcome a.send).stage

-- the attempt at a place has ended so, by a log entry
abbrev pub after_end : (IpAddr → Bool) → ℕ → ℕ → Attempt → Answered → ℕ → LookupState → LookupState
after_end denied place entry a end now l = settled now (heard denied a.candidate end now (closed place a.candidate.server entry l))

-- or it has not ended
abbrev pub after_close : (IpAddr → Bool) → ℕ → ℕ → Attempt → ℕ → LookupState → Option Answered → LookupState
after_close denied place entry a now l None = l
after_close denied place entry a now l (Some end) = after_end denied place entry a end now l

-- the attempt after its outcome, once its end is taken
abbrev pub put_in : ℕ → Outcome → Attempt → Attempt
put_in patience outcome a = let next = come_to patience outcome a.send in record a { send = record next { stage = end_told next.stage } }

-- the attempt at the place has taken the outcome of its order
pub record IsPutAt (place : ℕ) (tick : Tick) (outcome : Outcome) (a : Attempt) (attempts new : List Attempt) (put : Put) : Type 0 where
  pub after : put.after ≡ after_put tick.patience a.send.stage outcome
  pub end : put.end ≡ end_by tick.patience outcome a
  pub is : new ≡ slice_set attempts place (put_in tick.patience outcome a)

-- what an outcome did to the order of an attempt that stands so: only a message that is told to it takes memory
abbrev pub DoesTo : {E : Type 0} → ℕ → Stage → Outcome → Result After E → Type 0
DoesTo patience at outcome result = MatchResult result (λ after. after ≡ after_put patience at outcome) (λ error. takes_memory at outcome ≡ true)

-- and of the attempt at the place
abbrev pub Puts : {E : Type 0} → ℕ → Tick → Outcome → Attempt → List Attempt → Result Put E → List Attempt → Type 0
Puts place tick outcome a attempts result new = MatchResult result (λ put. IsPutAt place tick outcome a attempts new put) (λ error. takes_memory a.send.stage outcome ≡ true)

-- it is this, or out of memory that
abbrev pub IsAfter : {T E X : Type 0} → Result T E → X → X → X → Type 0
IsAfter result done halted new = MatchResult result (λ made. new ≡ done) (λ error. new ≡ halted)

-- the attempt at the place comes to this by its outcome, and where it has ended so, that is heard
abbrev pub after_coming : (IpAddr → Bool) → Tick → ℕ → Outcome → Attempt → LookupState → LookupState
after_coming denied tick place outcome a l = elim (end_by tick.patience outcome a) [
  | None ↦ record l { attempts = slice_set l.attempts place (record a { send = come_to tick.patience outcome a.send }) }
  | Some end ↦ after_end denied place (closing_entry outcome) a end tick.now l
]

-- the outcome of the open order of the attempt at a place
abbrev pub after_attempt : (IpAddr → Bool) → Tick → ℕ → Outcome → LookupState → LookupState
after_attempt denied tick place outcome l = elim (slice_get l.attempts place) [ None ↦ l | Some a ↦ after_coming denied tick place outcome a l ]

-- the outcome of the open order of the number: of an attempt in flight, or of the backoff; an order that is not open changes nothing
abbrev pub after_outcome : (IpAddr → Bool) → Tick → ℕ → Outcome → LookupState → LookupState
after_outcome denied tick number outcome l = elim l.state [
  | Asking ↦ elim (position (is_open_at number) l.attempts) [ None ↦ l | Some place ↦ after_attempt denied tick place outcome l ]
  | BackingOff until order polls ↦ if is_order number order then after_sleep tick until order polls outcome l else l
  | Decided answer at ↦ l
]

-- what the outcome does to its order
abbrev pub done_by : ℕ → ℕ → Outcome → LookupState → After
done_by patience number outcome l = elim l.state [
  | Asking ↦ elim (find (is_open_at number) l.attempts) [ None ↦ Late | Some a ↦ after_put patience a.send.stage outcome ]
  | BackingOff until order polls ↦ if is_order number order then after_backoff patience polls outcome else Late
  | Decided answer at ↦ Late
]

-- out of memory the attempt at a place is over, and that is the answer
abbrev pub run_out : ℕ → ℕ → ℕ → ℕ → LookupState → LookupState
run_out place server entry now l = decided (Err NoMemory) now (closed place server entry l)

abbrev pub run_out_at : ℕ → ℕ → Outcome → LookupState → LookupState
run_out_at place now outcome l = elim (slice_get l.attempts place) [ None ↦ l | Some a ↦ run_out place a.candidate.server (closing_entry outcome) now l ]

-- the message of the attempt whose open order has the number could not be read out of memory, which decides the lookup
abbrev pub after_out_of_memory : ℕ → ℕ → Outcome → LookupState → LookupState
after_out_of_memory number now outcome l = elim (position (is_open_at number) l.attempts) [ None ↦ l | Some place ↦ run_out_at place now outcome l ]

-- the message was told to the open order of the number, of an attempt, and only such a message takes memory
pub record RunsOut (number : ℕ) (outcome : Outcome) (l : LookupState) : Type 0 where
  pub asks : l.state ≡ Asking
  pub place : ℕ
  pub attempt : Attempt
  pub first : position (is_open_at number) l.attempts ≡ Some place
  pub at : slice_get l.attempts place ≡ Some attempt
  pub reads : takes_memory attempt.send.stage outcome ≡ true

-- The attempt at a place may end: there is room to hear it.
pub record CanEnd (place : ℕ) (l : LookupState) : Type 0 where
  pub there : place < length l.attempts
  pub asks : (a : Attempt) → slice_get l.attempts place ≡ Some a → a.send.request ≡ l.request
  pub round : length l.ended < length l.servers
  pub sends : length l.closed_by < 5 * length l.servers + 1
  pub room : HasRoom l.queue
  pub places : l.queue.most ≡ length l.servers
  pub few : l.queue.sleeps ≤ 4
  pub some : 1 ≤ l.concurrency
