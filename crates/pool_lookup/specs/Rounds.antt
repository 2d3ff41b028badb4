-- How the rounds of a lookup follow one another.
use Rattle.std.specs.Prelude.{◌≤◌, length, ℕ, ◌+◌, ◌-◌, ◌^◌, min, nat_le, Bool, not, ◌&&◌, List, [], take, filter, if◌then◌else◌, None, Err}
use Rattle.std.specs.List.{list_any}
use Rattle.dns_core.specs.declared.net_error.NetError.TheVariants.{NoConnections, Timeout}
use Rattle.dns_core.specs.declared.request.DnsRequest.{DnsRequest}
use Rattle.pool_rules.specs.RetryQueue.{QueueState, may_ask, may_sleep, sleep_time}
use Rattle.pool_rules.specs.declared.pool_server.PoolServer.{PoolServer}
use Rattle.pool_lookup.specs.declared.lookup.State.TheVariants.{BackingOff}
use Rattle.pool_lookup.specs.Lists.{is_empty, after_firsts}
use Rattle.pool_lookup.specs.Lookup.{LookupState, fresh, deadline, is_asking, decided}

-- the first so many that the policy allows are dealt to the round, and those before them are not asked any more
abbrev pub dealt : ℕ → QueueState → List PoolServer
dealt most p = take most (filter (may_ask p.udp_off) p.waiting)

abbrev pub without_dealt : ℕ → QueueState → QueueState
without_dealt most p = record p { waiting = after_firsts most (may_ask p.udp_off) p.waiting }

-- a round begins with as many as are asked side by side
abbrev pub with_round : ℕ → LookupState → LookupState
with_round now l = record l { ready = dealt l.concurrency l.queue; queue = without_dealt l.concurrency l.queue; round_start = now; round_off = l.queue.udp_off; ended = [] }

-- a backoff that begins at this moment ends so much later, at the deadline at the latest, and at the last moment of 64 bits
abbrev pub backs_off_until : ℕ → LookupState → ℕ
backs_off_until now l = min (min (now + sleep_time l.queue.sleeps) (deadline l)) (2 ^ 64 - 1)

-- the error that is kept is the answer
abbrev pub given_up : ℕ → LookupState → LookupState
given_up now l = decided (Err l.queue.kept) now (record l { queue = record l.queue { kept = NoConnections } })

-- where no server is left it backs off before it asks the busy ones again, if it may
abbrev pub paused : ℕ → LookupState → LookupState
paused now l = if may_sleep l.queue then record l { state = BackingOff (backs_off_until now l) None 0 } else given_up now l

-- the round asks its servers, or there are none
abbrev pub dealt_out : ℕ → LookupState → LookupState
dealt_out now l = if is_empty l.ready then paused now l else l

-- a round that begins at the deadline or later is a timeout
abbrev pub round_begun : ℕ → LookupState → LookupState
round_begun now l = if nat_le (deadline l) now then decided (Err Timeout) now l else dealt_out now (with_round now l)

-- a lookup that begins at this moment
abbrev pub begun : DnsRequest → List PoolServer → ℕ → ℕ → ℕ → LookupState
begun request servers concurrency timeout now = round_begun now (fresh request servers concurrency timeout now)

-- every attempt of the round has ended
abbrev pub is_over : LookupState → Bool
is_over l = is_asking l.state && is_empty l.ready && is_empty l.attempts

-- there is no other server that may be asked, and no backoff is due
abbrev pub is_spent : LookupState → Bool
is_spent l = is_over l && not (list_any (may_ask l.queue.udp_off) l.queue.waiting) && not (may_sleep l.queue)

-- the next round begins, if it is due
abbrev pub started : ℕ → LookupState → LookupState
started now l = if is_over l then round_begun now l else l

-- a lookup that can do nothing more is decided at once
abbrev pub settled : ℕ → LookupState → LookupState
settled now l = if is_spent l then round_begun now l else l

-- A round can begin: there is room for those that it asks.
pub record CanBegin (l : LookupState) : Type 0 where
  pub few : l.queue.sleeps ≤ 4
  pub some : 1 ≤ l.concurrency
  pub waiting : length l.queue.waiting ≤ length l.servers
