-- One lookup of a request at the servers of a pool: where it stands between its steps.
use Rattle.std.specs.Prelude.{ℕ, ◌+◌, Bool, true, false, List, [], ◌++◌, map, length}
use Rattle.dns_core.specs.declared.message.Query.{Query}
use Rattle.dns_core.specs.declared.net_error.NetError.TheVariants.{NoConnections}
use Rattle.dns_core.specs.declared.request.DnsRequest.{DnsRequest}
use Rattle.resolution.specs.Lookups.{Answered}
use Rattle.pool_rules.specs.RetryQueue.{QueueState}
use Rattle.pool_rules.specs.declared.pool_server.PoolServer.{PoolServer}
use Rattle.pool_lookup.specs.declared.attempt.Attempt.{Attempt}
use Rattle.pool_lookup.specs.declared.lookup.State.{State}
use Rattle.pool_lookup.specs.declared.lookup.State.TheVariants.{Asking, BackingOff, Decided}

-- Its request; the places of its pool in their order; how many are asked side by side; its time, and when it began; what it has still to ask;
-- those of the round that were not asked yet, and the attempts in flight; when the round began, whether without UDP, and the servers whose attempts have ended in it; the log entries that closed its attempts; and what it is at.
pub record LookupState : Type 0 where
  pub request : DnsRequest
  pub servers : List PoolServer
  pub concurrency : ℕ
  pub timeout : ℕ
  pub start : ℕ
  pub queue : QueueState
  pub ready : List PoolServer
  pub attempts : List Attempt
  pub round_start : ℕ
  pub round_off : Bool
  pub ended : List ℕ
  pub closed_by : List ℕ
  pub state : State

-- all servers are still to be asked
abbrev pub fresh : DnsRequest → List PoolServer → ℕ → ℕ → ℕ → LookupState
fresh request servers concurrency timeout now = record {
  request = request;
  servers = servers;
  concurrency = concurrency;
  timeout = timeout;
  start = now;
  queue = record { waiting = servers; busy = []; udp_off = false; kept = NoConnections; sleeps = 0; most = length servers };
  ready = [];
  attempts = [];
  round_start = now;
  round_off = false;
  ended = [];
  closed_by = [];
  state = Asking;
}

-- what it was begun with: what it asks, at which servers, how many of them side by side, for how long and since when
pub record BegunWith : Type 0 where
  pub request : DnsRequest
  pub servers : List PoolServer
  pub concurrency : ℕ
  pub timeout : ℕ
  pub start : ℕ

abbrev pub begun_with : LookupState → BegunWith
begun_with l = record { request = l.request; servers = l.servers; concurrency = l.concurrency; timeout = l.timeout; start = l.start }

abbrev pub question_of : LookupState → Query
question_of l = l.request.query

-- from this moment on no round begins any more
abbrev pub deadline : LookupState → ℕ
deadline l = l.start + l.timeout

-- the servers of the round that have not ended: those in flight, and those that are to be asked
abbrev pub under_way : LookupState → List PoolServer
under_way l = map (λ a. a.candidate) l.attempts ++ l.ready

abbrev pub is_asking : State → Bool
is_asking Asking = true
is_asking (BackingOff until order polls) = false
is_asking (Decided answer at) = false

abbrev pub is_decided : State → Bool
is_decided Asking = false
is_decided (BackingOff until order polls) = false
is_decided (Decided answer at) = true

-- a step of this moment decided it
abbrev pub decided : Answered → ℕ → LookupState → LookupState
decided answer now l = record l { state = Decided answer now }
