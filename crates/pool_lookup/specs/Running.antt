-- How a lookup runs, as whoever carries out its orders sees it: where they go, by which ends it stands, and when it was decided.
use Rattle.std.specs.Prelude.{◌≡◌, ◌⊎◌, ℕ, Bool, true, false, List, ◌∷◌, [], ◌++◌, find, Contains, Option, Some, None, Err}
use Rattle.std.specs.declared.net.ip_addr.IpAddr.{IpAddr}
use Rattle.dns_core.specs.declared.net_error.NetError.TheVariants.{NoMemory}
use Rattle.resolution.specs.Lookups.{Answered}
use Rattle.server_core.specs.Servers.{Server}
use Rattle.server_core.specs.declared.orders.order.Order.{Order}
use Rattle.server_core.specs.declared.orders.order.Order.TheVariants as order
use Rattle.server_core.specs.declared.orders.order.Outcome.{Outcome}
use Rattle.server_core.specs.declared.orders.order.Tick.{Tick}
use Rattle.server_core.specs.declared.sends.server_send.Stage.{Stage}
use Rattle.server_core.specs.declared.sends.server_send.Stage.TheVariants as stage
use Rattle.pool_rules.specs.declared.pool_server.PoolServer.{PoolServer}
use Rattle.pool_lookup.specs.declared.attempt.Attempt.{Attempt}
use Rattle.pool_lookup.specs.declared.lookup.State.TheVariants.{Asking, BackingOff, Decided}
use Rattle.pool_lookup.specs.Attempts.{is_open_at}
use Rattle.pool_lookup.specs.Cancelling.{address_of}
use Rattle.pool_lookup.specs.Asked.{opens}
use Rattle.pool_lookup.specs.Giving.{Gives, GivesFor, want_of}
use Rattle.pool_lookup.specs.Hearing.{end_by, closing_entry, after_outcome, after_out_of_memory}
use Rattle.pool_lookup.specs.Holds.{HeardEnd, HoldsBy, IsSound}
use Rattle.pool_lookup.specs.Lookup.{LookupState}
use Rattle.pool_lookup.specs.Rounds.{started}
use Rattle.pool_lookup.specs.declared.giving.LookupStep.{LookupStep}

-- ---- its steps

-- a step of a moment, once its round has begun
abbrev pub Steps : ℕ → LookupState → LookupState → Type 0
Steps now l new = (number : ℕ) × (table : List Server) × (made : LookupStep) × Gives number now table (started now l) made new

-- it gives the order under the number, over a table of servers, at some moment
abbrev pub GivesAt : List Server → ℕ → LookupState → Order → LookupState → Type 0
GivesAt table number l order new = (now : ℕ) × GivesFor (want_of l) number now table l order new

-- it is a lookup of which no order is open under the number, and gives this one
abbrev pub GivesFirst : List Server → ℕ → LookupState → Order → LookupState → Type 0
GivesFirst table number l order new = IsSound l × (opens number l ≡ 0) × GivesAt table number l order new

-- ---- its orders

-- the open order of an attempt at a stage asks, or opens
abbrev pub IsFor : Bool → Stage → Type 0
IsFor asks stage.Ready = ⊥
IsFor asks (stage.Opening protocol order polls) = asks ≡ false
IsFor asks (stage.Opened protocol conn) = ⊥
IsFor asks (stage.Asking asked polls) = asks ≡ true
IsFor asks (stage.Ended result) = ⊥
IsFor asks stage.Over = ⊥

-- The order of the number is the open one of an attempt at the candidate; it asks, or opens.
pub record IsOpenTo (number : ℕ) (c : PoolServer) (asks : Bool) (l : LookupState) : Type 0 where
  pub asking : l.state ≡ Asking
  pub attempt : Attempt
  pub at : find (is_open_at number) l.attempts ≡ Some attempt
  pub to : attempt.candidate ≡ c
  pub form : IsFor asks attempt.send.stage

-- The order of the number is open as before, to the same server.
abbrev pub StaysOpen : ℕ → LookupState → LookupState → Type 0
StaysOpen number old new = (c : PoolServer) (asks : Bool) → IsOpenTo number c asks old → IsOpenTo number c asks new

-- The order of the number is the one under which it backs off.
pub record IsBackingOffUnder (number : ℕ) (l : LookupState) : Type 0 where
  pub until : ℕ
  pub polls : ℕ
  pub is : l.state ≡ BackingOff until (Some number) polls

-- The order of the number goes to the address of a server of its pool.
pub record IsSentTo (table : List Server) (number : ℕ) (asks : Bool) (ip : IpAddr) (l : LookupState) : Type 0 where
  pub candidate : PoolServer
  pub from_pool : Contains l.servers candidate
  pub at : address_of table candidate.server ≡ Some ip
  pub open_to : IsOpenTo number candidate asks l

-- it opens a connection, asks the request, or sleeps
abbrev pub IsGivenFor : List Server → ℕ → Order → LookupState → Type 0
IsGivenFor table number (order.Open ip config) l = IsSentTo table number false ip l
IsGivenFor table number (order.Ask conn ip protocol request) l = (request ≡ l.request) × IsSentTo table number true ip l
IsGivenFor table number (order.Sleep until) l = IsBackingOffUnder number l

-- where it is decided now and was not before, the step of the moment did it
abbrev pub DecidesAt : ℕ → LookupState → LookupState → Type 0
DecidesAt now old new = (answer : Answered) (at : ℕ) → new.state ≡ Decided answer at → (at ≡ now) ⊎ (old.state ≡ Decided answer at)

-- ---- its ends

-- with one end more, of an attempt at the candidate
abbrev pub with_end : List HeardEnd → PoolServer → Answered → ℕ → List HeardEnd
with_end heard c answered entry = heard ++ record { end = record { server = c; outcome = answered }; by = entry } ∷ []

-- with the end of the attempt, if the outcome of its order ended it
abbrev pub with_end_of : ℕ → Outcome → List HeardEnd → Option Attempt → List HeardEnd
with_end_of patience outcome heard None = heard
with_end_of patience outcome heard (Some a) = elim (end_by patience outcome a) [ None ↦ heard | Some answered ↦ with_end heard a.candidate answered (closing_entry outcome) ]

-- the ends after the outcome of the order of the number: that of a backoff ends no attempt
abbrev pub heard_after : ℕ → ℕ → Outcome → List HeardEnd → LookupState → List HeardEnd
heard_after patience number outcome heard l = elim l.state [
  | Asking ↦ with_end_of patience outcome heard (find (is_open_at number) l.attempts)
  | BackingOff until order polls ↦ heard
  | Decided answer at ↦ heard
]

-- and where memory ran out for it, which ends the attempt too
abbrev pub heard_out : ℕ → Outcome → List HeardEnd → LookupState → List HeardEnd
heard_out number outcome heard l = elim (find (is_open_at number) l.attempts) [ None ↦ heard | Some a ↦ with_end heard a.candidate (Err NoMemory) (closing_entry outcome) ]

-- after the outcome it stands by these ends, with that of its attempt
abbrev pub StandsAfter : (IpAddr → Bool) → List HeardEnd → Tick → ℕ → Outcome → LookupState → Type 0
StandsAfter denied heard tick number outcome l = HoldsBy denied (heard_after tick.patience number outcome heard l) (after_outcome denied tick number outcome l)

-- and so it does where memory ran out for the outcome
abbrev pub StandsOut : (IpAddr → Bool) → List HeardEnd → ℕ → ℕ → Outcome → LookupState → Type 0
StandsOut denied heard number now outcome l = HoldsBy denied (heard_out number outcome heard l) (after_out_of_memory number now outcome l)
