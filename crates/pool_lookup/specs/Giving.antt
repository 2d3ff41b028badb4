-- What a lookup does next: it gives an order, waits, or has its answer.
use Rattle.std.specs.Prelude.{◌≡◌, ℕ, List, [], ◌∷◌, ◌++◌, slice_get, slice_set, Option, Some, None, ◌⊎◌}
use Rattle.std.specs.List.{position}
use Rattle.server_core.specs.Hearing.{changed_at}
use Rattle.server_core.specs.Sending.{StepIs, after_step, after_want}
use Rattle.server_core.specs.Servers.{Server, server_of}
use Rattle.server_core.specs.declared.orders.order.Order.{Order}
use Rattle.server_core.specs.declared.orders.order.Order.TheVariants.{Sleep}
use Rattle.server_core.specs.declared.sends.server_send.SendStep.TheVariants as made
use Rattle.server_core.specs.declared.sends.server_send.Stage.{Stage}
use Rattle.pool_rules.specs.declared.pool_server.PoolServer.{PoolServer}
use Rattle.pool_lookup.specs.declared.attempt.Attempt.{Attempt}
use Rattle.pool_lookup.specs.declared.giving.LookupStep.{LookupStep}
use Rattle.pool_lookup.specs.declared.giving.LookupStep.TheVariants as step
use Rattle.pool_lookup.specs.declared.giving.Want.{Want}
use Rattle.pool_lookup.specs.declared.giving.Want.TheVariants as want
use Rattle.pool_lookup.specs.declared.lookup.State.TheVariants.{Asking, BackingOff, Decided}
use Rattle.pool_lookup.specs.Attempts.{first_attempt, is_idle}
use Rattle.pool_lookup.specs.Lookup.{LookupState}

-- the first attempt without an open order goes on before a server of the round is asked that was not
abbrev pub first_ready : List PoolServer → Want
first_ready [] = want.Wait
first_ready (c ∷ rest) = want.Begin c

abbrev pub first_idle : List Attempt → List PoolServer → Want
first_idle attempts ready = elim (position is_idle attempts) [ None ↦ first_ready ready | Some place ↦ want.Resume place ]

-- a backoff is an order, which is given once
abbrev pub sleep_left : ℕ → Option ℕ → Want
sleep_left until None = want.Sleep until
sleep_left until (Some number) = want.Wait

-- what it comes to next
abbrev pub want_of : LookupState → Want
want_of l = elim l.state [
  | Asking ↦ first_idle l.attempts l.ready
  | BackingOff until order polls ↦ sleep_left until order
  | Decided answer at ↦ want.Tell
]

-- the attempt with its order of the number, where its send stands so
abbrev pub ordered : ℕ → Stage → Attempt → Attempt
ordered number next a = record a { order = number; send = record a.send { stage = next } }

-- the attempt that the first server of the round begins with
abbrev pub beginning : LookupState → PoolServer → Attempt
beginning l c = first_attempt l.request l.round_off c

-- the attempt gives the order of the number, as a send at its server does
pub record Orders (number now : ℕ) (table : List Server) (a : Attempt) (order : Order) (next : Stage) : Type 0 where
  pub server : Server
  pub there : server_of table a.send.server ≡ Some server
  pub gives : StepIs a.send a.send.stage number now server (made.Order order) next

-- the attempt at a place gives it
pub record IsGivenAt (place number now : ℕ) (table : List Server) (attempts : List Attempt) (a : Attempt) (order : Order) (new : List Attempt) : Type 0 where
  pub next : Stage
  pub orders : Orders number now table a order next
  pub is : new ≡ slice_set attempts place (ordered number next a)

-- an attempt in flight gives it
pub record Resumes (place number now : ℕ) (table : List Server) (l : LookupState) (order : Order) (new : LookupState) : Type 0 where
  pub attempt : Attempt
  pub at : slice_get l.attempts place ≡ Some attempt
  pub next : Stage
  pub orders : Orders number now table attempt order next
  pub is : new ≡ record l { attempts = slice_set l.attempts place (ordered number next attempt) }

-- a server of the round is asked for the first time
pub record Begins (c : PoolServer) (number now : ℕ) (table : List Server) (l : LookupState) (order : Order) (new : LookupState) : Type 0 where
  pub rest : List PoolServer
  pub first : l.ready ≡ c ∷ rest
  pub next : Stage
  pub orders : Orders number now table (beginning l c) order next
  pub is : new ≡ record l { ready = rest; attempts = l.attempts ++ ordered number next (beginning l c) ∷ [] }

-- it backs off until a moment
pub record Sleeps (until number : ℕ) (l : LookupState) (order : Order) (new : LookupState) : Type 0 where
  pub polls : ℕ
  pub was : l.state ≡ BackingOff until None polls
  pub sleeps : order ≡ Sleep until
  pub is : new ≡ record l { state = BackingOff until (Some number) polls }

-- the order that it gives, by what it comes to
abbrev pub GivesFor : Want → ℕ → ℕ → List Server → LookupState → Order → LookupState → Type 0
GivesFor (want.Resume place) number now table l order new = Resumes place number now table l order new
GivesFor (want.Begin c) number now table l order new = Begins c number now table l order new
GivesFor (want.Sleep until) number now table l order new = Sleeps until number l order new
GivesFor want.Wait number now table l order new = ⊥
GivesFor want.Tell number now table l order new = ⊥

-- what its next step gives, and what it leaves
abbrev pub Gives : ℕ → ℕ → List Server → LookupState → LookupStep → LookupState → Type 0
Gives number now table l (step.Order order) new = GivesFor (want_of l) number now table l order new
Gives number now table l step.Waiting new = (want_of l ≡ want.Wait) × (new ≡ l)
Gives number now table l (step.Done answer) new = ((at : ℕ) × (l.state ≡ Decided answer at)) × (new ≡ l)

-- the attempt that gives the order, if one does
abbrev pub stepping_for : Want → LookupState → Option Attempt
stepping_for (want.Resume place) l = slice_get l.attempts place
stepping_for (want.Begin c) l = Some (beginning l c)
stepping_for (want.Sleep until) l = None
stepping_for want.Wait l = None
stepping_for want.Tell l = None

abbrev pub changed_for : (Stage → Server → Server) → Option Attempt → List Server → List Server
changed_for f None table = table
changed_for f (Some a) table = changed_at (f a.send.stage) a.send.server table

-- what the step does to the table of the servers, and what it does out of memory
abbrev pub stepped_table : LookupState → List Server → List Server
stepped_table l table = changed_for after_step (stepping_for (want_of l) l) table

abbrev pub halted_table : LookupState → List Server → List Server
halted_table l table = changed_for after_want (stepping_for (want_of l) l) table

-- or it did nothing yet
abbrev pub Halts : LookupState → List Server → List Server → Type 0
Halts l old new = (new ≡ old) ⊎ (new ≡ halted_table l old)
