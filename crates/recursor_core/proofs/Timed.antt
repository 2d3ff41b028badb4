-- What the machine knows of the moments of a lookup is known of a run, when it was heard at a moment of the run.
use Rattle.recursor_core.proofs.Names.{◌≤◌, inl, ℕ, suc, max, false, List, [], ◌∷◌, Contains, refl, arith, IpAddr, Log, Question, Turn, Policy, ReplyHolds, IsTimed, machine_timer, run_moments, run_timer, Reply, outcome-earlier, Policy}
use Rattle.dns_core.specs.declared.message.Query.{Query}
use Rattle.resolution.specs.Lookups.{End}
use Rattle.resolution.specs.Ending.{EndSends}
use Rattle.resolution.specs.Ending.EndSends.{no_send, and_send}
use Rattle.resolution.specs.Timing.{DriveTimed}

-- a lookup of the machine is one of a run, where it was heard at a moment of the run
timed_in_run : (given : Policy) (t0 at : ℕ) (run : List ℕ) (log : Log) → Contains run at
    → (q : Query) (ips : List IpAddr) (g moments : List ℕ) (ends : List (End IpAddr)) (start now : ℕ)
    → EndSends given log q ips g ends moments → t0 ≤ now → IsTimed at log t0 q g ends start now
    → (later : ℕ) × (now ≤ later) × DriveTimed run false log t0 q ips g ends moments start later
timed_in_run given t0 at run log here q ips _ _ _ start now no_send asked t = absurd (let s = t.some in omega arith)
timed_in_run given t0 at run log here q ips _ _ _ start now (and_send e c r) asked t =
    let b = t.began in (
      at,
      t.answered,
      record {
        answered = here;
        n = b.n;
        e = b.e;
        begun = b.begun;
        is = b.is;
        at = b.at;
        early = b.early;
        since = inl t.since;
      },
    )

-- a reply of the machine is one of the run
pub reply-timed : (policy : Policy) (at : ℕ) (log : Log) (start : ℕ) (turns : List Turn) (t0 : ℕ) (question : Question) (reply : Reply)
    → Contains (run_moments start turns) at
    → ReplyHolds policy (machine_timer at) log t0 question reply → ReplyHolds policy (run_timer start turns) log t0 question reply
reply-timed policy at log start turns t0 question reply here h =
    outcome-earlier policy log t0 t0 (omega arith) (machine_timer at log t0) (run_timer start turns log t0)
    (timed_in_run policy t0 at (run_moments start turns) log here) question reply.grounds reply.outcome h

-- the first of a list is in it
contains_first : {X : Type 0} (x : X) (xs : List X) → Contains (x ∷ xs) x
contains_first x xs = (0, omega arith, refl)

-- what is in a list is in a longer one
pub contains_later : {X : Type 0} (x y : X) (xs : List X) → Contains xs y → Contains (x ∷ xs) y
contains_later x y xs (k, low, is) = (suc k, omega arith, is)

-- the moment before a run is one of the run
pub run_first : (start : ℕ) (turns : List Turn) → Contains (run_moments start turns) start
run_first start [] = contains_first start []
run_first start (t ∷ ts) = contains_first start (run_moments (max start t.moment) ts)

-- so is that of the next turn
pub run_next : (start : ℕ) (t : Turn) (ts : List Turn) → Contains (run_moments start (t ∷ ts)) (max start t.moment)
run_next start t ts = contains_later start (max start t.moment) (run_moments (max start t.moment) ts) (run_first (max start t.moment) ts)
