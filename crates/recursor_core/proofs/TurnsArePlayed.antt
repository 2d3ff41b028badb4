-- A run plays its turns, and its log grows turn by turn.
use Rattle.recursor_core.proofs.Names.{◌≡◌, ◌≤◌, ◌∙◌, ◌⊎◌, ⊎_elim, same_Some, Policy, IsPast, ℕ, max, List, [], ◌∷◌, Contains, Option, Some, refl, sym, subst, arith, Log, Extends, log_of, LogEntry, Ghosts, Turn, GrownOver, RiseFrom, TellsThat, Extends-refl, Extends-trans, entry_sides, below_or_from, IsPatient-refl, IsPatient-trans, OnLogs, AreAt, IsPlayed, IsPlayedOver, run_moments, Leads, Turning, RunsOver, Run, told_by}
use Rattle.order_carrier.specs.Growing.{LongerThan}
use Rattle.order_carrier.specs.Patience.{IsPatient}
use Rattle.resolution.specs.Telling.{Logged, moment_of, MomentsRise}
use Rattle.resolution.specs.Ending.{waits}
use Rattle.resolution.specs.Theorem.{OnlyServersAsked, IsRun}
use Rattle.recursor_core.proofs.MachineHoldsOn.{carries_refl, carries_trans}
use Rattle.recursor_core.specs.Runs.{Runs}
use Rattle.recursor_core.proofs.Timed.{run_first, run_next, contains_later}

-- ---- entries at a moment

-- no entry
at_none : (moment n : ℕ) (log : Log) → AreAt moment n n log
at_none moment n log = record { rise = omega arith; at = λ entry m e from upto logged is. absurd (omega (arith, from, upto)) }

-- entries that were appended at the moment, in a longer log
at_grown : (moment : ℕ) (old : Option (List LogEntry)) (es : List LogEntry) (end : Log) (l : LongerThan moment old es) → Extends (log_of es) end
    → AreAt moment (log_of l.before).next (log_of es).next end
at_grown moment old es end l x = record {
  rise = l.extends.later;
  at = λ entry m e from upto logged is. ⊎_elim (λ early. l.at entry m e from early is) (λ late. absurd (omega (arith, late, upto))) (entry_sides (log_of es) end x entry e logged);
}

-- and those behind them
at_both : (moment a b c : ℕ) (log : Log) → AreAt moment a b log → AreAt moment b c log → AreAt moment a c log
at_both moment a b c log x y = record {
  rise = omega (arith, x.rise, y.rise);
  at = λ entry m e from upto logged is. ⊎_elim (λ low. x.at entry m e from low logged is) (λ high. y.at entry m e high upto logged is) (below_or_from entry b);
}

-- nothing at all is appended
pub nothing_played : (moment : ℕ) (turns : List Turn) (log : Log) → IsPlayed moment turns log.next log
nothing_played moment [] log = at_none moment log.next log
nothing_played moment (t ∷ ts) log = (log.next, at_none (max moment t.moment) log.next log, nothing_played (max moment t.moment) ts log)

-- ---- what an entry of a run is at

-- no moment of a run is below its first
pub played_from : (moment : ℕ) (turns : List Turn) (from : ℕ) (log : Log) → IsPlayed moment turns from log
    → (i m : ℕ) (e : LogEntry) → from ≤ i → Logged log i e → moment_of e ≡ Some m → moment ≤ m
played_from moment [] from log h i m e high logged is = let same = h.at i m e high logged.below logged is in omega (arith, same)
played_from moment (t ∷ ts) from log h i m e high logged is = ⊎_elim
    (λ low. let same = h.1.at i m e high low logged is in omega (arith, same))
    (λ late. let after = played_from (max moment t.moment) ts h.0 log h.2 i m e late logged is in omega (arith, after))
    (below_or_from i h.0)

-- each is one of the run
played_in : (moment : ℕ) (turns : List Turn) (from : ℕ) (log : Log) → IsPlayed moment turns from log
    → (i m : ℕ) (e : LogEntry) → from ≤ i → Logged log i e → moment_of e ≡ Some m → Contains (run_moments moment turns) m
played_in moment [] from log h i m e high logged is = subst (Contains (run_moments moment [])) (sym (h.at i m e high logged.below logged is)) (run_first moment [])
played_in moment (t ∷ ts) from log h i m e high logged is = ⊎_elim
    (λ low. subst (Contains (run_moments moment (t ∷ ts))) (sym (h.1.at i m e high low logged is)) (run_next moment t ts))
    (λ late. contains_later moment m (run_moments (max moment t.moment) ts) (played_in (max moment t.moment) ts h.0 log h.2 i m e late logged is))
    (below_or_from i h.0)

-- they do not fall
played_rises : (moment : ℕ) (turns : List Turn) (from : ℕ) (log : Log) → IsPlayed moment turns from log → RiseFrom from log
played_rises moment [] from log h i j earlier later e f high low logged after is later_is =
    let x = h.at i earlier e high logged.below logged is in
    let y = h.at j later f (omega (arith, high, low)) after.below after later_is in
    omega (arith, x, y)
played_rises moment (t ∷ ts) from log h i j earlier later e f high low logged after is later_is = ⊎_elim
    (λ both. let x = h.1.at i earlier e high (omega (arith, low, both)) logged is in
    let y = h.1.at j later f (omega (arith, high, low)) both after later_is in omega (arith, x, y))
    (λ late. ⊎_elim
    (λ apart. let x = h.1.at i earlier e high apart logged is in
    let y = played_from (max moment t.moment) ts h.0 log h.2 j later f late after later_is in omega (arith, x, y))
    (λ beyond. played_rises (max moment t.moment) ts h.0 log h.2 i j earlier later e f beyond low logged after is later_is)
    (below_or_from i h.0))
    (below_or_from j h.0)

-- a log that has grown turn by turn has grown at moments of the run, which do not fall
pub played_over : (start : ℕ) (turns : List Turn) (old new : Option (List LogEntry)) → OnLogs old new (IsPlayedOver start turns) → GrownOver (run_moments start turns) start old new
played_over start turns old new h es t =
    let l = h es t in
    record {
      before = l.0;
      was = l.1;
      extends = l.2.extends;
      at = λ i moment e high logged is.
          (played_in start turns (log_of l.0).next (log_of es) l.2.played i moment e high logged is, played_from start turns (log_of l.0).next (log_of es) l.2.played i moment e high logged is);
      rises = played_rises start turns (log_of l.0).next (log_of es) l.2.played;
    }

-- what holds of a run's logs, in one
pub run_is : (policy : Policy) (patience start last : ℕ) (turns : List Turn) (old new : Option (List LogEntry)) → OnLogs old new (IsPlayedOver start turns)
    → IsPatient (max 1 patience) old new → TellsThat new MomentsRise → TellsThat new (IsPast last) → TellsThat new (OnlyServersAsked policy)
    → OnLogs old new (IsRun policy patience start last turns)
run_is policy patience start last turns old new grown patient rises past asks es t =
    let l = grown es t in
    let w = patient es t in
    let same : w.before ≡ l.0 = same_Some _ _ (sym w.was ∙ l.1) in (
      l.0,
      l.1,
      record {
        extends = l.2.extends;
        played = l.2.played;
        asks = asks es t;
        rises = rises es t;
        past = past es t;
        patient = λ of. subst (λ (before : List LogEntry). waits (log_of es) of (log_of es).next ≤ max (waits (log_of before) of (log_of before).next) (max 1 patience)) same (w.waited of);
      },
    )

-- ---- turns

module _ {P C F E : Type 0} (p : Ghosts P C F E) where
  -- none is played
  pub turning_refl : (turns : List Turn) (run : Run P C F E p) → Runs p run → Turning p turns turns run run
  turning_refl turns run runs = record {
    carries_on = carries_refl p run.runner.carrier;
    runs = runs;
    policy = refl;
    patience = refl;
    patient = IsPatient-refl (max 1 run.patience) (told_by p run);
    later = omega arith;
    moments = λ k h. h;
    grown = λ es t. (es, t, record { extends = Extends-refl (log_of es); on = λ end x h. h });
  }

  -- the next one is
  pub turning_next : (turns rest : List Turn) (t : Turn) (run mid new : Run P C F E p) → Turning p turns (t ∷ rest) run mid
      → Leads p (max mid.core.moment t.moment) mid new → Turning p turns rest run new
  turning_next turns rest t run mid new m n = record {
    carries_on = carries_trans p run.runner.carrier mid.runner.carrier new.runner.carrier m.carries_on n.carries_on;
    runs = n.runs;
    policy = n.policy ∙ m.policy;
    patience = n.patience ∙ m.patience;
    patient = IsPatient-trans (max 1 run.patience) (told_by p run) (told_by p mid) (told_by p new) m.patient
        (subst (λ (most : ℕ). IsPatient (max 1 most) (told_by p mid) (told_by p new)) m.patience n.patient);
    later = omega (arith, m.later, n.moment);
    moments = λ k h. m.moments k (contains_later mid.core.moment k (run_moments (max mid.core.moment t.moment) rest)
        (subst (λ (at : ℕ). Contains (run_moments at rest) k) n.moment h));
    grown = λ es told.
        let l = n.grown es told in
        let o = m.grown l.before l.was in (
          o.0,
          o.1,
          record {
            extends = Extends-trans (log_of o.0) (log_of l.before) (log_of es) o.2.extends l.extends;
            on = λ end x h. o.2.on end (Extends-trans (log_of l.before) (log_of es) end l.extends x)
                ((log_of es).next, at_grown (max mid.core.moment t.moment) (told_by p mid) es end l x, subst (λ (at : ℕ). IsPlayed at rest (log_of es).next end) n.moment h);
          },
        );
  }

  -- all are played, and then what is left
  pub turning_over : (turns : List Turn) (run mid new : Run P C F E p) → Turning p turns [] run mid → Leads p mid.core.moment mid new → RunsOver p turns run new
  turning_over turns run mid new m n = record {
    carries_on = carries_trans p run.runner.carrier mid.runner.carrier new.runner.carrier m.carries_on n.carries_on;
    runs = n.runs;
    policy = n.policy ∙ m.policy;
    patient = IsPatient-trans (max 1 run.patience) (told_by p run) (told_by p mid) (told_by p new) m.patient
        (subst (λ (most : ℕ). IsPatient (max 1 most) (told_by p mid) (told_by p new)) m.patience n.patient);
    later = omega (arith, m.later, n.moment);
    timely = m.moments new.core.moment (subst (λ (at : ℕ). Contains (run_moments mid.core.moment []) at) (sym n.moment) (run_first mid.core.moment []));
    grown = λ es told.
        let l = n.grown es told in
        let o = m.grown l.before l.was in (
          o.0,
          o.1,
          record {
            extends = Extends-trans (log_of o.0) (log_of l.before) (log_of es) o.2.extends l.extends;
            played = o.2.on (log_of es) l.extends (at_grown mid.core.moment (told_by p mid) es (log_of es) l (Extends-refl (log_of es)));
          },
        );
  }

  -- nothing was played, since memory ran out
  pub over_refl : (turns : List Turn) (run : Run P C F E p) → Runs p run → RunsOver p turns run run
  over_refl turns run runs = record {
    carries_on = carries_refl p run.runner.carrier;
    runs = runs;
    policy = refl;
    patient = IsPatient-refl (max 1 run.patience) (told_by p run);
    later = omega arith;
    timely = run_first run.core.moment turns;
    grown = λ es t. (es, t, record { extends = Extends-refl (log_of es); played = nothing_played run.core.moment turns (log_of es) });
  }
