-- What holds of a walk goes on holding as a machine comes further.
use Rattle.recursor_walk.proofs.Names.{◌≡◌, ℕ, true, sym, subst, DomainName, Query, last_name, LogView, Advances, NoCutSeen, Passed, WayHolds, WalkHolds, Walk}
use Rattle.recursor_types.specs.declared.policy.Policy.{Policy}
use Rattle.walk_lookup.proofs.LookupAdvances.{given-is, pool-on}
use Rattle.resolution.proofs.FailuresKept.{NoCut-extend}
use Rattle.walk_tables.proofs.PoolsAdvance.{lookup-later}

module _ (old new : LogView) (later : Advances old new) where
  -- the candidates that were passed
  passed-later : (zone name : DomainName) (n : ℕ) → Passed old zone name n → Passed new zone name n
  passed-later zone name n p k below above =
      subst (λ (g : Policy). NoCutSeen g new.log (last_name k name)) (given-is old new later)
      (NoCut-extend old.policy new.policy.patience later.patience old.log new.log later.extends (p k below above))

  -- the way of a walk
  way-later : (q : Query) (w : Walk) → WayHolds old q w → WayHolds new q w
  way-later q w h = record {
    name = h.name;
    above = h.above;
    pool = pool-on old new later w.asking.zone w.asking.servers h.pool;
    low = h.low;
    high = h.high;
    beyond = h.beyond;
    asks = h.asks;
    passed = passed-later w.asking.zone w.name w.labels h.passed;
    strict = subst (λ (policy : Policy). policy.strict ≡ true) (sym later.policy) h.strict;
  }

  -- a walk
  pub walk-later : (t0 : ℕ) (q : Query) (w : Walk) → WalkHolds old t0 q w → WalkHolds new t0 q w
  walk-later t0 q w h = record { way = way-later q w h.way; lookup = lookup-later old new later t0 w.asking.zone w.asking.lookup h.lookup }
