-- A log grows in a run by entries of its moments, which do not fall, and none of which is later than the last one.
use Rattle.std.proofs.Common.{◌≡◌, ◌≤◌, ℕ, List, Contains, Option, ⊎_elim, arith}
use Rattle.dns_core.specs.Log.{log_of}
use Rattle.dns_core.specs.declared.log.LogEntry.{LogEntry}
use Rattle.resolution.specs.Telling.{MomentsRise}
use Rattle.order_carrier.specs.Growing.{TellsThat, Grown, IsPast, GrownOver}
use Rattle.order_carrier.proofs.LogGrowsByCalls.{Extends-refl, Extends-trans, entry_sides}

-- ---- no later entry

-- what no entry was later than stays so
pub IsPast-later : (now later : ℕ) (told : Option (List LogEntry)) → now ≤ later → TellsThat told (IsPast now) → TellsThat told (IsPast later)
IsPast-later now later told le h es t i moment e logged is = omega (arith, h es t i moment e logged is, le)

-- no entry is later than the moment of the last ones
pub IsPast-grown : (now : ℕ) (old new : Option (List LogEntry)) → Grown now old new → TellsThat old (IsPast now) → TellsThat new (IsPast now)
IsPast-grown now old new grown h es t i moment e logged is =
    let l = grown es t in
    ⊎_elim (λ early. h l.before l.was i moment e early is) (λ late. omega (arith, l.at i moment e late logged is))
    (entry_sides (log_of l.before) (log_of es) l.extends i e logged)

-- ---- over a run

-- a log that stays as it is has grown by nothing
pub over_refl : (moments : List ℕ) (from : ℕ) (told : Option (List LogEntry)) → GrownOver moments from told told
over_refl moments from told es t = record {
  before = es;
  was = t;
  extends = Extends-refl (log_of es);
  at = λ i moment e high logged is. absurd (omega (arith, high, logged.below));
  rises = λ i j earlier later e f high low logged after is later_is. absurd (omega (arith, high, logged.below));
}

-- one that grows at a moment of the run
pub over_one : (moments : List ℕ) (from now : ℕ) (old new : Option (List LogEntry)) → Contains moments now → from ≤ now → Grown now old new
    → GrownOver moments from old new
over_one moments from now old new here le grown es t =
    let l = grown es t in
    record {
      before = l.before;
      was = l.was;
      extends = l.extends;
      at = λ i moment e high logged is.
          let same : moment ≡ now = l.at i moment e high logged is in
          (rw same here, omega (arith, same, le));
      rises = λ i j earlier later e f high low logged after is later_is.
          let x : earlier ≡ now = l.at i earlier e high logged is in
          let y : later ≡ now = l.at j later f (omega (arith, high, low)) after later_is in
          omega (arith, x, y);
    }

-- and one that grows twice, from a moment that no entry was later than
pub over_trans : (moments : List ℕ) (from mid : ℕ) (a b c : Option (List LogEntry)) → from ≤ mid → TellsThat b (IsPast mid)
    → GrownOver moments from a b → GrownOver moments mid b c → GrownOver moments from a c
over_trans moments from mid a b c le past x y es t =
    let two = y es t in
    let one = x two.before two.was in
    let sides = entry_sides (log_of two.before) (log_of es) two.extends in
    record {
      before = one.before;
      was = one.was;
      extends = Extends-trans (log_of one.before) (log_of two.before) (log_of es) one.extends two.extends;
      at = λ i moment e high logged is. ⊎_elim
          (λ early. one.at i moment e high early is)
          (λ late. let found = two.at i moment e late logged is in (found.0, omega (arith, found.1, le)))
          (sides i e logged);
      rises = λ i j earlier later e f high low logged after is later_is. ⊎_elim
          (λ early. ⊎_elim
          (λ both. one.rises i j earlier later e f high low early both is later_is)
          (λ apart. let no_later = past two.before two.was i earlier e early is in
          let found = two.at j later f apart after later_is in omega (arith, no_later, found.1))
          (sides j f after))
          (λ late. two.rises i j earlier later e f late low logged after is later_is)
          (sides i e logged);
    }

-- where moments did not fall before they do not fall after
pub rises_over : (moments : List ℕ) (from : ℕ) (old new : Option (List LogEntry)) → TellsThat old (IsPast from) → TellsThat old MomentsRise
    → GrownOver moments from old new → TellsThat new MomentsRise
rises_over moments from old new past rose grown es t i j earlier later e f low logged after is later_is =
    let l = grown es t in
    let sides = entry_sides (log_of l.before) (log_of es) l.extends in
    ⊎_elim
    (λ early. ⊎_elim
    (λ both. rose l.before l.was i j earlier later e f low early both is later_is)
    (λ apart. let no_later = past l.before l.was i earlier e early is in
    let found = l.at j later f apart after later_is in omega (arith, no_later, found.1))
    (sides j f after))
    (λ late. l.rises i j earlier later e f late low logged after is later_is)
    (sides i e logged)
