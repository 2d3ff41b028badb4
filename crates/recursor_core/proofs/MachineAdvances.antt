-- What the machine keeps goes on being derived as it comes further.
use Rattle.recursor_core.proofs.MachineWords.{◌≡◌, ◌<◌, ℕ, CanWalk, with_patience, List, All, Option, Some, None, refl, sym, subst, arith, Box, All-weaker, Log, Extends, Policy, LogView, Advances, cache-later, later-by, pools-later, resolution-later, KeptHolds, seen_by, Derived, Resolution, RecursorCore}

-- patience says nothing of whether a recursor walks
pub walks-on : (policy : Policy) (patience : ℕ) → CanWalk policy → CanWalk (with_patience patience policy)
walks-on policy patience h = record { some = h.some; strict = h.strict }

module _ (old new : LogView) (later : Advances old new) where
  -- the one that is kept at a place
  kept-later : (x : Option (Box Resolution)) → KeptHolds old x → KeptHolds new x
  kept-later None h = tt
  kept-later (Some r) h = resolution-later old new later r.value h

  -- all of them
  pub resolutions-later : (rs : List (Option (Box Resolution))) → All (KeptHolds old) rs → All (KeptHolds new) rs
  resolutions-later rs = All-weaker (KeptHolds old) (KeptHolds new) kept-later rs

-- What the machine keeps is derived, where that holds by what it sees now.
pub derived-later : (old core : RecursorCore) (log longer : Log) → Derived old log → Advances (seen_by old log) (seen_by core longer) → core.greatest < longer.next → core.cache ≡ old.cache
    → core.pools ≡ old.pools → core.resolutions.items ≡ old.resolutions.items → Derived core longer
derived-later old core log longer d later bound cache pools resolutions =
    let before = seen_by old log in
    let after = seen_by core longer in
    record {
      bound = bound;
      walks = subst CanWalk (sym later.policy) (walks-on _ _ d.walks);
      cache = rw cache (cache-later before after later old.cache d.cache);
      pools = rw pools (pools-later before after later old.pools d.pools);
      resolutions = rw resolutions (resolutions-later before after later old.resolutions.items d.resolutions);
    }

-- what the machine keeps is derived from a longer log
pub Derived-extends : (core : RecursorCore) (log longer : Log) → Extends log longer → Derived core log → Derived core longer
Derived-extends core log longer x d =
    let b = d.bound in
    let l = x.later in
    derived-later core core log longer d (later-by core.policy core.greatest core.greatest core.moment core.moment log longer (omega arith) (omega arith) x) (omega arith) refl refl refl
