use Rattle.walk_tables.proofs.Names.{ℕ, List, refl, ap, lookup, nat_cmp, PendingLookup}
use Rattle.std.specs.BTreeMap as tree
use Rattle.walk_tables.proofs.pools.Pools.keep.Goals as goal

pub returns-clause-err : goal.returns-clause-err
returns-clause-err c = record {
  left = c.leave.ensures.left;
  last = c.leave.ensures.last;
  numbers = refl;
  delays = refl;
  sought = λ m. ap (λ (es : List (ℕ × PendingLookup)). lookup (tree.is_at (nat_cmp m)) es) c.in-Err.ensures.err;
}
