use Rattle.walk_tables.proofs.Names.{◌≡◌, ℕ, List, Some, refl, subst, ap, lookup, nat_cmp, none-some, PendingLookup}
use Rattle.walk_tables.proofs.PoolsAdvance.{pools-later}
use Rattle.std.specs.BTreeMap as tree
use Rattle.walk_tables.proofs.pools.Pools.clear.Goals as goal

-- nothing is sought
pub returns : goal.returns
returns c = record {
  holds = λ view next later h. record {
    servers = let s = (pools-later view next later c.args.self.now h).servers in record { numbers = s.numbers; context = s.context; delays = s.delays; lasts = s.lasts };
    numbered = h.numbered;
    lookups = λ n s is. absurd (none-some s (subst (λ (es : List (ℕ × PendingLookup)). lookup (tree.is_at (nat_cmp n)) es ≡ Some s) c.clear.ensures.empty is));
  };
  given = refl;
  gone = λ n. ap (λ (es : List (ℕ × PendingLookup)). lookup (tree.is_at (nat_cmp n)) es) c.clear.ensures.empty;
}
