-- An order that a lookup gives is open at it.
use Rattle.walk_lookup.proofs.Names.{◌≡◌, ℕ, ◌+◌, Option, Some, None, Err, sym, ap, subst, ◌∙◌, insert_entry, nat_cmp, Order, Gives, started, LookupStep, moved_to, open_at, Shared, under, lookup_at, HasStepped, told_as, orders_by, OpenLookup, PoolStep, inserted, found_with, gives_open}
use Rattle.server_pool.proofs.OpenOrdersListed.{open_is}
use Rattle.dns_core.specs.declared.net_error.NetError.TheVariants as net
use Rattle.pool_lookup.specs.declared.giving.LookupStep.TheVariants as step
use Rattle.server_pool.specs.declared.pool_shared.PoolStep.TheVariants as gives

module _ (n now : ℕ) (old new : Shared) (told : PoolStep) (number : ℕ) (o : Order) (is : told ≡ gives.Order number o)
    (steps : (l : OpenLookup) → lookup_at old n ≡ Some l → HasStepped n now l old told new) (gone : lookup_at old n ≡ None → told ≡ gives.Done (Err net.NoConnections)) where
  -- it is open at the lookup
  opens-at : (l : OpenLookup) → lookup_at old n ≡ Some l → (s : HasStepped n now l old told new) → open_at number new ≡ Some n
  opens-at l there s = by s.made (sym is ∙ s.is) s.step.gives s.orders
    where
      by : (made : LookupStep) → gives.Order number o ≡ told_as (old.given + 1) made → Gives (old.given + 1) now old.table (started now l.lookup) made s.step.next
          → new.orders ≡ orders_by made (insert_entry nat_cmp old.orders (old.given + 1) n) old.orders → open_at number new ≡ Some n
      by (step.Order given) e g orders =
          let same : number ≡ old.given + 1 = cc in
          subst (λ (k : ℕ). open_at k new ≡ Some n) (sym same)
          (open_is (old.given + 1) n (moved_to s.step.next l) new (record {
            order = ap (under (old.given + 1)) orders ∙ inserted (old.given + 1) n old.orders;
            there = ap (under n) s.step.lookups ∙ found_with n (moved_to s.step.next) l old.lookups there;
            waits = gives_open (old.given + 1) now old.table (started now l.lookup) given s.step.next g;
          }))
      by step.Waiting e g orders = cc
      by (step.Done answer) e g orders = cc

  pub opens-it : (l : Option OpenLookup) → lookup_at old n ≡ l → open_at number new ≡ Some n
  opens-it None none = let done = gone none in cc
  opens-it (Some l) there = opens-at l there (steps l there)
