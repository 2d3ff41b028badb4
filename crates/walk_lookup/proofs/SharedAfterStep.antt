-- What the pools share after a step of one lookup: what it changed, and that all numbers stay in order.
use Rattle.walk_lookup.proofs.Names.{◌≡◌, ◌≢◌, ℕ, ◌≤◌, inl, inr, Bool, true, false, cond, List, Option, Some, None, Result, refl, sym, ap, subst, ◌∙◌, arith, same_Some, none-some, is_at, insert_entry, nat_cmp, NoMemory, DnsRequest, After, Outcome, Tick, has_order, Halts, LookupState, started, with_at, moved_to, left, is_last, after_leave, without_order, HasBegun, Shared, under, lookup_at, lookup_of, configs, denied_in, SameBut, HasStepped, HasHalted, HasPut, put_lookup, OpenLookup, PoolStep, inserted, inserted_other, removed_other, with_other, found_with, IsSame, is_same, IsFound, found_in, IsNumbered, AreNumbered}
use Rattle.std.specs.Map.{remove_entry}
use Rattle.pool_lookup.proofs.ReachedAsBefore.{halted_configs}
use Rattle.server_pool.proofs.UnderNumbers.IsSame.{is_one, are_two}
use Rattle.server_pool.proofs.UnderNumbers.IsFound.{is_changed, is_other}

-- ---- numbers

-- the counts are the same
numbered-in : (old new : Shared) (n : ℕ) (l : OpenLookup) → new.sent ≡ old.sent → old.pools ≤ new.pools → IsNumbered old.sent old.pools n l → IsNumbered new.sent new.pools n l
numbered-in old new n l sent pools was = record {
  number = (let low = was.number in omega (arith, low, sent));
  pool = (let low = was.pool in omega (arith, low, pools));
}

-- the lookups are the same too
pub numbered-same : (old new : Shared) → new.lookups ≡ old.lookups → new.sent ≡ old.sent → old.pools ≤ new.pools → AreNumbered old → AreNumbered new
numbered-same old new lookups sent pools h = record { each = λ n l there. numbered-in old new n l sent pools (h.each n l (sym (ap (under n) lookups) ∙ there)) }

-- one lookup has changed, and is at its pool
pub numbered-with : (old new : Shared) (n : ℕ) (f : OpenLookup → OpenLookup) → ((l : OpenLookup) → (f l).pool ≡ l.pool) → new.lookups ≡ with_at n f old.lookups → new.sent ≡ old.sent → new.pools ≡ old.pools → AreNumbered old → AreNumbered new
numbered-with old new n f at lookups sent pools h = record { each = λ q x there. by q x (found_in n q f old.lookups x (sym (ap (under q) lookups) ∙ there)) }
  where
    by : (q : ℕ) (x : OpenLookup) → IsFound n q f old.lookups x → IsNumbered new.sent new.pools q x
    by q x (is_changed was is some e) =
        let low = h.each n was some in
        let number = low.number in
        let pool = low.pool in
        let same : x.pool ≡ was.pool = sym (ap (λ (y : OpenLookup). y.pool) e) ∙ at was in
        record { number = omega (arith, is, number, sent); pool = omega (arith, same, pool, pools) }
    by q x (is_other apart some) = numbered-in old new q x sent (omega (arith, pools)) (h.each q x some)

-- ---- its next step

pub stepped-numbered : (n now : ℕ) (l : OpenLookup) (old new : Shared) (told : PoolStep) → HasStepped n now l old told new → AreNumbered old → AreNumbered new
stepped-numbered n now l old new told s =
    numbered-with old new n (moved_to s.step.next) (λ x. refl) s.step.lookups (ap (λ (x : Shared). x.sent) s.rest) (ap (λ (x : Shared). x.pools) s.rest)

-- no memory for it
module _ (n now : ℕ) (l : OpenLookup) (old new : Shared) (s : HasHalted n now l old new) where
  halted-same : Halts (started now l.lookup) old.table new.table → configs new.table ≡ configs old.table
  halted-same (inl is) = ap configs is
  halted-same (inr is) = ap configs is ∙ halted_configs (started now l.lookup) old.table

  pub halted-rest : SameBut n old new
  halted-rest = record {
    servers = record { context = ap (λ (x : Shared). x.context) s.rest; configs = halted-same s.halted.table };
    lookups = λ m other. ap (under m) s.halted.lookups ∙ with_other n m (moved_to (started now l.lookup)) old.lookups other;
    orders = λ number m other is. ap (λ (x : Shared). lookup_of x number) s.rest ∙ is;
  }

  pub halted-numbered : AreNumbered old → AreNumbered new
  halted-numbered = numbered-with old new n (moved_to (started now l.lookup)) (λ x. refl) s.halted.lookups (ap (λ (x : Shared). x.sent) s.rest) (ap (λ (x : Shared). x.pools) s.rest)

-- ---- an outcome

module _ (number n : ℕ) (l : OpenLookup) (o : Outcome) (tick : Tick) (old new : Shared) (result : Result After NoMemory) where
  -- what the lookup has come to
  abbrev come : LookupState
  come = put_lookup (denied_in old) tick number o result l.lookup

  pub put-there : lookup_at old n ≡ Some l → HasPut number n l o tick old result new → lookup_at new n ≡ Some (moved_to come l)
  put-there there s = ap (λ (x : Shared). lookup_at x n) s.is ∙ found_with n (moved_to come) l old.lookups there

  -- an order that is open still stands as it stood
  pub put-order : lookup_of old number ≡ Some n → HasPut number n l o tick old result new → has_order number come ≡ true → lookup_of new number ≡ Some n
  put-order order s still = ap (λ (x : Shared). lookup_of x number) s.is ∙ ap (λ (b : Bool). under number (cond b old.orders (without_order number old.orders))) still ∙ order

  pub put-numbered : HasPut number n l o tick old result new → AreNumbered old → AreNumbered new
  put-numbered s = numbered-with old new n (moved_to come) (λ x. refl) (ap (λ (x : Shared). x.lookups) s.is) (ap (λ (x : Shared). x.sent) s.is) (ap (λ (x : Shared). x.pools) s.is)

-- ---- a lookup begins

module _ (pool : ℕ) (servers : List ℕ) (request : DnsRequest) (now : ℕ) (old new : Shared) (number : ℕ) (b : HasBegun pool servers request now old new number) where
  abbrev beginning : OpenLookup
  beginning = record { pool = pool; waiters = 1; lookup = b.lookup }

  pub begun-there : lookup_at new number ≡ Some beginning
  begun-there = ap (λ (x : Shared). lookup_at x number) b.is ∙ inserted number beginning old.lookups

  -- there was none of its number
  pub begun-fresh : AreNumbered old → lookup_at old number ≡ None
  begun-fresh h = by (lookup_at old number) refl
    where
      by : (o : Option OpenLookup) → lookup_at old number ≡ o → lookup_at old number ≡ None
      by None is = is
      by (Some l) is = let low = (h.each number l is).number in let next = b.next in absurd (omega (arith, low, next))

  pub begun-rest : SameBut number old new
  begun-rest = record {
    servers = record { context = ap (λ (x : Shared). x.context) b.is; configs = ap (λ (x : Shared). configs x.table) b.is };
    lookups = λ m other. ap (λ (x : Shared). lookup_at x m) b.is ∙ inserted_other number beginning m old.lookups other;
    orders = λ k m other is. ap (λ (x : Shared). lookup_of x k) b.is ∙ is;
  }

  pub begun-numbered : pool ≤ old.pools → AreNumbered old → AreNumbered new
  begun-numbered at h = record { each = λ n l there. by n l (sym (ap (λ (x : Shared). lookup_at x n) b.is) ∙ there) (is_same number n) }
    where
      sent : new.sent ≡ number
      sent = ap (λ (x : Shared). x.sent) b.is

      pools : new.pools ≡ old.pools
      pools = ap (λ (x : Shared). x.pools) b.is

      by : (n : ℕ) (l : OpenLookup) → under n (insert_entry nat_cmp old.lookups number beginning) ≡ Some l → IsSame number n → IsNumbered new.sent new.pools n l
      by n l there (is_one is) =
          let same : beginning ≡ l = same_Some _ _ (sym (inserted number beginning old.lookups) ∙ subst (λ (m : ℕ). under m (insert_entry nat_cmp old.lookups number beginning) ≡ Some l) is there) in
          let its : pool ≡ l.pool = ap (λ (x : OpenLookup). x.pool) same in
          record { number = omega (arith, is, sent); pool = omega (arith, its, at, pools) }
      by n l there (are_two apart) =
          let was = h.each n l (sym (inserted_other number beginning n old.lookups apart) ∙ there) in
          let low = was.number in
          let its = was.pool in
          let next = b.next in
          record { number = omega (arith, low, next, sent); pool = omega (arith, its, pools) }

-- ---- one waits less

module _ (n : ℕ) (old new : Shared) (is : new ≡ record old { lookups = after_leave n old.lookups }) where
  abbrev without : List (ℕ × OpenLookup)
  without = remove_entry (is_at (nat_cmp n)) old.lookups

  leave-other : (m : ℕ) → m ≢ n → under m (after_leave n old.lookups) ≡ under m old.lookups
  leave-other m other = by (is_last n old.lookups)
    where
      by : (b : Bool) → under m (cond b without (with_at n left old.lookups)) ≡ under m old.lookups
      by true = removed_other n m old.lookups other
      by false = with_other n m left old.lookups other

  pub left-rest : SameBut n old new
  left-rest = record {
    servers = record { context = ap (λ (x : Shared). x.context) is; configs = ap (λ (x : Shared). configs x.table) is };
    lookups = λ m other. ap (λ (x : Shared). lookup_at x m) is ∙ leave-other m other;
    orders = λ k m other at. ap (λ (x : Shared). lookup_of x k) is ∙ at;
  }

  pub left-numbered : (is_last n old.lookups ≡ true → lookup_at new n ≡ None) → AreNumbered old → AreNumbered new
  left-numbered gone h = by (is_last n old.lookups) refl
    where
      sent : new.sent ≡ old.sent
      sent = ap (λ (x : Shared). x.sent) is

      pools : new.pools ≡ old.pools
      pools = ap (λ (x : Shared). x.pools) is

      -- it is taken away
      taken : is_last n old.lookups ≡ true → (m : ℕ) (l : OpenLookup) → lookup_at new m ≡ Some l → IsSame n m → IsNumbered new.sent new.pools m l
      taken last m l there (is_one same) = absurd (none-some l (sym (gone last) ∙ subst (λ (k : ℕ). lookup_at new k ≡ Some l) same there))
      taken last m l there (are_two apart) = numbered-in old new m l sent (omega (arith, pools)) (h.each m l (sym (left-rest.lookups m apart) ∙ there))

      by : (b : Bool) → is_last n old.lookups ≡ b → AreNumbered new
      by true last = record { each = λ m l there. taken last m l there (is_same n m) }
      by false more = numbered-with old new n left (λ l. refl) (ap (λ (x : Shared). x.lookups) is ∙ ap (λ (b : Bool). cond b without (with_at n left old.lookups)) more) sent pools h
