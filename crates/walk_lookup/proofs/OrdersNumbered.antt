-- The numbers of orders: how many were given, after a step and where a lookup begins.
use Rattle.walk_lookup.proofs.Names.{◌≡◌, ℕ, ◌+◌, ◌⊎◌, List, inl, inr, Option, Some, None, Result, Ok, Err, IfOk, OnErr, refl, sym, ap, subst, NoMemory, DnsRequest, LookupStep, open_for, HasSent, SentTo, Shared, lookup_at, HasStepped, HasHalted, told_as, orders_by, OpenLookup, PoolStep}
use Rattle.dns_core.specs.declared.net_error.NetError.TheVariants as net
use Rattle.pool_lookup.specs.declared.giving.LookupStep.TheVariants as step
use Rattle.server_pool.specs.declared.pool_shared.PoolStep.TheVariants as gives

-- what a step of a lookup gave
abbrev pub GivesAs : ℕ → ℕ → Result PoolStep NoMemory → Type 0
GivesAs old new (Ok (gives.Order number order)) = (number ≡ old + 1) × (new ≡ old + 1)
GivesAs old new (Ok gives.Waiting) = new ≡ old
GivesAs old new (Ok (gives.Done answer)) = new ≡ old
GivesAs old new (Err e) = new ≡ old

same-count : (old new : Shared) → new ≡ old → new.given ≡ old.given
same-count old new same = ap (λ (x : Shared). x.given) same

stepped-count : (n now : ℕ) (l : OpenLookup) (old new : Shared) (told : PoolStep) → HasStepped n now l old told new → GivesAs old.given new.given (Ok told)
stepped-count n now l old new told s = by s.made s.is s.given
  where
    by : (made : LookupStep) → told ≡ told_as (old.given + 1) made → new.given ≡ orders_by made (old.given + 1) old.given → GivesAs old.given new.given (Ok told)
    by (step.Order o) is count = subst (λ (t : PoolStep). GivesAs old.given new.given (Ok t)) (sym is) (refl, count)
    by _ is count = subst (λ (t : PoolStep). GivesAs old.given new.given (Ok t)) (sym is) count

-- An order has the next number, and else none was given.
pub step-count : (n now : ℕ) (old new : Shared) (result : Result PoolStep NoMemory)
    → ((l : OpenLookup) → lookup_at old n ≡ Some l → IfOk result (λ told. HasStepped n now l old told new))
    → ((l : OpenLookup) → lookup_at old n ≡ Some l → OnErr result ((new ≡ old) ⊎ HasHalted n now l old new))
    → (lookup_at old n ≡ None → IfOk result (λ told. told ≡ gives.Done (Err net.NoConnections)) × (new ≡ old)) → GivesAs old.given new.given result
step-count n now old new result steps halts gone = by (lookup_at old n) refl
  where
    halted : (l : OpenLookup) → ((new ≡ old) ⊎ HasHalted n now l old new) → new.given ≡ old.given
    halted l (inl same) = same-count old new same
    halted l (inr halt) = ap (λ (x : Shared). x.given) halt.rest

    here : (l : OpenLookup) (r : Result PoolStep NoMemory) → IfOk r (λ told. HasStepped n now l old told new) → OnErr r ((new ≡ old) ⊎ HasHalted n now l old new) → GivesAs old.given new.given r
    here l (Ok told) s halt = stepped-count n now l old new told s
    here l (Err e) s halt = halted l halt

    nowhere : (r : Result PoolStep NoMemory) → IfOk r (λ told. told ≡ gives.Done (Err net.NoConnections)) → new ≡ old → GivesAs old.given new.given r
    nowhere (Ok told) is same = subst (λ (t : PoolStep). GivesAs old.given new.given (Ok t)) (sym is) (same-count old new same)
    nowhere (Err e) is same = same-count old new same

    by : (o : Option OpenLookup) → lookup_at old n ≡ o → GivesAs old.given new.given result
    by None none = nowhere result (gone none).0 (gone none).1
    by (Some l) there = here l result (steps l there) (halts l there)

-- a request begins a lookup, or joins one
pub sent-count : (pool : ℕ) (servers : List ℕ) (request : DnsRequest) (now : ℕ) (old new : Shared) (number : ℕ) → HasSent pool servers request now old new number → new.given ≡ old.given
sent-count pool servers request now old new number = by (open_for pool request old.lookups)
  where
    by : (o : Option ℕ) → SentTo o pool servers request now old new number → new.given ≡ old.given
    by None begun = ap (λ (x : Shared). x.given) begun.is
    by (Some n) joined = ap (λ (x : Shared). x.given) joined.1.is
