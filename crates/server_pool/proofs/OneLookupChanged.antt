-- What a call of one lookup makes of all.
use Rattle.std.proofs.Common.{◌≡◌, ◌∙◌, ℕ, Bool, List, Some, Result, Ok, Err, OnErr, ap, sym, subst}
use Rattle.std.specs.BTreeMap.{is_at}
use Rattle.std.specs.Map.{set_value}
use Rattle.std.specs.Ordering.{nat_cmp}
use Rattle.std.specs.declared.net.ip_addr.IpAddr.{IpAddr}
use Rattle.dns_core.specs.declared.errors.NoMemory.{NoMemory}
use Rattle.server_core.specs.Servers.{Server}
use Rattle.server_core.specs.declared.orders.order.After.{After}
use Rattle.server_core.specs.declared.orders.order.Outcome.{Outcome}
use Rattle.server_core.specs.declared.orders.order.Tick.{Tick}
use Rattle.pool_lookup.specs.Giving.{Halts}
use Rattle.pool_lookup.specs.Hearing.{after_outcome, after_out_of_memory, IsAfter}
use Rattle.pool_lookup.specs.Lookup.{LookupState}
use Rattle.pool_lookup.specs.Rounds.{started}
use Rattle.server_pool.specs.OpenLookups.{with_at, moved_to, under}
use Rattle.server_pool.specs.LookupSteps.{IsHaltedAt, put_lookup}
use Rattle.server_pool.specs.declared.open_lookups.open_lookup.OpenLookup.{OpenLookup}
use Rattle.server_pool.proofs.UnderNumbers.{with_some}

some_same : {X : Type 0} {x y : X} → Some x ≡ Some y → x ≡ y
some_same e = cc

put_is : (denied : IpAddr → Bool) (tick : Tick) (number : ℕ) (o : Outcome) (l new : LookupState) (r : Result After NoMemory)
    → IsAfter r (after_outcome denied tick number o l) (after_out_of_memory number tick.now o l) new → new ≡ put_lookup denied tick number o r l
put_is denied tick number o l new (Ok after) h = h
put_is denied tick number o l new (Err e) h = h

-- the lookup that was lent took the outcome
pub put_there : (denied : IpAddr → Bool) (tick : Tick) (n number : ℕ) (o : Outcome) (lent l : OpenLookup) (ls new : List (ℕ × OpenLookup)) (next : LookupState) (r : Result After NoMemory)
    → Some lent ≡ under n ls → new ≡ set_value (is_at (nat_cmp n)) ls (moved_to next lent) → IsAfter r (after_outcome denied tick number o lent.lookup) (after_out_of_memory number tick.now o lent.lookup) next
    → under n ls ≡ Some l → new ≡ with_at n (moved_to (put_lookup denied tick number o r l.lookup)) ls
put_there denied tick n number o lent l ls new next r read is h there =
    let one : lent ≡ l = some_same (read ∙ there) in
    is
    ∙ ap (λ (x : LookupState). set_value (is_at (nat_cmp n)) ls (moved_to x lent)) (put_is denied tick number o lent.lookup next r h)
    ∙ ap (λ (x : OpenLookup). set_value (is_at (nat_cmp n)) ls (moved_to (put_lookup denied tick number o r x.lookup) x)) one
    ∙ sym (with_some n (moved_to (put_lookup denied tick number o r l.lookup)) l ls there)

-- the lookup that was lent made no step out of memory
pub halted_there : {T : Type 0} (n now : ℕ) (lent l : OpenLookup) (ls new : List (ℕ × OpenLookup)) (before after : List Server) (next : LookupState) (r : Result T NoMemory)
    → Some lent ≡ under n ls → new ≡ set_value (is_at (nat_cmp n)) ls (moved_to next lent) → OnErr r (next ≡ started now lent.lookup) → OnErr r (Halts (started now lent.lookup) before after)
    → under n ls ≡ Some l → OnErr r (IsHaltedAt n now l ls before new after)
halted_there n now lent l ls new before after next (Ok made) read is same halts there = tt
halted_there n now lent l ls new before after next (Err e) read is same halts there =
    let one : lent ≡ l = some_same (read ∙ there) in
    subst (λ (x : OpenLookup). IsHaltedAt n now x ls before new after) one (record {
      lookups = is ∙ ap (λ (x : LookupState). set_value (is_at (nat_cmp n)) ls (moved_to x lent)) same ∙ sym (with_some n (moved_to (started now lent.lookup)) lent ls (sym read));
      table = halts;
    })
