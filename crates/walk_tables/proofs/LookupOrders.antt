-- The orders of lookups: the one that is waited for, how many were given, and which outcomes are late.
use Rattle.walk_tables.proofs.Names.{◌≡◌, ℕ, Bool, true, false, cond, ◌==◌, Option, Some, None, Err, refl, sym, ap, subst, ◌∙◌, eq-eqb, Result, Ok, IfOk, OnErr, is_some, option_and_then, option_map, Order, open_at, Shared, lookup_at, HasStepped, OpenLookup, PoolStep, noted, HasNoted, sought_at, IsGivenFor, IsOutcomeOf, given_so_far, HasKept, HasLeft, awaited_in, if_open_at, is_open_at, OpenOrder, Pools, PendingLookup, same_Some, Outcome, SentBy, NoMemory, PoolLookup}
use Rattle.walk_tables.proofs.PoolsAfterStep.{sought-there}
use Rattle.walk_lookup.proofs.GivenIsOpen.{opens-it}
use Rattle.dns_core.specs.declared.net_error.NetError.TheVariants as net
use Rattle.server_pool.specs.declared.pool_shared.PoolStep.TheVariants as gives

-- It waits for the order that was given for it last, where that is open at it.
awaits : (pools : Pools) (n : ℕ) (s : PendingLookup) (g : OpenOrder) → sought_at pools n ≡ Some s → s.given ≡ Some g → open_at g.number pools.shared ≡ Some n → awaited_in pools n ≡ Some g.number
awaits pools n s g is given at =
    let open_there : is_open_at pools n g.number ≡ true = ap (λ (o : Option ℕ). elim o as (λ y. Bool) [ None ↦ false | Some m ↦ m == n ]) at ∙ eq-eqb n n refl in
    ap (λ (o : Option PendingLookup). option_and_then (if_open_at pools n) (option_and_then (λ (s : PendingLookup). s.given) o)) is
    ∙ ap (option_and_then (if_open_at pools n)) given
    ∙ ap (λ (b : Bool). cond b (Some g.number) None) open_there

-- A lookup waits for the order that it gave.
pub awaits-order : (n now : ℕ) (old new : Pools) (shared : Shared) (told : PoolStep) (number : ℕ) (o : Order) (g : OpenOrder) → told ≡ gives.Order number o
    → ((l : OpenLookup) → lookup_at old.shared n ≡ Some l → HasStepped n now l old.shared told shared) → (lookup_at old.shared n ≡ None → told ≡ gives.Done (Err net.NoConnections))
    → is_some (sought_at old n) ≡ true → g.number ≡ number → HasNoted n (noted (Some g) None None) (record old { shared = shared }) new → awaited_in new n ≡ Some number
awaits-order n now old new shared told number o g is steps gone there same note =
    let s = sought-there (sought_at old n) there in
    let kept : sought_at new n ≡ Some (noted (Some g) None None s.0) = note.is ∙ ap (option_map (noted (Some g) None None)) s.1 in
    let opened : open_at number new.shared ≡ Some n =
    subst (λ (x : Shared). open_at number x ≡ Some n) (sym note.same.shared) (opens-it n now old.shared shared told number o is steps gone (lookup_at old.shared n) refl) in
    subst (λ (k : ℕ). awaited_in new n ≡ Some k) same
    (awaits new n (noted (Some g) None None s.0) g kept refl (subst (λ (k : ℕ). open_at k new.shared ≡ Some n) (sym same) opened))

-- what is sought is kept, or the lookup is left
pub kept-count : (lookup : PoolLookup) (sought : PendingLookup) (old new : Pools) (result : Result PoolLookup NoMemory) → IfOk result (λ kept. HasKept lookup.number sought old new × (kept ≡ lookup))
    → OnErr result (HasLeft lookup.number old new) → given_so_far new ≡ given_so_far old
kept-count lookup sought old new (Ok kept) ok err = ap (λ (x : Shared). x.given) ok.0.same.shared
kept-count lookup sought old new (Err e) ok err = ap (λ (x : Shared). x.given) err.left

-- An outcome that is none of what was ordered last of the lookup at which the order is open.
pub late-other : (pools : Pools) (number lookup : ℕ) (w : Option SentBy) (o : Outcome) → open_at number pools.shared ≡ Some lookup
    → ((g : OpenOrder) → g.number ≡ number → IsGivenFor pools lookup w o g → ⊥) → IsOutcomeOf pools number w o → ⊥
late-other pools number lookup w o there none of = none of.given of.named (subst (λ (k : ℕ). IsGivenFor pools k w o of.given) (same_Some _ _ (sym of.open_there ∙ there)) of.is)
