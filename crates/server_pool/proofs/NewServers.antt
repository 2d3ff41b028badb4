-- Servers that are added one after another.
use Rattle.std.proofs.Common.{◌≡◌, ℕ, ◌+◌, ◌<◌, List, [], ◌∷◌, ◌++◌, length, Result, Ok, Err, OnErr, OnOk, IfOk, refl, sym, ap, subst, ◌∙◌, append_assoc, arith}
use Rattle.std.proofs.lemmas.List.{length-append}
use Rattle.std.proofs.lemmas.List.Elements.{All-from_get_or}
use Rattle.std.proofs.lemmas.List.FromFn.{length-range_with_len, get_or-range_with_len}
use Rattle.std.specs.Iterator.{Yields}
use Rattle.std.specs.List.{All, range_with_len}
use Rattle.std.specs.Vec.Iter.{into_iter_items, into_iter_steps}
use Rattle.std.specs.declared.vec.IntoIter.{IntoIter}
use Rattle.resolver_settings.specs.NameServer.{NameServer}
use Rattle.resolver_settings.specs.declared.options.ServerOrderingStrategy.{ServerOrderingStrategy}
use Rattle.server_core.proofs.ServerPlaces.{place-within}
use Rattle.server_core.specs.NewServer.{new_server}
use Rattle.server_core.specs.Servers.{Server, place_of}
use Rattle.server_pool.specs.NewPool.{delay_at, new_servers, with_servers, HasSomeOf}
use Rattle.server_pool.specs.Pool.{IsPoolOf, IsLive}
use Rattle.server_pool.specs.Shared.{Shared}
use Rattle.server_pool.specs.declared.pool.NameServerPool.{NameServerPool}

-- what the iterator of a vector gave is a front of its items
pub taken_front : {X A : Type 0} (s : IntoIter X A) (xs : List X) (t : IntoIter X A) → Yields into_iter_steps s xs t → into_iter_items s ≡ xs ++ into_iter_items t
taken_front s [] t y = ap into_iter_items y
taken_front s (x ∷ xs) t y = y.1.0 ∙ ap (λ ys. x ∷ ys) (taken_front y.0 xs t y.2)

-- one more server takes the delay of the next place
pub new_servers-last : (strategy : ServerOrderingStrategy) (delays : List ℕ) (place : ℕ) (xs : List NameServer) (x : NameServer) (at : ℕ) → at ≡ place + length xs
    → new_servers strategy delays place (xs ++ x ∷ []) ≡ new_servers strategy delays place xs ++ new_server [] x strategy (delay_at delays at) ∷ []
new_servers-last strategy delays place [] x at is =
    let same : place ≡ at = omega (arith, is) in ap (λ (n : ℕ). new_server [] x strategy (delay_at delays n) ∷ []) same
new_servers-last strategy delays place (y ∷ xs) x at is =
    ap (λ (l : List Server). new_server [] y strategy (delay_at delays place) ∷ l) (new_servers-last strategy delays (place + 1) xs x at (omega (arith, is)))

pub new_servers-length : (strategy : ServerOrderingStrategy) (delays : List ℕ) (place : ℕ) (xs : List NameServer) → length (new_servers strategy delays place xs) ≡ length xs
new_servers-length strategy delays place [] = refl
new_servers-length strategy delays place (y ∷ xs) = let rest = new_servers-length strategy delays (place + 1) xs in omega (arith, rest)

-- so it stands behind those before
pub with_servers-last : (delays : List ℕ) (xs : List NameServer) (x : NameServer) (old : Shared) (at : ℕ) → at ≡ length xs
    → with_servers delays (xs ++ x ∷ []) old
    ≡ record (with_servers delays xs old) { table = (with_servers delays xs old).table ++ new_server [] x old.context.options.server_ordering_strategy (delay_at delays at) ∷ [] }
with_servers-last delays xs x old at is =
    let strategy = old.context.options.server_ordering_strategy in
    ap (λ (table : List Server). record old { table = table })
    (ap (λ (l : List Server). old.table ++ l) (new_servers-last strategy delays 0 xs x at (omega (arith, is))) ∙ sym (append_assoc old.table _ _))

-- a number is that of the next place
pub numbers-last : {X : Type 0} (first : ℕ) (xs : List X) (x : X) (at : ℕ) → at ≡ first + length xs
    → range_with_len first (length (xs ++ x ∷ [])) ≡ range_with_len first (length xs) ++ at ∷ []
numbers-last first [] x at is = let same : first ≡ at = omega (arith, is) in ap (λ (n : ℕ). n ∷ []) same
numbers-last first (y ∷ xs) x at is = ap (λ (l : List ℕ). first ∷ l) (numbers-last (first + 1) xs x at (omega (arith, is)))

-- the number of one more server, behind those that were there and those that were added
pub next-number : (n first more count : ℕ) → n ≡ count + 1 → count ≡ first + more → n ≡ first + 1 + more
next-number n first more count is many = omega (arith, is, many)

-- the server of the next configuration stands behind those of the ones before
pub added-more : (delays : List ℕ) (xs : List NameServer) (x : NameServer) (old now new : Shared) (place delay : ℕ)
    → now ≡ with_servers delays xs old → place ≡ length xs → delay ≡ delay_at delays place
    → new ≡ record now { table = now.table ++ new_server [] x now.context.options.server_ordering_strategy delay ∷ [] }
    → new ≡ with_servers delays (xs ++ x ∷ []) old
added-more delays xs x old now new place delay was at is step =
    step ∙ (ap (λ (s : Shared). record s { table = s.table ++ new_server [] x s.context.options.server_ordering_strategy delay ∷ [] }) was
    ∙ (ap (λ (d : ℕ). record (with_servers delays xs old) { table = (with_servers delays xs old).table ++ new_server [] x old.context.options.server_ordering_strategy d ∷ [] }) is
    ∙ sym (with_servers-last delays xs x old place at)))

-- there are as many servers as there were, and one for each configuration
pub servers-so_far : (delays : List ℕ) (xs : List NameServer) (old now : Shared) → now ≡ with_servers delays xs old → length now.table ≡ length old.table + length xs
servers-so_far delays xs old now was =
    ap (λ (s : Shared). length s.table) was ∙ (length-append old.table _
    ∙ ap (λ (n : ℕ). length old.table + n) (new_servers-length old.context.options.server_ordering_strategy delays 0 xs))

-- what holds anyway holds at an error
pub on-err : {T E P : Type 0} (r : Result T E) → P → OnErr r P
on-err (Ok x) p = tt
on-err (Err e) p = p

-- what an iterator that gave xs has left is what is not added
pub some-of : {Z : Type 0} (delays : List ℕ) (configs : List NameServer) (old new : Shared) (s : IntoIter NameServer Z) (xs : List NameServer) (t : IntoIter NameServer Z)
    → into_iter_items s ≡ configs → Yields into_iter_steps s xs t → new ≡ with_servers delays xs old → HasSomeOf delays configs old new
some-of delays configs old new s xs t whole y is = record {
  first = xs;
  rest = into_iter_items t;
  all = sym (taken_front s xs t y) ∙ whole;
  is = is;
}

-- the servers of so many numbers behind those of a table are there
pub numbers-below : (first count : ℕ) → All (λ number. place_of number < first + count) (range_with_len (first + 1) count)
numbers-below first count = All-from_get_or (λ number. place_of number < first + count) (range_with_len (first + 1) count) 0 (λ i within.
    let below : i < count = subst (λ (n : ℕ). i < n) (length-range_with_len (first + 1) count) within in
    subst (λ (n : ℕ). place_of n < first + count) (sym (get_or-range_with_len (first + 1) count i 0 below))
    (place-within (first + 1 + i) (first + count) (omega arith) (omega (arith, below))))

-- the servers of a pool that is made of those that were added are in the table
pub pool-live : {E : Type 0} (r : Result NameServerPool E) (delays : List ℕ) (configs : List NameServer) (old now new : Shared) (own : ℕ) (numbers : List ℕ)
    → now ≡ with_servers delays configs old → numbers ≡ range_with_len (length old.table + 1) (length configs)
    → OnOk r (new ≡ record now { pools = now.pools + 1 }) → IfOk r (IsPoolOf own numbers) → IfOk r (IsLive new.table)
pool-live (Ok pool) delays configs old now new own numbers was told is h =
    let many = ap (λ (s : Shared). length s.table) is ∙ servers-so_far delays configs old now was in
    subst (λ (n : ℕ). All (λ number. place_of number < n) pool.servers.items) (sym many)
    (subst (All (λ number. place_of number < length old.table + length configs)) (sym (h.servers ∙ told)) (numbers-below (length old.table) (length configs)))
pool-live (Err e) delays configs old now new own numbers was told is h = tt
