-- Which servers record that another one answered first.
use Rattle.std.proofs.Common.{◌≡◌, ◌∙◌, ℕ, zero, suc, ◌+◌, ◌-◌, ◌≤◌, ◌<◌, ◌==◌, ◌||◌, not, None, Some, Bool, true, false, cond, if◌then◌else◌, List, [], ◌∷◌, ◌++◌, map, length, take, drop, refl, ap, sym, slice_get, Option, fold, arith, length-append}
use Rattle.std.specs.List.{filter, list_any}
use Rattle.std.specs.declared.net.IpAddr.{IpAddr}
use Rattle.std.proofs.lemmas.List.{length-map}
use Rattle.std.proofs.lemmas.List.Folds.{list_any-append}
use Rattle.server_core.specs.Hearing.{changed_at, changed_place}
use Rattle.server_core.specs.Servers.{Server, place_of}
use Rattle.pool_rules.specs.declared.pool_server.PoolServer.{PoolServer}
use Rattle.pool_lookup.specs.declared.attempt.Attempt.{Attempt}
use Rattle.pool_lookup.specs.Cancelling.{after_cancelled, address_of, is_at, is_apart, cancelled_once, cancelled_unless, others_of, cancelled_table}
use Rattle.pool_lookup.specs.Lists.{distinct_after}
use Rattle.pool_lookup.specs.Lookup.{LookupState}

-- the address of a server, if there is one
abbrev pub address_in : Option Server → Option IpAddr
address_in o = elim o [ None ↦ None | Some server ↦ Some server.config.ip ]

-- a record leaves the addresses as they were
address_at : (winner now n : ℕ) (table : List Server) (m : ℕ) → address_in (slice_get (changed_place (after_cancelled winner now) n table) m) ≡ address_in (slice_get table m)
address_at winner now n [] m = refl
address_at winner now zero (s ∷ table) zero = refl
address_at winner now zero (s ∷ table) (suc m) = refl
address_at winner now (suc n) (s ∷ table) zero = refl
address_at winner now (suc n) (s ∷ table) (suc m) = address_at winner now n table m

same_fun : {A B : Type 0} (f g : A → B) → ((x : A) → f x ≡ g x) → f ≡ g
same_fun f g h = λ i x. h x i

same_addresses : (winner now n : ℕ) (table : List Server) → address_of (changed_at (after_cancelled winner now) n table) ≡ address_of table
same_addresses winner now n table = same_fun (address_of (changed_at (after_cancelled winner now) n table)) (address_of table) (λ m. address_at winner now (place_of n) table (place_of m))

module _ (among : List ℕ) (winner now : ℕ) where
  -- each of the rest does, if it did not stand before
  abbrev pub cancelled_from : List ℕ → List ℕ → List Server → List Server
  cancelled_from before [] table = table
  cancelled_from before (n ∷ ns) table = cancelled_from (before ++ n ∷ []) ns (cancelled_unless before among winner now table n)

  abbrev pub recorded_by : List Server → ℕ → List Server
  recorded_by table n = changed_at (after_cancelled winner now) n table

  pub cancelled_each : (first table : List Server) (before ns : List ℕ) → address_of table ≡ address_of first
      → cancelled_from before ns table ≡ fold recorded_by table (filter (is_apart (address_of first) among) (distinct_after before ns))
  cancelled_each first table before [] e = refl
  cancelled_each first table before (n ∷ ns) e = at_head (list_any (λ m. m == n) before) (λ t g. cancelled_each first t (before ++ n ∷ []) ns g)
    where
      at_apart : (a b : Bool) → a ≡ b → ((t : List Server) → address_of t ≡ address_of first → cancelled_from (before ++ n ∷ []) ns t ≡ fold recorded_by t (filter (is_apart (address_of first) among) (distinct_after (before ++ n ∷ []) ns)))
          → cancelled_from (before ++ n ∷ []) ns (if a then recorded_by table n else table) ≡ fold recorded_by table (cond b (n ∷ filter (is_apart (address_of first) among) (distinct_after (before ++ n ∷ []) ns)) (filter (is_apart (address_of first) among) (distinct_after (before ++ n ∷ []) ns)))
      at_apart true true h next = next (recorded_by table n) (same_addresses winner now n table ∙ e)
      at_apart true false h next = cc
      at_apart false true h next = cc
      at_apart false false h next = next table e

      at_head : (b : Bool) → ((t : List Server) → address_of t ≡ address_of first → cancelled_from (before ++ n ∷ []) ns t ≡ fold recorded_by t (filter (is_apart (address_of first) among) (distinct_after (before ++ n ∷ []) ns)))
          → cancelled_from (before ++ n ∷ []) ns (if b then table else cancelled_once among winner now table n) ≡ fold recorded_by table (filter (is_apart (address_of first) among) (if b then distinct_after (before ++ n ∷ []) ns else n ∷ distinct_after (before ++ n ∷ []) ns))
      at_head true next = next table e
      at_head false next = at_apart (is_apart (address_of table) among n) (is_apart (address_of first) among n) (ap (λ (a : ℕ → Option IpAddr). is_apart a among n) e) next

-- all that are cancelled, one after the other
pub cancelled_all : (now : ℕ) (l : LookupState) (table : List Server) → cancelled_from l.ended (now - l.round_start) now [] (others_of l) table ≡ cancelled_table now l table
cancelled_all now l table = cancelled_each l.ended (now - l.round_start) now table table [] (others_of l) refl

pub apart_at : (a : ℕ → Option IpAddr) (among : List ℕ) (n : ℕ) (ip : IpAddr) → a n ≡ Some ip → is_apart a among n ≡ not (list_any (λ m. is_at ip (a m)) among)
apart_at a among n ip h = ap (λ (o : Option IpAddr). elim o as (λ _. Bool) [ None ↦ false | Some ip ↦ not (list_any (λ m. is_at ip (a m)) among) ]) h

-- ---- the servers of the round that have not ended, by their places

pub others_length : (l : LookupState) → length (others_of l) ≡ length l.attempts + length l.ready
others_length l =
    length-map (map (λ (a : Attempt). a.candidate) l.attempts ++ l.ready) (λ (c : PoolServer). c.server) ∙ length-append (map (λ (a : Attempt). a.candidate) l.attempts) l.ready
    ∙ ap (λ (n : ℕ). n + length l.ready) (length-map l.attempts (λ (a : Attempt). a.candidate))

pub other_begun : (xs : List Attempt) (cs : List PoolServer) (i : ℕ) (a : Attempt) → slice_get xs i ≡ Some a → slice_get (map (λ (d : PoolServer). d.server) (map (λ (a : Attempt). a.candidate) xs ++ cs)) i ≡ Some a.candidate.server
other_begun [] cs i a h = cc
other_begun (x ∷ xs) cs zero a h = let e : x ≡ a = cc in ap (λ (y : Attempt). Some y.candidate.server) e
other_begun (x ∷ xs) cs (suc i) a h = other_begun xs cs i a h

server_at : (ds : List PoolServer) (k : ℕ) (c : PoolServer) → slice_get ds k ≡ Some c → slice_get (map (λ (d : PoolServer). d.server) ds) k ≡ Some c.server
server_at [] k c g = cc
server_at (d ∷ ds) zero c g = let same : d ≡ c = cc in ap (λ (y : PoolServer). Some y.server) same
server_at (d ∷ ds) (suc k) c g = server_at ds k c g

pub other_ready : (xs : List Attempt) (cs : List PoolServer) (i k : ℕ) (c : PoolServer) → i ≡ length xs + k → slice_get cs k ≡ Some c
    → slice_get (map (λ (d : PoolServer). d.server) (map (λ (a : Attempt). a.candidate) xs ++ cs)) i ≡ Some c.server
other_ready [] cs i k c h e = let same : i ≡ k = omega (arith, h) in ap (slice_get (map (λ (d : PoolServer). d.server) cs)) same ∙ server_at cs k c e
other_ready (x ∷ xs) cs zero k c h e = absurd (omega (arith, h))
other_ready (x ∷ xs) cs (suc i) k c h e = let less : i ≡ length xs + k = omega (arith, h) in other_ready xs cs i k c less e

-- ---- one place after the other

none_taken : {X : Type 0} (zs : List X) → take 0 zs ≡ []
none_taken [] = refl
none_taken (z ∷ zs) = refl

pub take_one_more : {X : Type 0} (xs : List X) (i : ℕ) (x : X) → slice_get xs i ≡ Some x → take (suc i) xs ≡ take i xs ++ x ∷ []
take_one_more [] i x h = cc
take_one_more {X} (y ∷ xs) zero x h = let e : y ≡ x = cc in ap (λ (z : X). z ∷ take 0 xs) e ∙ ap (λ (zs : List X). x ∷ zs) (none_taken xs)
take_one_more {X} (y ∷ xs) (suc i) x h = ap (λ (zs : List X). y ∷ zs) (take_one_more xs i x h)

pub drop_one : {X : Type 0} (xs : List X) (i : ℕ) (x : X) → slice_get xs i ≡ Some x → drop i xs ≡ x ∷ drop (suc i) xs
drop_one [] i x h = cc
drop_one {X} (y ∷ xs) zero x h = let e : y ≡ x = cc in ap (λ (z : X). z ∷ xs) e
drop_one (y ∷ xs) (suc i) x h = drop_one xs i x h

-- one more is no other than those before
pub stands_on : (number i x : ℕ) (xs : List ℕ) (b : Bool) → list_any (λ m. m == number) (take i xs) ≡ false → slice_get xs i ≡ Some x → (x == number) ≡ b → list_any (λ m. m == number) (take (suc i) xs) ≡ b
stands_on number i x xs b none there is =
    ap (list_any (λ m. m == number)) (take_one_more xs i x there) ∙ list_any-append (λ m. m == number) (take i xs) (x ∷ [])
    ∙ ap (λ (a : Bool). a || list_any (λ m. m == number) (x ∷ [])) none ∙ or_false (x == number) ∙ is
  where
    or_false : (a : Bool) → (a || false) ≡ a
    or_false true = refl
    or_false false = refl

-- one of those before a place is
pub found_before : (number i place x : ℕ) (xs : List ℕ) → slice_get xs i ≡ Some x → (x == number) ≡ true → i < place → list_any (λ m. m == number) (take place xs) ≡ true
found_before number i zero x xs there is before = absurd (omega (arith, before))
found_before number i (suc place) x [] there is before = cc
found_before number zero (suc place) x (y ∷ xs) there is before =
    let same : y ≡ x = cc in
    ap (λ (a : ℕ). (a == number) || list_any (λ m. m == number) (take place xs)) same ∙ ap (λ (b : Bool). b || list_any (λ m. m == number) (take place xs)) is
found_before number (suc i) (suc place) x (y ∷ xs) there is before = or_true (y == number) (found_before number i place x xs there is (omega (arith, before)))
  where
    or_true : (a : Bool) {b : Bool} → b ≡ true → (a || b) ≡ true
    or_true true h = refl
    or_true false h = h

module _ (among : List ℕ) (winner now : ℕ) where
  -- at first none has recorded
  pub cancelled_none : (ns : List ℕ) (table : List Server) → cancelled_from among winner now (take 0 ns) (drop 0 ns) table ≡ cancelled_from among winner now [] ns table
  cancelled_none [] table = refl
  cancelled_none (n ∷ ns) table = refl

  -- after the one at a place
  pub cancelled_on : (i n : ℕ) (ns : List ℕ) (table : List Server) → slice_get ns i ≡ Some n
      → cancelled_from among winner now (take i ns) (drop i ns) table
      ≡ cancelled_from among winner now (take (suc i) ns) (drop (suc i) ns) (cancelled_unless (take i ns) among winner now table n)
  cancelled_on i n ns table there =
      ap (λ (xs : List ℕ). cancelled_from among winner now (take i ns) xs table) (drop_one ns i n there)
      ∙ ap (λ (xs : List ℕ). cancelled_from among winner now xs (drop (suc i) ns) (cancelled_unless (take i ns) among winner now table n)) (sym (take_one_more ns i n there))

  -- at last all have
  pub cancelled_rest : (i : ℕ) (ns : List ℕ) (table : List Server) → length ns ≤ i → table ≡ cancelled_from among winner now (take i ns) (drop i ns) table
  cancelled_rest i ns table over = ap (λ (xs : List ℕ). cancelled_from among winner now (take i ns) xs table) (sym (none_dropped ns i over))
    where
      none_dropped : (xs : List ℕ) (k : ℕ) → length xs ≤ k → drop k xs ≡ []
      none_dropped [] zero h = refl
      none_dropped [] (suc k) h = refl
      none_dropped (x ∷ xs) zero h = absurd (omega (arith, h))
      none_dropped (x ∷ xs) (suc k) h = none_dropped xs k (omega (arith, h))
