-- What an outcome leaves of the pools and of the cache.
use Rattle.walk_tables.proofs.Names.{◌≡◌, ℕ, List, Option, Some, None, IfSome, Ok, refl, sym, ap, subst, ◌∙◌, length, nat_lt, if◌then◌else◌, option_and_then, IpAddr, DomainName, Query, Cached, After, Outcome, SentBy, Tick, closed_by, IsOpenOrder, open_at, Shared, lookup_at, HasPut, OpenLookup, opened, HasCome, FoundHolds, IsGivenFor, NotesOutcome, HasNoted, PoolsHold, sought_at, came_at, Seeks, with_came, given_after, noted, CacheHolds, Telling, remembered, answer_at, telling_by, has_more_ends, ComesBy, telling_at, Took, Comes, LogView, LookupResult, OpenOrder, Pools, PendingLookup, at-more, sought-tells, telling-came}
use Rattle.std.specs.Prelude.{length}
use Rattle.std.specs.Option.{option_map}
use Rattle.walk_lookup.proofs.CacheIsDerived.{TellingHolds, remembered-holds}
use Rattle.walk_lookup.proofs.AnswerInLog.{came-holds}

-- ---- what was taken

-- The lookup at which the order is open has taken the outcome that was put to its pool, and this is noted.
pub took-by : (old new : Pools) (shared : Shared) (n : ℕ) (g : OpenOrder) (w : Option SentBy) (o : Outcome) (tick : Tick) (again : OpenOrder) (first : Option IpAddr) (before : ℕ) (did : After) → IsGivenFor old n w o g
    → open_at g.number old.shared ≡ Some n → before ≡ length (closed_by (lookup_at old.shared n)) → NotesOutcome n again first before did tick.now (record old { shared = shared }) new
    → ((m : ℕ) (l : OpenLookup) → IsOpenOrder g.number m l old.shared → HasPut g.number m l o tick old.shared (Ok did) shared) → Took old new n g.number o tick did
took-by old new shared n g w o tick again first before did given open_there many note puts =
    let at = opened g.number n old.shared open_there in
    let noting = noted (given_after again did) first (if note.ended then Some tick.now else None) in
    let same = note.noted.same.shared in
    let ended : note.ended ≡ has_more_ends old.shared new.shared n =
    note.more ∙ ap (λ (k : ℕ). nat_lt k (length (closed_by (lookup_at shared n)))) many
    ∙ sym (ap (λ (x : Shared). nat_lt (length (closed_by (lookup_at old.shared n))) (length (closed_by (lookup_at x n)))) same) in
    record {
      lookup = at.0;
      opens = at.1;
      put = subst (λ (x : Shared). HasPut g.number n at.0 o tick old.shared (Ok did) x) (sym same) (puts n at.0 at.1);
      before = given.sought;
      was = given.is;
      after = noting given.sought;
      is = note.noted.is ∙ ap (option_map noting) given.is;
      still = (refl, refl);
      at = at-more note.ended (has_more_ends old.shared new.shared n) tick.now given.sought.at ended;
    }

-- So it has, with what it came to.
pub took-came : (first old new : Pools) (n number : ℕ) (o : Outcome) (tick : Tick) (did : After) (came : Option LookupResult) → HasNoted n (with_came came) old new
    → Took first old n number o tick did → Took first new n number o tick did
took-came first old new n number o tick did came note took = record {
  lookup = took.lookup;
  opens = took.opens;
  put = subst (λ (shared : Shared). HasPut number n took.lookup o tick first.shared (Ok did) shared) (sym note.same.shared) took.put;
  before = took.before;
  was = took.was;
  after = with_came came took.after;
  is = note.is ∙ ap (option_map (with_came came)) took.is;
  still = took.still;
  at = took.at ∙ sym (ap (λ (shared : Shared). if has_more_ends first.shared shared n then tick.now else took.before.at) note.same.shared);
}

-- ---- what is written

module _ (view : LogView) (pools : Pools) (n : ℕ) (h : PoolsHold view pools) where
  by-sought : (o : Option PendingLookup) → sought_at pools n ≡ o → (t : Telling) → option_and_then (telling_by pools.shared n) o ≡ Some t → TellingHolds view t
  by-sought None there t is = cc
  by-sought (Some s) there t is = sought-tells view pools.shared n s (h.lookups n s there) (answer_at pools.shared n) refl t is

  -- The cache with what a lookup came to.
  pub told-kept : (cache : Cached) (o : Option Telling) → telling_at pools n ≡ o → CacheHolds view cache → CacheHolds view (remembered cache o)
  told-kept cache None is holds = holds
  told-kept cache (Some t) is holds = remembered-holds view cache t holds (by-sought (sought_at pools n) refl t is)

pub telling-noted : (n : ℕ) (came : Option LookupResult) (old new : Pools) → HasNoted n (with_came came) old new → telling_at old n ≡ telling_at new n
telling-noted n came old new note = sym (rw (note.is, note.same.shared) (telling-came old.shared n came (sought_at old n)))

-- ---- what it comes to

-- what is known of it holds
pub comes-has : (pools : Pools) (n : ℕ) (came : Option LookupResult) → Comes pools n came → (s : PendingLookup) → sought_at pools n ≡ Some s → IfSome came (HasCome s.zone s.query (lookup_at pools.shared n))
comes-has pools n None comes s is = tt
comes-has pools n (Some came) comes s is = subst (λ (o : Option PendingLookup). IfSome o (ComesBy pools.shared n (Some came))) is comes

-- What is kept of a lookup that is for a question at the servers of a zone is what it came to.
pub came-for : (view : LogView) (pools : Pools) (n : ℕ) (q : Query) (zone : DomainName) (begun : ℕ) (came : LookupResult) (ends : List ℕ)
    → PoolsHold view pools → Seeks pools n q zone begun → Some came ≡ came_at pools n → ends ≡ closed_by (lookup_at pools.shared n) → FoundHolds view begun zone q ends came
came-for view pools n q zone begun came ends h k kept entries =
    let s = k.sought in
    let hold = h.lookups n s k.is in
    let is : Some came ≡ s.came = kept ∙ ap (option_and_then (λ (s : PendingLookup). s.came)) k.is in
    let has = subst (λ (o : Option LookupResult). IfSome o (HasCome s.zone s.query (lookup_at pools.shared n))) (sym is) hold.came in
    let by_ends = subst (λ (g : List ℕ). FoundHolds view begun s.zone s.query g came) (sym entries) (came-holds view pools.shared n s hold begun came k.since has) in
    subst (λ (z : DomainName). FoundHolds view begun z q ends came) k.zone_is (subst (λ (p : Query). FoundHolds view begun s.zone p ends came) k.query by_ends)
