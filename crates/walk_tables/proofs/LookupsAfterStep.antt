-- What holds of the lookups after a step of one of them.
use Rattle.walk_tables.proofs.Names.{◌≡◌, ◌≢◌, ℕ, List, Option, Some, None, IfSome, refl, sym, ap, subst, ◌∙◌, ⊎_elim, arith, option_map, same_Some, none-some, IpAddr, Server, Shared, lookup_at, lookup_of, SameBut, OpenLookup, Policy, LogView, HasCome, config_at, server_at, PendingHolds, AreNumbered, with_came, number_of, sought_at, ServersHold, PoolsHold, IsGrown, SamePools, HasForgotten, HasNoted, HasLeft, LookupResult, PendingLookup, Pools, numbered-same, left-rest, left-numbered, IsCarried, carried-beside, carried-same, config-before, config-same, same-rest, sought-carried, sought-with}
use Rattle.std.proofs.lemmas.Bool.{cases_eq}
use Rattle.resolver_settings.specs.NameServer.{NameServer}

-- ---- the servers

-- with the same numbers, where each server is reached as it was, by the same settings
pub servers-by : (policy : Policy) (old new : Pools) → ((ip : IpAddr) → number_of new ip ≡ number_of old ip) → new.shared.context ≡ old.shared.context → new.first_delays ≡ old.first_delays
    → ((k : ℕ) (config : NameServer) → config_at old.shared.table k ≡ Some config → config_at new.shared.table k ≡ Some config) → ServersHold policy old → ServersHold policy new
servers-by policy old new numbers context delays reached h = record {
  numbers = λ ip k is. reached k (server_at ip) (h.numbers ip k (sym (numbers ip) ∙ is));
  context = context ∙ h.context;
  delays = delays ∙ h.delays;
  lasts = h.lasts;
}

pub servers-with : (policy : Policy) (old new : Pools) → new.numbers ≡ old.numbers → new.shared.context ≡ old.shared.context → new.first_delays ≡ old.first_delays
    → ((k : ℕ) (config : NameServer) → config_at old.shared.table k ≡ Some config → config_at new.shared.table k ≡ Some config) → ServersHold policy old → ServersHold policy new
servers-with policy old new numbers = servers-by policy old new (λ ip. ap (λ ns. number_of (record old { numbers = ns }) ip) numbers)

pub servers-same : (policy : Policy) (old new : Pools) → SamePools old new → ServersHold policy old → ServersHold policy new
servers-same policy old new s = servers-with policy old new s.numbers (ap (λ (shared : Shared). shared.context) s.shared) s.delays (carried-same 0 old.shared new.shared s.shared).reached

-- ---- all of them

pub carried-grown : (n : ℕ) (old new : Pools) → IsGrown old new → IsCarried n old.shared new.shared
carried-grown n old new g = record {
  there = λ l is. subst (λ (ls : List (ℕ × OpenLookup)). lookup_at (record old.shared { lookups = ls }) n ≡ Some l) (sym g.lookups) is;
  reached = λ k config is. subst (λ (table : List Server). config_at table k ≡ Some config) (sym g.table) (config-before old.shared.table g.more k config is);
  orders = λ number is. subst (λ (os : List (ℕ × ℕ)). lookup_of (record old.shared { orders = os }) number ≡ Some n) (sym g.orders) is;
}

-- what is sought after a note is what was sought, noted
pub noted-of : (f : PendingLookup → PendingLookup) (o : Option PendingLookup) (t : PendingLookup) → option_map f o ≡ Some t → (s : PendingLookup) × (o ≡ Some s) × (f s ≡ t)
noted-of f None t is = cc
noted-of f (Some s) t is = (s, refl, same_Some _ _ is)

-- One lookup has come on, or is forgotten.
pub pools-given : (view : LogView) (n : ℕ) (old new : Pools) → SameBut n old.shared new.shared → AreNumbered new.shared → new.numbers ≡ old.numbers → new.first_delays ≡ old.first_delays
    → ((m : ℕ) → m ≢ n → sought_at new m ≡ sought_at old m) → ((t : PendingLookup) → sought_at new n ≡ Some t → PendingHolds view new.shared n t)
    → PoolsHold view old → PoolsHold view new
pools-given view n old new rest numbered numbers delays others holds h = record {
  servers = servers-with view.policy old new numbers rest.servers.context delays (λ k config at. config-same old.shared.table new.shared.table k config rest.servers.configs at) h.servers;
  numbered = numbered;
  lookups = λ m t there. ⊎_elim
      (λ at. subst (λ (k : ℕ). PendingHolds view new.shared k t) (sym at) (holds t (subst (λ (k : ℕ). sought_at new k ≡ Some t) at there)))
      (λ other. sought-carried view m old.shared new.shared t (carried-beside m n old.shared new.shared other rest) (h.lookups m t (sym (others m other) ∙ there)))
      (cases_eq m n);
}

module _ (view : LogView) (n : ℕ) (old new : Pools) (shared : Shared) (rest : SameBut n old.shared shared) (numbered : AreNumbered shared) where
  rest-by : new.shared ≡ shared → SameBut n old.shared new.shared
  rest-by same = subst (λ (x : Shared). SameBut n old.shared x) (sym same) rest

  -- One lookup has come on, and what is sought by it was noted.
  pub pools-noted : (f : PendingLookup → PendingLookup) → HasNoted n f (record old { shared = shared }) new → ((s : PendingLookup) → sought_at old n ≡ Some s → PendingHolds view shared n (f s))
      → PoolsHold view old → PoolsHold view new
  pools-noted f note holds =
      pools-given view n old new (rest-by note.same.shared) (subst AreNumbered (sym note.same.shared) numbered) note.same.numbers note.same.delays note.others
      (λ t there.
      let s = noted-of f (sought_at old n) t (sym note.is ∙ there) in
      subst (PendingHolds view new.shared n) s.2 (subst (λ (x : Shared). PendingHolds view x n (f s.0)) (sym note.same.shared) (holds s.0 s.1)))

  -- It has come on, and is forgotten.
  pub pools-lost : HasForgotten n (record old { shared = shared }) new → PoolsHold view old → PoolsHold view new
  pools-lost lost =
      pools-given view n old new (rest-by lost.same.shared) (subst AreNumbered (sym lost.same.shared) numbered) lost.same.numbers lost.same.delays lost.others
      (λ t there. absurd (none-some t (sym lost.none ∙ there)))

module _ (view : LogView) where
  -- one is forgotten
  pub pools-forgotten : (n : ℕ) (old new : Pools) → HasForgotten n old new → PoolsHold view old → PoolsHold view new
  pools-forgotten n old new lost h = pools-lost view n old new old.shared (same-rest n old.shared old.shared refl) h.numbered lost h

  -- what one came to is kept, if it is known
  pub pools-came : (n : ℕ) (came : Option LookupResult) (old new : Pools) → HasNoted n (with_came came) old new
      → ((s : PendingLookup) → sought_at old n ≡ Some s → IfSome came (HasCome s.zone s.query (lookup_at old.shared n))) → PoolsHold view old → PoolsHold view new
  pools-came n came old new note has h =
      pools-noted view n old new old.shared (same-rest n old.shared old.shared refl) h.numbered (with_came came) note
      (λ s is. sought-with view n old.shared old.shared came s (carried-same n old.shared old.shared refl) (has s is) (h.lookups n s is)) h

  -- nothing is sought by the lookup that is left
  pub pools-left : (n : ℕ) (old new : Pools) → HasLeft n old new → sought_at old n ≡ None → PoolsHold view old → PoolsHold view new
  pools-left n old new left none h =
      pools-given view n old new (left-rest n old.shared new.shared left.left) (left-numbered n old.shared new.shared left.left left.last h.numbered) left.numbers left.delays (λ m other. left.sought m)
      (λ s is. absurd (none-some s (sym none ∙ sym (left.sought n) ∙ is))) h

  -- servers came behind the others
  pub pools-grown : (old new : Pools) → IsGrown old new → ServersHold view.policy new → PoolsHold view old → PoolsHold view new
  pools-grown old new g servers h = record {
    servers = servers;
    numbered = numbered-same old.shared new.shared g.lookups g.sent (let same = g.pools in omega (arith, same)) h.numbered;
    lookups = λ m s is.
        sought-carried view m old.shared new.shared s (carried-grown m old new g) (h.lookups m s (sym (ap (λ sought. sought_at (record old { sought = sought }) m) g.sought) ∙ is));
  }
