-- What holds of the pools and of a lookup goes on holding as a machine comes further.
use Rattle.walk_tables.proofs.Names.{ℕ, subst, ◌<◌, List, sym, ap, ◌∙◌, DomainName, Query, Cached, LogView, Advances, PoolsHold, TablesHold, Pools, Policy, timeout-same, cache-later, found-later, sought-later}
use Rattle.walk_lookup.specs.Asking.{context_of}
use Rattle.walk_tables.specs.Lookup.{AskHolds, LookupHolds}
use Rattle.walk_tables.specs.declared.lookup.Phase.{Phase}
use Rattle.walk_tables.specs.declared.lookup.Lookup.{Lookup}
use Rattle.walk_tables.specs.declared.lookup.Phase.TheVariants as ask

module _ (old new : LogView) (later : Advances old new) where
  -- the pools
  pub pools-later : (pools : Pools) → PoolsHold old pools → PoolsHold new pools
  pools-later pools h = record {
    servers = record { numbers = h.servers.numbers; context = h.servers.context ∙ sym (ap context_of later.policy); delays = h.servers.delays ∙ sym (ap (λ (p : Policy). p.first_delays) later.policy); lasts = subst (λ (t : ℕ). 0 < t) (sym (timeout-same old new later)) h.servers.lasts };
    numbered = h.numbered;
    lookups = λ n s at. sought-later old new later pools.shared n s (h.lookups n s at);
  }

  pub tables-later : (cache : Cached) (pools : Pools) → TablesHold old cache pools → TablesHold new cache pools
  tables-later cache pools h = record { cache = cache-later old new later cache h.cache; pools = pools-later pools h.pools }

  ask-later : (t0 : ℕ) (zone : DomainName) (q : Query) (ends : List ℕ) (a : Phase) → AskHolds old t0 zone q ends a → AskHolds new t0 zone q ends a
  ask-later t0 zone q ends (ask.Answered came) h = found-later old new later t0 zone q ends came h
  ask-later t0 zone q ends _ h = tt

  -- a lookup
  pub lookup-later : (t0 : ℕ) (zone : DomainName) (l : Lookup) → LookupHolds old t0 zone l → LookupHolds new t0 zone l
  lookup-later t0 zone l h = record { above = h.above; ask = ask-later t0 zone l.query l.ends l.ask h.ask }
