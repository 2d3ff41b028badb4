-- What is known of a lookup is carried where the lookup, its orders and how each server is reached are as they were.
use Rattle.walk_lookup.proofs.Names.{◌≡◌, ◌≢◌, ℕ, zero, suc, Bool, true, false, List, [], ◌∷◌, ◌++◌, Option, Some, None, IfSome, refl, sym, ap, subst, ◌∙◌, slice_get, option_map, slice_get-map, All-weaker, IpAddr, DomainName, NameServer, Server, place_of, LookupState, Shared, lookup_at, lookup_of, configs, SameBut, PoolServer, OpenLookup, LogView, HasCome, config_at, server_at, IsAt, IsSentTo, OpenOrderHolds, PendingHolds, with_came, LookupResult, OrderTarget, OpenOrder, PendingLookup}
use Rattle.walk_lookup.specs.declared.pending_lookup.OrderTarget.TheVariants as aim

-- The lookup of the number, its orders and how each server is reached are as they were.
pub record IsCarried (n : ℕ) (old new : Shared) : Type 0 where
  pub there : (l : OpenLookup) → lookup_at old n ≡ Some l → lookup_at new n ≡ Some l
  pub reached : (k : ℕ) (config : NameServer) → config_at old.table k ≡ Some config → config_at new.table k ≡ Some config
  pub orders : (number : ℕ) → lookup_of old number ≡ Some n → lookup_of new number ≡ Some n

-- ---- how servers are reached

-- how the server of a number is reached stands at its place
config-read : (table : List Server) (k : ℕ) → slice_get (configs table) (place_of k) ≡ config_at table k
config-read table k = slice_get-map (λ (server : Server). server.config) table (place_of k)

place-before : (table more : List Server) (k : ℕ) (config : NameServer) → option_map (λ (server : Server). server.config) (slice_get table k) ≡ Some config
    → option_map (λ (server : Server). server.config) (slice_get (table ++ more) k) ≡ Some config
place-before [] more k config is = cc
place-before (s ∷ table) more zero config is = is
place-before (s ∷ table) more (suc k) config is = place-before table more k config is

-- servers that come behind leave those before them
pub config-before : (table more : List Server) (k : ℕ) (config : NameServer) → config_at table k ≡ Some config → config_at (table ++ more) k ≡ Some config
config-before table more k config is = place-before table more (place_of k) config is

pub config-same : (old new : List Server) (k : ℕ) (config : NameServer) → configs new ≡ configs old → config_at old k ≡ Some config → config_at new k ≡ Some config
config-same old new k config same is = sym (config-read new k) ∙ ap (λ (cs : List NameServer). slice_get cs (place_of k)) same ∙ config-read old k ∙ is

-- ---- what is carried

-- nothing has changed
pub same-rest : (n : ℕ) (old new : Shared) → new ≡ old → SameBut n old new
same-rest n old new is = subst (SameBut n old) (sym is) (record { servers = record { context = refl; configs = refl }; lookups = λ m other. refl; orders = λ number m other is. is })

pub carried-same : (n : ℕ) (old new : Shared) → new ≡ old → IsCarried n old new
carried-same n old new is = subst (IsCarried n old) (sym is) (record { there = λ l at. at; reached = λ k config at. at; orders = λ number at. at })

-- a step of another lookup
pub carried-beside : (m n : ℕ) (old new : Shared) → m ≢ n → SameBut n old new → IsCarried m old new
carried-beside m n old new other b = record {
  there = λ l is. b.lookups m other ∙ is;
  reached = λ k config is. config-same old.table new.table k config b.servers.configs is;
  orders = λ number is. b.orders number m other is;
}

module _ (view : LogView) where
  at-carried : (n : ℕ) (old new : Shared) (x : IsCarried n old new) (ip : IpAddr) (c : PoolServer) → IsAt old.table ip c → IsAt new.table ip c
  at-carried n old new x ip c at = record { config = x.reached c.server (server_at ip) at.config; beyond_udp = at.beyond_udp; trusted = at.trusted }

  sent-carried : (n : ℕ) (old new : Shared) → IsCarried n old new → (zone : DomainName) (pool : List PoolServer) (l : LookupState) (g : OpenOrder) (asks : Bool) (ip : IpAddr)
      → IsSentTo view old n zone pool l g asks ip → IsSentTo view new n zone pool l g asks ip
  sent-carried n old new x zone pool l g asks ip h = record {
    of = x.orders g.number h.of;
    candidate = h.candidate;
    from_pool = h.from_pool;
    at = at-carried n old new x ip h.candidate h.at;
    open_to = h.open_to;
    past = h.past;
    serves = h.serves;
    polled = h.polled;
  }

  given-carried : (n : ℕ) (old new : Shared) → IsCarried n old new → (zone : DomainName) (pool : List PoolServer) (l : LookupState) (g : OpenOrder) (a : OrderTarget)
      → OpenOrderHolds view old n zone pool l g a → OpenOrderHolds view new n zone pool l g a
  given-carried n old new x zone pool l g (aim.Open ip) h = sent-carried n old new x zone pool l g false ip h
  given-carried n old new x zone pool l g (aim.Ask ip) h = sent-carried n old new x zone pool l g true ip h
  given-carried n old new x zone pool l g aim.Sleep h = (x.orders g.number h.0, h.1)

  given-some : (n : ℕ) (old new : Shared) → IsCarried n old new → (zone : DomainName) (pool : List PoolServer) (l : LookupState) (o : Option OpenOrder)
      → IfSome o (λ g. OpenOrderHolds view old n zone pool l g g.aim) → IfSome o (λ g. OpenOrderHolds view new n zone pool l g g.aim)
  given-some n old new x zone pool l None h = tt
  given-some n old new x zone pool l (Some g) h = given-carried n old new x zone pool l g g.aim h

  -- what is sought by a lookup that is as it was, and came to this
  pub sought-with : (n : ℕ) (old new : Shared) (came : Option LookupResult) (s : PendingLookup) → IsCarried n old new → IfSome came (HasCome s.zone s.query (lookup_at old n))
      → PendingHolds view old n s → PendingHolds view new n (with_came came s)
  sought-with n old new came s x has h = record {
    shared_by = h.shared_by;
    there = x.there h.shared_by h.there;
    asks = h.asks;
    starts = h.starts;
    time = h.time;
    lasts = h.lasts;
    past = h.past;
    ips = h.ips;
    served = h.served;
    ip_of = h.ip_of;
    known = All-weaker (λ c. IsAt old.table (h.ip_of c.server) c) (λ c. IsAt new.table (h.ip_of c.server) c) (λ c at. at-carried n old new x (h.ip_of c.server) c at) h.shared_by.lookup.servers h.known;
    whole = h.whole;
    heard = h.heard;
    stands = h.stands;
    decided = h.decided;
    ends = h.ends;
    beside = h.beside;
    tried = h.tried;
    given = given-some n old new x s.zone h.shared_by.lookup.servers h.shared_by.lookup s.given h.given;
    came = subst (λ (l : Option OpenLookup). IfSome came (HasCome s.zone s.query l)) (h.there ∙ sym (x.there h.shared_by h.there)) has;
  }

  pub sought-carried : (n : ℕ) (old new : Shared) (s : PendingLookup) → IsCarried n old new → PendingHolds view old n s → PendingHolds view new n s
  sought-carried n old new s x h = sought-with n old new s.came s x h.came h
