-- Servers that are met come behind those that were there.
use Rattle.walk_tables.proofs.Names.{◌≡◌, ℕ, ◌+◌, Bool, true, false, cond, List, [], ◌∷◌, ◌++◌, length, Some, refl, sym, ap, subst, ◌∙◌, append_assoc, AllZip, IpAddr, append-nil, same_Some, Server, Policy, config_at, server_at, IsServerOf, number_of, IsGrown, ServersHold, Pools, config-before, equal-address, equal-at, met-last}
use Rattle.std.specs.BTreeMap as tree
use Rattle.std.specs.contracts.net.ip_addr.IpAddrOrd.TheImpl as address

-- One server came behind the others, at an address that had no number.
pub record IsAdded (ip : IpAddr) (server : Server) (n : ℕ) (old new : Pools) : Type 0 where
  pub table : new.shared.table ≡ old.shared.table ++ server ∷ []
  pub context : new.shared.context ≡ old.shared.context
  pub delays : new.first_delays ≡ old.first_delays
  pub number : n ≡ length old.shared.table + 1
  pub config : server.config ≡ server_at ip
  pub numbers : (q : IpAddr) → number_of new q ≡ cond (tree.is_at (address.ghosts.cmp ip) q) (Some n) (number_of old q)

module _ (policy : Policy) (ip : IpAddr) (server : Server) (n : ℕ) (old new : Pools) (a : IsAdded ip server n old new) where
  -- the servers hold
  pub servers-added : ServersHold policy old → ServersHold policy new
  servers-added h = record {
    numbers = λ q k is. by q k (tree.is_at (address.ghosts.cmp ip) q) refl (sym (a.numbers q) ∙ is);
    context = a.context ∙ h.context;
    delays = a.delays ∙ h.delays;
    lasts = h.lasts;
  }
    where
      by : (q : IpAddr) (k : ℕ) (b : Bool) → tree.is_at (address.ghosts.cmp ip) q ≡ b → cond b (Some n) (number_of old q) ≡ Some k → config_at new.shared.table k ≡ Some (server_at q)
      by q k true at is =
          subst (λ (i : ℕ). config_at new.shared.table i ≡ Some (server_at q)) (same_Some _ _ is)
          (subst (λ (to : IpAddr). IsServerOf new.shared.table to n) (equal-address ip q (equal-at (address.ghosts.cmp ip q) at))
          (met-last old.shared.table new.shared.table server ip n a.table a.number a.config))
      by q k false at is = ap (λ (table : List Server). config_at table k) a.table ∙ config-before old.shared.table (server ∷ []) k (server_at q) (h.numbers q k is)

-- nothing has changed
pub grown-refl : (pools : Pools) → IsGrown pools pools
grown-refl pools = record { more = []; table = sym (append-nil pools.shared.table); context = refl; delays = refl; lookups = refl; orders = refl; sent = refl; pools = refl; given = refl; sought = refl }

-- what grew twice has grown
pub grown-trans : (a b c : Pools) → IsGrown a b → IsGrown b c → IsGrown a c
grown-trans a b c g h = record {
  more = g.more ++ h.more;
  table = h.table ∙ ap (λ (table : List Server). table ++ h.more) g.table ∙ append_assoc a.shared.table g.more h.more;
  context = h.context ∙ g.context;
  delays = h.delays ∙ g.delays;
  lookups = h.lookups ∙ g.lookups;
  orders = h.orders ∙ g.orders;
  sent = h.sent ∙ g.sent;
  pools = h.pools ∙ g.pools;
  given = h.given ∙ g.given;
  sought = h.sought ∙ g.sought;
}

-- who was met is met still
pub met-grown : (old new : Pools) (ip : IpAddr) (k : ℕ) → IsGrown old new → IsServerOf old.shared.table ip k → IsServerOf new.shared.table ip k
met-grown old new ip k g met = ap (λ (table : List Server). config_at table k) g.table ∙ config-before old.shared.table g.more k (server_at ip) met

pub all-met-grown : (old new : Pools) → IsGrown old new → (ips : List IpAddr) (ks : List ℕ) → AllZip (IsServerOf old.shared.table) ips ks → AllZip (IsServerOf new.shared.table) ips ks
all-met-grown old new g (ip ∷ ips) (k ∷ ks) met = (met-grown old new ip k g met.0, all-met-grown old new g ips ks met.1)
all-met-grown old new g _ _ met = met
