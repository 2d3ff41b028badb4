-- The ends of sends, by the servers of a pool and by their addresses.
use Rattle.std.specs.Prelude.{◌≡◌, ℕ, List, [], ◌∷◌}
use Rattle.std.specs.declared.net.ip_addr.IpAddr.{IpAddr}
use Rattle.resolution.specs.Lookups.{Answered, End}
use Rattle.resolution.specs.declared.class.Class.{Class}
use Rattle.pool_rules.specs.declared.pool_server.PoolServer.{PoolServer}

module _ {X Y : Type 0} (R : X → Y → Type 0) where
  -- Each element of the one list is related to the one beside it in the other, and none is over.
  pub data Beside : List X → List Y → Type 0 where
    no_more : Beside [] []
    one_more : {x : X} {y : Y} {xs : List X} {ys : List Y} → R x y → Beside xs ys → Beside (x ∷ xs) (y ∷ ys)

module _ {S T : Type 0} (f : S → T) (class class' : Answered → Class) where
  -- at the image of the server, with an outcome of the same class
  pub record IsSameEnd (e : End S) (e' : End T) : Type 0 where
    pub server : e'.server ≡ f e.server
    pub outcome : class e.outcome ≡ class' e'.outcome

  -- each end is the one beside it
  abbrev pub SameEnds : List (End S) → List (End T) → Type 0
  SameEnds ends ends' = Beside IsSameEnd ends ends'

-- the address of a candidate
abbrev pub at_address : (ℕ → IpAddr) → PoolServer → IpAddr
at_address ip_of c = ip_of c.server
