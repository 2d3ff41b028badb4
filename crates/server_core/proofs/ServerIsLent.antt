-- A table in which a server was lent and written.
use Rattle.std.proofs.Common.{◌≡◌, ◌∙◌, ℕ, zero, suc, List, [], ◌∷◌, Some, ap, slice_get, slice_set}
use Rattle.server_core.specs.Servers.{Server, place_of, server_of}
use Rattle.server_core.specs.Hearing.{changed_at}
use Rattle.server_core.proofs.TableChanged.{place_set}

-- a server that was set to what a change makes of it
pub set_changed : (f : Server → Server) (n : ℕ) (xs : List Server) (s t : Server) → server_of xs n ≡ Some s → t ≡ f s → slice_set xs (place_of n) t ≡ changed_at f n xs
set_changed f n xs s t there is = ap (slice_set xs (place_of n)) is ∙ place_set f (place_of n) xs s there

place_same : (n : ℕ) (xs : List Server) (s t : Server) → slice_get xs n ≡ Some s → t ≡ s → slice_set xs n t ≡ xs
place_same n [] s t there is = cc
place_same zero (x ∷ xs) s t there is = cc
place_same (suc n) (x ∷ xs) s t there is = ap (λ ys. x ∷ ys) (place_same n xs s t there is)

-- a server that was set to what it was
pub set_same : (n : ℕ) (xs : List Server) (s t : Server) → server_of xs n ≡ Some s → t ≡ s → slice_set xs (place_of n) t ≡ xs
set_same n xs s t there is = place_same (place_of n) xs s t there is
