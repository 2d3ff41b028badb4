-- A table with a server changed.
use Rattle.std.proofs.Common.{◌≡◌, ℕ, zero, suc, List, [], ◌∷◌, length, Some, refl, ap, slice_get, slice_set}
use Rattle.server_core.specs.Servers.{Server, place_of, server_of}
use Rattle.server_core.specs.Hearing.{changed_place, changed_at}

place_same : (n : ℕ) (xs : List Server) → changed_place (λ s. s) n xs ≡ xs
place_same n [] = refl
place_same zero (x ∷ xs) = refl
place_same (suc n) (x ∷ xs) = ap (λ ys. x ∷ ys) (place_same n xs)

-- nothing is changed
pub changed_same : (n : ℕ) (xs : List Server) → changed_at (λ s. s) n xs ≡ xs
changed_same n xs = place_same (place_of n) xs

place_length : (f : Server → Server) (n : ℕ) (xs : List Server) → length (changed_place f n xs) ≡ length xs
place_length f n [] = refl
place_length f zero (x ∷ xs) = refl
place_length f (suc n) (x ∷ xs) = ap suc (place_length f n xs)

pub changed_length : (f : Server → Server) (n : ℕ) (xs : List Server) → length (changed_at f n xs) ≡ length xs
changed_length f n xs = place_length f (place_of n) xs

place_get : (f : Server → Server) (n : ℕ) (xs : List Server) (s : Server) → slice_get xs n ≡ Some s → slice_get (changed_place f n xs) n ≡ Some (f s)
place_get f n [] s g = cc
place_get f zero (x ∷ xs) s g = cc
place_get f (suc n) (x ∷ xs) s g = place_get f n xs s g

-- the changed one
pub changed_get : (f : Server → Server) (n : ℕ) (xs : List Server) (s : Server) → server_of xs n ≡ Some s → server_of (changed_at f n xs) n ≡ Some (f s)
changed_get f n xs s g = place_get f (place_of n) xs s g

-- a server of a place that was set
pub place_set : (f : Server → Server) (n : ℕ) (xs : List Server) (s : Server) → slice_get xs n ≡ Some s → slice_set xs n (f s) ≡ changed_place f n xs
place_set f n [] s g = cc
place_set f zero (x ∷ xs) s g = cc
place_set f (suc n) (x ∷ xs) s g = ap (λ ys. x ∷ ys) (place_set f n xs s g)
