-- A server that is met comes behind those that were there.
use Rattle.walk_lookup.proofs.Names.{◌≡◌, ℕ, ◌+◌, ◌<◌, true, List, [], ◌∷◌, ◌++◌, length, take, Some, refl, sym, ap, subst, ◌∙◌, slice_index_or, option_map, AllZip, is_eq, IpAddr, take_more, Server, server_of, config_at, first_delay_at, server_at, IsServerOf}
use Rattle.std.proofs.Common.{slice_get}
use Rattle.std.specs.FinMap.{nat_cmp-IsAntisymmetric, slice_cmp-IsAntisymmetric}
use Rattle.std.specs.declared.cmp.Ordering.{Ordering}
use Rattle.std.specs.declared.cmp.Ordering.TheVariants.{Equal}
use Rattle.std.specs.declared.net.ip_addr.IpAddr.TheVariants.{V4, V6}
use Rattle.server_core.proofs.ServerPlaces.{place-next}
use Rattle.std.specs.contracts.net.ip_addr.IpAddrOrd.TheImpl as address

pub equal-address : (a b : IpAddr) → address.ghosts.cmp a b ≡ Equal → a ≡ b
equal-address (V4 a) (V4 b) h = ap (λ (o : List ℕ). V4 (record { octets = o })) (slice_cmp-IsAntisymmetric nat_cmp-IsAntisymmetric a.octets b.octets h)
equal-address (V6 a) (V6 b) h = ap (λ (o : List ℕ). V6 (record { segments = o })) (slice_cmp-IsAntisymmetric nat_cmp-IsAntisymmetric a.segments b.segments h)
equal-address _ _ h = cc

pub equal-at : (o : Ordering) → is_eq o ≡ true → o ≡ Equal
equal-at Equal h = refl
equal-at _ h = cc

place-last : (table : List Server) (server : Server) → slice_get (table ++ server ∷ []) (length table) ≡ Some server
place-last [] server = refl
place-last (s ∷ table) server = place-last table server

-- the last server has the number that is their count
number-last : (table : List Server) (server : Server) → server_of (table ++ server ∷ []) (length table + 1) ≡ Some server
number-last table server = ap (slice_get (table ++ server ∷ [])) (place-next (length table)) ∙ place-last table server

-- it is reached as it is
config-last : (table : List Server) (server : Server) → config_at (table ++ server ∷ []) (length table + 1) ≡ Some server.config
config-last table server = ap (option_map (λ (s : Server). s.config)) (number-last table server)

-- and begins with its own delay
delay-last : (table : List Server) (server : Server) → first_delay_at (table ++ server ∷ []) (length table + 1) ≡ Some server.first_delay
delay-last table server = ap (option_map (λ (s : Server). s.first_delay)) (number-last table server)

pub delayed-last : (old new : List Server) (server : Server) (n delay : ℕ) → new ≡ old ++ server ∷ [] → n ≡ length old + 1 → server.first_delay ≡ delay
    → first_delay_at new n ≡ Some delay
delayed-last old new server n delay table number first =
    ap (λ (t : List Server). first_delay_at t n) table ∙ ap (first_delay_at (old ++ server ∷ [])) number ∙ delay-last old server ∙ ap Some first

-- it is met where it is at the address
pub met-last : (old new : List Server) (server : Server) (ip : IpAddr) (n : ℕ) → new ≡ old ++ server ∷ [] → n ≡ length old + 1 → server.config ≡ server_at ip
    → config_at new n ≡ Some (server_at ip)
met-last old new server ip n table number config =
    ap (λ (t : List Server). config_at t n) table ∙ ap (config_at (old ++ server ∷ [])) number ∙ config-last old server ∙ ap Some config

zip-push : {X Y : Type 0} (R : X → Y → Type 0) (xs : List X) (ys : List Y) (x : X) (y : Y) → AllZip R xs ys → R x y → AllZip R (xs ++ x ∷ []) (ys ++ y ∷ [])
zip-push R [] [] x y h here = (here, tt)
zip-push R (z ∷ xs) (w ∷ ys) x y h here = (h.0, zip-push R xs ys x y h.1 here)
zip-push R _ _ x y h here = absurd h

-- one more of the first of some addresses is met
pub more-met : (table : List Server) (ips : List IpAddr) (i : ℕ) (d : IpAddr) (ks js : List ℕ) (k : ℕ) → i < length ips → js ≡ ks ++ k ∷ [] → AllZip (IsServerOf table) (take i ips) ks
    → IsServerOf table (slice_index_or ips i d) k → AllZip (IsServerOf table) (take (i + 1) ips) js
more-met table ips i d ks js k within is met here =
    subst (AllZip (IsServerOf table) (take (i + 1) ips)) (sym is)
    (subst (λ (xs : List IpAddr). AllZip (IsServerOf table) xs (ks ++ k ∷ [])) (sym (take_more ips i d within))
    (zip-push (IsServerOf table) (take i ips) ks (slice_index_or ips i d) k met here))
