-- Turns whose moments do not fall, and the moment of the last.
use Rattle.std.proofs.Common.{◌≡◌, ℕ, suc, ◌-◌, ◌≤◌, List, [], ◌∷◌, ◌++◌, length, slice_get, Some, refl, ap, subst, arith}
use Rattle.std.proofs.lemmas.Option.{same_Some}
use Rattle.dns_core.specs.declared.request.Turn.{Turn}
use Rattle.recursor_text.specs.Spelling.{NoneFalls, last_moment}

pub timed_push : (low : ℕ) (ts : List Turn) (t : Turn) → NoneFalls low ts → last_moment low ts ≤ t.moment → NoneFalls low (ts ++ t ∷ [])
timed_push low [] t timed le = (le, tt)
timed_push low (u ∷ ts) t timed le = (timed.0, timed_push u.moment ts t timed.1 le)

pub moment_push : (low : ℕ) (ts : List Turn) (t : Turn) → last_moment low (ts ++ t ∷ []) ≡ t.moment
moment_push low [] t = refl
moment_push low (u ∷ ts) t = moment_push u.moment ts t

-- the last turn has the last moment
pub moment_is : (low : ℕ) (ts : List Turn) (t : Turn) → Some t ≡ slice_get ts (length ts - 1) → t.moment ≡ last_moment low ts
moment_is low [] t h = cc
moment_is low (u ∷ []) t h = ap (λ (v : Turn). v.moment) (same_Some _ _ h)
moment_is low (u ∷ v ∷ ts) t h =
    let next : length (u ∷ v ∷ ts) - 1 ≡ suc (length (v ∷ ts) - 1) = omega arith in
    moment_is u.moment (v ∷ ts) t (subst (λ (k : ℕ). Some t ≡ slice_get (u ∷ v ∷ ts) k) next h)
