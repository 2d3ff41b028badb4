-- The least TTL section by section is the least of all that is left.
use Rattle.std.proofs.Common.{◌≡◌, ℕ, min, Bool, true, false, cond, List, [], ◌∷◌, ◌++◌, Option, Some, None, refl, sym, ap, ◌∙◌}
use Rattle.std.specs.Prelude.{not, ◌&&◌, filter, fold}
use Rattle.std.specs.Option.{unwrap_or}
use Rattle.std.proofs.lemmas.List.Sums.{fold-append}
use Rattle.dns_core.specs.declared.record.Record.{Record}
use Rattle.resolver_settings.specs.Access.{denies}
use Rattle.resolution.specs.Records.{records}
use Rattle.resolution.specs.Verdict.{holds_denied, is_in_bailiwick}
use Rattle.resolution.specs.Life.{least_ttl}
use Rattle.resolution_reference.specs.Plain.{apex, passes, kept, lesser}
use Rattle.resolution_reference.specs.declared.kept.kept.Kept.{Kept}

filter-filter : {X : Type 0} (p q : X → Bool) (xs : List X) → filter q (filter p xs) ≡ filter (λ x. p x && q x) xs
filter-filter p q [] = refl
filter-filter {X} p q (x ∷ xs) = at_head (p x) (filter-filter p q xs)
  where
    at_head : (b : Bool) → filter q (filter p xs) ≡ filter (λ x. p x && q x) xs → filter q (cond b (x ∷ filter p xs) (filter p xs)) ≡ cond (b && q x) (x ∷ filter (λ x. p x && q x) xs) (filter (λ x. p x && q x) xs)
    at_head true e = ap (λ (ys : List X). cond (q x) (x ∷ ys) ys) e
    at_head false e = e

least_so_far : (n : ℕ) (rs : List Record) → fold lesser (Some n) rs ≡ Some (fold (λ n s. min n s.ttl) n rs)
least_so_far n [] = refl
least_so_far n (r ∷ rs) = least_so_far (min n r.ttl) rs

least_of_all : (rs : List Record) → unwrap_or (fold lesser None rs) 0 ≡ least_ttl rs
least_of_all [] = refl
least_of_all (r ∷ rs) = ap (λ (o : Option ℕ). unwrap_or o 0) (least_so_far r.ttl rs)

-- section by section, of what is left
pub least_left : (k : Kept) → unwrap_or (fold lesser (fold lesser (fold lesser None (filter (passes k) k.message.now.answers)) (filter (passes k) k.message.now.authorities)) (filter (passes k) k.message.now.additionals)) 0 ≡ least_ttl (records (kept k))
least_left k =
    let d : Record → Bool = λ r. not (holds_denied (denies k.denied.now) r) in
    let z : Record → Bool = is_in_bailiwick (apex k.zone.now) in
    let left : (rs : List Record) → filter z (filter d rs) ≡ filter (passes k) rs = λ rs. filter-filter d z rs in
    let a = k.message.now.answers in
    let u = k.message.now.authorities in
    let x = k.message.now.additionals in
    let least : Option ℕ → ℕ = λ o. unwrap_or o 0 in
    let all : records (kept k) ≡ (filter (passes k) a ++ filter (passes k) u) ++ filter (passes k) x =
    ap (λ (rs : List Record). (rs ++ filter z (filter d u)) ++ filter z (filter d x)) (left a)
    ∙ ap (λ (rs : List Record). (filter (passes k) a ++ rs) ++ filter z (filter d x)) (left u)
    ∙ ap (λ (rs : List Record). (filter (passes k) a ++ filter (passes k) u) ++ rs) (left x) in
    sym (
    ap least_ttl all
    ∙ sym (least_of_all ((filter (passes k) a ++ filter (passes k) u) ++ filter (passes k) x))
    ∙ ap least (fold-append lesser None (filter (passes k) a ++ filter (passes k) u) (filter (passes k) x))
    ∙ ap (λ (o : Option ℕ). least (fold lesser o (filter (passes k) x))) (fold-append lesser None (filter (passes k) a) (filter (passes k) u))
    )
