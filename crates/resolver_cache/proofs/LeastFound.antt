-- The least TTL of a message is found section by section.
use Rattle.std.proofs.Common.{◌≡◌, ℕ, min, List, [], ◌∷◌, ◌++◌, Option, Some, None, refl, sym, ap, ◌∙◌}
use Rattle.std.specs.Prelude.{fold}
use Rattle.std.specs.Option.{unwrap_or}
use Rattle.std.proofs.lemmas.List.Sums.{fold-append}
use Rattle.dns_core.specs.declared.message.Message.{Message}
use Rattle.dns_core.specs.declared.record.Record.{Record}
use Rattle.resolver_cache.specs.Life.{lesser, least_ttl, records}

least_so_far : (n : ℕ) (rs : List Record) → fold lesser (Some n) rs ≡ Some (fold (λ n s. min n s.ttl) n rs)
least_so_far n [] = refl
least_so_far n (r ∷ rs) = least_so_far (min n r.ttl) rs

least_of_all : (rs : List Record) → unwrap_or (fold lesser None rs) 0 ≡ least_ttl rs
least_of_all [] = refl
least_of_all (r ∷ rs) = ap (λ (o : Option ℕ). unwrap_or o 0) (least_so_far r.ttl rs)

pub least_by_section : (m : Message) → unwrap_or (fold lesser (fold lesser (fold lesser None m.answers) m.authorities) m.additionals) 0 ≡ least_ttl (records m)
least_by_section m =
    let least : Option ℕ → ℕ = λ o. unwrap_or o 0 in
    sym (
    sym (least_of_all (records m))
    ∙ ap least (fold-append lesser None (m.answers ++ m.authorities) m.additionals)
    ∙ ap (λ (o : Option ℕ). least (fold lesser o m.additionals)) (fold-append lesser None m.answers m.authorities)
    )
