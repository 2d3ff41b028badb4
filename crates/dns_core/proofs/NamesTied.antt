-- Equality, order and hash of names agree.
use Rattle.std.proofs.Common.{◌≡◌, Bool, refl}
use Rattle.std.specs.Prelude.{◌↔◌, IsTrue}
use Rattle.std.specs.Ordering.{is_eq}
use Rattle.std.specs.declared.cmp.Ordering.{Ordering}
use Rattle.std.specs.declared.cmp.Ordering.TheVariants.{Less, Equal, Greater}
use Rattle.dns_core.specs.Name.{DomainName, same_names, names_cmp}
use Rattle.dns_core.specs.NameLaws.{names_tie}

pub tied : (a b : DomainName) → IsTrue (same_names a b) ↔ (names_cmp a b ≡ Equal)
tied a b = each (same_names a b) (names_cmp a b) (names_tie a b)
  where
    each : (same : Bool) (o : Ordering) → same ≡ is_eq o → IsTrue same ↔ (o ≡ Equal)
    each same Equal h = (λ _. refl, λ _. h)
    each same Less h = (λ t. cc (h, t), λ e. cc e)
    each same Greater h = (λ t. cc (h, t), λ e. cc e)
