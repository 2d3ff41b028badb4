-- The order of types finds the same bounds as their equality.
use Rattle.std.proofs.Common.{◌≡◌, List}
use Rattle.std.specs.Option.{unwrap_or}
use Rattle.std.specs.Map.{lookup}
use Rattle.std.specs.BTreeMap.{is_at}
use Rattle.dns_core.specs.declared.codes.RecordType.{RecordType}
use Rattle.dns_core.specs.contracts.codes.RecordTypeOrd.TheImpl as type_order
use Rattle.dns_core.specs.contracts.codes.RecordTypeOrd.TheImpl.Laws as laws
use Rattle.resolver_settings.specs.declared.ttl.TtlBounds.{TtlBounds}
use Rattle.resolver_settings.specs.Ttl.{same_type}

pub same_by_order : (a b : RecordType) → same_type a b ≡ is_at (type_order.ghosts.cmp a) b
same_by_order a b = laws.matches_eq-law a b

pub bounds_by_order : (es : List (RecordType × TtlBounds)) (general : TtlBounds) (t : RecordType) → unwrap_or (lookup (same_type t) es) general ≡ unwrap_or (lookup (is_at (type_order.ghosts.cmp t)) es) general
bounds_by_order es general t = λ i. unwrap_or (lookup (λ k. same_by_order t k i) es) general
